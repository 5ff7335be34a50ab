-- `mark_of`: by the kind; a panel's window lies on the map.
use mathlib.Core.Path.{◌≡◌, refl, sym, ap, ◌∙◌}
use Rattle.std.proofs.Common.{Some}
use lib.ListN.{length}
use Rattle.canvas.specs.declared.Area.{Area}
use Rattle.canvas.specs.Canvas.{area_box}
use Rattle.canvas.proofs.Laws.Area.{canvas_is}
use Rattle.backdrop.proofs.Laws.Window.{window_cut, area_on_it}
use Rattle.block.specs.declared.Kind.TheVariants.{Glass}
use Rattle.block.specs.Fields as Fields
use Rattle.taint.specs.Stain.{meets}
use Rattle.layer.specs.Layer.{style_of, window, sort_by}
use Rattle.stain.specs.Private.{shown, mark}
use Rattle.stain.proofs.Layers.{meets_sides}
use Rattle.stain.proofs.mark_of.Goals as goal
use Rattle.stain.proofs.mark_of.Goals.{After-meets, In-Some-Glass}

pub meets-requires : goal.meets-requires
meets-requires c =
    let a = c.args in
    let i = canvas_is _ _ _ c.requires in
    let o = area_on_it (window_cut a.size.w a.size.h (Fields.rect a.b.now) (style_of a.b.now) (Fields.entries a.b.now)) in
    record { size = (i.size, i.narrow, i.low); inside = rw c.window_of.ensures (o.across, o.in_width, o.down, o.in_height) }

-- what the code finds is that the window meets the stain
found : (c : After-meets) → let a = c.args in
    c.meets.result ≡ meets a.size.w (length a.map.now) (window a.size.w a.size.h a.b.now) (shown a.map.now)
found c =
    let a = c.args in
    c.meets.ensures
    ∙ ap (λ (x : Area). meets a.size.w (length a.map.now) (area_box x) (shown a.map.now)) c.window_of.ensures
    ∙ meets_sides (window_cut a.size.w a.size.h (Fields.rect a.b.now) (style_of a.b.now) (Fields.entries a.b.now)) (length a.map.now) (shown a.map.now)

glass : (c : In-Some-Glass) → Fields.kind_of (Fields.kind c.args.b.now) ≡ Some Glass
glass c = sym c.kind_of.ensures ∙ c.in-Some-Glass.is ∙ ap Some c.in-Some-Glass.field-0-is

pub returns-then-meets : goal.returns-then-meets
unfolding mark sort_by
returns-then-meets c =
    let g = goal.at.returns-then-meets c in
    rw (glass g.In-Some-Glass, sym (found g.After-meets) ∙ c.if-meets.true) refl

pub returns-else-meets : goal.returns-else-meets
unfolding mark sort_by
returns-else-meets c =
    let g = goal.at.returns-else-meets c in
    rw (glass g.In-Some-Glass, sym (found g.After-meets) ∙ c.if-meets.false) refl
