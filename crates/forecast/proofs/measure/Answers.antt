-- `measure`: the box by four numbers is the layer's; only a panel has cells.
use Prim.Native.Nat.{◌≤◌}
use mathlib.Core.Path.{◌≡◌, refl, sym, ap, ◌∙◌}
use native.Mathlib.Omega.{arith}
use Rattle.std.specs.Prelude.{Some}
use Rattle.std.proofs.Common.{rules}
use Rattle.canvas.proofs.Laws.Area.{canvas_is}
use Rattle.backdrop.specs.Window.{area_of}
use Rattle.backdrop.proofs.Laws.Window.{OnIt, area_on_it}
use Rattle.block.specs.declared.Kind.TheVariants.{Glass}
use Rattle.block.proofs.Laws.{block_is}
use Rattle.block.proofs.Laws.Kinds.{kind_number}
use Rattle.block.specs.Bytes.{block_at}
use Rattle.block.specs.Fields as Fields
use Rattle.layer.specs.Layer.{kind_of, box_by, layer_of}
use Rattle.boxes.proofs.Laws.{layer_cut, box_is}
use Rattle.forecast.specs.Forecast.{sides, cells_of}
use Rattle.forecast.proofs.measure.Goals as goal
use Rattle.forecast.proofs.measure.Goals.{After-box_of-a, In-Some-Glass}

-- the box that is written
here : (c : After-box_of-a) → let s = c.args.show in c.box_of-a.result ≡ area_of (layer_of s.size.w s.size.h s.table.now (block_at s.rundown.now c.args.n)).box
unfolding layer_of
here c = rw (block_is _ _ c.requires.2) at c.box_of-a.ensures ∙ box_is _ _ _ _ c.requires.0

on : (c : After-box_of-a) → let s = c.args.show in OnIt s.size.w s.size.h c.box_of-a.result
unfolding layer_of
on c = rw (here c) (area_on_it (layer_cut _ _ _ _ _))

pub put_sides-requires : goal.put_sides-requires
put_sides-requires c =
    let o = on (goal.at.put_sides-requires c).After-box_of-a in
    let i = canvas_is _ _ _ c.requires.0 in
    let x : c.box_of-a.result.x1 ≤ 4096 = omega (arith, o.in_width, i.narrow) in
    let y : c.box_of-a.result.y1 ≤ 4096 = omega (arith, o.in_height, i.low) in
    (c.requires.1, omega (arith, o.across), omega (arith, o.down), x, y)

glass : (c : In-Some-Glass) → Fields.kind (block_at c.args.show.rundown.now c.args.n) ≡ 4
glass c = kind_number _ Glass (sym (rw (block_is _ _ c.requires.2) at c.kind_of.ensures) ∙ c.in-Some-Glass.is ∙ ap Some c.in-Some-Glass.field-0-is)

pub panel_cells-requires : goal.panel_cells-requires
unfolding layer_of box_by kind_of
panel_cells-requires c =
    (c.requires.0, rw (block_is _ _ c.requires.2) (here (goal.at.panel_cells-requires c).After-box_of-a ∙ rw (glass (goal.at.panel_cells-requires c).In-Some-Glass) refl))

pub returns-in-Some-Glass-clause-cells : goal.returns-in-Some-Glass-clause-cells
unfolding cells_of
returns-in-Some-Glass-clause-cells c = rw (block_is _ _ c.requires.2) at c.panel_cells.ensures ∙ rw (glass (goal.at.returns-in-Some-Glass-clause-cells c).In-Some-Glass) refl

pub returns-in-Some-Glass-clause-place : goal.returns-in-Some-Glass-clause-place
returns-in-Some-Glass-clause-place c = c.put_sides.ensures ∙ ap sides (here (goal.at.returns-in-Some-Glass-clause-place c).After-box_of-a)

pub returns-in_default-clause-place : goal.returns-in_default-clause-place
returns-in_default-clause-place c = c.put_sides.ensures ∙ ap sides (here (goal.at.returns-in_default-clause-place c).After-box_of-a)

pub returns-in_default-2-clause-place : goal.returns-in_default-2-clause-place
returns-in_default-2-clause-place c = c.put_sides.ensures ∙ ap sides (here (goal.at.returns-in_default-2-clause-place c).After-box_of-a)

pub returns-in_default-clause-cells : goal.returns-in_default-clause-cells
unfolding cells_of kind_of
returns-in_default-clause-cells c = rw (← block_is _ _ c.requires.2) (search rules)

pub returns-in_default-2-clause-cells : goal.returns-in_default-2-clause-cells
unfolding cells_of kind_of
returns-in_default-2-clause-cells c = rw (← block_is _ _ c.requires.2) (search rules)
