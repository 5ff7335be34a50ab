-- `stain_layer`: the part of the buffer that is lent is the block, and the layer's box lies on the map.
use Rattle.block.proofs.Laws.{block_is}
use mathlib.Core.Path.{sym, ap, ◌∙◌}
use Rattle.canvas.specs.declared.Area.{Area}
use Rattle.canvas.specs.Canvas.{area_box}
use Rattle.canvas.proofs.Laws.Area.{canvas_is}
use Rattle.stain.specs.Private.{put}
use Rattle.stain.proofs.Layers.{box_cut, box_here, box_on_it, put_sides, marked_some, marked_none}
use Rattle.stain.proofs.stain_layer.Goals as goal

pub put-requires : goal.put-requires
put-requires c =
    let s = c.args.show in
    let i = canvas_is _ _ _ c.requires.1 in
    let o = box_on_it s.size.w s.size.h _ s.table.now _ c.requires.1 in
    record { size = (i.size, i.narrow, i.low); inside = rw c.box_of.ensures (o.across, o.in_width, o.down, o.in_height) }

pub returns-in-Some : goal.returns-in-Some
returns-in-Some c =
    let a = c.args in
    let s = a.show in
    let block = block_is s.rundown.now a.n c.requires.0 in
    let v = c.in-Some.v in
    rw (← block)
    (c.put.ensures
    ∙ ap (λ (x : Area). put s.size.w (area_box x) v a.map.now) (c.box_of.ensures ∙ box_here s.size.w s.size.h _ s.table.now _ c.requires.1)
    ∙ put_sides (box_cut s.size.w s.size.h _ s.table.now _ c.requires.1) v a.map.now
    ∙ marked_some s.size.w s.size.h a.s v s.table.now _ a.map.now (sym c.in-Some.ensures))

pub returns-in_default : goal.returns-in_default
returns-in_default c =
    let a = c.args in
    let s = a.show in
    rw (← block_is s.rundown.now a.n c.requires.0) (marked_none s.size.w s.size.h a.s s.table.now _ a.map.now (sym c.in_default.ensures))
