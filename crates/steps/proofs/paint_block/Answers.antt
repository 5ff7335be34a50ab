-- `paint_block`: the scratch is long enough, so the layer is painted.
use mathlib.Core.Path.{◌≡◌}
use mathlib.Core.Bool.{true}
use lib.ListN.{length}
use Rattle.block.specs.Bytes.{block_at}
use Rattle.block.proofs.Laws.{block_is}
use Rattle.layer.specs.Layer.{painting_in, has_room}
use Rattle.accept.proofs.Laws.Tests.{passes_all}
use Rattle.steps.proofs.paint_block.Goals as goal

pub returns : goal.returns
unfolding painting_in
returns c =
    let a = c.args in
    let s = a.show in
    let d = c.paint in
    let ok = passes_all s.size.w s.size.h (length a.px.now) s.table.now (length a.pool.now) s.rundown.now (length a.a.now) (length a.b.now) _ c.requires.accepted in
    let room : has_room s.size.w s.size.h (block_at s.rundown.now a.i) (length a.a.now) (length a.b.now) ≡ true = ok.room a.i c.requires.there in
    record { canvas = rw (block_is s.rundown.now a.i c.requires.there, room) at d.ensures.canvas; kept = (d.auto.first, d.auto.second) }
