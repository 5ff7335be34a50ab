-- `play`: the canvas by the answer.
use mathlib.Core.Path.{refl, sym, ap, ◌∙◌}
use lib.ListN.{length}
use Rattle.answer.specs.Answer.{returned}
use Rattle.answer.proofs.Laws.{handed_on}
use Rattle.play.specs.Play.{ScratchLeft}
use Rattle.play.proofs.Walk.{final_count, all_blocks, final_refused}
use Rattle.play.proofs.play.Goals as goal

pub paint_all-requires : goal.paint_all-requires
paint_all-requires c =
    let a = c.args in
    all_blocks a.show.size.w a.show.size.h a.show.table.now a.pool.now a.show.rundown.now a.px.now (length a.a.now) (length a.b.now) _ (sym (rw c.of.ensures at c.in_ok-n.ensures))

pub returns : goal.returns
unfolding ScratchLeft
returns c =
    let a = c.args in
    let g = c.paint_all.ensures in
    let e = rw c.of.ensures at c.in_ok-n.ensures in
    let f = all_blocks a.show.size.w a.show.size.h a.show.table.now a.pool.now a.show.rundown.now a.px.now (length a.a.now) (length a.b.now) _ (sym e) in
    record { answer = e; canvas = g.canvas ∙ final_count a.show.size.w a.show.size.h a.show.table.now a.pool.now a.show.rundown.now a.px.now (length a.a.now) (length a.b.now) _ f; scratch = g.kept; number = ap returned e }

pub returns-in_err-n : goal.returns-in_err-n
unfolding ScratchLeft
returns-in_err-n c =
    let a = c.args in
    let h = handed_on _ _ c.from_residual.ensures in
    let e = h ∙ (rw c.of.ensures at c.in_err-n.ensures) in
    record { answer = e; canvas = final_refused a.show.size.w a.show.size.h a.show.table.now a.pool.now a.show.rundown.now a.px.now (length a.a.now) (length a.b.now) _ (sym (rw c.of.ensures at c.in_err-n.ensures)); scratch = rw h (refl, refl); number = ap returned e }
