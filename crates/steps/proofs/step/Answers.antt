-- `step`: the chosen layer, or nothing.
use Rattle.std.proofs.Common.{Ok}
use mathlib.Core.Path.{refl, sym, ap, ◌∙◌}
use native.Mathlib.Omega.{arith}
use lib.ListN.{length}
use Rattle.accept.specs.Tests.{answer}
use Rattle.accept.proofs.Laws.Tests.{passes_all}
use Rattle.answer.proofs.Laws.{handed_on}
use Rattle.play.specs.Play.{ScratchLeft}
use Rattle.steps.specs.Steps.{tests, chosen, call_answer, call_canvas}
use Rattle.steps.proofs.Choice.{Chose, chose, chose-below, chose-answer, chose-block, refuses}
use Rattle.steps.proofs.step.Goals as goal
use Rattle.steps.proofs.step.Goals.{In_ok-i}

-- what a number chosen tells
told : (c : In_ok-i) → let a = c.args in
    Chose (answer a.show.size.w a.show.size.h (length a.px.now) a.show.table.now (length a.pool.now) a.show.rundown.now (length a.a.now) (length a.b.now)) a.show.rundown.now a.last c.in_ok-i.i
told c = chose _ _ _ _ (sym (rw c.of.ensures at c.in_ok-i.ensures))

pub paint_block-requires : goal.paint_block-requires
paint_block-requires c =
    let a = c.args in
    let t = told (goal.at.paint_block-requires c).In_ok-i in
    let n = (passes_all a.show.size.w a.show.size.h (length a.px.now) a.show.table.now (length a.pool.now) a.show.rundown.now (length a.a.now) (length a.b.now) _ t.passes).is in
    record { accepted = t.passes ∙ ap Ok n; there = omega (arith, n, chose-below _ _ t) }

pub returns : goal.returns
unfolding ScratchLeft call_answer call_canvas chosen tests
returns c =
    let t = told (goal.at.returns c).In_ok-i in
    let d = c.paint_block.ensures in
    record { answer = ap Ok (c.from.ensures ∙ c.priority_at.ensures) ∙ sym (chose-answer _ _ t); canvas = rw (chose-block _ _ t) d.canvas; scratch = d.kept }

pub returns-in_err-i : goal.returns-in_err-i
unfolding ScratchLeft call_answer call_canvas chosen tests
returns-in_err-i c =
    let h = handed_on _ _ c.from_residual.ensures in
    let r = refuses _ _ _ _ (sym (rw c.of.ensures at c.in_err-i.ensures)) in
    record { answer = h ∙ sym r.0; canvas = rw r.1 refl; scratch = rw h (refl, refl) }
