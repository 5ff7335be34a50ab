-- `judge_one`: the block by itself, then by the table and the canvas.
use Rattle.block.proofs.Laws.{block_is}
use Rattle.accept.specs.Private.{block_test, place_test}
use mathlib.Core.Path.{sym, ap, ◌∙◌}
use Rattle.answer.specs.Tests.{at}
use Rattle.answer.proofs.Laws.{passes, refuses, handed_on}
use Rattle.accept.proofs.judge_one.Goals as goal

pub returns : goal.returns
unfolding block_test place_test
returns c = c.placed.ensures ∙ ap (place_test _ _ _) (block_is _ _ c.requires) ∙ sym (passes _ _ _ _ (ap (at _) (sym c.judge.ensures) ∙ sym c.in_ok-at.ensures))

pub returns-in_err-at : goal.returns-in_err-at
unfolding block_test
returns-in_err-at c = handed_on _ _ c.from_residual.ensures ∙ sym (refuses _ _ _ _ (ap (at _) (sym c.judge.ensures) ∙ sym c.in_err-at.ensures))
