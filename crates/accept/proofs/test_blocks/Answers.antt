-- `test_blocks`: each block by itself, then their priorities.
use Rattle.accept.specs.Private.{blocks_tests}
use Rattle.rundown.specs.Tests.{apart}
use mathlib.Core.Path.{sym, ◌∙◌}
use Rattle.accept.proofs.Laws.Tests.{layers_by, lost, handed}
use Rattle.answer.proofs.Laws.{passes, refuses, each_alone}
use Rattle.accept.proofs.test_blocks.Goals as goal

pub returns : goal.returns
unfolding blocks_tests apart
returns c = c.test_apart.ensures ∙ layers_by _ _ _ (sym (passes _ _ _ _ (sym c.in_ok-judge_each.ensures) ∙ each_alone _ _))

pub returns-in_err-judge_each : goal.returns-in_err-judge_each
unfolding blocks_tests
returns-in_err-judge_each c = handed _ _ c.from_residual.ensures ∙ lost _ _ _ (refuses _ _ _ _ (sym c.in_err-judge_each.ensures))

pub judge_each-requires : goal.judge_each-requires
judge_each-requires c = c.requires.1

pub test_apart-requires : goal.test_apart-requires
test_apart-requires c = c.requires.0
