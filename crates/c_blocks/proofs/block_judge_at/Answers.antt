-- The verdict of `judge_at`, as a number.
use Rattle.answer.specs.Answer.{packed}
use Rattle.answer.specs.Tests.{at}
use mathlib.Core.Path.{ap, ◌∙◌}
use Rattle.c_blocks.proofs.block_judge_at.Goals as goal

pub returns : goal.returns
returns c = c.pack.ensures ∙ ap packed (c.at.ensures ∙ ap (at 0) c.judge_at.ensures)
