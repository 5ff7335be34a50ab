-- `judge_new`: the runs are the unused bytes of the block's kind.
use Rattle.judge.proofs.Unused.{covered}
use mathlib.Core.Path.{◌∙◌}
use Rattle.judge.proofs.judge_new.Goals as goal

pub judge_shape-requires : goal.judge_shape-requires
judge_shape-requires c = c.all_zero.ensures ∙ covered _ _ _ _ c.gaps.ensures
