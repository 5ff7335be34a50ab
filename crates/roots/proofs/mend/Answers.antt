-- `mend`: one more root is found.
use Rattle.roots.proofs.Laws.{set_more}
use Rattle.std.proofs.Common.{length-set, ◌∙◌}
use Rattle.roots.proofs.mend.Goals as goal

pub loop-i-preserved : goal.loop-i-preserved
loop-i-preserved c = (length-set _ _ _ ∙ c.loop-i.invariant.0, set_more c.loop-i.invariant.0 c.loop-i-test.true c.loop-i.invariant.1 c.one.ensures)
