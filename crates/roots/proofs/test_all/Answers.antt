-- `test_all`: where one more test is passed too, one more root is found.
use Rattle.roots.proofs.Laws.{set_more}
use Rattle.roots.proofs.Shape.{both}
use Rattle.std.proofs.Common.{length-set, ◌∙◌}
use Rattle.roots.proofs.test_all.Goals as goal

pub loop-i-preserved : goal.loop-i-preserved
loop-i-preserved c = (
  length-set _ _ _ ∙ c.loop-i.invariant.0,
  λ h. let b = both c.loop-i.all c.pass-all.result h in set_more c.loop-i.invariant.0 c.loop-i-test.true (c.loop-i.invariant.1 b.0) (c.root.ensures (c.pass-all.ensures b.1)),
)
