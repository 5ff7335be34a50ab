-- `test_all`: where every test so far is passed, the roots so far are found.
use Rattle.std.proofs.Common.{◌≡◌, length, IsTrue}
use Rattle.roots.specs.Roots.{Roots}
use Rattle.roots.proofs.test_all.Given as goal

abbrev pub invariant-loop-i : goal.invariant-loop-i
invariant-loop-i l = (length l.out ≡ 64) × (IsTrue l.all → Roots l.src l.out l.i)
