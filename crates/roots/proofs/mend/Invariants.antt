-- `mend`: the roots passed so far are found.
use Rattle.std.proofs.Common.{◌≡◌, length}
use Rattle.roots.specs.Roots.{Roots}
use Rattle.roots.proofs.mend.Given as goal

abbrev pub invariant-loop-i : goal.invariant-loop-i
invariant-loop-i l = (length l.out ≡ 64) × Roots l.src l.out l.i
