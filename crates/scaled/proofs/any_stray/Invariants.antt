-- `any_stray`: as long as no place has strayed, all so far go by two pixels.
use Prim.Native.Nat.{◌+◌, ◌*◌}
use mathlib.Core.Path.{◌≡◌}
use mathlib.Core.Bool.{false}
use lib.ListN.{get_or}
use Rattle.scaled.specs.Private.{ByTwo}
use Rattle.scaled.proofs.any_stray.Given as goal

abbrev pub invariant-loop-t : goal.invariant-loop-t
invariant-loop-t l = (l.want ≡ get_or l.taps 0 0 + l.t-index * 512) × (l.stray ≡ false → ByTwo l.taps l.t-index)
