-- `any`: 0 so far where the bytes passed are zero.
use Prim.Native.Nat.{◌+◌}
use Rattle.judge.specs.Private.{zeros}
use lib.Dec.{eqb}
use mathlib.Core.Path.{◌≡◌}
use Rattle.judge.proofs.form.any.Given as goal

abbrev pub invariant-loop-byte : goal.invariant-loop-byte
invariant-loop-byte l = eqb l.s 0 ≡ zeros l.b l.from (l.from + l.byte-index)
