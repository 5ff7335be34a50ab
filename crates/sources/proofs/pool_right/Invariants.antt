-- `pool_right`: what is left of the pool's words when those of the sources passed are taken off.
use Prim.Native.Nat.{◌+◌}
use mathlib.Core.Path.{◌≡◌}
use Rattle.sources.specs.Table.{begin}
use Rattle.sources.proofs.pool_right.Given as goal

abbrev pub invariant-loop-i : goal.invariant-loop-i
invariant-loop-i l = l.left + begin l.table l.i ≡ l.m
