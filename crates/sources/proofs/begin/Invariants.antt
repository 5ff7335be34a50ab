-- `begin`: the sources passed so far, cut at the end of the pool.
use Prim.Native.Nat.{min}
use mathlib.Core.Path.{◌≡◌}
use Rattle.sources.specs.Table.{begin}
use Rattle.sources.proofs.begin.Given as goal

abbrev pub invariant-loop-i : goal.invariant-loop-i
invariant-loop-i l = l.from ≡ min (begin l.table l.i) l.n
