-- `inside_to`: the columns between are past the first of the inside, and before its end.
use Prim.Native.Nat.{◌+◌}
use native.Mathlib.Omega.{arith}
use borrow.Author.Tests.{le-leb, lt-ltb}
use Rattle.glass.specs.General as General
use Rattle.glass.proofs.general.inside_to.Goals as goal

pub returns : goal.returns
unfolding General.within
returns c =
    let a = c.args in (
      record { is = λ i h g. simp (le-leb a.p.ix0 (a.x + i) (omega arith), lt-ltb (a.x + i) a.p.ix1 (omega arith)) },
      omega arith,
      omega arith,
    )
