-- `weighed_run`: the bytes passed add what the sum has grown by.
use Rattle.block.specs.Bytes.{weighed}
use native.Mathlib.Numerals.{add-one}
use native.Mathlib.Omega.{arith}
use Rattle.judge.proofs.check.weighed_run.Goals as goal

pub loop-i-preserved : goal.loop-i-preserved
unfolding weighed
loop-i-preserved c = let l = c.loop-i in let w = c.weight-sum.ensures in (rw (add-one l.i) (omega (arith, l.invariant.0, w.0)), omega (arith, l.invariant.1, w.1))
