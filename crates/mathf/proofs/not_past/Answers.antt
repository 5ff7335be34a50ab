-- `not_past` meets its contract, whatever estimate it starts from.
use Rattle.std.proofs.Common.{arith}
use Rattle.mathf.proofs.Squares.{sq_fits, some}
use Rattle.mathf.proofs.not_past.Goals as goal

pub overflow_mul-q : goal.overflow_mul-q
overflow_mul-q c = record { fits = sq_fits c.loop-q.q c.loop-q.invariant }

pub overflow_sub-q : goal.overflow_sub-q
overflow_sub-q c = some _ _ c.requires.positive c.loop-q-test.true

pub loop-q-smaller : goal.loop-q-smaller
loop-q-smaller c = omega (arith, overflow_sub-q c)

pub returns : goal.returns
returns c = c.loop-q-test.false
