-- `nearest_root` meets its contract: the two tests say that the estimate is it. Else q is never past the root, and is moved up until it is the nearest.
use Rattle.std.proofs.Common.{◌-◌, ◌^◌, arith}
use Rattle.mathf.proofs.Squares.{sq_mono, sq_fits, root_le, one_up}
use Rattle.mathf.proofs.nearest_root.Goals as goal

pub overflow_mul-q0 : goal.overflow_mul-q0
overflow_mul-q0 c = record { fits = sq_fits c.args.q0 c.requires.estimate_within_32_bits }

pub overflow_mul-q0-then-q0-n : goal.overflow_mul-q0-then-q0-n
overflow_mul-q0-then-q0-n c = record { fits = sq_fits c.args.q0 c.requires.estimate_within_32_bits }

pub overflow_add-q0 : goal.overflow_add-q0
overflow_add-q0 c = omega (arith, sq_mono c.args.q0 (2 ^ 32 - 1) (omega arith))

pub returns-then-n-q0 : goal.returns-then-n-q0
returns-then-n-q0 c = record { above = c.if-q0-n.true; below = c.if-n-q0.true }

pub loop-q-init : goal.loop-q-init
loop-q-init c = (c.not_past-q.ensures, root_le _ _ c.requires.within_48_bits c.not_past-q.ensures)

pub overflow_mul-q : goal.overflow_mul-q
overflow_mul-q c = omega (arith, sq_mono c.loop-q.q (2 ^ 24) c.loop-q.invariant.1)

pub overflow_add-q : goal.overflow_add-q
overflow_add-q c = omega (arith, sq_mono c.loop-q.q (2 ^ 24) c.loop-q.invariant.1)

pub loop-q-preserved : goal.loop-q-preserved
loop-q-preserved c =
    let up = one_up _ _ c.loop-q-test.true in
    (up, root_le _ _ c.requires.within_48_bits up)

pub returns : goal.returns
returns c = record { above = c.loop-q.invariant.0; below = c.loop-q-test.false }
