-- `is_size`: a side above 4096 is no canvas's.
use Prim.Native.Nat.{◌*◌, ◌≤◌}
use mathlib.Core.Path.{sym}
use native.Mathlib.Nat.{mul-le-mul}
use native.Mathlib.Omega.{arith}
use Rattle.canvas.proofs.Laws.Area.{no_canvas}
use Rattle.boxes.proofs.is_size.Goals as goal
use Rattle.boxes.proofs.is_size.Goals.{then-size-gt4096-via-then-size-gt4096, then-size-gt4096-via-else-size-gt4096+then-size-gt4096-2}

pub returns-then-size-gt4096 : goal.returns-then-size-gt4096
returns-then-size-gt4096 c =
    elim c.then-size-gt4096.branch [
      | then-size-gt4096-via-then-size-gt4096 w ↦ sym (no_canvas _ _ _ (λ i. omega (arith, i.narrow, w.if-size-gt4096.true)))
      | then-size-gt4096-via-else-size-gt4096+then-size-gt4096-2 w ↦ sym (no_canvas _ _ _ (λ i. omega (arith, i.low, w.if-size-gt4096-2.true)))
    ]

pub overflow_mul-size : goal.overflow_mul-size
overflow_mul-size c =
    let s = c.args.size in
    let p : s.w * s.h ≤ 4096 * 4096 = mul-le-mul c.if-size-gt4096.false c.if-size-gt4096-2.false in
    omega arith
