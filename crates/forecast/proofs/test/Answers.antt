-- `test`: the first test, by the sides alone; where it passes their product fits.
use Prim.Native.Nat.{◌*◌, ◌≤◌}
use mathlib.Core.Path.{sym, ◌∙◌}
use native.Mathlib.Nat.{mul-le-mul}
use native.Mathlib.Omega.{arith}
use Rattle.answer.specs.declared.Cause.TheVariants.{Canvas}
use Rattle.answer.proofs.Laws.{chosen, handed_on, refuses}
use Rattle.canvas.proofs.Laws.Area.{canvas_is}
use Rattle.accept.specs.Tests.{sizes_answer, canvas_test}
use Rattle.forecast.proofs.test.Goals as goal

pub returns-in_err-test_sides : goal.returns-in_err-test_sides
unfolding sizes_answer
returns-in_err-test_sides c = handed_on _ _ c.from_residual.ensures ∙ sym (refuses _ _ _ _ (sym c.in_err-test_sides.ensures))

pub overflow_mul-show : goal.overflow_mul-show
unfolding canvas_test
overflow_mul-show c =
    let s = c.args.show.size in
    let i = canvas_is _ _ _ (chosen _ Canvas 0 0 _ (sym c.in_ok-test_sides.ensures)) in
    let room : s.w * s.h ≤ 4096 * 4096 = mul-le-mul i.narrow i.low in
    record { fits = omega arith }
