-- `blend_two`: both products stay within their lanes.
use Prim.Native.Nat.{◌+◌, ◌*◌, ◌-◌}
use native.Mathlib.Omega.{arith}
use Rattle.color.specs.Color.{red, blue}
use Rattle.color.proofs.Lanes.{Word, word, Split, split}
use Rattle.frame.specs.Frame.{blend_ch}
use Rattle.frame.proofs.blend_two.Goals as goal
use Rattle.frame.proofs.blend_two.Goals.{Start}

facts : (c : Start) → let x = c.args in Word 255 (red x.src) (blue x.src) (red x.dst) (blue x.dst) x.a
facts c =
    let x = c.args in
    word 255 (red x.src) (blue x.src) (red x.dst) (blue x.dst) x.a (omega arith) (omega arith) (omega arith) (omega arith) (omega arith)

parts : (c : Start) → let x = c.args in let u = 255 - x.a in
    Split ((red x.src * 65536 + blue x.src) * x.a + (red x.dst * 65536 + blue x.dst) * u)
    (red x.src * x.a + red x.dst * u)
    (blue x.src * x.a + blue x.dst * u)
parts c = split _ _ _ (omega (arith, facts c)) (omega (arith, facts c)) (omega (arith, facts c))

pub returns : goal.returns
unfolding blend_ch
returns c = let s = parts c in rw (s.top, s.low)

pub overflow_mul-m : goal.overflow_mul-m
overflow_mul-m c = omega (arith, facts c)

pub overflow_mul-m-2 : goal.overflow_mul-m-2
overflow_mul-m-2 c = omega (arith, facts c)

pub overflow_add-m : goal.overflow_add-m
overflow_add-m c = omega (arith, facts c)

pub overflow_mul-result : goal.overflow_mul-result
overflow_mul-result c = omega (arith, facts c)

pub overflow_add-result : goal.overflow_add-result
overflow_add-result c = omega (arith, facts c)
