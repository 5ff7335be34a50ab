-- `color::over_two` meets its contract: each lane is its channel's weighted sum, whose quotient by 255 is taken.
use Rattle.std.proofs.Common.{◌≡◌, ◌+◌, ◌-◌, ◌*◌, ◌/◌, ◌%◌, arith}
use Rattle.color.specs.Color.{red, blue, over_ch}
use Rattle.color.proofs.Lanes.{Word, word, less_one, halves}
use Rattle.color.proofs.over_two.Goals as goal
use Rattle.color.proofs.over_two.Goals.{Start}

facts : (c : Start) → let x = c.args in let d = red x.dst * 65536 + blue x.dst in
    Word 255 x.r x.b (red x.dst) (blue x.dst) x.a × (d * (256 - x.a) ≡ d * (255 - x.a) + d)
facts c =
    let x = c.args in (
      word 255 x.r x.b (red x.dst) (blue x.dst) x.a (omega arith) (omega arith) (omega arith) (omega arith) c.requires,
      less_one (red x.dst * 65536 + blue x.dst) x.a c.requires,
    )

parts : (c : Start) → let x = c.args in
    let d = red x.dst * 65536 + blue x.dst in
    let t = (x.r * 65536 + x.b) * x.a + (d * (256 - x.a) - d) + 0x007f_007f in
    (t / 65536 ≡ x.r * x.a + red x.dst * (255 - x.a) + 127) × (t % 65536 ≡ x.b * x.a + blue x.dst * (255 - x.a) + 127)
parts c = halves _ _ _ (omega (arith, facts c)) (omega (arith, facts c))

pub quot_two-requires : goal.quot_two-requires
quot_two-requires c = let h = parts c in rw (h.0, h.1) (omega (arith, facts c))

pub returns : goal.returns
unfolding over_ch
returns c = let h = parts (goal.at.returns c).Start in rw (h.0, h.1) at c.quot_two.ensures

pub overflow_mul-c-2 : goal.overflow_mul-c-2
overflow_mul-c-2 c = omega (arith, facts c)

pub overflow_mul-d-2 : goal.overflow_mul-d-2
overflow_mul-d-2 c = omega (arith, facts c)

pub overflow_sub-d : goal.overflow_sub-d
overflow_sub-d c = omega (arith, facts c)

pub overflow_add-c-2 : goal.overflow_add-c-2
overflow_add-c-2 c = omega (arith, facts c)

pub overflow_add-c-3 : goal.overflow_add-c-3
overflow_add-c-3 c = omega (arith, facts c)
