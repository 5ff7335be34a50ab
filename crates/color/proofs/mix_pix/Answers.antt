-- `color::mix_pix` meets its contract: red and blue in one word, green in another.
use Rattle.std.proofs.Common.{◌≤◌, arith}
use Rattle.color.specs.Color.{red, green, blue, mix_ch, mix_pix}
use Rattle.color.proofs.Laws.{mix_ch_bound, mix_ch_none}
use Rattle.color.proofs.Lanes.{lone, Assembled, assembled}
use Rattle.color.proofs.mix_pix.Goals as goal
use Rattle.color.proofs.mix_pix.Goals.{After-mix_two-g}

parts : (c : After-mix_two-g) → let x = c.args in let t = c.min-t.result in
    Assembled (mix_ch t (red x.a) (red x.b)) (mix_ch t (green x.a) (green x.b)) (mix_ch t (blue x.a) (blue x.b))
    c.mix_two-rb.result c.mix_two-g.result
parts c =
    let x = c.args in
    let t = c.min-t.result in
    let h : t ≤ 256 = omega arith in
    let a = lone x.a in
    let b = lone x.b in
    assembled _ _ _ _ _
    (mix_ch_bound t (red x.a) (red x.b) h (omega arith) (omega arith))
    (mix_ch_bound t (green x.a) (green x.b) h (omega arith) (omega arith))
    (mix_ch_bound t (blue x.a) (blue x.b) h (omega arith) (omega arith))
    c.mix_two-rb.ensures
    (rw (a.empty, b.empty, a.itself, b.itself, mix_ch_none t) at c.mix_two-g.ensures)

pub overflow_mul-result : goal.overflow_mul-result
overflow_mul-result c = omega (arith, parts c)

pub overflow_add-result : goal.overflow_add-result
overflow_add-result c = omega (arith, parts c)

pub returns : goal.returns
unfolding mix_pix
returns c = rw (← c.min-t.ensures) (parts c).whole
