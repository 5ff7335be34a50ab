-- `blend_pixel`: red and blue in one word, green in another, and the top byte.
use native.Mathlib.Omega.{arith}
use Rattle.color.specs.Color.{red, green, blue}
use Rattle.color.proofs.Lanes.{lone, Assembled, assembled}
use Rattle.frame.specs.Frame.{blend_ch, blend_pixel}
use Rattle.frame.proofs.Parts.{blend_ch_bound, blend_ch_none}
use Rattle.frame.proofs.blend_pixel.Goals as goal
use Rattle.frame.proofs.blend_pixel.Goals.{After-blend_two-g}

parts : (c : After-blend_two-g) → let x = c.args in
    Assembled (blend_ch x.a (red x.src) (red x.dst)) (blend_ch x.a (green x.src) (green x.dst)) (blend_ch x.a (blue x.src) (blue x.dst))
    c.blend_two-rb.result c.blend_two-g.result
parts c =
    let x = c.args in
    let a = lone x.src in
    let b = lone x.dst in
    assembled _ _ _ _ _
    (blend_ch_bound x.a (red x.src) (red x.dst) (omega arith) (omega arith) (omega arith))
    (blend_ch_bound x.a (green x.src) (green x.dst) (omega arith) (omega arith) (omega arith))
    (blend_ch_bound x.a (blue x.src) (blue x.dst) (omega arith) (omega arith) (omega arith))
    c.blend_two-rb.ensures
    (rw (a.empty, b.empty, a.itself, b.itself, blend_ch_none x.a) at c.blend_two-g.ensures)

pub returns : goal.returns
unfolding blend_pixel
returns c = rw (parts c).whole

pub overflow_mul-result : goal.overflow_mul-result
overflow_mul-result c = omega (arith, parts c)

pub overflow_add-result : goal.overflow_add-result
overflow_add-result c = omega (arith, parts c)

pub overflow_add-result-2 : goal.overflow_add-result-2
overflow_add-result-2 c = omega (arith, parts c)
