-- `color::blend` meets its contract: the two tests of alpha, then red and blue in one word and green in another.
use Rattle.std.proofs.Common.{◌≤◌, arith, eq-eqb, ne_eqb, le-leb}
use borrow.Author.Tests.{lt-leb}
use Rattle.color.specs.Color.{red, green, blue, over_ch, blend_pix}
use Rattle.color.proofs.Laws.{over_ch_bound, over_ch_none}
use Rattle.color.proofs.Lanes.{lone, Assembled, assembled}
use Rattle.color.proofs.blend.Goals as goal
use Rattle.color.proofs.blend.Goals.{After-over_two-gr}

parts : (c : After-over_two-gr) → let x = c.args in
    Assembled (over_ch x.a x.r (red x.dst)) (over_ch x.a x.g (green x.dst)) (over_ch x.a x.b (blue x.dst))
    c.over_two-rb.result c.over_two-gr.result
parts c =
    let x = c.args in
    let h : x.a ≤ 255 = omega arith in
    let d = lone x.dst in
    assembled _ _ _ _ _
    (over_ch_bound x.a x.r (red x.dst) h (omega arith) (omega arith))
    (over_ch_bound x.a x.g (green x.dst) h (omega arith) (omega arith))
    (over_ch_bound x.a x.b (blue x.dst) h (omega arith) (omega arith))
    c.over_two-rb.ensures
    (rw (d.empty, d.itself, over_ch_none x.a) at c.over_two-gr.ensures)

pub returns-then-a-eq0 : goal.returns-then-a-eq0
unfolding blend_pix
returns-then-a-eq0 c = simp (eq-eqb _ _ c.if-a-eq0.true)

pub returns-then-a-ge255 : goal.returns-then-a-ge255
unfolding blend_pix
returns-then-a-ge255 c = simp (ne_eqb _ _ c.if-a-eq0.false, le-leb _ _ c.if-a-ge255.true) c.packed.ensures

pub overflow_mul-result : goal.overflow_mul-result
overflow_mul-result c = omega (arith, parts c)

pub overflow_add-result : goal.overflow_add-result
overflow_add-result c = omega (arith, parts c)

pub returns : goal.returns
unfolding blend_pix
returns c =
    simp (ne_eqb _ _ c.if-a-eq0.false, lt-leb _ _ c.if-a-ge255.false) (parts c).whole
