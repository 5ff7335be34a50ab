-- `row_blend`: at the two ends of alpha the row stays or is filled; between them each channel is blended by the row's weight and offsets.
use Prim.Native.Nat.{ℕ, ◌≤◌}
use mathlib.Core.Path.{◌≡◌, sym, ◌∙◌}
use lib.ListN.{get_or}
use native.Mathlib.Omega.{arith}
use Rattle.color.specs.Color.{blend_pix}
use Rattle.color.proofs.Laws.{blend_pix_none, blend_pix_full}
use Rattle.canvas.proofs.Laws.Rows.{map_row_same, map_row_id}
use Rattle.canvas.proofs.Over.{over_pix_lem}
use Rattle.canvas.proofs.row_blend.Goals as goal

pub returns-else-a-gt0 : goal.returns-else-a-gt0
returns-else-a-gt0 c =
    let a = c.args in
    let zero : a.a ≡ 0 = omega (arith, c.if-a-gt0.false) in
    map_row_id _ a.dst.now (λ i h. rw zero (blend_pix_none (get_or a.dst.now i 0) a.r a.g a.b))

pub returns-then-a-ge255 : goal.returns-then-a-ge255
returns-then-a-ge255 c =
    let a = c.args in
    let full : (p : ℕ) → blend_pix p a.r a.g a.b a.a ≡ _ = λ p. blend_pix_full p a.r a.g a.b a.a c.if-a-ge255.true in
    c.row_fill.ensures ∙ map_row_same _ _ a.dst.now (λ i h. c.blend.ensures ∙ full 0 ∙ sym (full (get_or a.dst.now i 0)))

pub returns-then-a-gt0 : goal.returns-then-a-gt0
returns-then-a-gt0 c =
    let a = c.args in
    let l : 1 ≤ a.a = omega arith in
    let h : a.a ≤ 254 = omega arith in
    c.row_over.ensures ∙ map_row_same _ _ a.dst.now (λ i _.
    rw (c.weight.ensures, c.offset.ensures.0, c.offset-then-a-gt0.ensures.0, c.offset-then-a-gt0-2.ensures.0)
    (over_pix_lem (get_or a.dst.now i 0) a.r a.g a.b a.a l h))
