-- `to_u12` meets its contract: 12 bits are `as u32` held to 4095, and x held between 0.0 and 4095.0 has that `as u32`, and the same `as i32`.
use Rattle.std.proofs.Common.{◌≡◌, ℕ, min, false, T, pos, nat_abs, sym, ap, ◌∙◌, subst, arith, w32, SFits, to_z, of_z}
use lib.Ieee.{Float, fin, binary32, of_bits, le, to_signed, to_unsigned, in_signed}
use mir.ValLaws.{to_z-of_z}
use Rattle.mathf.proofs.Laws.Bracket.{cast_same, back}
use Rattle.mathf.proofs.Laws.Cut.{narrower}
use Rattle.mathf.proofs.Laws.Index.{cut_at_most}
use Rattle.mathf.proofs.Range.{part, held, part_ge, part_same, held_ge, held_le, held_same, over, under, not_below, one_cast}
use Rattle.mathf.proofs.to_u12.Goals as goal
use Rattle.mathf.proofs.to_u12.Goals.{After-held_4095, After-row_known-1}

-- x held between 0.0 and 4095.0
is : (c : After-held_4095) → c.held_4095.result ≡ held (part c.args.x)
unfolding of_bits
is c = c.held_4095.ensures ∙ ap held c.positive_part.ensures

least : (c : After-held_4095) → T (le (fin false 0 (pos 0)) c.held_4095.result)
least c = subst (λ (y : Float). T (le (fin false 0 (pos 0)) y)) (sym (is c)) (held_ge (part c.args.x) (part_ge c.args.x))

most : (c : After-held_4095) → T (le c.held_4095.result (fin false 4095 (pos 0)))
most c = subst (λ (y : Float). T (le y (fin false 4095 (pos 0)))) (sym (is c)) (held_le (part c.args.x) (part_ge c.args.x))

pub whole_below-k-requires : goal.whole_below-k-requires
whole_below-k-requires c =
    record { above_low_end = over c.held_4095.result (least c); below_high_end = under c.held_4095.result (most c) }

pub float_to_int-k : goal.float_to_int-k
float_to_int-k c =
    let W = c.whole_below-k.ensures.whole in
    subst (λ (y : Float). T (in_signed binary32 31 y)) (sym W.is) (back W.z W.small).0

-- the cast's result, as the code reads it
read : (c : After-row_known-1) → to_z w32 (of_z w32 (to_signed 31 c.whole_below-k.result)) ≡ pos (to_unsigned 32 c.held_4095.result)
read c =
    let W = c.whole_below-k.ensures in
    let y = c.held_4095.result in
    let e = ap (to_signed 31) W.whole.is ∙ (back W.whole.z W.whole.small).1 ∙ cast_same y c.whole_below-k.result W (not_below y (least c.before.before)) ∙ one_cast y (least c.before.before) (most c.before.before) in
    let f : SFits w32 (pos (to_unsigned 32 y)) = record { sfits = omega (arith, cut_at_most 32 4095 0 y (most c.before.before)) } in
    rw e (to_z-of_z w32 (pos (to_unsigned 32 y)) f)

pub overflow_cast-result : goal.overflow_cast-result
overflow_cast-result c = rw (read c) (tt, record { fits = omega (arith, cut_at_most 32 4095 0 c.held_4095.result (most (goal.at.overflow_cast-result c).After-held_4095)) })

pub returns : goal.returns
returns c =
    let x = c.args.x in
    ap nat_abs (read c) ∙ ap (to_unsigned 32) (is (goal.at.returns c).After-held_4095) ∙ sym (held_same (part x) (part_ge x)) ∙ ap (λ (k : ℕ). min k 4095) (part_same x) ∙ sym (narrower x)
