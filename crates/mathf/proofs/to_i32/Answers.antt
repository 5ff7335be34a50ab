-- `to_i32` meets its contract: the whole number just below x, or one more where x is negative and not whole.
use Rattle.std.proofs.Common.{◌≡◌, ℕ, zero, suc, ◌^◌, ◌<◌, ◌≤◌, T, ℤ, pos, negsuc, ◌+ℤ◌, neg_ℤ, nat_abs, sym, ap, ◌∙◌, subst, arith, w32, SFits, to_z, of_z}
use lib.Signed.{mag}
use lib.Ieee.{Float, binary32, of_bits, neg, to_signed, in_signed}
use mir.ValLaws.{to_z-of_z}
use Rattle.mathf.proofs.Laws.Tests.{yes, no}
use Rattle.mathf.specs.Round.{Whole, WholeBelow}
use Rattle.mathf.proofs.Laws.Bracket.{cast_up, cast_exact, cast_same, back, next}
use Rattle.mathf.proofs.to_i32.Goals as goal
use Rattle.mathf.proofs.to_i32.Goals.{After-row_known-1, else-x-3-via-then-x-3+else-g-x, else-x-3-via-else-x-3}

pub whole_below-g-requires : goal.whole_below-g-requires
unfolding of_bits neg
whole_below-g-requires c =
    record { above_low_end = yes c.if-x.true; below_high_end = yes c.if-x-2.true }

-- it `as i32`
fits : (z : ℤ) → nat_abs z ≤ 12582913 → SFits w32 z
fits (pos a) h = record { sfits = omega arith }
fits (negsuc a) h = record { sfits = omega arith }

fits_more : (z : ℤ) → nat_abs z ≤ 12582913 → SFits w32 (z +ℤ pos 1)
fits_more (pos a) h = record { sfits = omega arith }
fits_more (negsuc a) h = record { sfits = subst (λ (y : ℤ). mag y < 2 ^ 31) (sym (next a)) (go a (omega arith)) }
  where
    go : (b : ℕ) → b < 2 ^ 31 → mag (neg_ℤ (pos b)) < 2 ^ 31
    go zero h = h
    go (suc b) h = omega arith

read : (g : Float) (W : Whole g) → to_z w32 (of_z w32 (to_signed 31 g)) ≡ W.z
read g W = ap (λ (y : ℤ). to_z w32 (of_z w32 y)) (ap (to_signed 31) W.is ∙ (back W.z W.small).1) ∙ to_z-of_z w32 W.z (fits W.z W.small)

pub float_to_int-k : goal.float_to_int-k
float_to_int-k c =
    let W = c.whole_below-g.ensures.whole in
    subst (λ (y : Float). T (in_signed binary32 31 y)) (sym W.is) (back W.z W.small).0

-- where the whole number just below x is known
module _ (c : After-row_known-1) where
  abbrev x : Float
  x = c.args.x

  abbrev g : Float
  g = c.whole_below-g.result

  abbrev W : WholeBelow c.args.x c.whole_below-g.result
  W = c.whole_below-g.ensures

pub overflow_add-result : goal.overflow_add-result
overflow_add-result c =
    subst (λ (y : ℤ). SFits w32 (y +ℤ pos 1)) (sym (read (g (goal.at.overflow_add-result c).After-row_known-1) (W (goal.at.overflow_add-result c).After-row_known-1).whole)) (fits_more (W (goal.at.overflow_add-result c).After-row_known-1).whole.z (W (goal.at.overflow_add-result c).After-row_known-1).whole.small)

pub returns-then-g-x : goal.returns-then-g-x
unfolding of_bits
returns-then-g-x c =
    ap (λ (y : ℤ). to_z w32 (of_z w32 (y +ℤ pos 1))) (read (g (goal.at.returns-then-g-x c).After-row_known-1) (W (goal.at.returns-then-g-x c).After-row_known-1).whole) ∙ to_z-of_z w32 ((W (goal.at.returns-then-g-x c).After-row_known-1).whole.z +ℤ pos 1) (fits_more (W (goal.at.returns-then-g-x c).After-row_known-1).whole.z (W (goal.at.returns-then-g-x c).After-row_known-1).whole.small)
    ∙ cast_up (x (goal.at.returns-then-g-x c).After-row_known-1) (g (goal.at.returns-then-g-x c).After-row_known-1) (W (goal.at.returns-then-g-x c).After-row_known-1) (yes c.if-x-3.true) (yes c.if-g-x.true)

pub returns-else-x-3 : goal.returns-else-x-3
unfolding of_bits
returns-else-x-3 c =
    let a = (goal.at.returns-else-x-3 c).After-row_known-1 in
    elim c.else-x-3.branch [
      | else-x-3-via-then-x-3+else-g-x w ↦ read (g a) (W a).whole ∙ cast_exact (x a) (g a) (W a) (yes w.if-x-3.true) (no w.if-g-x.false)
      | else-x-3-via-else-x-3 w ↦ read (g a) (W a).whole ∙ cast_same (x a) (g a) (W a) (no w.if-x-3.false)
    ]
