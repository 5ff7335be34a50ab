-- `sqrt` meets its contract. `Read.antt` says what the pattern's parts are, and `Make.antt` what the result's pattern stands for.
use Rattle.std.proofs.Common.{ℕ, ◌^◌, ◌≤◌, not, T, sym, refl, subst, lt_of_lt_of_le, arith, lit≤}
use lib.Ieee.{Float, binary32, binary64, fits, of_bits, to_bits, is_nan}
use lib.Ieee.Fits.{and_i, fits_widens}
use lib.Ieee.Bits.{of_bits-fits}
use Rattle.mathf.proofs.Laws.Tests.{yes, no}
use Rattle.mathf.proofs.Squares.{above_no_nan, root_le, root_ge}
use Rattle.mathf.proofs.Make.{made_no_nan}
use Rattle.mathf.proofs.Read.{scale, radical}
use Rattle.mathf.proofs.Cases.{Above, above, result, infinite, negative, rest}
use Rattle.mathf.proofs.Laws.Sqrt.{the_root}
use Rattle.mathf.proofs.sqrt.Goals as goal
use Rattle.mathf.proofs.sqrt.Goals.{After-nearest_root-q, Start, Then-x-2, else-x-via-then-x+else-x-2, else-x-via-else-x}

held : (c : Start) → T (fits binary32 c.args.x)
held c = subst T (sym c.well_formed.0.1) tt

s : (c : Then-x-2) → Above c.args.x
unfolding of_bits
s c = above c.args.x (held c.before.before) (yes c.if-x.true) (yes c.if-x-2.true)

pub float_to_bits-b : goal.float_to_bits-b
float_to_bits-b c = above_no_nan _ c.args.x (yes c.if-x.true)

pub float_to_float-b : goal.float_to_float-b
float_to_float-b c =
    let x = c.args.x in
    and_i (fits binary64 x) (not (is_nan x)) (fits_widens x (held (goal.at.float_to_float-b c).Start)) (float_to_bits-b c)

pub overflow_mul-n : goal.overflow_mul-n
overflow_mul-n c = record { fits = lt_of_lt_of_le (s (goal.at.overflow_mul-n c).Then-x-2).3.most (lit≤ tt) }

pub overflow_sub-t : goal.overflow_sub-t
overflow_sub-t c = omega (arith, (s (goal.at.overflow_sub-t c).Then-x-2).3.field_ge)

pub overflow_add-c : goal.overflow_add-c
overflow_add-c c = omega (arith, (s (goal.at.overflow_add-c c).Then-x-2).3.field_le)

pub nearest_root-q-requires : goal.nearest_root-q-requires
nearest_root-q-requires c =
    record { at_least_47_bits = (s (goal.at.nearest_root-q-requires c).Then-x-2).3.least; within_48_bits = (s (goal.at.nearest_root-q-requires c).Then-x-2).3.most; estimate_within_32_bits = c.estimate.ensures }

-- where the root of n is found: it has 24 digits, or is 2 ^ 24
module _ (c : After-nearest_root-q) where
  abbrev x : Float
  x = c.args.x

  abbrev S : Above c.args.x
  S = s c.before.before.before

  abbrev q : ℕ
  q = c.nearest_root-q.result

  q_ge : 2 ^ 23 ≤ q
  q_ge = root_ge (radical (to_bits binary64 x)) q S.3.least c.nearest_root-q.ensures.below

  q_le : q ≤ 2 ^ 24
  q_le = root_le (radical (to_bits binary64 x)) q S.3.most c.nearest_root-q.ensures.above

pub overflow_add-result : goal.overflow_add-result
overflow_add-result c = omega (arith, (S c).3.field_le)

pub overflow_mul-result : goal.overflow_mul-result
overflow_mul-result c = omega (arith, (S c).3.field_le)

pub overflow_add-result-then-x-2 : goal.overflow_add-result-then-x-2
overflow_add-result-then-x-2 c = omega (arith, (S c).3.field_le, q_le c)

pub overflow_cast-result : goal.overflow_cast-result
overflow_cast-result c = omega (arith, (S c).3.field_le, q_le c)

pub float_from_bits-result : goal.float_from_bits-result
float_from_bits-result c = made_no_nan (scale (to_bits binary64 (x c))) (q c) (omega (arith, (S c).3.field_le)) (q_ge c) (q_le c)

pub returns-then-x-2 : goal.returns-then-x-2
returns-then-x-2 c = the_root (x c) _ (held (goal.at.returns-then-x-2 c).Start) (of_bits-fits binary32 _) (result (x c) _ (S c) (q c) refl c.nearest_root-q.ensures (q_ge c) (q_le c))

pub returns-then-x-3 : goal.returns-then-x-3
unfolding of_bits fits
returns-then-x-3 c =
    the_root c.args.x _ (held (goal.at.returns-then-x-3 c).Start) tt (negative c.args.x _ refl (yes c.if-x-3.true))

pub returns-else-x-3 : goal.returns-else-x-3
unfolding of_bits
returns-else-x-3 c =
    let h = held (goal.at.returns-else-x-3 c).Start in
    elim c.else-x.branch [
      | else-x-via-then-x+else-x-2 w ↦ the_root c.args.x c.args.x h h (infinite c.args.x (yes w.if-x.true) (no w.if-x-2.false))
      | else-x-via-else-x w ↦ the_root c.args.x c.args.x h h (rest c.args.x (no w.if-x.false) (no c.if-x-3.false))
    ]
