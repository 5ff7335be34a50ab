-- `to_u32` meets its contract: x or 0.0 has the same `as u32` as x, and is cut by the whole number just below it.
use Rattle.std.proofs.Common.{◌≡◌, T, sym, ap, ◌∙◌, subst}
use lib.Ieee.{Float, binary32, of_bits, le, to_unsigned, in_unsigned}
use Rattle.mathf.specs.Real as Real
use Rattle.mathf.proofs.Laws.Tests.{yes}
use Rattle.mathf.proofs.Laws.Bracket.{unsigned}
use Rattle.mathf.proofs.Range.{part_ge, part_same, over}
use Rattle.mathf.proofs.to_u32.Goals as goal
use Rattle.mathf.proofs.to_u32.Goals.{After-positive_part-y, After-row_known-1}

not_negative : (c : After-positive_part-y) → T (le Real.zero c.positive_part-y.result)
unfolding of_bits
not_negative c = subst (λ (y : Float). T (le Real.zero y)) (sym c.positive_part-y.ensures) (part_ge c.args.x)

both : (c : After-row_known-1) → T (in_unsigned binary32 32 c.whole_below.result) × (to_unsigned 32 c.whole_below.result ≡ to_unsigned 32 c.positive_part-y.result)
unfolding of_bits
both c = unsigned c.positive_part-y.result c.whole_below.result c.whole_below.ensures (not_negative c.before.before.before)

pub whole_below-requires : goal.whole_below-requires
unfolding of_bits
whole_below-requires c =
    record { above_low_end = over c.positive_part-y.result (not_negative (goal.at.whole_below-requires c).After-positive_part-y); below_high_end = yes c.if-y.true }

pub float_to_int-result : goal.float_to_int-result
float_to_int-result c = (both c).0

pub returns-then-y : goal.returns-then-y
unfolding of_bits
returns-then-y c =
    (both c).1 ∙ ap (to_unsigned 32) c.positive_part-y.ensures ∙ part_same c.args.x
