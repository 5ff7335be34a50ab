-- `judge`: the block is lent, and begins at its own front.
use Rattle.block.proofs.Laws.{block_long, block_none, placed_is, placed_none}
use Rattle.block.specs.Bytes.{placed, block_at}
use Rattle.block.specs.Verdict.{verdict}
use Prim.Native.Nat.{ℕ, ◌/◌}
use native.Mathlib.Decide.{dec_lt}
use native.Mathlib.Omega.{arith}
use lib.ListN.{length}
use lib.Seq.{take_all}
use mathlib.Core.List.{List}
use mathlib.Core.Path.{◌≡◌, ap, ◌∙◌}
use Rattle.judge.proofs.judge.Goals as goal

front : (buf : List ℕ) (n : ℕ) → placed (block_at buf n) 0 ≡ block_at buf n
front buf n = elim (dec_lt n (length buf / 512)) [
  | yes l ↦ let e = block_long buf n l in placed_is (block_at buf n) 0 (omega (arith, e)) ∙ take_all 512 (block_at buf n) (omega (arith, e))
  | no l ↦ rw (block_none buf n (omega arith)) (placed_none _ 0 (omega arith))
]

pub returns : goal.returns
returns c = c.judge_at.ensures ∙ ap verdict (ap (λ (b : List ℕ). placed b 0) c.at.ensures ∙ front c.args.buf.now c.args.n)
