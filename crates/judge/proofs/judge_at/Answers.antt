-- `judge_at`: the part of the buffer that is lent is the block.
use Rattle.std.proofs.Common.{Err}
use Rattle.block.proofs.Laws.{placed_lent, placed_long, placed_none}
use Rattle.block.proofs.Laws.Tests.{none_refused}
use Rattle.answer.specs.declared.Cause.TheVariants.{Form}
use Rattle.block.specs.Bytes.{placed}
use Rattle.block.specs.Verdict.{verdict}
use Prim.Native.Nat.{ℕ, ◌+◌, ◌≤◌, ◌<◌}
use lib.ListN.{length}
use mathlib.Core.List.{List}
use mathlib.Core.Path.{◌≡◌, sym, ap, ◌∙◌}
use native.Mathlib.Omega.{arith}
use Rattle.judge.proofs.judge_at.Goals as goal
use Rattle.judge.proofs.judge_at.Goals.{else-buf-ge512-via-then-buf-ge512+else-at-buf, else-buf-ge512-via-else-buf-ge512}

pub judge_block-requires : goal.judge_block-requires
judge_block-requires c =
    let a = c.args in
    let h : a.at + 512 ≤ length a.buf.now = omega arith in
    ap length (placed_lent a.buf.now a.at h) ∙ placed_long a.buf.now a.at h

pub returns-then-at-buf : goal.returns-then-at-buf
returns-then-at-buf c =
    let a = c.args in
    let h : a.at + 512 ≤ length a.buf.now = omega arith in
    c.judge_block.ensures ∙ ap verdict (placed_lent a.buf.now a.at h)

-- where the bytes do not lie in the buffer whole: they are too far on, or too few for any block
none : (buf : List ℕ) (from : ℕ) → length buf < from + 512 → Err Form ≡ verdict (placed buf from)
none buf from h = sym (ap verdict (placed_none buf from h) ∙ none_refused)

pub returns : goal.returns
returns c =
    let a = c.args in
    elim c.else-buf-ge512.branch [
      | else-buf-ge512-via-then-buf-ge512+else-at-buf w ↦ none a.buf.now a.at (omega arith)
      | else-buf-ge512-via-else-buf-ge512 w ↦ none a.buf.now a.at (omega arith)
    ]
