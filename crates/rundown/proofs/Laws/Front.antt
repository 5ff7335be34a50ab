-- The tests of what is held read the blocks and no byte behind them: buffers that begin alike are tested alike.
use Rattle.answer.specs.Answer.{refused}
use Rattle.std.proofs.Common.{Ok}
use mathlib.Core.Path.{◌≡◌, refl, sym, ap, ◌∙◌}
use mathlib.Core.Bool.{Bool, cond}
use mathlib.Core.List.{List}
use Prim.Native.Nat.{ℕ, ◌*◌, ◌≤◌, ◌<◌}
use native.Mathlib.Decide.{dec_le}
use native.Mathlib.Omega.{arith}
use borrow.Author.Tests.{le-leb, lt-leb}
use lib.Dec.{leb, eqb}
use lib.ListN.{length, take, length-take}
use Rattle.block.specs.Bytes.{block_at}
use Rattle.block.specs.Fields.{priority}
use Rattle.block.specs.Verdict.{verdict}
use Rattle.block.proofs.Laws.{placed_take}
use Rattle.answer.specs.Tests.{at}
use Rattle.answer.specs.declared.Cause.TheVariants.{Priority}
use Rattle.rundown.specs.Tests.{sized, held, taken, apart, tested}
use Rattle.rundown.proofs.Each.{some_alike, each_alike}

module _ (count : ℕ) (buf : List ℕ) where
  abbrev front : List ℕ
  front = take (512 * count) buf

  block_front : (i : ℕ) → i < count → block_at front i ≡ block_at buf i
  unfolding block_at
  block_front i h = placed_take buf (512 * i) (512 * count) (omega arith)

  fits_front : leb (512 * count) (length front) ≡ leb (512 * count) (length buf)
  fits_front = elim (dec_le (512 * count) (length buf)) [
    | yes l ↦ le-leb (512 * count) (length (take (512 * count) buf)) (omega (arith, length-take (512 * count) buf)) ∙ sym (le-leb (512 * count) (length buf) l)
    | no l ↦ lt-leb (512 * count) (length (take (512 * count) buf)) (omega (arith, length-take (512 * count) buf)) ∙ sym (lt-leb (512 * count) (length buf) (omega arith))
  ]

  taken_front : (p n : ℕ) → n ≤ count → taken p n front ≡ taken p n buf
  unfolding taken
  taken_front p n h = some_alike _ _ n (λ i l. ap (λ (b : List ℕ). eqb (priority b) p) (block_front i (omega arith)))

  held_front : held count front ≡ held count buf
  unfolding held
  held_front = each_alike _ _ count (λ i l. ap (λ (b : List ℕ). at i (verdict b)) (block_front i l))

  apart_front : apart count front ≡ apart count buf
  unfolding apart
  apart_front =
      each_alike _ _ count
      (λ i l. ap (λ (t : Bool). cond t (refused Priority i) (Ok i)) (ap (λ (b : List ℕ). taken (priority b) i front) (block_front i l) ∙ taken_front (priority (block_at buf i)) i (omega arith)))

  -- no byte behind the last block counts
  pub tested_front : tested count (take (512 * count) buf) ≡ tested count buf
  unfolding tested sized
  tested_front = rw (fits_front, held_front, apart_front) refl

-- buffers with the same first 512 × count bytes, of whatever lengths, have one answer
pub tested_alike : (count : ℕ) (a b : List ℕ) → take (512 * count) a ≡ take (512 * count) b → tested count a ≡ tested count b
tested_alike count a b e = sym (tested_front count a) ∙ ap (tested count) e ∙ tested_front count b
