-- A rundown played on a canvas: the canvas that play leaves, and the stain.
use Rattle.answer.specs.Answer.{Answer}
use Rattle.std.specs.Prelude.{ℕ, ◌≡◌, length, Ok, Err}
use mathlib.Core.List.{List, map, foldl}
use Rattle.block.specs.Bytes.{block_at}
use Rattle.order.specs.Order.{ascending}
use Rattle.taint.specs.Stain.{Stain, clean, stain}
use Rattle.layer.specs.Layer.{layer_of, painting}
use Rattle.accept.specs.declared.Show.{Show}
use Rattle.accept.specs.Tests.{answer}

-- ---- the canvas

-- the blocks with these numbers painted one over the other, the first lowest
unfoldable pub paint_each : (w h : ℕ) (table pool buf is cv : List ℕ) → List ℕ
paint_each w h table pool buf is cv = foldl (λ c i. painting w h table pool (block_at buf i) c) cv is

-- the canvas after an answer: as it was after a refusal
unfoldable pub canvas_after : Answer → (w h : ℕ) (table pool buf cv : List ℕ) → List ℕ
canvas_after (Ok n) w h table pool buf cv = paint_each w h table pool buf (ascending buf n) cv
canvas_after (Err r) w h table pool buf cv = cv

-- the canvas that play leaves
unfoldable pub final : (w h : ℕ) (table pool buf : List ℕ) (la lb : ℕ) (cv : List ℕ) → List ℕ
final w h table pool buf la lb cv = canvas_after (answer w h (length cv) table (length pool) buf la lb) w h table pool buf cv

-- the same of what a call is lent, by its parts
abbrev pub final_of : Show → (pool : List ℕ) (la lb : ℕ) (cv : List ℕ) → List ℕ
final_of s pool la lb cv = final s.size.w s.size.h s.table.now pool s.rundown.now la lb cv

-- a scratch slice: as it was after a refusal, otherwise of any bytes and as long
unfoldable pub ScratchLeft : Answer → List ℕ → List ℕ → Type 0
ScratchLeft (Ok n) before after = length after ≡ length before
ScratchLeft (Err r) before after = after ≡ before

-- ---- the stain of the hidden source s, on a canvas of n pixels

-- empty after a refusal
unfoldable pub stain_after : Answer → (w h n : ℕ) (table buf : List ℕ) (s : ℕ) → Stain
stain_after (Ok k) w h n table buf s = stain w n s (map (λ i. layer_of w h table (block_at buf i)) (ascending buf k)) clean
stain_after (Err r) w h n table buf s = clean

unfoldable pub stain_of : (w h n : ℕ) (table : List ℕ) (m : ℕ) (buf : List ℕ) (la lb s : ℕ) → Stain
stain_of w h n table m buf la lb s = stain_after (answer w h n table m buf la lb) w h n table buf s
