-- A playing in steps, beside 02's Seven: every call makes play's tests on what it is lent, and a step then paints one layer, the next higher one, from the
-- pool of its own call. Nothing is kept from call to call but the canvas.
use Rattle.std.specs.Option.{option_map_or, option_map}
use Rattle.answer.specs.Answer.{Answer, refused}
use Rattle.std.specs.Prelude.{ℕ, suc, ◌+◌, cond, List, [], ◌∷◌, ltb, length, Ok, Err, Option, None, Some}
use Rattle.answer.specs.declared.Cause.TheVariants.{Next}
use Rattle.block.specs.Bytes.{block_at}
use Rattle.order.specs.Order.{priority_at, next_of}
use Rattle.taint.specs.Stain.{Stain, after}
use Rattle.layer.specs.Layer.{layer_of, painting}
use Rattle.accept.specs.declared.Show.{Show}
use Rattle.accept.specs.Tests.{answer}

-- ---- a call

pub data Ask : Type 0 where
  -- the tests alone
  begin : Ask
  -- the layer above the last painted priority; above 65535 the number says that none is painted yet
  step : ℕ → Ask

-- all that a call is lent but the canvas, the pool and the scratch's bytes: of the two scratch slices the lengths
pub record Call : Type 0 where
  pub ask : Ask
  pub rundown : List ℕ
  pub width : ℕ
  pub height : ℕ
  pub table : List ℕ
  pub first : ℕ
  pub second : ℕ

-- a call by its parts
abbrev pub call : Ask → (buf : List ℕ) (w h : ℕ) (table : List ℕ) (la lb : ℕ) → Call
call ask buf w h table la lb = record { ask = ask; rundown = buf; width = w; height = h; table = table; first = la; second = lb }

-- the same by what it is lent
abbrev pub call_of : Ask → Show → (la lb : ℕ) → Call
call_of ask s la lb = call ask s.rundown.now s.size.w s.size.h s.table.now la lb

-- play's tests, on a canvas of n pixels and with a pool of m
unfoldable pub tests : Call → ℕ → ℕ → Answer
tests c n m = answer c.width c.height n c.table m c.rundown c.first c.second

-- ---- the next layer

-- the least priority that may come after the last painted one
unfoldable pub from : ℕ → ℕ
from last = cond (ltb 65535 last) 0 (last + 1)

-- the block that comes after it, if there is one
unfoldable pub next : List ℕ → ℕ → ℕ → Option ℕ
next buf count last = next_of buf count (from last)

-- the block that is painted, given what the tests answer: none at begin, and none after a refusal
unfoldable pub chosen_by : Ask → Answer → List ℕ → Option ℕ
chosen_by begin a buf = None
chosen_by (step last) (Ok count) buf = next buf count last
chosen_by (step last) (Err r) buf = None

-- the same of a call, on a canvas of n pixels and with a pool of m
unfoldable pub chosen : Call → ℕ → ℕ → Option ℕ
chosen c n m = chosen_by c.ask (tests c n m) c.rundown

-- ---- one call

-- 16, with 0 beside it, where there is none
unfoldable pub or_none : Option ℕ → Answer
or_none None = refused Next 0
or_none (Some v) = Ok v

-- given what the tests answer: a refusal of theirs comes first
unfoldable pub answer_by : Ask → Answer → List ℕ → Answer
answer_by begin a buf = a
answer_by (step last) (Ok count) buf = or_none (option_map (priority_at buf) (next buf count last))
answer_by (step last) (Err r) buf = Err r

-- what a call answers: begin the number of layers, a step the priority that it painted
unfoldable pub call_answer : Call → ℕ → ℕ → Answer
call_answer c n m = answer_by c.ask (tests c n m) c.rundown

-- the canvas after a call
unfoldable pub call_canvas : Call → (pool cv : List ℕ) → List ℕ
call_canvas c pool cv =
    option_map_or (λ i. painting c.width c.height c.table pool (block_at c.rundown i) cv) (chosen c (length cv) (length pool)) cv

-- the stain of the hidden source s after it: it goes by lengths, never by a pixel
unfoldable pub call_stain : (s : ℕ) → Call → (n m : ℕ) → Stain → Stain
call_stain s c n m σ =
    option_map_or (λ i. let l = layer_of c.width c.height c.table (block_at c.rundown i) in after c.width n s l.sort l.box σ) (chosen c n m) σ

-- ---- one call after the other, call i with the pool `pools i`

-- what they answer
unfoldable pub calls_answers : List Call → (pools : ℕ → List ℕ) → List ℕ → List Answer
calls_answers [] pools cv = []
calls_answers (c ∷ cs) pools cv =
    call_answer c (length cv) (length (pools 0)) ∷ calls_answers cs (λ i. pools (suc i)) (call_canvas c (pools 0) cv)

-- the canvas after all of them
unfoldable pub calls_canvas : List Call → (pools : ℕ → List ℕ) → List ℕ → List ℕ
calls_canvas [] pools cv = cv
calls_canvas (c ∷ cs) pools cv = calls_canvas cs (λ i. pools (suc i)) (call_canvas c (pools 0) cv)

-- the stain of the hidden source s after all of them, on a canvas of n pixels; the pool of call i has `m i`
unfoldable pub calls_stain : (s : ℕ) → List Call → (n : ℕ) (m : ℕ → ℕ) → Stain → Stain
calls_stain s [] n m σ = σ
calls_stain s (c ∷ cs) n m σ = calls_stain s cs n (λ i. m (suc i)) (call_stain s c n (m 0) σ)

-- ---- the painting definition with each layer's own pool

-- the blocks with these numbers painted one over the other, the first lowest, and the i-th from the pool `pools i`
unfoldable pub paint_own : (w h : ℕ) (table : List ℕ) (pools : ℕ → List ℕ) (buf is cv : List ℕ) → List ℕ
paint_own w h table pools buf [] cv = cv
paint_own w h table pools buf (i ∷ is) cv =
    paint_own w h table (λ i. pools (suc i)) buf is (painting w h table (pools 0) (block_at buf i) cv)
