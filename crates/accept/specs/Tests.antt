-- What play accepts: its tests in 01's order, and the answer that they give. Beside 01's table of causes.
use Rattle.answer.specs.Answer.{Answer, refused}
use Rattle.std.specs.Prelude.{ℕ, ◌/◌, ◌%◌, Bool, cond, ◌&&◌, List, [], ◌∷◌, leb, eqb, length, Result, Ok, Err}
use Rattle.canvas.specs.Canvas.{is_canvas}
use Rattle.answer.specs.declared.Cause.TheVariants.{Canvas, Sources, Rundown, Source, Frame, Scratch}
use Rattle.block.specs.Bytes.{block_at}
use Rattle.block.specs.Verdict.{verdict}
use Rattle.rundown.specs.Tests.{apart}
use Rattle.sources.specs.Table.{table_right, pool_right}
use Rattle.layer.specs.Layer.{source_there, frame_there, has_room}
use Rattle.answer.specs.Tests.{unless, each, at}
use Rattle.order.specs.Order.{gathered}
use Rattle.accept.specs.declared.Show.{Show}
use Rattle.accept.specs.declared.Layers.{Layers}
use Rattle.answer.specs.declared.Refusal.{Refusal}

-- ---- the tests: they see the rundown, the table, and of all else the lengths alone

-- 1: n pixels are a canvas of w by h
unfoldable pub canvas_test : ℕ → ℕ → ℕ → Answer
canvas_test w h n = cond (is_canvas w h n) (Ok 0) (refused Canvas 0)

-- 2, of the table
unfoldable pub table_test : List ℕ → Answer
table_test table = cond (table_right table) (Ok 0) (refused Sources 0)

-- 2, of the pool's m pixels
unfoldable pub pool_test : List ℕ → ℕ → Answer
pool_test table m = cond (pool_right table m) (Ok 0) (refused Sources 0)

-- whole blocks, at most 256
unfoldable pub rundown_right : List ℕ → Bool
rundown_right buf = eqb (length buf % 512) 0 && leb (length buf / 512) 256

-- 3
unfoldable pub rundown_test : List ℕ → Answer
rundown_test buf = cond (rundown_right buf) (Ok 0) (refused Rundown 0)

-- 9, of block n, which is b
unfoldable pub source_test : List ℕ → ℕ → List ℕ → Answer
source_test table n b = cond (source_there table b) (Ok n) (refused Source n)

-- 10
unfoldable pub frame_test : ℕ → ℕ → List ℕ → Answer
frame_test w n b = cond (frame_there w b) (Ok n) (refused Frame n)

-- of each block 4 to 7 and 15, then 9, then 10
unfoldable pub blocks_test : ℕ → List ℕ → ℕ → List ℕ → Answer
blocks_test w table count buf =
    each (λ n. unless (at n (verdict (block_at buf n)) ∷ source_test table n (block_at buf n) ∷ frame_test w n (block_at buf n) ∷ []) n) count

-- 11: both scratch slices, of la and lb bytes, are long enough for each block
unfoldable pub scratch_test : (w h la lb count : ℕ) (buf : List ℕ) → Answer
scratch_test w h la lb count buf = each (λ n. cond (has_room w h (block_at buf n) la lb) (Ok n) (refused Scratch n)) count

-- what play answers: the first refusal, 8 being `apart`, or the number of layers. The canvas has n pixels, the pool m.
unfoldable pub answer : (w h n : ℕ) (table : List ℕ) (m : ℕ) (buf : List ℕ) (la lb : ℕ) → Answer
answer w h n table m buf la lb =
    let count = length buf / 512 in
    unless
    (canvas_test w h n
    ∷ table_test table
    ∷ pool_test table m
    ∷ rundown_test buf
    ∷ blocks_test w table count buf
    ∷ apart count buf
    ∷ scratch_test w h la lb count buf
    ∷ [])
    count

-- the same of what a call is lent, by its parts
abbrev pub answer_to : Show → (n m la lb : ℕ) → Answer
answer_to s n m la lb = answer s.size.w s.size.h n s.table.now m s.rundown.now la lb

-- ---- the same with the layers' priorities

-- the priorities of all blocks of what is lent
abbrev pub gathered_of : Show → List ℕ
gathered_of s = gathered s.rundown.now (length s.rundown.now / 512)

-- the layers that an answer counts, with their priorities ps, or its refusal
unfoldable pub layers_of : Answer → List ℕ → Result Layers Refusal
layers_of (Ok n) ps = Ok (record { count = n; priorities = ps })
layers_of (Err r) ps = Err r

-- ---- the same without a pool and without scratch: what is asked of a rundown by the sizes alone

-- 1, 2, 3, then 4 to 10; a canvas has n pixels, or a map of it n bytes
unfoldable pub sizes_answer : ℕ → ℕ → ℕ → List ℕ → List ℕ → Answer
sizes_answer w h n table buf =
    let count = length buf / 512 in
    unless (canvas_test w h n ∷ table_test table ∷ rundown_test buf ∷ blocks_test w table count buf ∷ apart count buf ∷ []) count

-- the same of what a call is lent, by its parts
abbrev pub sizes_answer_to : Show → ℕ → Answer
sizes_answer_to s n = sizes_answer s.size.w s.size.h n s.table.now s.rundown.now
