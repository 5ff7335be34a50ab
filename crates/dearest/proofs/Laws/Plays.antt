-- The block shown as a rundown of its own: play accepts it where both slices have what it needs, and otherwise refuses it for scratch alone; the forecast says that much before.
use Rattle.answer.specs.Answer.{refused}
use Rattle.std.proofs.Common.{Ok}
use Prim.Native.Nat.{ℕ, ◌*◌, ◌/◌, ◌≤◌, ◌<◌}
use mathlib.Core.Path.{◌≡◌, refl, sym, ap, ◌∙◌}
use mathlib.Core.Bool.{Bool, true, false, cond, ◌&&◌}
use mathlib.Core.List.{List, [], ◌∷◌, ◌++◌}
use native.Mathlib.Omega.{arith}
use lib.Dec.{T, leb}
use lib.IntN.{ℤ, pos}
use lib.ListN.{length}
use lib.Seq.{take_all}
use lib.Ieee.{Float, binary32, fits, le}
use Rattle.mathf.specs.Real as Real
use Rattle.canvas.specs.Canvas.{is_canvas}
use Rattle.backdrop.specs.Window.{area_of}
use Rattle.block.specs.Bytes.{block_at}
use Rattle.block.specs.Fields as Fields
use Rattle.block.specs.Ranges.{within, f64}
use Rattle.block.specs.Verdict.{verdict}
use Rattle.block.proofs.Laws.{block_is}
use Rattle.answer.specs.declared.Cause.TheVariants.{Scratch}
use Rattle.answer.specs.Tests.{unless, each, at, first_of}
use Rattle.rundown.specs.Tests as Held
use Rattle.sources.specs.Table.{sizes, total, table_right, pool_right}
use Rattle.layer.specs.Layer.{kind_of, box_by, layer_of, needed, has_room, source_there, frame_there}
use Rattle.accept.specs.Tests.{answer, sizes_answer, canvas_test, table_test, rundown_right, rundown_test, source_test, frame_test, blocks_test, scratch_test}
use Rattle.accept.proofs.Laws.Sizes.{then_scratch}
use Rattle.forecast.specs.Forecast.{sides, cells_sum, scratch_of, boxes_up_to, boxes_of, forecast_after, forecast_of}
use Rattle.forecast.specs.declared.Forecast.{Forecast}
use Rattle.forecast.proofs.Laws.Tied.{answer_is, counted, tied}
use Rattle.forecast.proofs.Laws.Cells.{three_cells}
use Rattle.forecast.proofs.Laws.Boxes.{zeros, up_to_past}
use Rattle.dearest.specs.Dearest.{dearest_need, dearest_block}
use Rattle.dearest.proofs.Laws.Most.{most_of_all}
use Rattle.dearest.proofs.Laws.Shown.{some, box_shown, Shown, shown}

-- a block of 512 bytes is a rundown of one
module _ (b : List ℕ) (long : length b ≡ 512) where
  one_block : length b / 512 ≡ 1
  one_block = rw long refl

  first_block : block_at b 0 ≡ b
  first_block = sym (block_is b 0 (omega (arith, one_block))) ∙ take_all 512 b (omega (arith, long))

-- one glass layer that passes its tests
module _ (w h : ℕ) (table b : List ℕ) (long : length b ≡ 512) (glass : Fields.kind b ≡ 4) (passed : verdict b ≡ Ok tt) (right : is_canvas w h (w * h) ≡ true) (listed : table_right table ≡ true) where
  block_tests : blocks_test w table 1 b ≡ Ok 1
  unfolding blocks_test source_test frame_test source_there frame_there each unless at
  block_tests = rw (first_block b long, passed, glass) refl

  alone : Held.apart 1 b ≡ Ok 1
  unfolding Held.apart Held.taken Held.some each unless
  alone = refl

  whole : rundown_test b ≡ Ok 0
  unfolding rundown_test rundown_right
  whole = rw long refl

  sizes_pass : sizes_answer w h (w * h) table b ≡ Ok 1
  unfolding sizes_answer canvas_test table_test unless
  sizes_pass = rw (one_block b long, right, listed, whole, block_tests, alone) refl

  scratch_tested : (la lb : ℕ) → scratch_test w h la lb 1 b ≡ cond (leb (needed w h b) la && leb (needed w h b) lb) (Ok 1) (refused Scratch 0)
  unfolding scratch_test has_room each unless
  scratch_tested la lb = rw (first_block b long) (go (leb (needed w h b) la && leb (needed w h b) lb))
    where
      go : (t : Bool) → unless (Ok 0 ∷ cond t (Ok 0) (refused Scratch 0) ∷ []) 1 ≡ cond t (Ok 1) (refused Scratch 0)
      go true = refl
      go false = refl

  one_plays : (m la lb : ℕ) → pool_right table m ≡ true → answer w h (w * h) table m b la lb ≡ cond (leb (needed w h b) la && leb (needed w h b) lb) (Ok 1) (refused Scratch 0)
  unfolding first_of
  one_plays m la lb p = then_scratch w h (w * h) table b m la lb p ∙ rw (one_block b long, sizes_pass) (scratch_tested la lb)

-- ---- the block shown, on any canvas and with any sources that pass 2

module _ (w h : ℕ) (blur : Float) (right : is_canvas w h (w * h) ≡ true) (number : T (fits binary32 blur)) (in_range : within Real.zero f64 blur ≡ true) (table : List ℕ) (sides_right : table_right table ≡ true) where
  seen : Shown w h blur (dearest_need w h blur) (dearest_block blur)
  seen = shown w h blur right number in_range

  pub plays : (m la lb : ℕ) → pool_right table m ≡ true
      → answer w h (w * h) table m (dearest_block blur) la lb ≡ cond (leb (dearest_need w h blur) la && leb (dearest_need w h blur) lb) (Ok 1) (refused Scratch 0)
  plays m la lb p = rw seen.needs at (one_plays w h table (dearest_block blur) seen.long seen.glass seen.passed right sides_right m la lb p)

  -- ---- the forecast

  first : block_at (dearest_block blur) 0 ≡ dearest_block blur
  first = first_block (dearest_block blur) seen.long

  scratch_is : scratch_of w h (dearest_block blur) 1 ≡ dearest_need w h blur
  unfolding scratch_of
  scratch_is = rw (first, seen.needs) (omega arith)

  cells_are : cells_sum w h (dearest_block blur) 1 ≡ dearest_need w h blur / 3
  unfolding cells_sum
  cells_are = rw first (omega (arith, three_cells w h right (dearest_block blur), seen.needs))

  area_is : sides (area_of (layer_of w h table (dearest_block blur)).box) ≡ pos 0 ∷ pos 0 ∷ pos w ∷ pos h ∷ []
  unfolding layer_of box_by kind_of area_of
  area_is = rw (seen.glass, box_shown w h blur right, some w h right) refl

  first_box : boxes_up_to w h table (dearest_block blur) 1 ≡ pos 0 ∷ pos 0 ∷ pos w ∷ pos h ∷ []
  unfolding boxes_up_to
  first_box = rw first area_is

  boxes_are : boxes_of w h table (dearest_block blur) ≡ (pos 0 ∷ pos 0 ∷ pos w ∷ pos h ∷ []) ++ zeros 1020
  unfolding boxes_of
  boxes_are =
      up_to_past w h table (dearest_block blur) 1 255 (omega (arith, one_block (dearest_block blur) seen.long))
      ∙ ap (λ (l : List ℤ). l ++ zeros 1020) first_box

  -- the box is the whole canvas
  pub foretold : forecast_of w h table (dearest_block blur) ≡ record {
    answer = Ok 1;
    scratch = dearest_need w h blur;
    cells = dearest_need w h blur / 3;
    boxes = (pos 0 ∷ pos 0 ∷ pos w ∷ pos h ∷ []) ++ zeros 1020;
  }
  unfolding forecast_of forecast_after
  foretold =
      rw (sizes_pass w h table (dearest_block blur) seen.long seen.glass seen.passed right sides_right, scratch_is, cells_are, boxes_are) refl

-- ---- any rundown whose panels all have the blur, or a greater one

-- with the dearest panel's need in both slices, where it is refused for nothing else, play accepts it
pub enough : (w h : ℕ) (blur : Float) (table buf : List ℕ) (la lb c : ℕ) → sizes_answer w h (w * h) table buf ≡ Ok c
    → ((i : ℕ) → i < c → Fields.kind (block_at buf i) ≡ 4 → le blur (Fields.blur (block_at buf i)) ≡ true) → dearest_need w h blur ≤ la → dearest_need w h blur ≤ lb
    → answer w h (w * h) table (total (sizes table)) buf la lb ≡ Ok c
unfolding forecast_after
enough w h blur table buf la lb c e least p q =
    let a : (forecast_of w h table buf).answer ≡ Ok c = answer_is w h table buf ∙ e in
    let s : (forecast_of w h table buf).scratch ≡ scratch_of w h buf c = ap (λ (f : Forecast). f.scratch) (counted w h table buf c a) in
    let m : scratch_of w h buf c ≤ dearest_need w h blur = most_of_all w h blur buf c least in
    (tied w h table buf la lb).enough-lent c a (omega arith) (omega arith)
