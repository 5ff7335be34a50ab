-- What is known of a rundown before it is played on a canvas of w by h: the scratch that it needs, its layers' boxes, and how much glass is worked on. It
-- follows from the rundown buf, the table of the sources' sides and the canvas's size alone. b is a layer's block.
use Rattle.answer.specs.Answer.{Answer}
use Rattle.std.specs.Prelude.{ℕ, zero, suc, ◌+◌, ◌*◌, max, cond, List, [], ◌∷◌, ◌++◌, eqb, ℤ, pos, replicate, Ok, Err}
use Rattle.geom.specs.Geom.{is_empty}
use Rattle.canvas.specs.declared.Area.{Area}
use Rattle.backdrop.specs.Window.{area_of, columns, rows, scale_of, cells, glass_box}
use Rattle.block.specs.Bytes.{block_at}
use Rattle.block.specs.Fields as Fields
use Rattle.layer.specs.Layer.{window, layer_of, needed}
use Rattle.accept.specs.Tests.{sizes_answer}
use Rattle.forecast.specs.declared.Forecast.{Forecast}

-- ---- cells

-- the cells of the window of a glass layer, each of k × k pixels: none where its box has no pixel
unfoldable pub panel_cells : ℕ → ℕ → List ℕ → ℕ
panel_cells w h b =
    let a = area_of (window w h b) in
    let k = scale_of (Fields.blur b) in
    cond (is_empty (glass_box w h (Fields.clip b) (Fields.rect b))) 0 (cells (columns a) k * cells (rows a) k)

-- only glass, kind 4, has any
unfoldable pub cells_of : ℕ → ℕ → List ℕ → ℕ
cells_of w h b = cond (eqb (Fields.kind b) 4) (panel_cells w h b) 0

-- those of the first n blocks together
unfoldable pub cells_sum : ℕ → ℕ → List ℕ → ℕ → ℕ
cells_sum w h buf zero = 0
cells_sum w h buf (suc n) = cells_sum w h buf n + cells_of w h (block_at buf n)

-- ---- scratch

-- the most bytes that one of the first n blocks needs in each slice
unfoldable pub scratch_of : ℕ → ℕ → List ℕ → ℕ → ℕ
scratch_of w h buf zero = 0
scratch_of w h buf (suc n) = max (scratch_of w h buf n) (needed w h (block_at buf n))

-- ---- boxes

-- a box as four numbers
abbrev pub sides : Area → List ℤ
sides a = pos a.x0 ∷ pos a.y0 ∷ pos a.x1 ∷ pos a.y1 ∷ []

-- the boxes of the first n blocks, one behind the other: zeros where a box has no pixel, or where there is no such block
unfoldable pub boxes_up_to : ℕ → ℕ → List ℕ → List ℕ → ℕ → List ℤ
boxes_up_to w h table buf zero = []
boxes_up_to w h table buf (suc n) = boxes_up_to w h table buf n ++ sides (area_of (layer_of w h table (block_at buf n)).box)

-- those of 256 blocks
unfoldable pub boxes_of : ℕ → ℕ → List ℕ → List ℕ → List ℤ
boxes_of w h table buf = boxes_up_to w h table buf 256

-- ---- the forecast

-- after an answer: all zero after a refusal
unfoldable pub forecast_after : Answer → ℕ → ℕ → List ℕ → List ℕ → Forecast
forecast_after (Ok n) w h table buf = record {
  answer = Ok n;
  scratch = scratch_of w h buf n;
  cells = cells_sum w h buf n;
  boxes = boxes_of w h table buf;
}
forecast_after (Err r) w h table buf = record { answer = Err r; scratch = 0; cells = 0; boxes = replicate 1024 (pos 0) }

-- play's tests without the lengths of canvas and pool and without scratch, then the rest
unfoldable pub forecast_of : ℕ → ℕ → List ℕ → List ℕ → Forecast
forecast_of w h table buf = forecast_after (sizes_answer w h (w * h) table buf) w h table buf

-- ---- lent memory

-- the new words, or the old ones after a refusal
unfoldable pub leaves : {A : Type 0} → Answer → (new old : A) → A
leaves (Ok n) new old = new
leaves (Err r) new old = old

unfoldable pub boxes_after : Forecast → List ℤ → List ℤ
boxes_after f old = leaves f.answer f.boxes old

-- the scratch, then the cells
unfoldable pub totals_after : Forecast → List ℕ → List ℕ
totals_after f old = leaves f.answer (f.scratch ∷ f.cells ∷ []) old
