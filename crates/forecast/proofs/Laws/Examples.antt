-- Worked examples: play's panel beside a private call, the empty rundown, a table that is too long. All by computation, from the blocks' bytes on.
use Rattle.answer.specs.Answer.{Answer, refused}
use Rattle.std.proofs.Common.{Ok, Err}
use Prim.Native.Nat.{ℕ, ◌*◌, ◌/◌}
use mathlib.Core.Path.{◌≡◌, refl}
use mathlib.Core.List.{List, [], ◌∷◌, ◌++◌}
use native.Mathlib.Omega.{arith}
use lib.IntN.{pos}
use lib.ListN.{length, replicate}
use lib.Ieee.{le, lt, eq, of_bits, add, mul, to_signed, neg, is_nan}
use Rattle.mathf.specs.Real as Real
use Rattle.mathf.specs.Round.{floor_of, ceil_of}
use Rattle.geom.specs.Geom.{outer_pixels, min_z, max_z, intersect, is_empty}
use Rattle.canvas.specs.Canvas.{is_canvas, box_on}
use Rattle.straight.specs.Straight.{far_side, copy_box}
use Rattle.backdrop.specs.Window.{largest, reach, margin, grown, window_of, area_of, window_area, scale_of, cells, picture_bytes, glass_box, need_of}
use Rattle.block.specs.Bytes.{placed, block_at, u16, u32, signed, f32, weighed}
use Rattle.block.specs.Fields.{rect, clip, entries, floats, color_at}
use Rattle.answer.specs.declared.Cause.TheVariants.{Sources}
use Rattle.order.specs.Order.{insert, sort, numbers, ascending}
use Rattle.sources.specs.Source.{words}
use Rattle.sources.specs.Table.{sizes, sides_in}
use Rattle.layer.specs.Layer.{kind_of, style_of, box_by, layer_of, need_by, needed}
use Rattle.answer.specs.Tests.{unless}
use Rattle.accept.specs.Tests.{canvas_test, table_test, sizes_answer}
use Rattle.accept.proofs.Laws.Sizes.{sized, sizes_too}
use Rattle.block.proofs.Laws.Written.{low, zeros as none, laid, block_of}
use Rattle.play.proofs.Laws.Examples.{exact_copy, panel, table, beside, answers}
use Rattle.forecast.specs.Forecast.{panel_cells, cells_of, cells_sum, scratch_of, boxes_up_to, boxes_of, forecast_after, forecast_of}
use Rattle.forecast.proofs.Laws.Boxes.{zeros, up_to_past}

-- the panel needs 42 bytes for its 14 cells, the call none
pub beside_needs : (scratch_of 8 2 beside 2 ≡ 42) × (cells_sum 8 2 beside 2 ≡ 14)
unfolding scratch_of cells_sum cells_of panel_cells needed need_by need_of is_canvas u16 u32 signed f32 placed block_at block_of laid none low weighed exact_copy panel kind_of style_of rect clip entries floats color_at glass_box box_on outer_pixels intersect min_z max_z is_empty window_of grown margin reach largest window_area area_of scale_of cells picture_bytes floor_of ceil_of le lt eq of_bits add mul to_signed neg Real.max is_nan beside
beside_needs = (refl, refl)

-- the panel's box comes first, for its block does, though the call is painted first
call_first : ascending beside 2 ≡ 1 ∷ 0 ∷ []
unfolding numbers ascending sort insert u16 placed block_at block_of laid none low weighed exact_copy panel beside
call_first = refl

beside_boxes : boxes_up_to 8 2 table beside 2 ≡ pos 4 ∷ pos 0 ∷ pos 7 ∷ pos 2 ∷ pos 0 ∷ pos 0 ∷ pos 2 ∷ pos 2 ∷ []
unfolding boxes_up_to layer_of box_by copy_box far_side sizes words u16 u32 signed f32 placed block_at block_of laid none low weighed exact_copy panel kind_of style_of rect clip entries floats color_at glass_box box_on outer_pixels intersect min_z max_z is_empty area_of floor_of ceil_of le lt eq of_bits add mul to_signed neg Real.max is_nan beside
beside_boxes = refl

two_blocks : length beside / 512 ≡ 2
unfolding block_of laid none low weighed exact_copy panel beside
two_blocks = refl

pub beside_forecast : forecast_of 8 2 table beside ≡ record {
  answer = Ok 2;
  scratch = 42;
  cells = 14;
  boxes = (pos 4 ∷ pos 0 ∷ pos 7 ∷ pos 2 ∷ pos 0 ∷ pos 0 ∷ pos 2 ∷ pos 2 ∷ []) ++ zeros 1016;
}
unfolding forecast_of forecast_after boxes_of
beside_forecast =
    rw (sizes_too 8 2 16 table beside 10 42 42 2 answers.0, beside_needs.0, beside_needs.1, up_to_past 8 2 table beside 2 254 (omega (arith, two_blocks)), beside_boxes) refl

-- the empty rundown needs nothing and paints nowhere
pub empty_forecast : (w h : ℕ) (table : List ℕ) → forecast_of w h table [] ≡ record { answer = sizes_answer w h (w * h) table []; scratch = 0; cells = 0; boxes = zeros 1024 }
unfolding forecast_of forecast_after boxes_of scratch_of cells_sum boxes_up_to
empty_forecast w h table = go (sizes_answer w h (w * h) table []) refl
  where
    go : (r : Answer) → sizes_answer w h (w * h) table [] ≡ r → forecast_after r w h table [] ≡ record { answer = r; scratch = 0; cells = 0; boxes = zeros 1024 }
    go (Err r) e = refl
    go (Ok n) e =
        let z : n ≡ 0 = (sized w h (w * h) table [] n e).is in
        rw (z, up_to_past w h table [] 0 256 (omega arith)) refl

-- a seventeenth source is one too many, whatever the rundown
pub seventeen_sources : (buf : List ℕ) → (forecast_of 8 2 (replicate 34 1) buf).answer ≡ refused Sources 0
unfolding forecast_of forecast_after sizes_answer canvas_test is_canvas table_test sides_in unless
seventeen_sources buf = refl
