-- Worked examples: a private call, and a glass panel beside it whose window reaches the call. All by computation, from the blocks' bytes on.
use Rattle.answer.specs.Answer.{refused}
use Rattle.std.proofs.Common.{Ok}
use Prim.Native.Nat.{ℕ, zero, suc}
use mathlib.Core.Path.{◌≡◌, refl}
use mathlib.Core.Bool.{true, false, cond, ◌&&◌}
use mathlib.Core.List.{List, [], ◌∷◌, ◌++◌, map}
use lib.IntN.{pos}
use native.Mathlib.Omega.{arith}
use lib.ListN.{length, get_or}
use lib.Ieee.{le, lt, eq, of_bits, add, mul, to_signed, neg, is_nan}
use Rattle.mathf.specs.Real as Real
use Rattle.mathf.specs.Round.{floor_of, ceil_of}
use Rattle.geom.specs.declared.IRect.{IRect}
use Rattle.geom.specs.Geom.{outer_pixels, min_z, max_z, intersect, is_empty, spans, holds}
use Rattle.canvas.specs.Canvas.{is_canvas, box_on}
use Rattle.straight.specs.Straight.{far_side, copy_box}
use Rattle.backdrop.specs.Window.{largest, reach, margin, grown, window_of, area_of, window_area, scale_of, cells, picture_bytes, glass_box, need_of}
use Rattle.block.specs.Bytes.{placed, block_at, u16, u32, signed, f32, weighed, check_right, every}
use Rattle.block.specs.Fields.{rect, clip, entries, floats, color_at}
use Rattle.block.specs.Form.{well_formed, fields, flag_bits, among, used, unused_zero, known, flags_in}
use Rattle.block.specs.Ranges.{within, floats_in, rect_in, radius_in, glass_floats, glass_scalars, table_in, integers_in, between, clip_in, straight_integers, bend_suits}
use Rattle.block.specs.Verdict.{shape, verdict}
use Rattle.block.proofs.Laws.Written.{Field, field, low, zeros, laid, block_of}
use Rattle.answer.specs.declared.Cause.TheVariants.{Scratch}
use Rattle.rundown.specs.Tests.{apart, taken, some}
use Rattle.order.specs.Order.{insert, sort, numbers, ascending}
use Rattle.sources.specs.Source.{words}
use Rattle.sources.specs.Table.{sizes, total, sides_in, pool_right, OnlyAt}
use Rattle.taint.specs.Stain as Stain
use Rattle.taint.specs.Stain.{Layer, copy, glass, Stain, inside, meets, after, stain, clean}
use Rattle.layer.specs.Layer.{kind_of, style_of, box_by, is_exact, sort_by, layer_of, need_by, needed, has_room, source_there, frame_there}
use Rattle.accept.specs.Tests.{canvas_test, table_test, pool_test, rundown_right, rundown_test, source_test, frame_test, blocks_test, scratch_test, answer}
use Rattle.play.specs.Play.{final, stain_after, stain_of}
use Rattle.play.proofs.Laws.Whole.{demand_three}
use Rattle.answer.specs.Tests.{unless, each, at}

-- the bits of 2.0, 3.0 and 4.0
abbrev two : ℕ
two = 0x4000_0000

abbrev three : ℕ
three = 0x4040_0000

abbrev four : ℕ
four = 0x4080_0000

-- ---- two rundowns, for a canvas of 8 by 2

-- the clip: all of it
abbrev whole : List Field
whole = field 244 4 8 ∷ field 248 4 2 ∷ []

-- an exact copy with this priority of source t, to column x of row 0
unfoldable pub exact_copy : ℕ → ℕ → ℕ → List ℕ
exact_copy priority t x = block_of (field 0 1 5 ∷ field 2 2 priority ∷ field 4 4 t ∷ field 8 4 x ∷ field 76 4 255 ∷ whole)

-- a glass panel with this priority, 3 by 2 from column 4 of row 0 on; it has no blur, so its window is larger by 3 pixels
unfoldable pub panel : ℕ → List ℕ
panel priority = block_of (field 0 1 4 ∷ field 2 2 priority ∷ field 32 4 four ∷ field 40 4 three ∷ field 44 4 two ∷ whole)

-- source 0, the private call, is 2 by 2, source 1 is 3 by 2
abbrev pub table : List ℕ
table = 2 ∷ 2 ∷ 3 ∷ 2 ∷ []

-- the panel beside the call, which is painted first
unfoldable pub beside : List ℕ
beside = panel 9 ++ exact_copy 1 0 0

-- both, and over the panel an exact copy of source 1
unfoldable pub covered : List ℕ
covered = exact_copy 10 1 4 ++ (panel 9 ++ exact_copy 1 0 0)

abbrev box : ℕ → ℕ → ℕ → ℕ → IRect
box x0 y0 x1 y1 = record { x0 = pos x0; y0 = pos y0; x1 = pos x1; y1 = pos y1 }

-- ---- what play finds

-- both are accepted with 42 bytes of scratch, and with one less refused for the panel's sake
pub answers : (answer 8 2 16 table 10 beside 42 42 ≡ Ok 2) × (answer 8 2 16 table 10 beside 42 41 ≡ refused Scratch 0) × (answer 8 2 16 table 10 covered 42 42 ≡ Ok 3)
unfolding answer canvas_test is_canvas table_test pool_test pool_right sides_in total sizes words rundown_test rundown_right blocks_test source_test frame_test source_there frame_there scratch_test has_room needed need_by need_of unless each at apart taken some verdict check_right shape well_formed known flags_in flag_bits unused_zero used among fields every floats_in rect_in radius_in glass_floats glass_scalars table_in within integers_in clip_in straight_integers between bend_suits u16 u32 signed f32 placed block_at block_of laid zeros low weighed exact_copy panel kind_of style_of rect clip entries floats color_at glass_box box_on outer_pixels intersect min_z max_z is_empty window_of grown margin reach largest window_area area_of scale_of cells picture_bytes floor_of ceil_of le lt eq of_bits add mul to_signed neg Real.max is_nan beside covered
answers = (refl, refl, refl)

-- what the stain sees of the call, the panel and the cover
abbrev pub call_seen : Layer
call_seen = record { sort = copy 0 true; box = box 0 0 2 2 }

abbrev pub panel_seen : Layer
panel_seen = record { sort = glass (box 1 0 8 2); box = box 4 0 7 2 }

abbrev pub cover_seen : Layer
cover_seen = record { sort = copy 1 true; box = box 4 0 7 2 }

-- in ascending priority, which is not the order of the blocks, and not that of the priorities' text either
pub layers :
    (map (λ i. layer_of 8 2 table (block_at beside i)) (ascending beside 2) ≡ call_seen ∷ panel_seen ∷ [])
    × (map (λ i. layer_of 8 2 table (block_at covered i)) (ascending covered 3) ≡ call_seen ∷ panel_seen ∷ cover_seen ∷ [])
unfolding numbers ascending sort insert layer_of sort_by box_by is_exact copy_box far_side sizes words u16 u32 signed f32 placed block_at block_of laid zeros low weighed exact_copy panel kind_of style_of rect clip entries floats color_at glass_box box_on outer_pixels intersect min_z max_z is_empty window_of grown margin reach largest floor_of ceil_of le lt eq of_bits add mul to_signed neg Real.max is_nan beside covered
layers = (refl, refl)

-- ---- the stain of source 0

-- the pixels below n of a set
unfoldable pub below : ℕ → Stain → List ℕ
below zero σ = []
below (suc n) σ = below n σ ++ cond (σ n) (n ∷ []) []

-- the call's box and the panel's share no pixel
pub boxes_apart : below 16 (λ k. inside 8 call_seen.box k && inside 8 panel_seen.box k) ≡ []
unfolding below holds spans
boxes_apart = refl

seen : (stain_of 8 2 16 table 10 beside 42 42 0 ≡ stain 8 16 0 (call_seen ∷ panel_seen ∷ []) clean) × (stain_of 8 2 16 table 10 covered 42 42 0 ≡ stain 8 16 0 (call_seen ∷ panel_seen ∷ cover_seen ∷ []) clean)
unfolding stain_of stain_after
seen = (rw (answers.0, layers.0) refl, rw (answers.2, layers.1) refl)

-- yet every pixel of the panel is stained, for its window meets the call
pub beside_stain : below 16 (stain_of 8 2 16 table 10 beside 42 42 0) ≡ 0 ∷ 1 ∷ 4 ∷ 5 ∷ 6 ∷ 8 ∷ 9 ∷ 12 ∷ 13 ∷ 14 ∷ []
unfolding stain after meets Stain.nonempty clean below holds spans
beside_stain = rw seen.0 refl

-- and under the exact copy it is clean again
pub covered_stain : below 16 (stain_of 8 2 16 table 10 covered 42 42 0) ≡ 0 ∷ 1 ∷ 8 ∷ 9 ∷ []
unfolding stain after meets Stain.nonempty clean below holds spans
covered_stain = rw seen.1 refl

clean_there : stain_of 8 2 16 table 10 covered 42 42 0 4 ≡ false
unfolding stain after meets Stain.nonempty clean holds spans
clean_there = rw seen.1 refl

-- so its first pixel is the same whatever the call shows
pub covered_hides : (p q cv : List ℕ) → length p ≡ 10 → length cv ≡ 16 → OnlyAt table 0 p q → get_or (final 8 2 table p covered 42 42 cv) 4 0 ≡ get_or (final 8 2 table q covered 42 42 cv) 4 0
covered_hides p q cv lp lc o = (demand_three 8 2 table covered 42 42 cv 0 p q o).outside_stain 4 (rw lc (omega arith)) (rw (lc, lp) clean_there)
