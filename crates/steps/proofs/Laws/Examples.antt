-- A worked example, by computation from the blocks' bytes on: 01's two exact copies, played in steps with a new pool after the first.
use Rattle.std.specs.Option.{option_map_or}
use Rattle.answer.specs.Answer.{refused}
use Rattle.std.proofs.Common.{Ok, None, Some}
use Prim.Native.Nat.{ℕ, zero, suc}
use mathlib.Core.Path.{◌≡◌, refl}
use mathlib.Core.List.{List, [], ◌∷◌, ◌++◌}
use lib.ListN.{length}
use lib.Ieee.{le, lt, eq, of_bits, add, sub, mul, neg, is_nan, round, of_int, to_signed, to_unsigned}
use Rattle.mathf.specs.Real as Real
use Rattle.mathf.specs.Round.{ceil_of}
use Rattle.mathf.specs.Sqrt.{sqrt_of}
use Rattle.geom.specs.Geom.{min_z, max_z, intersect, spans, holds}
use Rattle.color.specs.Color.{mix_ch, mix_pix, dim_pix}
use Rattle.canvas.specs.Rows.{map_from}
use Rattle.canvas.specs.Canvas.{is_canvas, painted_on, boxed, box_on}
use Rattle.edge.specs.Edge.{centre, axis, corner_sd, rrect_sd, copy_radius, edge_sd}
use Rattle.sources.specs.Source.{words, row_start, texel, is_source}
use Rattle.sources.specs.Table.{sizes, offset, total, sides_in, pool_right, pixels}
use Rattle.straight.specs.Straight.{far_side, copy_box, place, mask_of, corner_span, parts, coverage, inner_pix, edge_pix, corner_pix, row_pix, source_pix, straight_rule}
use Rattle.block.specs.Bytes.{placed, block_at, u16, u32, signed, f32, weighed, check_right, every}
use Rattle.block.specs.Fields.{clip}
use Rattle.block.specs.Form.{well_formed, fields, flag_bits, among, used, unused_zero, known, flags_in}
use Rattle.block.specs.Ranges.{within, floats_in, radius_in, integers_in, between, clip_in, straight_integers, bend_suits}
use Rattle.block.specs.Verdict.{shape, verdict}
use Rattle.block.proofs.Laws.Written.{field, low, zeros, laid, block_of}
use Rattle.answer.specs.declared.Cause.TheVariants.{Next}
use Rattle.answer.specs.Tests.{unless, each, at}
use Rattle.rundown.specs.Tests.{apart, taken, some as any_of}
use Rattle.order.specs.Order.{insert, sort, since, first, numbers, next_by, priority_at}
use Rattle.layer.specs.Layer.{kind_of, blit_of, copied_onto, painting_by, painting, need_by, needed, has_room, source_there, frame_there}
use Rattle.accept.specs.Tests.{canvas_test, table_test, pool_test, rundown_right, rundown_test, source_test, frame_test, blocks_test, scratch_test, answer}
use Rattle.steps.specs.Steps.{step, Call, call, tests, from, next, chosen_by, chosen, or_none, answer_by, call_answer, call_canvas, calls_answers, calls_canvas}

-- ---- 01's rundown, for a canvas of 4 by 2

-- an exact copy with this priority of source t, to column x of row 0; the clip is the whole canvas
unfoldable pub exact_copy : ℕ → ℕ → ℕ → List ℕ
exact_copy priority t x = block_of (field 0 1 5 ∷ field 2 2 priority ∷ field 4 4 t ∷ field 8 4 x ∷ field 76 4 255 ∷ field 244 4 4 ∷ field 248 4 2 ∷ [])

-- the first block has priority 10, the second 9
unfoldable pub copies : List ℕ
copies = exact_copy 10 1 1 ++ exact_copy 9 0 0

-- source 0 is 2 by 1, source 1 is 1 by 1
abbrev pub table : List ℕ
table = 2 ∷ 1 ∷ 1 ∷ 1 ∷ []

-- the pool of the first step, and the one of those that follow
abbrev pub old : List ℕ
old = 0x112233 ∷ 0x445566 ∷ 0xFFFFFF ∷ []

abbrev pub new : List ℕ
new = 0x010203 ∷ 0x040506 ∷ 0x070809 ∷ []

abbrev pub pools : ℕ → List ℕ
pools zero = old
pools (suc i) = new

-- a canvas whose first row begins with these two pixels; the rest is black
abbrev pub row : ℕ → ℕ → List ℕ
row a b = a ∷ b ∷ 0 ∷ 0 ∷ 0 ∷ 0 ∷ 0 ∷ 0 ∷ []

-- a step, with 24 bytes in each scratch slice
abbrev pub step_from : ℕ → Call
step_from last = call (step last) copies 4 2 table 24 24

-- none, then 9, then 10
abbrev pub three : List Call
three = step_from 65536 ∷ step_from 9 ∷ step_from 10 ∷ []

-- ---- by computation

pub accepted : answer 4 2 8 table 3 copies 24 24 ≡ Ok 2
unfolding answer canvas_test is_canvas table_test pool_test pool_right sides_in total sizes words rundown_test rundown_right blocks_test source_test frame_test source_there frame_there scratch_test has_room needed need_by unless each at apart taken any_of verdict check_right shape well_formed known flags_in flag_bits unused_zero used among fields every floats_in radius_in within integers_in clip_in straight_integers between bend_suits u16 u32 signed f32 placed block_at block_of laid zeros low weighed exact_copy kind_of clip le lt eq of_bits copies
accepted = refl

-- the second block comes first, then the first one, and then none
pub comes : (next copies 2 65536 ≡ Some 1) × (next copies 2 9 ≡ Some 0) × (next copies 2 10 ≡ None)
unfolding next from next_by first since sort insert numbers u16 placed block_at block_of laid zeros low exact_copy weighed copies
comes = (refl, refl, refl)

priorities : (priority_at copies 1 ≡ 9) × (priority_at copies 0 ≡ 10)
unfolding u16 placed block_at block_of laid zeros low exact_copy weighed copies
priorities = (refl, refl)

lower : painting 4 2 table old (block_at copies 1) (row 0 0) ≡ row 0x112233 0x445566
unfolding painting painting_by copied_onto blit_of pixels offset sizes words kind_of clip painted_on is_canvas map_from straight_rule boxed box_on copy_box far_side min_z max_z intersect spans holds is_source row_start texel place mask_of copy_radius corner_span ceil_of source_pix row_pix corner_pix inner_pix edge_pix parts coverage edge_sd rrect_sd corner_sd axis centre mix_ch mix_pix dim_pix Real.min Real.max Real.fabs Real.saturate Real.clamp of_bits add sub mul lt eq neg is_nan round of_int to_signed to_unsigned sqrt_of u16 u32 signed f32 placed block_at block_of laid zeros low weighed exact_copy copies
lower = refl

upper : painting 4 2 table new (block_at copies 0) (row 0x112233 0x445566) ≡ row 0x112233 0x070809
unfolding painting painting_by copied_onto blit_of pixels offset sizes words kind_of clip painted_on is_canvas map_from straight_rule boxed box_on copy_box far_side min_z max_z intersect spans holds is_source row_start texel place mask_of copy_radius corner_span ceil_of source_pix row_pix corner_pix inner_pix edge_pix parts coverage edge_sd rrect_sd corner_sd axis centre mix_ch mix_pix dim_pix Real.min Real.max Real.fabs Real.saturate Real.clamp of_bits add sub mul lt eq neg is_nan round of_int to_signed to_unsigned sqrt_of u16 u32 signed f32 placed block_at block_of laid zeros low weighed exact_copy copies
upper = refl

-- ---- the steps

first_canvas : call_canvas (step_from 65536) old (row 0 0) ≡ row 0x112233 0x445566
unfolding call_canvas chosen tests chosen_by
first_canvas = rw (accepted, comes.0) lower

second_canvas : call_canvas (step_from 9) new (row 0x112233 0x445566) ≡ row 0x112233 0x070809
unfolding call_canvas chosen tests chosen_by
second_canvas = rw (accepted, comes.1) upper

third_canvas : (cv : List ℕ) → length cv ≡ 8 → call_canvas (step_from 10) new cv ≡ cv
unfolding call_canvas chosen tests chosen_by
third_canvas cv l = rw (l, accepted, comes.2) refl

-- none gives 9; with the new pool 9 gives 10, and 10 gives 16 with 0
pub told : calls_answers three pools (row 0 0) ≡ Ok 9 ∷ Ok 10 ∷ refused Next 0 ∷ []
unfolding calls_answers call_answer tests answer_by or_none
told = rw (first_canvas, second_canvas, accepted, comes.0, comes.1, comes.2, priorities.0, priorities.1) refl

-- source 0 shows as it was at its own step, source 1 as it was at the next
pub shown : calls_canvas three pools (row 0 0) ≡ row 0x112233 0x070809
unfolding calls_canvas
shown = rw (first_canvas, second_canvas) (third_canvas (row 0x112233 0x070809) refl)
