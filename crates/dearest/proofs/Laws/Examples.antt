-- Worked examples, by computation.
use Rattle.answer.specs.Answer.{Answer, refused}
use Rattle.std.proofs.Common.{Ok}
use Prim.Native.Nat.{ℕ}
use mathlib.Core.Path.{◌≡◌, refl}
use mathlib.Core.List.{List, [], ◌∷◌}
use lib.Ieee.{nan, binary32, of_bits, le, lt, eq, add, mul, to_signed, neg, is_nan}
use Rattle.mathf.specs.Real as Real
use Rattle.mathf.specs.Round.{floor_of, ceil_of}
use Rattle.geom.specs.Geom.{outer_pixels, min_z, max_z, intersect, is_empty}
use Rattle.canvas.specs.Canvas.{is_canvas, box_on}
use Rattle.backdrop.specs.Window.{largest, reach, margin, grown, window_of, area_of, window_area, scale_of, cells, picture_bytes, glass_box, need_of}
use Rattle.block.specs.Bytes.{u32, signed, f32, weighed}
use Rattle.block.specs.Fields.{rect, clip, entries, floats, color_at}
use Rattle.block.specs.Ranges.{within}
use Rattle.block.proofs.Laws.Written.{field, low, zeros, laid, block_of}
use Rattle.layer.specs.Layer.{kind_of, style_of, need_by, needed}
use Rattle.answer.specs.declared.Cause.TheVariants.{Canvas, Floats}
use Rattle.answer.specs.Tests.{unless}
use Rattle.accept.specs.Tests.{canvas_test}
use Rattle.dearest.specs.Dearest.{dearest_need, blur_test, dearest_answer}

-- ---- needs and answers

-- the answer for the blur of these bits
abbrev for : ℕ → ℕ → ℕ → Answer
for w h bits = dearest_answer w h (of_bits binary32 bits)

pub record Worked : Type 0 where
  pub one_pixel : for 1 1 0 ≡ Ok 3
  pub minus_zero : for 1 1 0x8000_0000 ≡ Ok 3
  -- at 2.5 a cell is 2 by 2, below it a pixel; at 9 it is 4 by 4
  pub at_two_point_five : for 5 5 0x4020_0000 ≡ Ok 27
  pub below_it : for 5 5 0x401f_ffff ≡ Ok 75
  pub at_nine : for 5 5 0x4110_0000 ≡ Ok 12
  pub below_nine : for 5 5 0x410f_ffff ≡ Ok 27
  pub largest_canvas : for 4096 4096 0 ≡ Ok 50331648
  pub broadcast : for 1920 1080 0x4110_0000 ≡ Ok 388800
  -- 64 is the greatest blur
  pub at_most : for 4096 4096 0x4280_0000 ≡ Ok 3145728
  pub above_it : for 4096 4096 0x4280_0001 ≡ refused Floats 0
  pub no_number : dearest_answer 5 5 nan ≡ refused Floats 0
  -- the size comes first
  pub both_wrong : dearest_answer 0 5 nan ≡ refused Canvas 0
  pub too_wide : for 4097 1 0 ≡ refused Canvas 0

pub worked : Worked
unfolding dearest_answer dearest_need blur_test canvas_test is_canvas unless within scale_of cells of_bits le lt eq
worked = record {
  one_pixel = refl;
  minus_zero = refl;
  at_two_point_five = refl;
  below_it = refl;
  at_nine = refl;
  below_nine = refl;
  largest_canvas = refl;
  broadcast = refl;
  at_most = refl;
  above_it = refl;
  no_number = refl;
  both_wrong = refl;
  too_wide = refl;
}

-- ---- rects that would not do, at blur 0

-- a panel from column and row 0 on with a rect of these sides, by their bits
unfoldable pub panel : ℕ → ℕ → List ℕ
panel wide high = block_of (field 0 1 4 ∷ field 40 4 wide ∷ field 44 4 high ∷ field 244 4 4096 ∷ field 248 4 4096 ∷ [])

-- the bits of 1.0, 2.0 and 5.0
abbrev one : ℕ
one = 0x3f80_0000

abbrev two : ℕ
two = 0x4000_0000

abbrev five : ℕ
five = 0x40a0_0000

pub record Misses : Type 0 where
  -- the canvas's own sides: right where both are two or more, and without a box where one is not
  pub own_sides : needed 2 5 (panel two five) ≡ 30
  pub one_wide : needed 1 5 (panel one five) ≡ 0
  pub one_high : needed 5 1 (panel five one) ≡ 0
  -- the least rect that has a box: its window ends 3 pixels beyond it
  pub reaches : needed 5 5 (panel two two) ≡ 75
  pub ends : needed 6 5 (panel two two) ≡ 75

pub misses : Misses
unfolding needed need_by need_of is_canvas u32 signed f32 block_of laid zeros low weighed panel kind_of style_of rect clip entries floats color_at glass_box box_on outer_pixels intersect min_z max_z is_empty window_of grown margin reach largest window_area area_of scale_of cells picture_bytes floor_of ceil_of le lt eq of_bits add mul to_signed neg Real.max is_nan
misses = record {
  own_sides = refl;
  one_wide = refl;
  one_high = refl;
  reaches = refl;
  ends = refl;
}
