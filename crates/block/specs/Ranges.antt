-- Causes 6, 7 and 15: the ranges of floats and of integers, ends included, and tables that suit their bezel.
use Rattle.std.specs.Prelude.{ℕ, Bool, true, cond, ◌&&◌, List, leb, eqb, ℤ, pos, negsuc, Float}
use Rattle.std.specs.Int.Signed.{le_z}
use Rattle.std.specs.Float.{binary32}
use Rattle.std.specs.Float.Ieee.{of_bits, neg, mul, le, lt, eq}
use Rattle.mathf.specs.Real.{zero, point_five, one}
use Rattle.block.specs.Bytes.{every}
use Rattle.block.specs.Layout.{rect, target, clip}
use Rattle.block.specs.Fields as Fields

-- lo ≤ v ≤ hi; of a NaN neither holds, and -0 counts as 0
unfoldable pub within : Float → Float → Float → Bool
within lo hi v = le lo v && le v hi

-- 16384.0, 8192.0, 1024.0, 256.0, 64.0, 8.0, and the two negative ends
abbrev pub f16384 : Float
f16384 = of_bits binary32 0x4680_0000

abbrev pub f8192 : Float
f8192 = of_bits binary32 0x4600_0000

abbrev pub f1024 : Float
f1024 = of_bits binary32 0x4480_0000

abbrev pub f256 : Float
f256 = of_bits binary32 0x4380_0000

abbrev pub f64 : Float
f64 = of_bits binary32 0x4280_0000

abbrev pub f8 : Float
f8 = of_bits binary32 0x4100_0000

abbrev pub minus16384 : Float
minus16384 = neg f16384

abbrev pub minus1 : Float
minus1 = neg one

-- a place on or about the canvas, and a size
abbrev pub place : Float → Bool
place v = within minus16384 f16384 v

abbrev pub size : Float → Bool
size v = within zero f16384 v

-- x, y, w, h
unfoldable pub rect_in : List ℕ → Bool
rect_in b =
    place (Fields.float b rect 0) && place (Fields.float b rect 1) && size (Fields.float b rect 2) && size (Fields.float b rect 3)

unfoldable pub radius_in : List ℕ → Bool
radius_in b = within zero f8192 (Fields.radius b)

-- the paint numbers of paint p
unfoldable pub numbers_in : ℕ → List ℕ → Bool
numbers_in p b =
    cond (eqb p 1) (place (Fields.number b 0) && place (Fields.number b 1))
    (cond (eqb p 2) (place (Fields.number b 0) && place (Fields.number b 1) && place (Fields.number b 2) && place (Fields.number b 3))
    (cond (eqb p 3) (place (Fields.number b 0) && place (Fields.number b 1) && size (Fields.number b 2)) true))

-- the table, whose last entry is 0
unfoldable pub table_in : List ℕ → Bool
table_in b = every 33 (λ i. within zero f1024 (Fields.entry b i)) && eq (Fields.entry b 32) zero

unfoldable pub fill_floats : List ℕ → Bool
fill_floats b = rect_in b && radius_in b && numbers_in (Fields.paint b) b

unfoldable pub stroke_floats : List ℕ → Bool
stroke_floats b = rect_in b && radius_in b && within zero f256 (Fields.stroke_width b)

unfoldable pub shadow_floats : List ℕ → Bool
shadow_floats b = rect_in b && radius_in b && within zero f256 (Fields.blur b)

-- blur, saturation, brightness, bezel, spec
unfoldable pub glass_scalars : List ℕ → Bool
glass_scalars b =
    rect_in b && radius_in b && within zero f64 (Fields.blur b)
    && (within zero f8 (Fields.saturation b) && within minus1 one (Fields.brightness b))
    && within zero f256 (Fields.bezel b) && within zero one (Fields.spec b)

-- the table counts only where the bezel exceeds 0.5
unfoldable pub glass_floats : List ℕ → Bool
glass_floats b = cond (lt point_five (Fields.bezel b)) (glass_scalars b && table_in b) (glass_scalars b)

unfoldable pub scaled_floats : List ℕ → Bool
scaled_floats b = rect_in b && radius_in b && within zero one (Fields.float_alpha b)

unfoldable pub genie_floats : List ℕ → Bool
genie_floats b =
    rect_in b && place (Fields.float b target 0) && place (Fields.float b target 1)
    && within zero one (Fields.t b) && within zero one (Fields.float_alpha b)

-- cause 6 does not arise: every float of the block's kind is in its range
unfoldable pub floats_in : List ℕ → Bool
floats_in b =
    cond (eqb (Fields.kind b) 1) (fill_floats b)
    (cond (eqb (Fields.kind b) 2) (stroke_floats b)
    (cond (eqb (Fields.kind b) 3) (shadow_floats b)
    (cond (eqb (Fields.kind b) 4) (glass_floats b)
    (cond (eqb (Fields.kind b) 5) (radius_in b)
    (cond (eqb (Fields.kind b) 6) (scaled_floats b)
    (cond (eqb (Fields.kind b) 7) (genie_floats b) true))))))

-- lo ≤ v ≤ hi
unfoldable pub between : ℤ → ℤ → ℤ → Bool
between lo hi v = le_z lo v && le_z v hi

-- -16384 to 16384, and 0 to 16384
abbrev pub coordinate : ℤ → Bool
coordinate v = between (negsuc 16383) (pos 16384) v

abbrev pub offset : ℤ → Bool
offset v = between (pos 0) (pos 16384) v

unfoldable pub clip_in : List ℕ → Bool
clip_in b =
    coordinate (Fields.integer b clip 0) && coordinate (Fields.integer b clip 1)
    && coordinate (Fields.integer b clip 2) && coordinate (Fields.integer b clip 3)

unfoldable pub straight_integers : List ℕ → Bool
straight_integers b = coordinate (Fields.x b) && coordinate (Fields.y b) && leb (Fields.alpha b) 255 && leb (Fields.dim b) 255

unfoldable pub frame_integers : List ℕ → Bool
frame_integers b =
    offset (Fields.x b) && offset (Fields.y b)
    && leb (Fields.width b) 4096 && leb (Fields.height b) 4096 && leb (Fields.border b) 4096

-- cause 7 does not arise: the clip, and every integer of the block's kind, is in its range
unfoldable pub integers_in : List ℕ → Bool
integers_in b =
    cond (eqb (Fields.kind b) 5) (clip_in b && straight_integers b)
    (cond (eqb (Fields.kind b) 8) (clip_in b && frame_integers b) (clip_in b))

-- the f32 nearest 1.6
abbrev pub one_point_six : Float
one_point_six = of_bits binary32 0x3fcc_cccd

-- the most that an entry of the table may be: bezel × 1.6, rounded once
unfoldable pub bend_most : List ℕ → Float
bend_most b = mul binary32 (Fields.bezel b) one_point_six

-- no entry exceeds that
unfoldable pub table_suits : List ℕ → Bool
table_suits b = every 33 (λ i. le (Fields.entry b i) (bend_most b))

-- cause 15 does not arise: a table that is read suits its bezel
unfoldable pub bend_suits : List ℕ → Bool
bend_suits b = cond (eqb (Fields.kind b) 4 && lt point_five (Fields.bezel b)) (table_suits b) true
