-- Pixels that lie surely away from the edge at a rounded corner: by the square of the distance from the corner's centre, without its root.
use Rattle.std.specs.Prelude.{ℕ, ◌+◌, ◌≤◌, ◌<◌, ◌≡◌, Bool, true, false, not, cond, ◌&&◌, ◌||◌, T, Float}
use Rattle.std.specs.Float.{nan, inf, fin, binary32}
use Rattle.std.specs.Float.Ieee.{of_bits, fits, neg, add, sub, mul, lt, le}
use Rattle.mathf.specs.Real as Real
use Rattle.mathf.specs.Sqrt.{sqrt_of}
use Rattle.geom.specs.declared.Rect.{Rect}
use Rattle.geom.specs.Geom.{cx, cy}
use Rattle.edge.specs.declared.Away.{Away}
use Rattle.edge.specs.Edge.{centre, axis}

-- no NaN, and no sign
abbrev pub plain : Float → Bool
plain nan = false
plain (inf s) = not s
plain (fin s m e) = not s

-- 2 ^ 24
abbrev pub far : Float
far = of_bits binary32 0x4b80_0000

-- a and b are above zero and below 2 ^ 24, and b is past a by g or more
unfoldable pub apart : (a b g : Float) → Bool
apart a b g = lt Real.zero a && lt a b && lt b far && le g (sub binary32 b a)

-- a square up to t has a root up to b; a square from t on has one from b on
pub record Within (b t : Float) : Type 0 where
  pub is : (s : Float) → T (fits binary32 s) → T (plain s) → T (le s t) → T (le (sqrt_of s) b)

pub record Beyond (b t : Float) : Type 0 where
  pub is : (s : Float) → T (fits binary32 s) → T (plain s) → T (le t s) → T (le b (sqrt_of s))

-- a place whose square is up to t lies g or more inside the circle of radius r; one whose square is from t on, g or more outside
pub record Deep (r g t : Float) : Type 0 where
  pub is : (s : Float) → T (fits binary32 s) → T (plain s) → T (le s t)
      → (sub binary32 (sqrt_of s) r ≡ neg (sub binary32 r (sqrt_of s))) × T (le g (sub binary32 r (sqrt_of s)))

pub record Far (r g t : Float) : Type 0 where
  pub is : (s : Float) → T (fits binary32 s) → T (plain s) → T (le t s) → T (le g (sub binary32 (sqrt_of s) r))

-- the square of the distance from the corner's centre
abbrev pub squared : Float → Float → Float
squared qx qy = add binary32 (mul binary32 qx qx) (mul binary32 qy qy)

-- a pixel of a row past the straight part of the left and the right side: past that of the top and the bottom too, it is away by its square; else as the whole row
unfoldable pub away : Away → Float → Float → Bool
away k qx qy = cond (lt Real.zero qx) (le (squared qx qy) k.low || le k.high (squared qx qy)) k.flat

-- how far column x, or row y, lies beyond the straight part of the top and the bottom, or of the left and the right side
abbrev pub col_axis : Rect → Float → ℕ → Float
col_axis rect r x = axis (centre x) (cx rect) (mul binary32 rect.w Real.point_five) r

abbrev pub row_axis : Rect → Float → ℕ → Float
row_axis rect r y = axis (centre y) (cy rect) (mul binary32 rect.h Real.point_five) r

-- of n pixels from column x on, those from i up to e are away
pub record Run (rect : Rect) (r qy : Float) (k : Away) (x i n e : ℕ) : Type 0 where
  pub first : i ≤ e
  pub last : i ≤ n → e ≤ n
  pub is : (j : ℕ) → i ≤ j → j < e → away k (col_axis rect r (x + j)) qy ≡ true

-- what `away` answers is enough for the coverage C to be v at the corner of radius r
pub record Same (C : Float → ℕ) (v : ℕ) (r qy : Float) (k : Away) : Type 0 where
  pub low : (s : Float) → T (fits binary32 s) → T (plain s) → T (le s k.low) → C (sub binary32 (sqrt_of s) r) ≡ v
  pub high : (s : Float) → T (fits binary32 s) → T (plain s) → T (le k.high s) → C (sub binary32 (sqrt_of s) r) ≡ v
  pub flat : k.flat ≡ true → C (sub binary32 qy r) ≡ v
