-- What only the contracts of private functions cite: a row's middle columns, which all have one alpha, and those on either side.
use Rattle.std.specs.Prelude.{ℕ, ◌+◌, ◌≤◌, ◌<◌, ◌≡◌, Bool, cond, List, ℤ, length, get_or, Float}
use Rattle.std.specs.Float.{binary32}
use Rattle.std.specs.Float.Ieee.{add, sub, lt, le, to_signed}
use Rattle.geom.specs.declared.Rect.{Rect}
use Rattle.geom.specs.Geom.{cx}
use Rattle.mathf.specs.Real as Real
use Rattle.mathf.specs.Round.{floor_of, ceil_of}
use Rattle.shadow.specs.declared.Shadow.{Shadow}
use Rattle.shadow.specs.Shadow.{alpha_of, half_w, row_sd, col_sd, row_turn, turn_sd, inside_alpha, tinted}

-- row y passes through no corner
unfoldable pub straight : Rect → Float → ℕ → Bool
straight rect r y = le (row_turn rect r y) Real.zero

-- where the middle columns begin and end: clear of the sides' bands, or between the corners
unfoldable pub near_end : Rect → Float → Float → ℕ → Float
near_end rect r blur y =
    cond (straight rect r y) (add binary32 (sub binary32 (cx rect) (half_w rect)) blur) (sub binary32 (cx rect) (sub binary32 (half_w rect) r))

unfoldable pub far_end : Rect → Float → Float → ℕ → Float
far_end rect r blur y =
    cond (straight rect r y) (sub binary32 (add binary32 (cx rect) (half_w rect)) blur) (add binary32 (cx rect) (sub binary32 (half_w rect) r))

unfoldable pub middle_from : Rect → Shadow → ℕ → ℤ
middle_from rect k y = to_signed 31 (ceil_of (near_end rect k.r k.blur y))

unfoldable pub middle_to : Rect → Shadow → ℕ → ℤ
middle_to rect k y = to_signed 31 (floor_of (far_end rect k.r k.blur y))

-- their alpha
unfoldable pub middle_alpha : List ℕ → Rect → Shadow → ℕ → ℕ
middle_alpha table rect k y =
    cond (straight rect k.r y) (inside_alpha table k.blur k.skip_inside (row_sd rect y)) (alpha_of table k.blur (sub binary32 (row_turn rect k.r y) k.r))

-- the distance of the pixel (x, y) from the edge, and a pixel that lies on either side of the middle columns
unfoldable pub shadow_sd : Rect → Float → ℕ → ℕ → Float
shadow_sd rect r x y =
    cond (straight rect r y) (cond (lt (row_sd rect y) (col_sd rect x)) (col_sd rect x) (row_sd rect y)) (turn_sd rect r (row_turn rect r y) x)

abbrev pub outer_pix : (table : List ℕ) (rect : Rect) (k : Shadow) (x y p : ℕ) → ℕ
outer_pix table rect k x y p = tinted k.color (alpha_of table k.blur (shadow_sd rect k.r x y)) p

-- of the alphas of a column and of a row, that of the greater distance
unfoldable pub farther : Float → Float → ℕ → ℕ → ℕ
farther sdy sdx col row = cond (lt sdy sdx) col row

-- the n columns from x on have their alphas in cols, each at the column's own distance
pub record Columns (table cols : List ℕ) (x n : ℕ) (rect : Rect) (blur : Float) : Type 0 where
  pub long : n ≤ length cols
  pub is : (i : ℕ) → i < n → get_or cols i 0 ≡ alpha_of table blur (col_sd rect (x + i))
