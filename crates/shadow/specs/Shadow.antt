-- The pixel rule of `shadow_rrect`: a soft shadow whose alpha falls over a band of 2 × blur about the edge of the rounded rectangle.
use Rattle.std.specs.Prelude.{ℕ, min, Bool, cond, ◌&&◌, ◌||◌, List, pos, eqb, leb, get_or, replicate, Float}
use Rattle.std.specs.Float.{binary32}
use Rattle.std.specs.Float.Ieee.{of_bits, of_int, neg, add, sub, mul, div, lt, le, to_unsigned, to_signed}
use Rattle.color.specs.declared.Color.{Color}
use Rattle.color.specs.Color.{blend_pix, level}
use Rattle.geom.specs.declared.Rect.{Rect}
use Rattle.geom.specs.declared.IRect.{IRect}
use Rattle.geom.specs.Geom.{two, cx, cy, inset, outer_pixels, spans}
use Rattle.canvas.specs.Rows.{map_row}
use Rattle.canvas.specs.Canvas.{boxed, box_on}
use Rattle.mathf.specs.Real as Real
use Rattle.mathf.specs.Round.{floor_of, ceil_of}
use Rattle.mathf.specs.Sqrt.{sqrt_of}
use Rattle.edge.specs.Edge.{centre, axis, corner_radius}
use Rattle.shadow.specs.declared.Shadow.{Shadow}

-- ---- the alphas

-- 3.0 and 96.0
abbrev pub three : Float
three = of_bits binary32 0x4040_0000

abbrev pub steps : Float
steps = of_bits binary32 0x42c0_0000

-- entry i of the 97 alphas, from the colour's own alpha at 0 down to 0 at 96: 1 − t²(3 − 2t) of it with t = i / 96
unfoldable pub fall_off : ℕ → ℕ → ℕ
fall_off a i =
    let t = div binary32 (of_int binary32 (pos i)) steps in
    let f = sub binary32 Real.one (mul binary32 (mul binary32 t t) (sub binary32 three (mul binary32 two t))) in
    to_unsigned 32 (add binary32 (mul binary32 f (level a)) Real.point_five)

-- the table of the 97 alphas
unfoldable pub alphas : ℕ → List ℕ
alphas a = map_row (λ i _. fall_off a i) (replicate 97 0)

-- the entry for t, held to the last; a NaN takes entry 0
unfoldable pub entry_at : Float → ℕ
entry_at t = min (to_unsigned 32 t) 96

-- the alpha at the distance sd from the edge. A NaN, met where 96 / (2 × blur) is infinite, passes both tests
unfoldable pub alpha_of : List ℕ → Float → Float → ℕ
alpha_of table blur sd =
    let t = mul binary32 (add binary32 sd blur) (div binary32 steps (mul binary32 two blur)) in
    cond (le t Real.zero) (get_or table 0 0) (cond (le steps t) 0 (get_or table (entry_at t) 0))

-- ---- distances

-- half of the rectangle's width, and of its height
abbrev pub half_w : Rect → Float
half_w rect = mul binary32 rect.w Real.point_five

abbrev pub half_h : Rect → Float
half_h rect = mul binary32 rect.h Real.point_five

-- how far p lies beyond a side that runs from c by half either way
unfoldable pub beyond : Float → Float → Float → Float
beyond p c half = sub binary32 (Real.fabs (sub binary32 p c)) half

-- row y's distance beyond the top or the bottom side, and column x's beyond the left or the right side
unfoldable pub row_sd : Rect → ℕ → Float
row_sd rect y = beyond (centre y) (cy rect) (half_h rect)

unfoldable pub col_sd : Rect → ℕ → Float
col_sd rect x = beyond (centre x) (cx rect) (half_w rect)

-- row y's distance beyond the straight part of the left and the right side: above zero it passes through the corners
unfoldable pub row_turn : Rect → Float → ℕ → Float
row_turn rect r y = axis (centre y) (cy rect) (half_h rect) r

-- the distance from the edge in such a row: from the corner's circle, and between the corners from the top or the bottom side
unfoldable pub turn_sd : Rect → Float → Float → ℕ → Float
turn_sd rect r qy x =
    let qx = axis (centre x) (cx rect) (half_w rect) r in
    cond (lt Real.zero qx) (sub binary32 (sqrt_of (add binary32 (mul binary32 qx qx) (mul binary32 qy qy))) r) (sub binary32 qy r)

-- ---- the alpha of a pixel

-- column x is one of the whole columns from a to b
abbrev pub within : Float → Float → ℕ → Bool
within a b x = spans (to_signed 31 (ceil_of a)) (to_signed 31 (floor_of b)) (pos x)

-- the alpha at the row's own distance; 0 where the inside is skipped and the alpha is the full one
unfoldable pub inside_alpha : List ℕ → Float → Bool → Float → ℕ
inside_alpha table blur skip sdy = let a = alpha_of table blur sdy in cond (skip && leb (get_or table 0 0) a) 0 a

-- in a row that passes through no corner: between the sides' bands the row's alpha, elsewhere that at the distance from the nearer side. Where the bands meet
-- the Rust splits the columns at the centre, and gives those on either side these alphas
unfoldable pub straight_alpha : List ℕ → Rect → Shadow → ℕ → ℕ → ℕ
straight_alpha table rect k x y =
    let sdx = col_sd rect x in
    let sdy = row_sd rect y in
    cond (within (add binary32 (sub binary32 (cx rect) (half_w rect)) k.blur) (sub binary32 (add binary32 (cx rect) (half_w rect)) k.blur) x)
    (inside_alpha table k.blur k.skip_inside sdy)
    (alpha_of table k.blur (cond (lt sdy sdx) sdx sdy))

-- in a row through the corners, qy beyond the straight part: between the corners one alpha, elsewhere that at the distance from the edge
unfoldable pub corner_alpha : List ℕ → Rect → Shadow → Float → ℕ → ℕ
corner_alpha table rect k qy x =
    let straight = sub binary32 (half_w rect) k.r in
    cond (within (sub binary32 (cx rect) straight) (add binary32 (cx rect) straight) x)
    (alpha_of table k.blur (sub binary32 qy k.r))
    (alpha_of table k.blur (turn_sd rect k.r qy x))

unfoldable pub shadow_alpha : List ℕ → Rect → Shadow → ℕ → ℕ → ℕ
shadow_alpha table rect k x y =
    let qy = row_turn rect k.r y in
    cond (le qy Real.zero) (straight_alpha table rect k x y) (corner_alpha table rect k qy x)

-- ---- the rule

-- the colour at the alpha a over the pixel p; its own alpha is in the table
abbrev pub tinted : Color → ℕ → ℕ → ℕ
tinted color a p = blend_pix p color.r color.g color.b a

-- the pixel (x, y); k's radius is held to the rectangle
unfoldable pub shadow_pix : (table : List ℕ) (rect : Rect) (k : Shadow) (x y p : ℕ) → ℕ
shadow_pix table rect k x y p = tinted k.color (shadow_alpha table rect k x y) p

-- a shadow of no alpha or no blur changes nothing
unfoldable pub no_shadow : Float → Color → Bool
no_shadow blur color = eqb color.a 0 || le blur Real.zero

-- the pixels that the shadow may touch
unfoldable pub shadow_box : ℕ → ℕ → IRect → Rect → Float → IRect
shadow_box w h clip rect blur = box_on w h clip (outer_pixels (inset rect (neg blur)))

-- the shadow with its corner radius held to the rectangle
abbrev pub held : Rect → Shadow → Shadow
held rect k = record { r = corner_radius rect k.r; blur = k.blur; color = k.color; skip_inside = k.skip_inside }

-- what `shadow_rrect` does to each pixel of a canvas of w by h
unfoldable pub shadow_rule : (w h : ℕ) (clip : IRect) (rect : Rect) (k : Shadow) (x y p : ℕ) → ℕ
shadow_rule w h clip rect k =
    boxed (shadow_box w h clip rect k.blur)
    (λ x y p. cond (no_shadow k.blur k.color) p (shadow_pix (alphas k.color.a) rect (held rect k) x y p))
