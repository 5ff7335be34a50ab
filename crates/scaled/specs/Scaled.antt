-- The pixel rule of `blit_scaled`: a source stretched over a rectangle, under a mask with rounded corners.
use Rattle.std.specs.Prelude.{ℕ, ◌+◌, ◌-◌, ◌*◌, ◌/◌, ◌%◌, min, Bool, cond, ◌||◌, List, leb, pos, length, Float}
use Rattle.std.specs.Float.{binary32}
use Rattle.std.specs.Float.Ieee.{of_bits, add, sub, mul, div, lt, le, of_int, to_signed, to_unsigned}
use Rattle.mathf.specs.Real as Real
use Rattle.color.specs.Color.{mix_pix}
use Rattle.geom.specs.declared.IRect.{IRect}
use Rattle.geom.specs.Geom.{right, bottom, outer_pixels}
use Rattle.canvas.specs.Canvas.{boxed, box_on}
use Rattle.sources.specs.declared.Sides.{Sides}
use Rattle.sources.specs.Source.{texel, is_source}
use Rattle.edge.specs.Edge.{centre, copy_radius, edge_sd, natural}
use Rattle.scaled.specs.declared.Stretch.{Stretch}
use Rattle.scaled.specs.declared.Mask.{Mask}

-- 256.0
abbrev pub two_fifty_six : Float
two_fifty_six = of_bits binary32 0x4380_0000

-- 1.5
abbrev pub one_point_five : Float
one_point_five = of_bits binary32 0x3fc0_0000

-- ---- the source's colour under a pixel: places in the source are counted in 256ths of its pixels

-- the place under the centre of the canvas's column or row v, for n columns or rows of the source stretched over `size` from `from` on. It is held to where
-- there is a next pixel to mix in
unfoldable pub tap : Float → Float → ℕ → ℕ → ℕ
tap from size n v =
    let scale = div binary32 (of_int binary32 (pos n)) size in
    let f = mul binary32 (sub binary32 (mul binary32 (sub binary32 (centre v) from) scale) Real.point_five) two_fifty_six in
    min (natural (to_signed 31 f)) ((n - 1) * 256 - 1)

-- the pixel at the place f, and the next one, the last of n having none
abbrev pub first : ℕ → ℕ
first f = f / 256

abbrev pub next : ℕ → ℕ → ℕ
next n f = min (f / 256 + 1) (n - 1)

-- the colour at the place fx of the source's row `row`
unfoldable pub across : List ℕ → Sides → ℕ → ℕ → ℕ
across src sides row fx = mix_pix (texel src sides (first fx) row) (texel src sides (next sides.w fx) row) (fx % 256)

-- the colour at the place fx of the columns and fy of the rows
unfoldable pub sample : List ℕ → Sides → ℕ → ℕ → ℕ
sample src sides fx fy = mix_pix (across src sides (first fy) fx) (across src sides (next sides.h fy) fx) (fy % 256)

-- ---- one pixel: s is the source's colour there, p the canvas's

-- the centre of the column or row v lies near enough to an edge, at `low` or at `high`, for the mask to matter
unfoldable pub near : ℕ → Float → Float → Float → Bool
near v low high r =
    let band = add binary32 r one_point_five in
    lt (sub binary32 (centre v) low) band || lt (sub binary32 high (centre v)) band

-- column x, or row y, is near an edge
abbrev pub col_near : Mask → ℕ → Bool
col_near k x = near x k.dest.x (right k.dest) k.r

abbrev pub row_near : Mask → ℕ → Bool
row_near k y = near y k.dest.y (bottom k.dest) k.r

-- s at cov of 256 over p
unfoldable pub laid : ℕ → ℕ → ℕ → ℕ
laid cov s p = cond (leb 256 cov) s (mix_pix p s cov)

-- under the mask, by the distance from the edge: beyond half a pixel outside p stays
unfoldable pub masked_pix : Mask → ℕ → ℕ → ℕ → ℕ → ℕ
masked_pix k s x y p =
    let sd = edge_sd k.dest k.r x y in
    cond (lt Real.point_five sd) p
    (laid (to_unsigned 32 (mul binary32 (Real.saturate (sub binary32 Real.point_five sd)) (of_int binary32 (pos k.alpha)))) s p)

unfoldable pub scaled_pix : Mask → ℕ → ℕ → ℕ → ℕ → ℕ
scaled_pix k s x y p = cond (row_near k y || col_near k x) (masked_pix k s x y p) (laid k.alpha s p)

-- ---- the canvas

-- nothing is copied onto less than a pixel, or at no alpha
unfoldable pub no_copy : Stretch → Bool
no_copy stretch = lt stretch.dest.w Real.one || lt stretch.dest.h Real.one || le stretch.alpha Real.zero

-- what is worked out of a copy's numbers: the radius is held to the rectangle, and alpha is counted in 256ths
unfoldable pub mask_of : Stretch → Mask
mask_of stretch = record {
  dest = stretch.dest;
  r = copy_radius stretch.dest stretch.r;
  alpha = to_unsigned 32 (mul binary32 (Real.saturate stretch.alpha) two_fifty_six);
}

-- the pixel in column x of row y
unfoldable pub stretched_pix : (src : List ℕ) (sides : Sides) (k : Mask) (x y p : ℕ) → ℕ
stretched_pix src sides k x y p =
    let dest = k.dest in
    scaled_pix k (sample src sides (tap dest.x dest.w sides.w x) (tap dest.y dest.h sides.h y)) x y p

-- what `blit_scaled` does to each pixel of a canvas of w by h: nothing where src is no source of these sides
unfoldable pub scaled_rule : (w h : ℕ) (clip : IRect) (src : List ℕ) (sides : Sides) (stretch : Stretch) (x y p : ℕ) → ℕ
scaled_rule w h clip src sides stretch =
    boxed (box_on w h clip (outer_pixels stretch.dest))
    (λ x y p. cond (is_source sides (length src)) (cond (no_copy stretch) p (stretched_pix src sides (mask_of stretch) x y p)) p)
