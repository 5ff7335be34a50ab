-- A glass panel's box, and its window: the part of the canvas that the panel shows blurred.
use Rattle.std.specs.Prelude.{ℕ, zero, suc, ◌+◌, ◌-◌, ◌*◌, ◌/◌, cond, ◌||◌, List, ℤ, nat_abs, ◌+ℤ◌, ◌-ℤ◌, get_or, Float}
use Rattle.std.specs.Float.{nan, binary32}
use Rattle.std.specs.Float.Ieee.{of_bits, add, mul, lt, to_signed}
use Rattle.mathf.specs.Real as Real
use Rattle.mathf.specs.Round.{ceil_of}
use Rattle.geom.specs.declared.Rect.{Rect}
use Rattle.geom.specs.declared.IRect.{IRect}
use Rattle.geom.specs.Geom.{two, canvas, intersect, is_empty, outer_pixels}
use Rattle.canvas.specs.declared.Area.{Area}
use Rattle.canvas.specs.Canvas.{is_canvas, box_on}
use Rattle.backdrop.specs.declared.GlassStyle.{GlassStyle}

-- 2.5, 3.0 and 9.0
abbrev pub two_point_five : Float
two_point_five = of_bits binary32 0x4020_0000

abbrev pub three : Float
three = of_bits binary32 0x4040_0000

abbrev pub nine : Float
nine = of_bits binary32 0x4110_0000

-- ---- the window

-- the greatest of 0 and the table's first n entries
unfoldable pub largest : List Float → ℕ → Float
largest table zero = Real.zero
largest table (suc n) = Real.max (largest table n) (get_or table n nan)

-- how far the bezel may bend the view: the largest of the table's 33 entries, and 0 where the bezel is at most 0.5
unfoldable pub reach : GlassStyle → List Float → Float
reach style table = cond (lt Real.point_five (Real.max style.bezel Real.zero)) (largest table 33) Real.zero

-- by how many pixels the window is larger than the panel, on each side
unfoldable pub margin : GlassStyle → List Float → ℤ
margin style table =
    to_signed 31 (ceil_of (add binary32 (add binary32 (mul binary32 style.blur two) (reach style table)) three))

-- m more pixels on each side
unfoldable pub grown : IRect → ℤ → IRect
grown r m = record { x0 = r.x0 -ℤ m; y0 = r.y0 -ℤ m; x1 = r.x1 +ℤ m; y1 = r.y1 +ℤ m }

-- 01's glass window: the panel's pixels, grown and cut to a canvas of w by h
unfoldable pub window_of : ℕ → ℕ → Rect → GlassStyle → List Float → IRect
window_of w h rect style table = intersect (grown (outer_pixels rect) (margin style table)) (canvas w h)

-- the sides of a rectangle on the canvas, none of which is below zero; all are 0 where it is empty
unfoldable pub area_of : IRect → Area
area_of r =
    cond (is_empty r) (record { x0 = 0; y0 = 0; x1 = 0; y1 = 0 })
    (record { x0 = nat_abs r.x0; y0 = nat_abs r.y0; x1 = nat_abs r.x1; y1 = nat_abs r.y1 })

-- the window's sides
unfoldable pub window_area : ℕ → ℕ → Rect → GlassStyle → List Float → Area
window_area w h rect style table = area_of (window_of w h rect style table)

-- its columns and its rows
abbrev pub columns : Area → ℕ
columns a = a.x1 - a.x0

abbrev pub rows : Area → ℕ
rows a = a.y1 - a.y0

-- ---- the size of the small picture

-- 01's k: a cell of the small picture stands for k × k pixels of the window
unfoldable pub scale_of : Float → ℕ
scale_of blur = cond (lt blur two_point_five) 1 (cond (lt blur nine) 2 4)

-- the cells that n pixels make: the last may lie over the edge
unfoldable pub cells : ℕ → ℕ → ℕ
cells n k = (n + k - 1) / k

-- its bytes: three for each cell
unfoldable pub picture_bytes : ℕ → ℕ → Rect → GlassStyle → List Float → ℕ
picture_bytes w h rect style table =
    let a = window_area w h rect style table in
    let k = scale_of style.blur in
    3 * (cells (columns a) k * cells (rows a) k)

-- ---- the panel's box, and what it needs

-- 01's box of a glass layer: the panel's pixels under the clip; none where it is less than two pixels wide or high
unfoldable pub glass_box : ℕ → ℕ → IRect → Rect → IRect
glass_box w h clip rect = cond (lt rect.w two || lt rect.h two) (canvas 0 0) (box_on w h clip (outer_pixels rect))

-- 01's scratch: how many bytes each slice needs: nothing where the box is empty, or where no canvas is w by h
unfoldable pub need_of : (w h : ℕ) (clip : IRect) (rect : Rect) (style : GlassStyle) (table : List Float) → ℕ
need_of w h clip rect style table =
    cond (is_canvas w h (w * h)) (cond (is_empty (glass_box w h clip rect)) 0 (picture_bytes w h rect style table)) 0
