-- The small picture behind a glass panel: the window's pixels made smaller, blurred, saturated and tinted. It is cells of three bytes, red, green and blue,
-- row after row. Everything but `crop` sees the window's own pixels alone.
use Rattle.std.specs.Prelude.{ℕ, zero, suc, ◌+◌, ◌-◌, ◌*◌, ◌/◌, ◌%◌, min, cond, ◌&&◌, List, ◌++◌, leb, ℤ, pos, negsuc, neg_ℤ, ◌+ℤ◌, ◌-ℤ◌, ◌*ℤ◌, length, get_or, drop, Float}
use Rattle.std.specs.Int.Signed.{shr_z}
use Rattle.std.specs.Float.{binary32}
use Rattle.std.specs.Float.Ieee.{of_bits, of_int, mul, div, le, to_signed, to_unsigned}
use Rattle.mathf.specs.Real.{one, max}
use Rattle.color.specs.declared.Color.{Color}
use Rattle.color.specs.Color.{red, green, blue}
use Rattle.geom.specs.declared.Rect.{Rect}
use Rattle.geom.specs.Geom.{min_z, max_z}
use Rattle.canvas.specs.declared.Area.{Area}
use Rattle.canvas.specs.Canvas.{is_canvas}
use Rattle.boxblur.specs.Box.{total, table, box_h, box_v}
use Rattle.backdrop.specs.declared.GlassStyle.{GlassStyle}
use Rattle.backdrop.specs.Window.{three, window_area, columns, rows, scale_of, cells, picture_bytes}

-- 0.45, 0.95 and 256.0
abbrev pub point_four_five : Float
point_four_five = of_bits binary32 0x3ee6_6666

abbrev pub point_nine_five : Float
point_nine_five = of_bits binary32 0x3f73_3333

abbrev pub two_fifty_six : Float
two_fifty_six = of_bits binary32 0x4380_0000

-- ---- the window's pixels

-- those of the window a of a canvas with w columns, row after row
unfoldable pub crop : ℕ → Area → List ℕ → List ℕ
crop w a cv = table (rows a * columns a) (λ i. get_or cv ((a.y0 + i / columns a) * w + (a.x0 + i % columns a)) 0)

-- ---- downsample: px are ww by wh pixels, and a cell is the mean of k by k of them

-- channel 0, 1 or 2 of a pixel
abbrev pub channel : ℕ → ℕ → ℕ
channel zero p = red p
channel (suc zero) p = green p
channel (suc (suc n)) p = blue p

-- the pixel in column x of row y; past the last column or row that column or row again
unfoldable pub pixel_at : ℕ → ℕ → List ℕ → ℕ → ℕ → ℕ
pixel_at ww wh px x y = get_or px (min y (wh - 1) * ww + min x (ww - 1)) 0

-- channel ch of the cell in column x of row y
unfoldable pub cell_mean : (k ww wh : ℕ) (px : List ℕ) (ch x y : ℕ) → ℕ
cell_mean k ww wh px ch x y = total k (λ j. total k (λ i. channel ch (pixel_at ww wh px (k * x + i) (k * y + j)))) / (k * k)

-- the cells: byte q is channel q % 3 of the cell in column q / 3 % lw of row q / 3 / lw
unfoldable pub shrunk : ℕ → ℕ → ℕ → List ℕ → List ℕ
shrunk k ww wh px =
    let lw = cells ww k in
    table (3 * (lw * cells wh k)) (λ q. cell_mean k ww wh px (q % 3) (q / 3 % lw) (q / 3 / lw))

-- ---- blur: passes over lw by lh cells

-- the blur in cells
unfoldable pub sigma : Float → ℕ → Float
sigma blur k = div binary32 blur (of_int binary32 (pos k))

-- the radius of a pass, held to what a pass takes: no blur up to 64 makes it exceed 15
unfoldable pub radius_of : Float → ℕ
radius_of s = min (to_unsigned 32 (max (mul binary32 s point_nine_five) one)) 32767

-- one pass along the rows and one along the columns
unfoldable pub pass : ℕ → ℕ → ℕ → List ℕ → List ℕ
pass lw lh r lo = box_v lw lh r (box_h lw lh r lo)

-- three such passes from 3.0 on, two from 0.45 on, else none
unfoldable pub blurred : ℕ → ℕ → Float → List ℕ → List ℕ
blurred lw lh s lo =
    let r = radius_of s in
    let twice = pass lw lh r (pass lw lh r lo) in
    cond (le point_four_five s) (cond (le three s) (pass lw lh r twice) twice) lo

-- ---- saturation and tint. A shift of a negative number rounds down

-- the saturation in 256ths, held so that nothing below overflows: none up to 8.0 exceeds 2048
unfoldable pub satq : Float → ℤ
satq saturation = max_z (min_z (to_signed 31 (mul binary32 saturation two_fifty_six)) (pos 8192)) (neg_ℤ (pos 8192))

-- the brightness of a cell
abbrev pub lum : ℕ → ℕ → ℕ → ℕ
lum r g b = (77 * r + 150 * g + 29 * b) / 256

-- channel c of a cell of brightness l, drawn away from it or towards it
unfoldable pub saturated : ℤ → ℕ → ℕ → ℤ
saturated sat l c = pos l +ℤ shr_z ((pos c -ℤ pos l) *ℤ sat) 256

-- a of 256 parts of the way from v to t: at a = 255 a part of v is left
unfoldable pub toward : ℕ → ℕ → ℤ → ℤ
toward t a v = v +ℤ shr_z ((pos t -ℤ v) *ℤ pos a) 256

-- held to 0 .. 255
abbrev pub byte : ℤ → ℕ
byte (pos n) = min n 255
byte (negsuc n) = 0

-- channel 0, 1 or 2 of a colour
abbrev pub shade : ℕ → Color → ℕ
shade zero c = c.r
shade (suc zero) c = c.g
shade (suc (suc n)) c = c.b

-- channel c of a cell of brightness l, t being that channel of the tint and a its alpha
unfoldable pub tinted_byte : ℤ → ℕ → ℕ → ℕ → ℕ → ℕ
tinted_byte sat t a l c = byte (toward t a (saturated sat l c))

-- the brightness of the cell whose bytes begin at o
unfoldable pub lum_at : List ℕ → ℕ → ℕ
lum_at lo o = lum (get_or lo o 0) (get_or lo (o + 1) 0) (get_or lo (o + 2) 0)

unfoldable pub tinted : Float → Color → List ℕ → List ℕ
tinted saturation tint lo =
    table (length lo) (λ q. tinted_byte (satq saturation) (shade (q % 3) tint) tint.a (lum_at lo (q / 3 * 3)) (get_or lo q 0))

-- ---- the picture

-- of a window of ww by wh pixels
unfoldable pub picture_of : GlassStyle → ℕ → ℕ → List ℕ → List ℕ
picture_of style ww wh px =
    let k = scale_of style.blur in
    tinted style.saturation style.tint (blurred (cells ww k) (cells wh k) (sigma style.blur k) (shrunk k ww wh px))

-- of the window of a panel on the canvas cv of w by h
unfoldable pub picture : (w h : ℕ) (rect : Rect) (style : GlassStyle) (lut : List Float) (cv : List ℕ) → List ℕ
picture w h rect style lut cv =
    let a = window_area w h rect style lut in
    picture_of style (columns a) (rows a) (crop w a cv)

-- ---- what the scratch slices hold afterwards, of la and lb bytes

-- the bytes that are used: none where n pixels are no canvas of w by h, or a slice is too short
unfoldable pub used : (w h : ℕ) (rect : Rect) (style : GlassStyle) (lut : List Float) (n la lb : ℕ) → ℕ
used w h rect style lut n la lb =
    let m = picture_bytes w h rect style lut in
    cond (is_canvas w h n && (leb m la && leb m lb)) m 0

-- the first slice: the picture where it has room
unfoldable pub pictured : (w h : ℕ) (rect : Rect) (style : GlassStyle) (lut : List Float) (cv a : List ℕ) (lb : ℕ) → List ℕ
pictured w h rect style lut cv a lb =
    let m = picture_bytes w h rect style lut in
    cond (is_canvas w h (length cv) && (leb m (length a) && leb m lb)) (picture w h rect style lut cv ++ drop m a) a
