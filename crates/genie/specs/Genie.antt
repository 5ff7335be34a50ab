-- What `blit_genie` paints: each row of a source, drawn along one row of the canvas on its way to a point. The last row goes first.
use Rattle.std.specs.Prelude.{ℕ, zero, suc, ◌-◌, max, cond, List, pos, nat_abs, ◌+ℤ◌, length, Float}
use Rattle.std.specs.Float.{binary32}
use Rattle.std.specs.Float.Ieee.{of_bits, add, sub, mul, div, le, of_int, to_signed, to_unsigned}
use Rattle.mathf.specs.Real as Real
use Rattle.mathf.specs.Round.{floor_of, ceil_of}
use Rattle.color.specs.Color.{mix_pix}
use Rattle.geom.specs.declared.IRect.{IRect}
use Rattle.geom.specs.Geom.{two, cx, min_z}
use Rattle.canvas.specs.Canvas.{painted_on, boxed, box_on}
use Rattle.sources.specs.declared.Sides.{Sides}
use Rattle.sources.specs.Source.{texel, is_source}
use Rattle.edge.specs.Edge.{centre, clamp_z}
use Rattle.scaled.specs.declared.Stretch.{Stretch}
use Rattle.scaled.specs.Scaled.{two_fifty_six, one_point_five, scaled_rule}
use Rattle.genie.specs.declared.Flight.{Flight}
use Rattle.genie.specs.declared.Strip.{Strip}

-- 3.0
abbrev pub three : Float
three = of_bits binary32 0x4040_0000

-- 24.0: the width at the target, and the corner radius before the start
abbrev pub twenty_four : Float
twenty_four = of_bits binary32 0x41c0_0000

-- 0.55: how much later than the last row the first one sets out
abbrev pub lag : Float
lag = of_bits binary32 0x3f0c_cccd

-- ---- one row of the source: at v, from 0 for the first row to 1 for the last

-- row sy of sh
unfoldable pub row_part : ℕ → ℕ → Float
row_part sy sh = div binary32 (of_int binary32 (pos sy)) (of_int binary32 (pos (max (sh - 1) 1)))

-- how much of its way it has gone at the time t
unfoldable pub eased : Float → Float → Float
eased t v =
    let tt = Real.saturate (div binary32 (sub binary32 t (mul binary32 (sub binary32 Real.one v) lag)) (sub binary32 Real.one lag)) in
    mul binary32 (mul binary32 tt tt) (sub binary32 three (mul binary32 two tt))

-- how much of its way it has gone from side to side
unfoldable pub ease_curve : Float → Float
ease_curve e =
    let u = Real.saturate e in
    mul binary32 (mul binary32 u u) (sub binary32 one_point_five (mul binary32 Real.point_five u))

-- where it lies: the canvas's row, its two ends, and its width, which is taken as at least 1
unfoldable pub strip_of : Flight → Float → Strip
strip_of flight v =
    let e = eased flight.t v in
    let sq = ease_curve e in
    let y = Real.lerp (add binary32 flight.from.y (mul binary32 v flight.from.h)) flight.target.y e in
    let wdt = Real.lerp flight.from.w twenty_four sq in
    let cxr = Real.lerp (cx flight.from) flight.target.x sq in
    record {
      y = to_signed 31 y;
      x0 = sub binary32 cxr (mul binary32 wdt Real.point_five);
      x1 = add binary32 cxr (mul binary32 wdt Real.point_five);
      wide = Real.max wdt Real.one;
    }

-- the pixels that it touches; the last row is held to the largest i32, which no canvas reaches
unfoldable pub strip_box : Strip → IRect
strip_box k = record { x0 = to_signed 31 (floor_of k.x0); y0 = k.y; x1 = to_signed 31 (ceil_of k.x1); y1 = min_z (k.y +ℤ pos 1) (pos 2147483647) }

-- ---- one pixel

-- the source's column under the canvas's column x
unfoldable pub column : ℕ → Strip → ℕ → ℕ
column sw k x =
    nat_abs (clamp_z (to_signed 31 (mul binary32 (div binary32 (sub binary32 (centre x) k.x0) k.wide) (of_int binary32 (pos sw)))) (pos 0) (pos (sw - 1)))

-- how much of the canvas's column x lies within the row's two ends, as a part of full
unfoldable pub coverage : Strip → Float → ℕ → ℕ
coverage k full x =
    let left = Real.saturate (sub binary32 (add binary32 (of_int binary32 (pos x)) Real.one) k.x0) in
    let right = Real.saturate (sub binary32 k.x1 (of_int binary32 (pos x))) in
    to_unsigned 32 (mul binary32 (Real.min left right) full)

-- the source's pixel is mixed in, at coverage 0 too
unfoldable pub genie_pix : (src : List ℕ) (sides : Sides) (sy : ℕ) (k : Strip) (full : Float) (x p : ℕ) → ℕ
genie_pix src sides sy k full x p = mix_pix p (texel src sides (column sides.w k x) sy) (coverage k full x)

-- ---- the canvas

-- alpha in 256ths, as a float again
unfoldable pub full_of : Float → Float
full_of alpha = of_int binary32 (pos (to_unsigned 32 (mul binary32 (Real.saturate alpha) two_fifty_six)))

-- what the source's row sy does to each pixel of a canvas of w by h
unfoldable pub genie_row : (w h : ℕ) (clip : IRect) (src : List ℕ) (sides : Sides) (flight : Flight) (sy x y p : ℕ) → ℕ
genie_row w h clip src sides flight sy =
    let k = strip_of flight (row_part sy sides.h) in
    boxed (box_on w h clip (strip_box k)) (λ x y p. genie_pix src sides sy k (full_of flight.alpha) x p)

-- n rules, one after the other, from the last to the first
unfoldable pub in_turn : (w h : ℕ) (R : ℕ → ℕ → ℕ → ℕ → ℕ) (n : ℕ) (cv : List ℕ) → List ℕ
in_turn w h R zero cv = cv
in_turn w h R (suc n) cv = in_turn w h R n (painted_on w h (R n) cv)

-- the scaled copy that it is before it sets out
abbrev pub at_start : Flight → Stretch
at_start flight = record { dest = flight.from; r = twenty_four; alpha = flight.alpha }

-- the canvas after `blit_genie`: up to the time 0 a scaled copy, then the source's rows in turn; nothing where src is no source of these sides
unfoldable pub genied : (w h : ℕ) (clip : IRect) (src : List ℕ) (sides : Sides) (flight : Flight) (cv : List ℕ) → List ℕ
genied w h clip src sides flight cv =
    cond (le flight.t Real.zero) (painted_on w h (scaled_rule w h clip src sides (at_start flight)) cv)
    (cond (is_source sides (length src)) (in_turn w h (genie_row w h clip src sides flight) sides.h cv) cv)
