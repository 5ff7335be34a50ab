-- A glass panel: what is worked out once for it from a style, and its brightness.
use Rattle.std.specs.Prelude.{ℕ, ◌+◌, ◌-◌, min, Bool, ◌&&◌, List, leb, Float}
use Rattle.std.specs.Float.{binary32}
use Rattle.std.specs.Float.Ieee.{neg, add, mul, lt, eq, to_unsigned}
use Rattle.mathf.specs.Real as Real
use Rattle.mathf.specs.Round.{floor_of, ceil_of}
use Rattle.color.specs.Color.{red, green, blue, pack}
use Rattle.geom.specs.declared.Rect.{Rect}
use Rattle.geom.specs.Geom.{right, bottom, inset}
use Rattle.edge.specs.Edge.{full, corner_radius}
use Rattle.backdrop.specs.declared.GlassStyle.{GlassStyle}
use Rattle.backdrop.specs.Window.{window_area, columns, rows, scale_of, cells}
use Rattle.panel.specs.declared.Panel.{Panel}

-- the inside begins where neither bezel nor corner reaches, and a pixel further in
unfoldable pub inner_of : Rect → Float → Float → Rect
inner_of rect bezel r = inset rect (add binary32 (Real.max bezel r) Real.one)

-- what is worked out once for a panel on a canvas of w by h. The brightness in 255ths, held to ±255, is what is added or what is taken;
-- a side of the inside that is below zero is 0, as no column or row is
unfoldable pub panel_of : ℕ → ℕ → Rect → GlassStyle → List Float → Panel
panel_of w h rect style table =
    let window = window_area w h rect style table in
    let k = scale_of style.blur in
    let r = corner_radius rect style.radius in
    let bezel = Real.max style.bezel Real.zero in
    let bright = mul binary32 style.brightness full in
    let inner = inner_of rect bezel r in
    record {
      rect = rect;
      r = r;
      bezel = bezel;
      up = to_unsigned 8 bright;
      down = to_unsigned 8 (neg bright);
      k = k;
      wx = window.x0;
      wy = window.y0;
      lw = cells (columns window) k;
      lh = cells (rows window) k;
      ix0 = to_unsigned 32 (ceil_of inner.x);
      iy0 = to_unsigned 32 (ceil_of inner.y);
      ix1 = to_unsigned 32 (floor_of (right inner));
      iy1 = to_unsigned 32 (floor_of (bottom inner));
    }

-- no bezel, square corners, no shine: a bezel of 0.5 is not flat
unfoldable pub is_flat : Panel → Float → Bool
is_flat p spec = lt p.bezel Real.point_five && lt p.r Real.point_five && eq spec Real.zero && leb 2 p.lw && leb 2 p.lh

-- ---- the brightness

-- a channel with the panel's brightness, held to 0 and 255
abbrev pub lit_ch : Panel → ℕ → ℕ
lit_ch p v = min (v + p.up - p.down) 255

-- a pixel with the panel's brightness
unfoldable pub lit : Panel → ℕ → ℕ
lit p q = pack (lit_ch p (red q)) (lit_ch p (green q)) (lit_ch p (blue q))
