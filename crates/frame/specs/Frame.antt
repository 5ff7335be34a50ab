-- The pixel rule of `composite_secure_frame`: a window's border and title bar in the colour of its security domain, and a colour over the window itself.
use Rattle.std.specs.Prelude.{ℕ, ◌+◌, ◌-◌, ◌*◌, ◌/◌, max, Bool, cond, ◌&&◌, ◌||◌, [], ◌∷◌, ltb, leb, pos, get_or}
use Rattle.color.specs.Color.{red, green, blue, pack}
use Rattle.geom.specs.declared.IRect.{IRect}
use Rattle.geom.specs.Geom.{canvas, intersect}
use Rattle.canvas.specs.Canvas.{boxed}
use Rattle.frame.specs.declared.GlassSurface.{GlassSurface}
use Rattle.frame.specs.declared.TagColors.{TagColors}

-- ---- colours with alpha, each a number 0xAARRGGBB: one from its channels, and its alpha
abbrev pub rgba : ℕ → ℕ → ℕ → ℕ → ℕ
rgba r g b a = a * 16777216 + pack r g b

abbrev pub alpha : ℕ → ℕ
alpha c = c / 16777216

-- the colours of each domain: 0 ObsidianAdmin, 1 PurpleVault, 2 MintPersonal, 3 BlueWork, 4 AmberUsb, 5 RedUntrustedNet, 6 MagentaDisposable
unfoldable pub tag_colors : ℕ → TagColors
tag_colors tag =
    get_or
    (record { border = rgba 225 230 240 255; tint = rgba 18 20 24 245 }
    ∷ record { border = rgba 197 138 249 255; tint = rgba 28 18 38 242 }
    ∷ record { border = rgba 129 201 149 255; tint = rgba 16 28 20 242 }
    ∷ record { border = rgba 26 115 232 255; tint = rgba 15 23 36 242 }
    ∷ record { border = rgba 250 144 62 255; tint = rgba 34 22 14 242 }
    ∷ record { border = rgba 217 48 37 255; tint = rgba 36 14 14 242 }
    ∷ record { border = rgba 245 56 160 255; tint = rgba 34 14 26 242 }
    ∷ [])
    tag (record { border = 0; tint = 0 })

-- the colour over the window: its domain's tint, or a dark one
unfoldable pub bg_color : TagColors → Bool → ℕ
bg_color c tint = cond tint c.tint (rgba 20 22 26 240)

-- ---- one pixel

-- one channel, s at alpha a over d, by 256 as the Rust divides
unfoldable pub blend_ch : ℕ → ℕ → ℕ → ℕ
blend_ch a s d = (s * a + d * (255 - a)) / 256

-- the colour src at alpha a over the pixel dst; the top byte becomes FF
unfoldable pub blend_pixel : ℕ → ℕ → ℕ → ℕ
blend_pixel dst src a = rgba (blend_ch a (red src) (red dst)) (blend_ch a (green src) (green dst)) (blend_ch a (blue src) (blue dst)) 255

-- the window's pixel p: under x-ray the border's colour at 96 over it, and no tint
unfoldable pub window_pix : ℕ → Bool → Bool → ℕ → ℕ
window_pix tag tint xray p =
    let bg = bg_color (tag_colors tag) tint in
    cond xray (blend_pixel p (tag_colors tag).border 96) (blend_pixel p bg (alpha bg))

-- the border is at least 4 thick
unfoldable pub border_px : GlassSurface → ℕ
border_px s = max s.border_thickness 4

-- row and column of the frame belong to the border or to the title bar, the first 28 rows
unfoldable pub is_security_border : GlassSurface → ℕ → ℕ → Bool
is_security_border s row col =
    let border = border_px s in
    ltb row border || leb (s.height - border) row || ltb col border || leb (s.width - border) col || ltb row 28

-- ---- the canvas

-- the frame's pixels, cut to a canvas of w by h
unfoldable pub frame_box : ℕ → ℕ → GlassSurface → IRect
frame_box w h s = intersect (record { x0 = pos s.x; y0 = pos s.y; x1 = pos (s.x + s.width); y1 = pos (s.y + s.height) }) (canvas w h)

-- a frame is painted where it ends within the canvas's width and its tag is known
unfoldable pub is_frame : ℕ → GlassSurface → ℕ → Bool
is_frame w s tag = leb tag 6 && leb (s.x + s.width) w

-- what `composite_secure_frame` does to each pixel of a canvas of w by h; row and column of the frame are counted from its corner
unfoldable pub frame_rule : (w h : ℕ) (s : GlassSurface) (tag : ℕ) (tint xray : Bool) → ℕ → ℕ → ℕ → ℕ
frame_rule w h s tag tint xray =
    boxed (frame_box w h s)
    (λ x y p.
    cond (is_frame w s tag)
    (cond (is_security_border s (y - s.y) (x - s.x)) (tag_colors tag).border (window_pix tag tint xray p))
    p)
