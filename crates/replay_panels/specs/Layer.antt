-- A recorded box pass, frame or glass panel: which words it takes.
use Rattle.std.specs.Prelude.{Bool, cond, List, ℕ, zero, suc, ◌+◌, ◌*◌, ◌/◌, ◌%◌, eqb, pos, get_or, set, replicate, Float}
use Rattle.std.specs.Float.{binary32}
use Rattle.std.specs.Float.Ieee.{of_int, add, mul}
use Rattle.mathf.specs.Real as Real
use Rattle.color.specs.Color.{red, green, blue, pack}
use Rattle.canvas.specs.Rows.{map_row}
use Rattle.canvas.specs.Canvas.{painted_on}
use Rattle.color.specs.declared.Color.{Color}
use Rattle.backdrop.specs.declared.GlassStyle.{GlassStyle}
use Rattle.boxblur.specs.Refuse.{after_h, after_v}
use Rattle.frame.specs.declared.GlassSurface.{GlassSurface}
use Rattle.frame.specs.Frame.{frame_rule}
use Rattle.glass.specs.Glass.{glassed_in}
use Rattle.replay_panels.specs.declared.Painter.{Painter}
use Rattle.replay_panels.specs.declared.Painter.TheVariants.{Rows, Columns, Frame, Panel}
use Rattle.records.specs.Record.{word, real, clip, rect, pixel, recorded}

-- ---- a box pass over the channels of 64 pixels

-- a pixel's channel: 0 red, 1 green, else blue
unfoldable pub channel : ℕ → ℕ → ℕ
channel p ch = cond (eqb ch 0) (red p) (cond (eqb ch 1) (green p) (blue p))

-- the channels of the pixels, three bytes each
unfoldable pub channels : List ℕ → List ℕ
channels px = map_row (λ k b. channel (get_or px (k / 3) 0) (k % 3)) (replicate 192 0)

-- the pixels px with these channels instead
unfoldable pub stored : List ℕ → List ℕ → List ℕ
stored bytes px = map_row (λ i p. pack (get_or bytes (i * 3) 0) (get_or bytes (i * 3 + 1) 0) (get_or bytes (i * 3 + 2) 0)) px

-- what the passes make of the pixels px
unfoldable pub pass_h : List ℕ → List ℕ → List ℕ
pass_h rec px = stored (after_h (channels px) (replicate 192 0) (word rec 1) (word rec 2) (word rec 7)) px

unfoldable pub pass_v : List ℕ → List ℕ → List ℕ
pass_v rec px = stored (after_v (channels px) (replicate 192 0) (word rec 1) (word rec 2) (word rec 7)) px

-- ---- a frame on a canvas of 640 pixels

unfoldable pub window : List ℕ → GlassSurface
window rec = record { x = word rec 7; y = word rec 8; width = word rec 9; height = word rec 10; border_thickness = word rec 11 }

-- what the frame makes of the canvas px: bit 0 of word 13 is the tint, bit 1 x-ray
unfoldable pub framed : List ℕ → List ℕ → List ℕ
framed rec px =
    let w = word rec 1 in
    let h = word rec 2 in
    painted_on w h (frame_rule w h (window rec) (word rec 12 % 256) (eqb (word rec 13 % 2) 1) (eqb (word rec 13 / 2 % 2) 1)) px

-- the last 64 of 640 pixels
unfoldable pub last : List ℕ → List ℕ
last px = map_row (λ i p. get_or px (576 + i) 0) (replicate 64 0)

-- ---- a glass panel on a canvas of 64 pixels

-- entry i of its table
unfoldable pub entry : List ℕ → ℕ → Float
entry rec i = add binary32 (real rec 18) (mul binary32 (real rec 19) (of_int binary32 (pos i)))

-- a table of zeros with the first n entries put in, and the whole table: its last entry is 0
unfoldable pub entries : List ℕ → ℕ → List Float
entries rec zero = replicate 33 Real.zero
entries rec (suc n) = set (entries rec n) n (entry rec n)

abbrev pub table : List ℕ → List Float
table rec = entries rec 32

-- the tint, its alpha in the top byte
unfoldable pub tint : List ℕ → Color
tint rec = let c = word rec 13 in record { r = red c; g = green c; b = blue c; a = c / 0x100_0000 }

unfoldable pub style : List ℕ → GlassStyle
style rec =
    record {
      radius = real rec 11;
      blur = real rec 12;
      tint = tint rec;
      saturation = real rec 14;
      brightness = real rec 15;
      bezel = real rec 16;
      spec = real rec 17;
    }

-- what the panel makes of the canvas px, with 192 bytes of scratch in either slice
unfoldable pub glazed : List ℕ → List ℕ → List ℕ
glazed rec px = glassed_in (word rec 1) (word rec 2) (clip rec) (rect rec) (style rec) (table rec) 192 192 px

-- ---- the replay

-- n pixels: the first is word 21, and they grow by word 22
unfoldable pub pixels : ℕ → List ℕ → List ℕ
pixels n rec = map_row (λ i p. pixel (word rec 21) (word rec 22) i) (replicate n 0)

-- by the painter's number: 0 the pass along rows, 1 along columns, 2 the frame, else the panel
abbrev pub painter : ℕ → Painter
painter number = cond (eqb number 0) Rows (cond (eqb number 1) Columns (cond (eqb number 2) Frame Panel))

-- the pixels to be compared, by the painter's number: 0 the pass along rows, 1 along columns, 2 the frame, else the panel
unfoldable pub made : List ℕ → List ℕ
made rec =
    cond (eqb (word rec 0) 0) (pass_h rec (pixels 64 rec))
    (cond (eqb (word rec 0) 1) (pass_v rec (pixels 64 rec))
    (cond (eqb (word rec 0) 2) (last (framed rec (pixels 640 rec)))
    (glazed rec (pixels 64 rec))))

-- they are what the Rust left
unfoldable pub replayed : List ℕ → Bool
replayed rec = recorded rec (made rec) 64
