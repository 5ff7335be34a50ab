-- The laws of `composite_secure_frame`: outside its box nothing changes; the dark colour.
use Prim.Native.Nat.{ℕ, ◌/◌, ◌%◌, ◌<◌}
use mathlib.Core.Path.{◌≡◌, refl}
use mathlib.Core.Bool.{Bool, false}
use mathlib.Core.List.{List}
use lib.IntN.{pos}
use lib.ListN.{length, get_or}
use Rattle.geom.specs.Geom.{holds}
use Rattle.canvas.specs.Canvas.{painted_on}
use Rattle.canvas.proofs.Laws.Pixels as Pixels
use Rattle.frame.specs.declared.GlassSurface.{GlassSurface}
use Rattle.frame.specs.Frame.{bg_color, blend_ch, blend_pixel, window_pix, frame_box, frame_rule}

module _ (w h : ℕ) (s : GlassSurface) (tag : ℕ) (tint xray : Bool) where
  -- outside the box nothing changes
  pub outside : (cv : List ℕ) (k : ℕ) → k < length cv → holds (frame_box w h s) (pos (k % w)) (pos (k / w)) ≡ false
      → get_or (painted_on w h (frame_rule w h s tag tint xray) cv) k 0 ≡ get_or cv k 0
  unfolding frame_rule
  outside cv k l out = Pixels.outside w h (frame_box w h s) _ cv k l out

-- the dark colour over a black window, as the specification names it
pub dark_fill : (tag : ℕ) → window_pix tag false false 0 ≡ 0xFF121418
unfolding window_pix bg_color blend_pixel blend_ch
dark_fill tag = refl
