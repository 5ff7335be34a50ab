-- The laws of `blit_scaled`: outside its box nothing changes, and the source's top bytes do not matter.
use Prim.Native.Nat.{ℕ, ◌/◌, ◌%◌, ◌<◌}
use mathlib.Core.Path.{◌≡◌, refl, ap}
use mathlib.Core.Bool.{false}
use mathlib.Core.List.{List}
use lib.IntN.{pos}
use lib.ListN.{length, get_or}
use Rattle.color.proofs.Laws.{mix_pix_same}
use Rattle.geom.specs.declared.IRect.{IRect}
use Rattle.geom.specs.Geom.{holds, outer_pixels}
use Rattle.canvas.specs.Canvas.{painted_on, box_on}
use Rattle.canvas.proofs.Laws.Box.{boxed_alike}
use Rattle.canvas.proofs.Laws.Pixels as Pixels
use Rattle.sources.specs.declared.Sides.{Sides}
use Rattle.sources.specs.Source.{texel}
use Rattle.sources.proofs.Laws.{SameColors, texel_low}
use Rattle.scaled.specs.declared.Stretch.{Stretch}
use Rattle.scaled.specs.declared.Mask.{Mask}
use Rattle.scaled.specs.Scaled.{tap, first, next, across, sample, scaled_pix, mask_of, stretched_pix, scaled_rule}

pub outside : (w h : ℕ) (clip : IRect) (src : List ℕ) (s : Sides) (g : Stretch) (cv : List ℕ) (k : ℕ) → k < length cv
    → holds (box_on w h clip (outer_pixels g.dest)) (pos (k % w)) (pos (k / w)) ≡ false
    → get_or (painted_on w h (scaled_rule w h clip src s g) cv) k 0 ≡ get_or cv k 0
unfolding scaled_rule
outside w h clip src s g cv k l out = Pixels.outside w h (box_on w h clip (outer_pixels g.dest)) _ cv k l out

-- sources that differ in top bytes alone have one colour at every place
module _ (src src' : List ℕ) (c : SameColors src src') (s : Sides) where
  same_across : (row fx : ℕ) → across src s row fx ≡ across src' s row fx
  unfolding across
  same_across row fx =
      mix_pix_same (texel src s (first fx) row) (texel src s (next s.w fx) row) (texel src' s (first fx) row) (texel src' s (next s.w fx) row) (fx % 256)
      (texel_low src src' c s (first fx) row) (texel_low src src' c s (next s.w fx) row)

  same_sample : (fx fy : ℕ) → sample src s fx fy ≡ sample src' s fx fy
  unfolding sample
  same_sample fx fy = rw (same_across (first fy) fx, same_across (next s.h fy) fx) refl

  same_pix : (k : Mask) (x y p : ℕ) → stretched_pix src s k x y p ≡ stretched_pix src' s k x y p
  unfolding stretched_pix
  same_pix k x y p = ap (λ (t : ℕ). scaled_pix k t x y p) (same_sample (tap k.dest.x k.dest.w s.w x) (tap k.dest.y k.dest.h s.h y))

  pub same_rule : (w h : ℕ) (clip : IRect) (g : Stretch) (x y p : ℕ) → scaled_rule w h clip src s g x y p ≡ scaled_rule w h clip src' s g x y p
  unfolding scaled_rule
  same_rule w h clip g x y p = boxed_alike (box_on w h clip (outer_pixels g.dest)) _ _ x y p (rw (c.long, same_pix (mask_of g) x y p) refl)
