-- The laws of the shadow: outside its box nothing changes.
use Prim.Native.Nat.{ℕ, ◌/◌, ◌%◌, ◌<◌}
use mathlib.Core.Path.{◌≡◌}
use mathlib.Core.Bool.{true, false}
use mathlib.Core.List.{List}
use lib.IntN.{pos}
use lib.ListN.{length, get_or}
use Rattle.geom.specs.declared.Rect.{Rect}
use Rattle.geom.specs.declared.IRect.{IRect}
use Rattle.geom.specs.Geom.{holds}
use Rattle.canvas.specs.Canvas.{painted_on}
use Rattle.canvas.proofs.Laws.Pixels as Pixels
use Rattle.canvas.proofs.Laws.Layer.{layer-off}
use Rattle.shadow.specs.declared.Shadow.{Shadow}
use Rattle.shadow.specs.Shadow.{alphas, no_shadow, shadow_box, held, shadow_pix, shadow_rule}

-- the rule of a pixel of the box b
abbrev pub shade : Rect → Shadow → IRect → ℕ → ℕ → ℕ → ℕ
shade rect k b = shadow_pix (alphas k.color.a) rect (held rect k)

module _ (w h : ℕ) (clip : IRect) (rect : Rect) (k : Shadow) where
  -- where there is no shadow
  pub shadow_none : (cv : List ℕ) → no_shadow k.blur k.color ≡ true → cv ≡ painted_on w h (shadow_rule w h clip rect k) cv
  unfolding shadow_rule
  shadow_none cv e = layer-off w h (no_shadow k.blur k.color) (shade rect k) cv (shadow_box w h clip rect k.blur) e

  -- outside the box nothing changes
  pub outside : (cv : List ℕ) (i : ℕ) → i < length cv → holds (shadow_box w h clip rect k.blur) (pos (i % w)) (pos (i / w)) ≡ false
      → get_or (painted_on w h (shadow_rule w h clip rect k) cv) i 0 ≡ get_or cv i 0
  unfolding shadow_rule
  outside cv i = Pixels.outside w h (shadow_box w h clip rect k.blur) _ cv i
