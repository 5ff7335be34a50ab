-- 01's stain: the pixels that a hidden source's pixels may have reached. The field calls this taint tracking. A layer is seen as what the stain looks at:
-- its sort, with the source that it copies or the window that it blurs, and its box. Pixel k of a canvas of w columns stands in column k % w of row k / w.
use Rattle.std.specs.Prelude.{Bool, false, not, ◌&&◌, ◌||◌, cond, ℕ, zero, suc, ◌/◌, ◌%◌, eqb, pos}
use mathlib.Core.List.{List, foldl}
use Rattle.geom.specs.declared.IRect.{IRect}
use Rattle.geom.specs.Geom.{holds}

-- pixel k lies in the rectangle
abbrev pub inside : ℕ → IRect → ℕ → Bool
inside w r k = holds r (pos (k % w)) (pos (k / w))

pub data Sort : Type 0 where
  -- fill, stroke, shadow, frame: they read no source, and of the canvas no pixel but the one that they paint
  plain : Sort
  -- a copy of the source with this number; true where it is an exact copy
  copy : ℕ → Bool → Sort
  -- glass, with its window
  glass : IRect → Sort

pub record Layer : Type 0 where
  pub sort : Sort
  pub box : IRect

-- a set of pixels
abbrev pub Stain : Type 0
Stain = ℕ → Bool

-- the empty one
unfoldable pub clean : Stain
clean k = false

-- a pixel below n is in the set
unfoldable pub nonempty : ℕ → Stain → Bool
nonempty zero σ = false
nonempty (suc n) σ = σ n || nonempty n σ

-- the window meets the stain on a canvas of n pixels
unfoldable pub meets : (w n : ℕ) → IRect → Stain → Bool
meets w n win σ = nonempty n (λ j. inside w win j && σ j)

-- the stain after a layer, where s is the hidden source and σ the stain before: a copy of s adds its box, an exact copy of another source removes its box,
-- glass whose window meets the stain adds its box, and the rest change nothing
unfoldable pub after : (w n s : ℕ) (sort : Sort) (box : IRect) → Stain → Stain
after w n s plain box σ k = σ k
after w n s (copy t exact) box σ k = cond (eqb t s) (σ k || inside w box k) (cond exact (σ k && not (inside w box k)) (σ k))
after w n s (glass win) box σ k = cond (meets w n win σ) (σ k || inside w box k) (σ k)

-- the stain after the layers, the lowest first
unfoldable pub stain : (w n s : ℕ) → List Layer → Stain → Stain
stain w n s ls σ = foldl (λ σ l. after w n s l.sort l.box σ) σ ls
