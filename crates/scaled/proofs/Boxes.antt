-- The box that the code has found, by its test for a pixel.
use Prim.Native.Nat.{ℕ}
use mathlib.Core.Path.{◌≡◌}
use mathlib.Core.Bool.{true, false}
use mathlib.Core.List.{List}
use lib.ListN.{length}
use Rattle.geom.specs.declared.IRect.{IRect}
use Rattle.geom.specs.Geom.{is_empty}
use Rattle.canvas.specs.declared.Area.{Area}
use Rattle.canvas.specs.Canvas.{painted_on, boxed, box_on, area_on, area_box}
use Rattle.canvas.proofs.Laws.Area.{OnCanvas, area_none, area_some, area_bare, area_full}

module _ (w h : ℕ) (clip r : IRect) (cv : List ℕ) {a : Area} (e : a ≡ area_on (length cv) w h clip r) where
  -- it has none: the layer changes nothing
  pub box_none : (F : ℕ → ℕ → ℕ → ℕ) → is_empty (area_box a) ≡ true → cv ≡ painted_on w h (boxed (box_on w h clip r) F) cv
  box_none F t = area_none w h clip r cv F (area_bare (length cv) w h clip r (rw e at t))

  -- it has one, and lies on the canvas
  pub box_some : is_empty (area_box a) ≡ false → OnCanvas w h clip r cv a
  box_some f = rw e (area_some w h clip r cv (area_full (length cv) w h clip r (rw e at f)))
