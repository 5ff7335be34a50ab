-- Glass goes by its window: two canvases that agree there agree afterwards in the box.
use Prim.Native.Nat.{ℕ, suc, ◌+◌, ◌*◌, ◌/◌, ◌%◌, ◌≤◌, ◌<◌}
use mathlib.Core.Path.{◌≡◌, sym, ap, ◌∙◌}
use mathlib.Core.Bool.{true, false, ◌&&◌}
use mathlib.Core.List.{List}
use native.Mathlib.Nat.{add-zero, suc-mul, mul-le-mul_right, div-eq_of_lt, mod-eq_of_lt, mul-add-mod_self_right, mul-add-div_right}
use native.Mathlib.Omega.{arith}
use lib.Dec.{leb, ltb}
use lib.IntN.{pos}
use lib.Ieee.{Float, lt}
use lib.ListN.{length, get_or}
use borrow.Author.Tests.{ltb-true}
use Rattle.mathf.specs.Real as Real
use Rattle.geom.specs.declared.Rect.{Rect}
use Rattle.geom.specs.declared.IRect.{IRect}
use Rattle.geom.specs.Geom.{canvas, holds, outer_pixels}
use Rattle.geom.proofs.Laws.{both_true, holds_intersect, holds_box}
use Rattle.canvas.specs.Canvas.{is_canvas}
use Rattle.canvas.proofs.Laws.Area.{canvas_is}
use Rattle.canvas.proofs.Laws.Pixels as Pixels
use Rattle.backdrop.specs.declared.GlassStyle.{GlassStyle}
use Rattle.backdrop.specs.Window.{grown, margin, window_of, glass_box}
use Rattle.backdrop.specs.Picture.{picture}
use Rattle.backdrop.proofs.Laws.Picture.{picture_window}
use Rattle.glass.specs.Glass.{glassed, glass_rule}
use Rattle.glass.proofs.Laws as Glass

-- a pixel of the canvas by its column and its row
column_of : (w x y : ℕ) → x < w → (y * w + x) % w ≡ x
column_of w x y h = mul-add-mod_self_right y w x ∙ mod-eq_of_lt h

row_of : (w x y : ℕ) → x < w → (y * w + x) / w ≡ y
row_of w x y h = mul-add-div_right (omega arith) y x ∙ ap (λ (i : ℕ). y + i) (div-eq_of_lt h) ∙ add-zero y

place_in : (w h x y : ℕ) → x < w → y < h → y * w + x < h * w
place_in w h x y p q = let g : suc y * w ≤ h * w = mul-le-mul_right w q in omega (arith, suc-mul y w)

module _ (w h : ℕ) (clip : IRect) (rect : Rect) (style : GlassStyle) (table : List Float) where
  -- the window lies on the canvas
  on_canvas : (x y : ℕ) → holds (window_of w h rect style table) (pos x) (pos y) ≡ true → (x < w) × (y < h)
  unfolding window_of
  on_canvas x y e =
      let s = both_true (holds (grown (outer_pixels rect) (margin style table)) (pos x) (pos y)) (holds (canvas w h) (pos x) (pos y)) (sym (holds_intersect (grown (outer_pixels rect) (margin style table)) (canvas w h) (pos x) (pos y)) ∙ e) in
      let t = both_true (leb 0 x && ltb x w) (leb 0 y && ltb y h) (sym (holds_box 0 0 w h x y) ∙ s.1) in
      (ltb-true x w (both_true (leb 0 x) (ltb x w) t.0).1, ltb-true y h (both_true (leb 0 y) (ltb y h) t.1).1)

  pub agree : (c d : List ℕ) → is_canvas w h (length c) ≡ true → length c ≡ length d → lt style.blur Real.zero ≡ false
      → ((j : ℕ) → j < length c → holds (window_of w h rect style table) (pos (j % w)) (pos (j / w)) ≡ true → get_or c j 0 ≡ get_or d j 0)
      → (k : ℕ) → k < length c → holds (glass_box w h clip rect) (pos (k % w)) (pos (k / w)) ≡ true
      → get_or (glassed w h clip rect style table c) k 0 ≡ get_or (glassed w h clip rect style table d) k 0
  unfolding glassed
  agree c d C n b e k l i =
      let m = (canvas_is w h (length c) C).size in
      let pic : picture w h rect style table c ≡ picture w h rect style table d = picture_window w h rect style table c d (λ x y v.
      let o = on_canvas x y v in
      e (y * w + x) (rw m (place_in w h x y o.0 o.1)) (rw (column_of w x y o.0, row_of w x y o.0) v)) in
      rw pic (Pixels.agree w h (glass_rule w h clip rect style table (picture w h rect style table d)) c d k n l (e k l (Glass.inside w h clip rect style table b (k % w) (k / w) i)))
