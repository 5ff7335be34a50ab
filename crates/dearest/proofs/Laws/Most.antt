-- No glass layer with the blur, or a greater one, needs more, whatever else stands in its block, accepted or not: its window is cut to the canvas.
use Prim.Native.Nat.{ℕ, zero, suc, ◌*◌, ◌≤◌, ◌<◌}
use mathlib.Core.Path.{◌≡◌, refl}
use mathlib.Core.Bool.{Bool, true, false, cond}
use mathlib.Core.List.{List}
use native.Mathlib.Nat.{mul-le-mul, le_trans}
use native.Mathlib.Omega.{arith}
use borrow.Author.Tests.{eqb-true, eqb-false}
use lib.Dec.{eqb}
use lib.Ieee.{Float, lt, le, eq}
use lib.Ieee.Bits.{is_true}
use Rattle.mathf.proofs.Laws.Tests.{yes}
use Rattle.mathf.proofs.Laws.Order.{le_lt, equal_le}
use Rattle.geom.specs.declared.Rect.{Rect}
use Rattle.geom.specs.declared.IRect.{IRect}
use Rattle.geom.specs.Geom.{is_empty}
use Rattle.canvas.specs.Canvas.{is_canvas}
use Rattle.canvas.proofs.Laws.Area.{canvas_is}
use Rattle.backdrop.specs.declared.GlassStyle.{GlassStyle}
use Rattle.backdrop.specs.Window.{two_point_five, nine, scale_of, cells, columns, rows, window_area, picture_bytes, glass_box, need_of}
use Rattle.backdrop.proofs.Laws.Window.{Scale, by_one, by_two, by_four, scale_is, cells_most, window_on_it}
use Rattle.block.specs.Bytes.{block_at}
use Rattle.block.specs.Fields as Fields
use Rattle.layer.specs.Layer.{style_of, needed}
use Rattle.layer.proofs.ByKind.{need_none, need_glass}
use Rattle.forecast.specs.Forecast.{scratch_of}
use Rattle.dearest.specs.Dearest.{dearest_need}

-- more pixels make no fewer cells
cells_more : {k : ℕ} (n m : ℕ) → Scale k → n ≤ m → cells n k ≤ cells m k
unfolding cells
cells_more n m by_one h = omega arith
cells_more n m by_two h = omega arith
cells_more n m by_four h = omega arith

-- a greater blur makes no more cells: p and q say that the greater one is below 2.5 and below 9, s and t the same of the other
cells_fewer : (n : ℕ) (s t p q : Bool) → (p ≡ true → s ≡ true) → (q ≡ true → t ≡ true) → cells n (cond p 1 (cond q 2 4)) ≤ cells n (cond s 1 (cond t 2 4))
unfolding cells
cells_fewer n s t true q f g = rw (f refl) (omega arith)
cells_fewer n true t false true f g = omega arith
cells_fewer n false t false true f g = rw (g refl) (omega arith)
cells_fewer n true t false false f g = omega arith
cells_fewer n false true false false f g = omega arith
cells_fewer n false false false false f g = omega arith

below : (x y z : Float) → le x y ≡ true → lt y z ≡ true → lt x z ≡ true
below x y z e f = is_true (lt x z) (le_lt x y z (yes e) (yes f))

module _ (w h : ℕ) where
  -- and so needs no more
  pub need_falls : (x y : Float) → le x y ≡ true → dearest_need w h y ≤ dearest_need w h x
  unfolding dearest_need scale_of
  need_falls x y e =
      let fewer : (n : ℕ) → cells n (scale_of y) ≤ cells n (scale_of x) =
      λ n. cells_fewer n (lt x two_point_five) (lt x nine) (lt y two_point_five) (lt y nine) (below x y two_point_five e) (below x y nine e) in
      let m : cells w (scale_of y) * cells h (scale_of y) ≤ cells w (scale_of x) * cells h (scale_of x) = mul-le-mul (fewer w) (fewer h) in
      omega arith

  picture_most : (rect : Rect) (style : GlassStyle) (table : List Float) → picture_bytes w h rect style table ≤ dearest_need w h style.blur
  unfolding picture_bytes dearest_need
  picture_most rect style table =
      let a = window_area w h rect style table in
      let k = scale_of style.blur in
      let o = window_on_it w h rect style table in
      let s = scale_is style.blur in
      let m : cells (columns a) k * cells (rows a) k ≤ cells w k * cells h k =
      mul-le-mul (cells_more (columns a) w s (omega (arith, o.in_width))) (cells_more (rows a) h s (omega (arith, o.in_height))) in
      omega arith

  panel_most : (clip : IRect) (rect : Rect) (style : GlassStyle) (table : List Float) → need_of w h clip rect style table ≤ dearest_need w h style.blur
  unfolding need_of
  panel_most clip rect style table = go (is_canvas w h (w * h)) (is_empty (glass_box w h clip rect))
    where
      go : (s t : Bool) → cond s (cond t 0 (picture_bytes w h rect style table)) 0 ≤ dearest_need w h style.blur
      go false t = omega arith
      go true true = omega arith
      go true false = picture_most rect style table

  -- with a blur that is not less
  pub most_from : (blur : Float) (b : List ℕ) → Fields.kind b ≡ 4 → le blur (Fields.blur b) ≡ true → needed w h b ≤ dearest_need w h blur
  unfolding style_of
  most_from blur b k e =
      rw (← need_glass w h b k)
      (le_trans (panel_most (Fields.clip b) (Fields.rect b) (style_of b) (Fields.entries b)) (need_falls blur (Fields.blur b) e))

  -- THE DEAREST: with that blur, as a number
  pub most : (blur : Float) (b : List ℕ) → Fields.kind b ≡ 4 → eq (Fields.blur b) blur ≡ true → needed w h b ≤ dearest_need w h blur
  most blur b k e = most_from blur b k (is_true (le blur (Fields.blur b)) (equal_le (Fields.blur b) blur (yes e)))

  -- it is no large number
  pub cells_fit : is_canvas w h (w * h) ≡ true → {k : ℕ} → Scale k → cells w k * cells h k ≤ 4096 * 4096
  cells_fit right {k} s =
      let i = canvas_is w h (w * h) right in
      let p : cells w k ≤ 4096 = omega (arith, cells_most w s, i.narrow) in
      let q : cells h k ≤ 4096 = omega (arith, cells_most h s, i.low) in
      mul-le-mul p q

  -- three bytes a pixel are always enough
  pub pixels_suffice : (blur : Float) → dearest_need w h blur ≤ 3 * (w * h)
  unfolding dearest_need
  pixels_suffice blur =
      let s = scale_is blur in
      let m : cells w (scale_of blur) * cells h (scale_of blur) ≤ w * h = mul-le-mul (cells_most w s) (cells_most h s) in
      omega arith

  pub need_fits : (blur : Float) → is_canvas w h (w * h) ≡ true → dearest_need w h blur ≤ 50331648
  unfolding dearest_need
  need_fits blur right = omega (arith, cells_fit right (scale_is blur))

  -- so no rundown all of whose panels have that blur or a greater one needs more, whatever else it has
  pub most_of_all : (blur : Float) (buf : List ℕ) (n : ℕ) → ((i : ℕ) → i < n → Fields.kind (block_at buf i) ≡ 4 → le blur (Fields.blur (block_at buf i)) ≡ true)
      → scratch_of w h buf n ≤ dearest_need w h blur
  unfolding scratch_of
  most_of_all blur buf zero f = omega arith
  most_of_all blur buf (suc n) f =
      let b = block_at buf n in
      omega (arith, most_of_all blur buf n (λ i l. f i (omega arith)), go (eqb (Fields.kind b) 4) refl)
    where
      go : (t : Bool) → eqb (Fields.kind (block_at buf n)) 4 ≡ t → needed w h (block_at buf n) ≤ dearest_need w h blur
      go true e = let k = eqb-true (Fields.kind (block_at buf n)) 4 e in most_from blur (block_at buf n) k (f n (omega arith) k)
      go false e = rw (← need_none (Fields.kind (block_at buf n)) w h (block_at buf n) refl (eqb-false (Fields.kind (block_at buf n)) 4 e)) (omega arith)
