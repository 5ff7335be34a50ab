-- The laws of a panel's window: it lies on the canvas, and how many cells it makes.
use Prim.Native.Nat.{ℕ, ◌*◌, ◌≤◌, ◌<◌, max}
use mathlib.Core.Path.{◌≡◌, refl, sym, ◌∙◌}
use mathlib.Core.Bool.{Bool, true, false, cond, not, ◌&&◌, ◌||◌}
use mathlib.Core.List.{List}
use native.Mathlib.Nat.{mul-le-mul}
use native.Mathlib.Omega.{arith}
use lib.IntN.{◌+ℤ◌, ◌-ℤ◌}
use lib.Ieee.{Float, lt}
use Rattle.geom.specs.declared.Rect.{Rect}
use Rattle.geom.specs.declared.IRect.{IRect}
use Rattle.geom.specs.Geom.{two, is_empty, outer_pixels}
use Rattle.geom.proofs.Laws.{box, low, clip, cut_sides, Cut, cut_canvas, cut_again, cut_inside}
use Rattle.canvas.specs.declared.Area.{Area}
use Rattle.canvas.specs.Canvas.{is_canvas, box_on, area_on}
use Rattle.canvas.proofs.Laws.Area.{no_canvas, box_cut}
use Rattle.backdrop.specs.declared.GlassStyle.{GlassStyle}
use Rattle.backdrop.specs.Window.{grown, margin, window_of, area_of, window_area, columns, rows, two_point_five, nine, scale_of, cells, picture_bytes, glass_box, need_of}

-- ---- the scale

pub data Scale : ℕ → Type 0 where
  by_one : Scale 1
  by_two : Scale 2
  by_four : Scale 4

pub scale_is : (blur : Float) → Scale (scale_of blur)
unfolding scale_of
scale_is blur = pick (lt blur two_point_five) (lt blur nine)
  where
    pick : (s t : Bool) → Scale (cond s 1 (cond t 2 4))
    pick true t = by_one
    pick false true = by_two
    pick false false = by_four

pub scale_some : {k : ℕ} → Scale k → 1 ≤ k
scale_some by_one = omega arith
scale_some by_two = omega arith
scale_some by_four = omega arith

pub scale_most : {k : ℕ} → Scale k → k ≤ 4
scale_most by_one = omega arith
scale_most by_two = omega arith
scale_most by_four = omega arith

-- ---- the cells

-- as many as there are pixels at most, and one where there is one
pub cells_most : {k : ℕ} (n : ℕ) → Scale k → cells n k ≤ n
unfolding cells
cells_most n by_one = omega arith
cells_most n by_two = omega arith
cells_most n by_four = omega arith

pub cells_some : {k : ℕ} (n : ℕ) → Scale k → 1 ≤ n → 1 ≤ cells n k
unfolding cells
cells_some n by_one h = omega arith
cells_some n by_two h = omega arith
cells_some n by_four h = omega arith

-- ---- the window

module _ (w h : ℕ) (rect : Rect) (style : GlassStyle) (table : List Float) where
  -- its sides by natural numbers, the far ones not before the near ones
  pub window_sides : let o = outer_pixels rect in let m = margin style table in
      window_of w h rect style table
      ≡ box (low (o.x0 -ℤ m)) (low (o.y0 -ℤ m)) (max (clip (o.x1 +ℤ m) w) (low (o.x0 -ℤ m))) (max (clip (o.y1 +ℤ m) h) (low (o.y0 -ℤ m)))
  unfolding window_of grown
  window_sides =
      let o = outer_pixels rect in
      let m = margin style table in
      let at : (n : ℕ) → max n 0 ≡ n = λ n. omega arith in
      cut_sides (grown o m) 0 0 w h ∙ rw (at (low (o.x0 -ℤ m)), at (low (o.y0 -ℤ m)))

  -- it is cut to the canvas
  pub window_cut : Cut w h (window_of w h rect style table)
  unfolding window_of
  window_cut = cut_again (grown (outer_pixels rect) (margin style table)) (cut_canvas w h)

-- the sides of what was cut to the canvas lie on it
pub record OnIt (w h : ℕ) (a : Area) : Type 0 where
  pub across : a.x0 ≤ a.x1
  pub down : a.y0 ≤ a.y1
  pub in_width : a.x1 ≤ w
  pub in_height : a.y1 ≤ h

pub area_on_it : {w h : ℕ} {r : IRect} → Cut w h r → OnIt w h (area_of r)
unfolding area_of
area_on_it {w} {h} {r} c = go (is_empty r) refl
  where
    go : (t : Bool) → is_empty r ≡ t → OnIt w h (area_of r)
    go true e = rw e (record { across = omega arith; down = omega arith; in_width = omega arith; in_height = omega arith })
    go false e =
        let i = cut_inside c e in
        rw (e, c.is) (record { across = omega (arith, i.across); down = omega (arith, i.down); in_width = i.in_width; in_height = i.in_height })

pub window_on_it : (w h : ℕ) (rect : Rect) (style : GlassStyle) (table : List Float) → OnIt w h (window_area w h rect style table)
unfolding window_area
window_on_it w h rect style table = area_on_it (window_cut w h rect style table)

-- the picture's size on a canvas of at most 4096 by 4096
pub cells_room : {w h k : ℕ} {a : Area} → OnIt w h a → w ≤ 4096 → h ≤ 4096 → Scale k → cells (columns a) k * cells (rows a) k ≤ 4096 * 4096
cells_room {w} {h} {k} {a} o p q s =
    let p : cells (columns a) k ≤ 4096 = omega (arith, cells_most (columns a) s, o.in_width) in
    let q : cells (rows a) k ≤ 4096 = omega (arith, cells_most (rows a) s, o.in_height) in
    mul-le-mul p q

-- ---- the need

module _ (w h : ℕ) (clip : IRect) (rect : Rect) (style : GlassStyle) (table : List Float) where
  none : (s : Bool) → ◌≡◌ {A = ℕ} (cond s 0 0) 0
  none true = refl
  none false = refl

  -- no canvas has such sides
  pub need_wide : 4096 < w → 0 ≡ need_of w h clip rect style table
  unfolding need_of
  need_wide k = rw (no_canvas w h (w * h) (λ c. omega (arith, c.narrow)))

  pub need_high : 4096 < h → 0 ≡ need_of w h clip rect style table
  unfolding need_of
  need_high k = rw (no_canvas w h (w * h) (λ c. omega (arith, c.low)))

  pub need_small : (lt rect.w two || lt rect.h two) ≡ true → 0 ≡ need_of w h clip rect style table
  unfolding need_of glass_box is_empty
  need_small e = rw e (sym (none (is_canvas w h (w * h))))

  module _ (big : (lt rect.w two || lt rect.h two) ≡ false) where
    some : is_canvas w h (w * h) ≡ true → is_empty (box_on w h clip (outer_pixels rect)) ≡ false → (area_on (w * h) w h clip (outer_pixels rect)).x1 ≡ 0 → ⊥
    unfolding area_on
    some e f z =
        let b = box_cut w h clip (outer_pixels rect) in
        let i = cut_inside b f in
        let x : b.right ≡ 0 = rw (e, f, b.is) at z in
        omega (arith, i.across)

    -- its box is empty
    pub need_none : (area_on (w * h) w h clip (outer_pixels rect)).x1 ≡ 0 → 0 ≡ need_of w h clip rect style table
    unfolding need_of glass_box
    need_none z = rw big (go (is_canvas w h (w * h)) refl (is_empty (box_on w h clip (outer_pixels rect))) refl)
      where
        m : ℕ
        m = picture_bytes w h rect style table

        go : (s : Bool) → is_canvas w h (w * h) ≡ s → (t : Bool) → is_empty (box_on w h clip (outer_pixels rect)) ≡ t → 0 ≡ cond s (cond t 0 m) 0
        go false e t f = refl
        go true e true f = refl
        go true e false f = absurd (some e f z)

    area_off : (is_canvas w h (w * h) && not (is_empty (box_on w h clip (outer_pixels rect)))) ≡ false → (area_on (w * h) w h clip (outer_pixels rect)).x1 ≡ 0
    unfolding area_on
    area_off e = rw e

    pub need_some : ((area_on (w * h) w h clip (outer_pixels rect)).x1 ≡ 0 → ⊥) → picture_bytes w h rect style table ≡ need_of w h clip rect style table
    unfolding need_of glass_box
    need_some z = rw big (go (is_canvas w h (w * h)) refl (is_empty (box_on w h clip (outer_pixels rect))) refl)
      where
        m : ℕ
        m = picture_bytes w h rect style table

        go : (s : Bool) → is_canvas w h (w * h) ≡ s → (t : Bool) → is_empty (box_on w h clip (outer_pixels rect)) ≡ t → m ≡ cond s (cond t 0 m) 0
        go false e t f = absurd (z (area_off (rw e)))
        go true e true f = absurd (z (area_off (rw (e, f))))
        go true e false f = refl
