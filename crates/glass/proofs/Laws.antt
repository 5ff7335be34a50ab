-- The laws of `glass`: outside its box nothing changes, and the box lies in the window; where a slice is too short nothing changes.
-- Other crates cite them as `Rattle.glass.proofs.Laws`.
use Prim.Native.Nat.{ℕ, zero, suc, ◌+◌, ◌-◌, ◌/◌, ◌%◌, ◌≤◌, ◌<◌}
use mathlib.Core.Path.{◌≡◌, refl, sym, ◌∙◌, subst}
use mathlib.Core.Bool.{Bool, true, false, cond, ◌&&◌, ◌||◌}
use mathlib.Core.List.{List}
use native.Mathlib.Decide.{dec_lt}
use native.Mathlib.Omega.{arith}
use lib.Dec.{T}
use lib.IntN.{ℤ, pos, negsuc, ◌+ℤ◌, ◌-ℤ◌}
use lib.Signed.{le_z, lt_z}
use lib.Ieee.{Float, lt}
use lib.ListN.{length, get_or}
use borrow.Author.Tests.{lt-ltb, le-ltb, le-leb, ltb-true, leb-true}
use Rattle.mathf.specs.Real as Real
use Rattle.geom.specs.declared.Rect.{Rect}
use Rattle.geom.specs.declared.IRect.{IRect}
use Rattle.geom.specs.Geom.{two, canvas, intersect, spans, holds, outer_pixels}
use Rattle.geom.proofs.Laws.{both_true, holds_intersect}
use Rattle.canvas.specs.Canvas.{is_canvas, box_on}
use Rattle.canvas.proofs.Laws.Pixels as Pixels
use Rattle.backdrop.specs.declared.GlassStyle.{GlassStyle}
use Rattle.backdrop.specs.Window.{margin, grown, window_of, glass_box, need_of}
use Rattle.glass.specs.Glass.{glass_rule, glassed, has_room, glassed_in, scratch_used, picture_in, Kept}
use Rattle.glass.proofs.Signs.{margin_out}

-- ---- a larger rectangle

lower : (a : ℤ) (n u : ℕ) → le_z a (pos u) ≡ true → le_z (a -ℤ pos n) (pos u) ≡ true
lower (pos a) zero u h = le-leb (a + 0) u (omega (arith, leb-true a u h))
lower (pos a) (suc n) u h = elim (dec_lt a (suc n)) [
  | yes k ↦ simp (lt-ltb a (suc n) k)
  | no k ↦ let g : suc n ≤ a = omega arith in simp (le-ltb a (suc n) g) (le-leb (a - suc n) u (omega (arith, leb-true a u h)))
]
lower (negsuc a) zero u h = let some : 0 < suc a = omega arith in simp (lt-ltb 0 (suc a) some)
lower (negsuc a) (suc n) u h = refl

higher : (b : ℤ) (n u : ℕ) → lt_z (pos u) b ≡ true → lt_z (pos u) (b +ℤ pos n) ≡ true
higher (pos b) n u h = lt-ltb u (b + n) (omega (arith, ltb-true u b h))
higher (negsuc b) n u h = absurd (subst T (sym h) tt)

spans_out : (a b : ℤ) (n u : ℕ) → spans a b (pos u) ≡ true → spans (a -ℤ pos n) (b +ℤ pos n) (pos u) ≡ true
unfolding spans
spans_out a b n u h = let s = both_true (le_z a (pos u)) (lt_z (pos u) b) h in rw (lower a n u s.0, higher b n u s.1)

grown_holds : (r : IRect) (n x y : ℕ) → holds r (pos x) (pos y) ≡ true → holds (grown r (pos n)) (pos x) (pos y) ≡ true
unfolding holds grown
grown_holds r n x y h =
    let s = both_true (spans r.x0 r.x1 (pos x)) (spans r.y0 r.y1 (pos y)) h in
    rw (spans_out r.x0 r.x1 n x s.0, spans_out r.y0 r.y1 n y s.1)

-- a box holds a pixel only where the panel and the canvas do
nothing : (x y : ℕ) → holds (canvas 0 0) (pos x) (pos y) ≡ true → ⊥
unfolding holds spans
nothing x y e = omega (arith, ltb-true x 0 (both_true (le_z (pos 0) (pos x)) (lt_z (pos x) (pos 0)) (both_true (spans (pos 0) (pos 0) (pos x)) (spans (pos 0) (pos 0) (pos y)) e).0).1)

on_both : (w h : ℕ) (clip r : IRect) (x y : ℕ) → holds (box_on w h clip r) (pos x) (pos y) ≡ true → (holds r (pos x) (pos y) ≡ true) × (holds (canvas w h) (pos x) (pos y) ≡ true)
unfolding box_on
on_both w h clip r x y e =
    let s = both_true (holds r (pos x) (pos y)) (holds (intersect clip (canvas w h)) (pos x) (pos y)) (sym (holds_intersect r (intersect clip (canvas w h)) (pos x) (pos y)) ∙ e) in
    let t = both_true (holds clip (pos x) (pos y)) (holds (canvas w h) (pos x) (pos y)) (sym (holds_intersect clip (canvas w h) (pos x) (pos y)) ∙ s.1) in
    (s.0, t.1)

in_box : (w h : ℕ) (clip : IRect) (rect : Rect) (x y : ℕ) → holds (glass_box w h clip rect) (pos x) (pos y) ≡ true
    → (holds (outer_pixels rect) (pos x) (pos y) ≡ true) × (holds (canvas w h) (pos x) (pos y) ≡ true)
unfolding glass_box
in_box w h clip rect x y = go (lt rect.w two || lt rect.h two)
  where
    go : (t : Bool) → holds (cond t (canvas 0 0) (box_on w h clip (outer_pixels rect))) (pos x) (pos y) ≡ true
        → (holds (outer_pixels rect) (pos x) (pos y) ≡ true) × (holds (canvas w h) (pos x) (pos y) ≡ true)
    go true e = absurd (nothing x y e)
    go false e = on_both w h clip (outer_pixels rect) x y e

-- ---- the laws

module _ (w h : ℕ) (clip : IRect) (rect : Rect) (style : GlassStyle) (table : List Float) where
  -- the box lies in the window, unless the blur is below zero
  pub inside : lt style.blur Real.zero ≡ false → (x y : ℕ) → holds (glass_box w h clip rect) (pos x) (pos y) ≡ true → holds (window_of w h rect style table) (pos x) (pos y) ≡ true
  unfolding window_of
  inside b x y e =
      let i = in_box w h clip rect x y e in
      let m = margin_out style table b in
      holds_intersect (grown (outer_pixels rect) (margin style table)) (canvas w h) (pos x) (pos y)
      ∙ rw (m.1, grown_holds (outer_pixels rect) m.0 x y i.0, i.1)

  -- the canvas keeps its length
  pub long : (cv : List ℕ) → length (glassed w h clip rect style table cv) ≡ length cv
  unfolding glassed
  long cv = Pixels.length_painted_on w h _ cv

  -- outside the box nothing changes
  pub outside : (cv : List ℕ) (k : ℕ) → k < length cv → holds (glass_box w h clip rect) (pos (k % w)) (pos (k / w)) ≡ false
      → get_or (glassed w h clip rect style table cv) k 0 ≡ get_or cv k 0
  unfolding glassed glass_rule
  outside cv k l out = Pixels.outside w h (glass_box w h clip rect) _ cv k l out

  -- with slices that are too short the canvas stays
  pub no_room : (la lb : ℕ) (cv : List ℕ) → has_room w h clip rect style table la lb ≡ false → glassed_in w h clip rect style table la lb cv ≡ cv
  unfolding glassed_in
  no_room la lb cv e = rw e

  -- where a slice is too short no byte of either is used
  pub short_unused : (n la lb : ℕ) → has_room w h clip rect style table la lb ≡ false → scratch_used w h clip rect style table n la lb ≡ 0
  unfolding scratch_used
  short_unused n la lb e = rw e (go (is_canvas w h n) (need_of w h clip rect style table))
    where
      go : (t : Bool) (m : ℕ) → cond (t && false) m 0 ≡ 0
      go true m = refl
      go false m = refl

  -- where no byte is used the first slice stays
  pub unused : (cv a : List ℕ) (lb : ℕ) → scratch_used w h clip rect style table (length cv) (length a) lb ≡ 0 → picture_in w h clip rect style table cv a lb ≡ a
  unfolding picture_in
  unused cv a lb e = rw e

-- and so does the second
pub kept_none : {n : ℕ} {l l' : List ℕ} → n ≡ 0 → Kept n l l' → l' ≡ l
kept_none {n} e k = rw e at k.rest
