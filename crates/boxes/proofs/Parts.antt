-- A layer's box by its kind.
use mathlib.Core.Path.{◌≡◌, refl, sym, ap, ◌∙◌}
use mathlib.Core.Bool.{Bool, true, false, cond, not, ◌||◌}
use mathlib.Core.List.{List}
use Prim.Native.Nat.{ℕ, ◌+◌, ◌*◌, ◌≤◌, ◌<◌, min, max}
use native.Mathlib.Omega.{arith}
use borrow.Author.Tests.{le-leb, lt-leb}
use lib.Ieee.{lt}
use lib.IntN.{ℤ, pos, negsuc, nat_abs}
use Rattle.geom.specs.declared.IRect.{IRect}
use Rattle.geom.specs.Geom.{two, canvas, intersect, is_empty, outer_pixels}
use Rattle.geom.proofs.Laws.{box, low as raised, clip, cut_sides, holds_none, holds_first, holds_intersect}
use Rattle.canvas.specs.declared.Area.{Area}
use Rattle.canvas.specs.Canvas.{is_canvas, box_on, area_on}
use Rattle.frame.specs.Frame.{frame_box}
use Rattle.backdrop.specs.Window.{area_of, glass_box}
use Rattle.std.specs.Prelude.{Option}
use Rattle.block.specs.declared.Kind.{Kind}
use Rattle.block.specs.Fields as Fields
use Rattle.layer.specs.Layer.{kind_of, box_by, surface_of}
use Rattle.boxes.specs.Boxes.{box_area}
use Rattle.boxes.proofs.Laws.{box_is}

-- ---- a box under its clip

pub area_is : (w h n : ℕ) (clip r : IRect) → is_canvas w h n ≡ true → area_on n w h clip r ≡ area_of (box_on w h clip r)
unfolding area_on area_of
area_is w h n clip r e = rw e (go (is_empty b))
  where
    b : IRect
    b = box_on w h clip r

    full : Area
    full = record { x0 = nat_abs b.x0; y0 = nat_abs b.y0; x1 = nat_abs b.x1; y1 = nat_abs b.y1 }

    none : Area
    none = record { x0 = 0; y0 = 0; x1 = 0; y1 = 0 }

    go : (t : Bool) → cond (not t) full none ≡ cond t none full
    go true = refl
    go false = refl

pub area_none : (r : IRect) → is_empty r ≡ true → area_of r ≡ area_of (canvas 0 0)
unfolding area_of is_empty
area_none r e = rw e refl

-- nothing under a clip is nothing
pub cut_none : (w h : ℕ) (clip : IRect) → area_of (box_on w h clip (canvas 0 0)) ≡ area_of (canvas 0 0)
unfolding box_on is_empty
cut_none w h clip = area_none b (go (is_empty b) refl)
  where
    b : IRect
    b = intersect (canvas 0 0) (intersect clip (canvas w h))

    go : (t : Bool) → is_empty b ≡ t → is_empty b ≡ true
    go true e = e
    go false e =
        let f : true ≡ false = sym (holds_first b e) ∙ holds_intersect (canvas 0 0) _ b.x0 b.y0 ∙ rw (holds_none (canvas 0 0) refl b.x0 b.y0) refl in
        e ∙ sym f

-- four sides that are 0
pub no_area : (a : Area) → (a.x0 ≡ 0) × ((a.y0 ≡ 0) × ((a.x1 ≡ 0) × (a.y1 ≡ 0))) → a ≡ area_of (canvas 0 0)
unfolding area_of is_empty
no_area a e = λ i. record { x0 = e.0 i; y0 = e.1.0 i; x1 = e.1.1.0 i; y1 = e.1.1.1 i }

-- ---- by the kind

-- a panel that is painted, or none
pub panel_box : (w h : ℕ) (b : List ℕ) → area_of (box_on w h (Fields.clip b) (cond (lt (Fields.rect b).w two || lt (Fields.rect b).h two) (canvas 0 0) (outer_pixels (Fields.rect b)))) ≡ area_of (glass_box w h (Fields.clip b) (Fields.rect b))
unfolding glass_box
panel_box w h b = go (lt (Fields.rect b).w two || lt (Fields.rect b).h two)
  where
    go : (t : Bool) → area_of (box_on w h (Fields.clip b) (cond t (canvas 0 0) (outer_pixels (Fields.rect b)))) ≡ area_of (cond t (canvas 0 0) (box_on w h (Fields.clip b) (outer_pixels (Fields.rect b))))
    go true = cut_none w h (Fields.clip b)
    go false = refl

-- the box of a block of a kind, on a canvas
pub of_kind : (κ : Option Kind) (w h : ℕ) (table b : List ℕ) → is_canvas w h (w * h) ≡ true → kind_of (Fields.kind b) ≡ κ → area_of (box_by κ w h table b) ≡ box_area w h table b
of_kind κ w h table b e k = rw (← k) (sym (box_is w h table b e))

-- the whole canvas under a clip is what the clip lets through
clip-most : (z : ℤ) (n : ℕ) → clip z n ≤ n
clip-most (pos k) n = omega arith
clip-most (negsuc k) n = omega arith

kept : (w l p : ℕ) → p ≤ w → max (min w (max p l)) (max 0 l) ≡ max p l
kept w l p h = omega arith

pub whole_clip : (w h : ℕ) (r : IRect) → box_on w h r (canvas w h) ≡ intersect r (canvas w h)
unfolding box_on
whole_clip w h r =
    let l : ℕ = max (raised r.x0) 0 in
    let t : ℕ = max (raised r.y0) 0 in
    let x = kept w l (clip r.x1 w) (clip-most r.x1 w) in
    let y = kept h t (clip r.y1 h) (clip-most r.y1 h) in
    let x0 : max 0 l ≡ l = omega arith in
    let y0 : max 0 t ≡ t = omega arith in
    let i = cut_sides r 0 0 w h in
    rw i (cut_sides (canvas w h) l t (max (clip r.x1 w) l) (max (clip r.y1 h) t) ∙ rw (x, y, x0, y0) refl)

-- ---- a frame

module _ (x0 y0 x1 y1 : ℕ) where
  pub narrow : x1 ≤ x0 → area_of (canvas 0 0) ≡ area_of (box x0 y0 (max x1 x0) (max y1 y0))
  unfolding area_of is_empty
  narrow h = let e : max x1 x0 ≤ x0 = omega arith in simp (le-leb (max x1 x0) x0 e)

  pub low : x0 < x1 → y1 ≤ y0 → area_of (canvas 0 0) ≡ area_of (box x0 y0 (max x1 x0) (max y1 y0))
  unfolding area_of is_empty
  low g h = let e : max y1 y0 ≤ y0 = omega arith in let f : x0 < max x1 x0 = omega arith in simp (lt-leb (max x1 x0) x0 f, le-leb (max y1 y0) y0 e)

  pub some : x0 < x1 → y0 < y1 → record { x0 = x0; y0 = y0; x1 = x1; y1 = y1 } ≡ area_of (box x0 y0 (max x1 x0) (max y1 y0))
  unfolding area_of is_empty
  some g h =
      let e : max x1 x0 ≡ x1 = omega arith in
      let f : max y1 y0 ≡ y1 = omega arith in
      rw (e, f) (simp (lt-leb x1 x0 g, lt-leb y1 y0 h))

pub frame_sides : (w h : ℕ) (b : List ℕ) (x y wd ht x1 y1 : ℕ) → x ≡ Fields.left b → y ≡ Fields.top b → wd ≡ Fields.width b → ht ≡ Fields.height b → x1 ≡ min (x + wd) w → y1 ≡ min (y + ht) h
    → area_of (box x y (max x1 x) (max y1 y)) ≡ area_of (frame_box w h (surface_of b))
unfolding frame_box surface_of
frame_sides w h b x y wd ht x1 y1 p q r s t u =
    let at : (n : ℕ) → max n 0 ≡ n = λ n. omega arith in
    let e : intersect (box x y (x + wd) (y + ht)) (canvas w h) ≡ box x y (max x1 x) (max y1 y) = cut_sides (box x y (x + wd) (y + ht)) 0 0 w h ∙ rw (at x, at y, t, u) refl in
    let f : intersect (box x y (x + wd) (y + ht)) (canvas w h) ≡ frame_box w h (surface_of b) = rw (p, q, r, s) refl in
    ap area_of (sym e ∙ f)
