-- `line_sides`: a row whose two ends are lent, one after the other; between them it stays.
use Prim.Native.Nat.{ℕ, ◌+◌, ◌-◌, ◌≤◌, ◌<◌}
use mathlib.Core.Path.{◌≡◌, refl, sym, ap, ◌∙◌}
use mathlib.Core.Bool.{Bool, cond, not, ◌&&◌}
use mathlib.Core.List.{List, ◌++◌}
use native.Mathlib.Omega.{arith}
use lib.Dec.{ltb, leb}
use lib.ListN.{length, take, drop, length-take}
use lib.Seq.{length-take-le}
use lib.Ieee.{Float}
use borrow.Author.Tests.{lt-ltb, le-ltb, le-leb, lt-leb}
use Rattle.geom.specs.declared.Rect.{Rect}
use Rattle.canvas.specs.Rows.{map_row}
use Rattle.canvas.proofs.Laws.Rows.{Rowed, map_row_same, rowed_end, rowed_skip}
use Rattle.canvas.proofs.Laws.Spans.{back, rowed_head, rowed_span}
use Rattle.edge.proofs.Laws.{spans_held}
use Rattle.edge.specs.declared.Middle.{Middle}
use Rattle.stroke.specs.Stroke as Stroke
use Rattle.stroke.specs.Private.{Between}
use Rattle.edge.proofs.Held.{starts_in, goes_on, ends_in}
use Rattle.stroke.proofs.line_sides.Goals as goal

module _ (x0 xa xb x1 : ℕ) (on : ℕ → Bool) (f : ℕ → ℕ → ℕ) (l : List ℕ)
    (left : x0 ≤ xa) (mid : xa ≤ xb) (right : xb ≤ x1) (size : x0 + length l ≡ x1) (sides : (x : ℕ) → x0 ≤ x → x < x1 → on x ≡ not (leb xa x && ltb x xb)) where
  at : ℕ → ℕ → ℕ
  at i p = cond (on (x0 + i)) (f (x0 + i) p) p

  at_left : (i p : ℕ) → x0 + i < xa → at i p ≡ f (x0 + i) p
  unfolding at
  at_left i p h = simp (sides (x0 + i) (omega arith) (omega arith), lt-leb _ _ h)

  at_mid : (i p : ℕ) → xa ≤ x0 + i → x0 + i < xb → at i p ≡ p
  unfolding at
  at_mid i p h g = simp (sides (x0 + i) (omega arith) (omega arith), le-leb _ _ h, lt-ltb _ _ g)

  at_right : (i p : ℕ) → xb ≤ x0 + i → x0 + i < x1 → at i p ≡ f (x0 + i) p
  unfolding at
  at_right i p h k = let g : xa ≤ x0 + i = omega arith in simp (sides (x0 + i) (omega arith) k, le-leb _ _ g, le-ltb _ _ h)

  both_ends : (p q : List ℕ) → p ≡ map_row (λ i v. f (x0 + i) v) (take (xa - x0) l)
      → (let r = p ++ drop (xa - x0) l in q ≡ map_row (λ i v. f (xb + i) v) (take (length r - (xb - x0)) (drop (xb - x0) r)))
      → (let r = p ++ drop (xa - x0) l in back (xb - x0) (length r) r q ≡ map_row at l)
  both_ends p q e g =
      let one : Rowed at l (p ++ drop (xa - x0) l) (xa - x0) = rowed_head (xa - x0) (omega arith) (e ∙ map_row_same _ _ _ (λ i h. sym (at_left i _ (omega (arith, length-take (xa - x0) l))))) in
      let two : Rowed at l (p ++ drop (xa - x0) l) (xb - x0) = rowed_skip (xb - x0) one (omega arith) (omega arith) (λ k v h j. at_mid k v (omega arith) (omega arith)) in
      let three = rowed_span (λ i v. f (xb + i) v) (length (p ++ drop (xa - x0) l)) two (omega (arith, two.long)) (omega arith)
      (λ k v h. let z : x0 + ((xb - x0) + k) ≡ xb + k = omega arith in at_right ((xb - x0) + k) v (omega arith) (omega (arith, two.long)) ∙ ap (λ (m : ℕ). f m v) z) g in
      rowed_end three (omega (arith, three.long))

-- the columns of the two ends, by natural numbers
by_ends : (x0 x1 : ℕ) (rect : Rect) (d : Float) (m : Middle) → Between x0 x1 rect d m
    → (x : ℕ) → x0 ≤ x → x < x1 → Stroke.on_side rect d x ≡ not (leb m.from x && ltb x m.to)
unfolding Stroke.on_side
by_ends x0 x1 rect d m E x h k = ap not (spans_held _ _ x0 x1 E.left E.right x h k)

pub returns : goal.returns
unfolding at
returns c =
    let a = c.args in
    let x1 = a.x0 + length a.dst.now in
    let M = c.requires.parts in
    let some : a.x0 ≤ x1 = omega arith in
    both_ends a.x0 a.middle.from a.middle.to x1
    (Stroke.on_side a.line.rect a.d) (λ x p. Stroke.line_pix a.line x a.y p) a.dst.now
    (starts_in _ _ a.x0 x1 a.middle some M) (goes_on _ _ a.x0 x1 a.middle some M) (ends_in _ _ a.x0 x1 a.middle some M) refl (by_ends a.x0 x1 a.line.rect a.d a.middle M)
    c.line_span.new.dst c.line_span-2.new.dst c.line_span.ensures c.line_span-2.ensures

pub slice_bounds-line_span-length : goal.slice_bounds-line_span-length
slice_bounds-line_span-length c =
    let a = c.args in
    omega (arith, goes_on _ _ a.x0 (a.x0 + length a.dst.now) a.middle (omega arith) c.requires.parts, ends_in _ _ a.x0 (a.x0 + length a.dst.now) a.middle (omega arith) c.requires.parts, length-take-le {A = ℕ})
