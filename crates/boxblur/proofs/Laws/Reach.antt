-- How far the box passes carry: p passes along each axis at radius r carry p * r cells on both axes.
use mathlib.Core.Path.{◌≡◌, refl, sym, ◌∙◌, ap}
use mathlib.Core.List.{List}
use Prim.Native.Nat.{ℕ, zero, suc, ◌+◌, ◌*◌, ◌/◌, ◌%◌, ◌≤◌, ◌<◌}
use native.Mathlib.Omega.{arith}
use lib.ListN.{get_or}
use Rattle.boxblur.specs.Box.{total, held, window, mean, table, place, row, column, byte_h, byte_v, box_h, box_v}
use Rattle.boxblur.proofs.Pass.{place_inside, row_of, column_of, channel_of}
use Rattle.boxblur.proofs.Laws.Mean.{pass_at}

-- two images of w by h cells agree at every cell at most dx columns and dy rows from (x, y)
abbrev pub Around : (w h dx dy x y : ℕ) → List ℕ → List ℕ → Type 0
Around w h dx dy x y s t =
    (x' y' ch : ℕ) → x' < w → y' < h → ch < 3 → x ≤ x' + dx → x' ≤ x + dx → y ≤ y' + dy → y' ≤ y + dy → get_or s (place w x' y' ch) 0 ≡ get_or t (place w x' y' ch) 0

-- p passes along rows and then columns
unfoldable pub passes : (w h r : ℕ) → ℕ → List ℕ → List ℕ
passes w h r zero s = s
passes w h r (suc p) s = passes w h r p (box_v w h r (box_h w h r s))

pub total_below : (n : ℕ) (f g : ℕ → ℕ) → ((j : ℕ) → j < n → f j ≡ g j) → total n f ≡ total n g
unfolding total
total_below zero f g e = refl
total_below (suc n) f g e =
    let i : total n f ≡ total n g = total_below n f g (λ j l. e j (omega arith)) in
    omega (arith, e n (omega arith))

-- a window reads places of the line at most r away
window_reads : (m r x : ℕ) (f g : ℕ → ℕ) → x < m → ((i : ℕ) → i < m → x ≤ i + r → i ≤ x + r → f i ≡ g i) → window m r f x ≡ window m r g x
unfolding window
window_reads m r x f g h e =
    total_below (2 * r + 1) (λ j. f (held m r x j)) (λ j. g (held m r x j)) (λ j l. e (held m r x j) (omega arith) (omega arith) (omega arith))

-- a byte of a pass goes by the bytes of its line at most r away
pass_reads : (n m r : ℕ) (line line' : ℕ → ℕ → ℕ) (at : ℕ → ℕ) (k : ℕ) → k < n → at k < m → ((i : ℕ) → i < m → at k ≤ i + r → i ≤ at k + r → line k i ≡ line' k i) →
    get_or (table n (λ i. mean r (window m r (line i) (at i)))) k 0 ≡ get_or (table n (λ i. mean r (window m r (line' i) (at i)))) k 0
pass_reads n m r line line' at k l h e =
    pass_at n m r line at k l ∙ ap (mean r) (window_reads m r (at k) (line k) (line' k) h e) ∙ sym (pass_at n m r line' at k l)

-- its line is its row, or its column
module _ (w h r : ℕ) (s t : List ℕ) (x y ch : ℕ) (hx : x < w) (hy : y < h) (hc : ch < 3) where
  pub box_h-reads : ((i : ℕ) → i < w → x ≤ i + r → i ≤ x + r → row w s y ch i ≡ row w t y ch i) →
      get_or (box_h w h r s) (place w x y ch) 0 ≡ get_or (box_h w h r t) (place w x y ch) 0
  unfolding byte_h
  box_h-reads e =
      pass_reads (3 * (w * h)) w r (λ k. row w s (k / 3 / w) (k % 3)) (λ k. row w t (k / 3 / w) (k % 3)) (λ k. k / 3 % w) (place w x y ch) (place_inside w x y ch hx hc h hy)
      (rw (column_of w x y ch hx hc) hx) (rw (row_of w x y ch hx hc, column_of w x y ch hx hc, channel_of w x y ch hx hc) e)

  pub box_v-reads : ((i : ℕ) → i < h → y ≤ i + r → i ≤ y + r → column w s x ch i ≡ column w t x ch i) →
      get_or (box_v w h r s) (place w x y ch) 0 ≡ get_or (box_v w h r t) (place w x y ch) 0
  unfolding byte_v
  box_v-reads e =
      pass_reads (3 * (w * h)) h r (λ k. column w s (k / 3 % w) (k % 3)) (λ k. column w t (k / 3 % w) (k % 3)) (λ k. k / 3 / w) (place w x y ch) (place_inside w x y ch hx hc h hy)
      (rw (row_of w x y ch hx hc) hy) (rw (row_of w x y ch hx hc, column_of w x y ch hx hc, channel_of w x y ch hx hc) e)

module _ (w h r : ℕ) (x y : ℕ) (s t : List ℕ) where
  pub reach_h : (dx dy : ℕ) → Around w h (dx + r) dy x y s t → Around w h dx dy x y (box_h w h r s) (box_h w h r t)
  reach_h dx dy a x' y' ch hx hy hc p q u v =
      box_h-reads w h r s t x' y' ch hx hy hc (λ i l m n. a i y' ch l hy hc (omega arith) (omega arith) u v)

  pub reach_v : (dx dy : ℕ) → Around w h dx (dy + r) x y s t → Around w h dx dy x y (box_v w h r s) (box_v w h r t)
  reach_v dx dy a x' y' ch hx hy hc p q u v =
      box_v-reads w h r s t x' y' ch hx hy hc (λ i l m n. a x' i ch hx l hc p q (omega arith) (omega arith))

-- after p passes a cell goes by the cells at most p * r away on both axes
pub reach_passes : (w h r x y p : ℕ) (s t : List ℕ) → Around w h (p * r) (p * r) x y s t → Around w h 0 0 x y (passes w h r p s) (passes w h r p t)
unfolding passes
reach_passes w h r x y zero s t a = λ x' y' ch hx hy hc p q u v. a x' y' ch hx hy hc (omega arith) (omega arith) (omega arith) (omega arith)
reach_passes w h r x y (suc p) s t a =
    reach_passes w h r x y p (box_v w h r (box_h w h r s)) (box_v w h r (box_h w h r t))
    (reach_v w h r x y (box_h w h r s) (box_h w h r t) (p * r) (p * r)
    (reach_h w h r x y s t (p * r) (p * r + r) (λ x' y' ch hx hy hc f g u v. a x' y' ch hx hy hc (omega arith) (omega arith) (omega arith) (omega arith))))
