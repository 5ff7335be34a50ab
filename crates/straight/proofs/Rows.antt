-- What the rows of `blit_rounded_dim` are made of: the source's pixels, the three spans of a row that passes through corners, and the place of the box over the source.
use Prim.Native.Nat.{ℕ, ◌+◌, ◌-◌, ◌≤◌, ◌<◌, min, max}
use mathlib.Core.Path.{◌≡◌, refl, sym, ap, ◌∙◌, subst}
use mathlib.Core.Bool.{Bool, true, false, ◌||◌}
use mathlib.Core.List.{List, ◌++◌}
use native.Mathlib.Decide.{dec_lt}
use native.Mathlib.Omega.{arith}
use lib.Dec.{T, ltb, leb}
use lib.IntN.{ℤ, pos, ◌+ℤ◌, ◌-ℤ◌, +ℤ_assoc, +ℤ_comm, +ℤ-neg_ℤ_cancel}
use lib.Signed.{le_z, lt_z}
use lib.ListN.{length, take, drop, get_or}
use lib.Seq.{get_or-take, length-take-le}
use borrow.Author.Tests.{lt-ltb, le-ltb, le-leb, lt-leb}
use Rattle.mathf.proofs.Laws.Corner.{within}
use Rattle.color.specs.Color.{mix_pix, dim_pix}
use Rattle.color.proofs.Laws.{dim_pix_none, dim_pix_bound}
use Rattle.geom.specs.declared.IRect.{IRect}
use Rattle.geom.specs.Geom.{intersect, spans, holds, canvas}
use Rattle.geom.proofs.Laws.{both_true, below_min, holds_intersect, holds_box}
use Rattle.canvas.specs.declared.Area.{Area}
use Rattle.canvas.specs.Rows.{map_row, below, span, copied}
use Rattle.canvas.specs.Canvas.{painted_on, boxed, box_on, area_box, area_on, RowOf}
use Rattle.canvas.proofs.Laws.Rows.{length_map_row, map_row_same, map_row_then, below_in, below_out}
use Rattle.canvas.proofs.Laws.Spans.{back, lent, lent_front, part_long, span_in, span_low, span_high}
use Rattle.canvas.proofs.Laws.Box.{boxed_held}
use Rattle.canvas.proofs.Laws.Area.{area_some, area_paints}
use Rattle.canvas.proofs.Laws.Layer.{untouched}
use Rattle.sources.specs.declared.Sides.{Sides}
use Rattle.sources.specs.Source.{is_source, texel, row_start, start_of}
use Rattle.sources.proofs.Laws.{lent_at, lent_texel, source_is, row_room, start_is}
use Rattle.edge.specs.Edge.{natural}
use Rattle.straight.specs.declared.Blit.{Blit}
use Rattle.straight.specs.declared.Mask.{Mask}
use Rattle.straight.specs.Straight.{far_side, copy_box, place, corner_span, parts, inner_pix, edge_pix, corner_pix, row_pix, is_first, is_last, source_pix, mask_of, straight_rule}
use Rattle.straight.specs.Private.{Covers}

-- ---- the rows of the source

-- a row function over as many pixels as the row has, with nothing darkened
pub plain : (f : ℕ → ℕ → ℕ) (src l : List ℕ) (dim : ℕ) → length l ≡ length src → dim ≡ 0
    → map_row (below (length src) (λ i p. f (get_or src i 0) p)) l ≡ map_row (λ i p. f (dim_pix (get_or src i 0) dim) p) l
plain f src l dim n e = map_row_same (below (length src) (λ i p. f (get_or src i 0) p)) (λ i p. f (dim_pix (get_or src i 0) dim) p) l
    (λ i h. below_in (length src) (λ i p. f (get_or src i 0) p) i (get_or l i 0) (omega arith) ∙ rw (e, dim_pix_none (get_or src i 0)))

-- what is darkened has no top byte: stored, it stays as it is
pub darkened : (src l : List ℕ) (dim : ℕ) → (dim ≡ 0 → ⊥) → map_row (λ i p. dim_pix (get_or src i 0) dim) l ≡ map_row (λ i p. copied (dim_pix (get_or src i 0) dim)) l
darkened src l dim n =
    map_row_same (λ i p. dim_pix (get_or src i 0) dim) (λ i p. copied (dim_pix (get_or src i 0) dim)) l (λ i h. omega (arith, dim_pix_bound (get_or src i 0) dim n))

-- the pixels clear of the corners
module _ (k : Blit) (row l : List ℕ) where
  pub stored : 255 ≤ k.alpha → map_row (λ i p. copied (dim_pix (get_or row i 0) k.dim)) l ≡ map_row (λ i p. inner_pix k (get_or row i 0) p) l
  unfolding inner_pix
  stored h = map_row_same (λ i p. copied (dim_pix (get_or row i 0) k.dim)) (λ i p. inner_pix k (get_or row i 0) p) l (λ i g. rw (le-leb _ _ h))

  pub faded : {t : ℕ} → t ≡ parts k.alpha → k.alpha < 255 → map_row (λ i p. mix_pix p (dim_pix (get_or row i 0) k.dim) t) l ≡ map_row (λ i p. inner_pix k (get_or row i 0) p) l
  unfolding inner_pix
  faded {t} e h = map_row_same (λ i p. mix_pix p (dim_pix (get_or row i 0) k.dim) t) (λ i p. inner_pix k (get_or row i 0) p) l (λ i g. rw (lt-leb _ _ h, e))

-- ---- a row that passes through corners: the middle, the left corner's columns, the right one's, lent one after the other. A column in both corners is painted twice
module _ (m : Mask) (row l : List ℕ) (a b x y : ℕ) where
  abbrev inner : ℕ → ℕ → ℕ
  inner i p = inner_pix m.blit (get_or row (a + i) 0) p

  abbrev left : ℕ → ℕ → ℕ
  left i p = edge_pix m (get_or row i 0) (x + i) y p

  abbrev right : ℕ → ℕ → ℕ
  right i p = edge_pix m (get_or row (b + i) 0) (x + b + i) y p

  abbrev whole : ℕ → ℕ → ℕ
  whole i p = corner_pix (ltb i a) (leb b i) m (get_or row i 0) (x + i) y p

  right_at : (i p : ℕ) → b ≤ i → right (i - b) p ≡ left i p
  right_at i p h =
      let e : b + (i - b) ≡ i = omega arith in
      let f : x + b + (i - b) ≡ x + i = omega arith in
      rw (e, f)

  inner_at : (i p : ℕ) → a ≤ i → inner (i - a) p ≡ inner_pix m.blit (get_or row i 0) p
  inner_at i p h = let e : a + (i - a) ≡ i = omega arith in rw e

  -- the three spans at one pixel
  three : (i p : ℕ) → i < length l → span b (length l) right i (below a left i (span a (max a b) inner i p)) ≡ whole i p
  unfolding corner_pix
  three i p h = elim (dec_lt i a) [
    | yes lo ↦
        ap (λ (q : ℕ). span b (length l) right i (below a left i q)) (span_low a (max a b) inner i p lo)
        ∙ ap (span b (length l) right i) (below_in a left i p lo)
        ∙ elim (dec_lt i b) [
          | yes lo' ↦ span_low b (length l) right i (left i p) lo' ∙ rw (lt-ltb i a lo, lt-leb b i lo')
          | no hi' ↦
              let g : b ≤ i = omega arith in
              span_in b (length l) right i (left i p) g h ∙ right_at i (left i p) g ∙ rw (lt-ltb i a lo, le-leb b i g)
        ]
    | no hi ↦
        let f : a ≤ i = omega arith in
        ap (span b (length l) right i) (below_out a left i (span a (max a b) inner i p) f)
        ∙ elim (dec_lt i b) [
          | yes lo' ↦ span_low b (length l) right i (span a (max a b) inner i p) lo'
              ∙ span_in a (max a b) inner i p f (omega arith) ∙ inner_at i p f ∙ rw (le-ltb i a f, lt-leb b i lo')
          | no hi' ↦
              let g : b ≤ i = omega arith in
              ap (span b (length l) right i) (span_high a (max a b) inner i p (omega arith) (omega arith))
              ∙ span_in b (length l) right i p g h ∙ right_at i p g ∙ rw (le-ltb i a f, le-leb b i g)
        ]
  ]

  pub corners : {e : ℕ} {u v z : List ℕ} → e ≡ max a b → a ≤ length l → b ≤ length l → length l ≡ length row
      → u ≡ map_row (λ i p. inner_pix m.blit (get_or (take (e - a) (drop a row)) i 0) p) (take (e - a) (drop a l))
      → let l1 = back a e l u in v ≡ map_row (λ i p. edge_pix m (get_or (take a row) i 0) (x + i) y p) (take a l1)
      → let l2 = v ++ drop a l1 in z ≡ map_row (λ i p. edge_pix m (get_or (take (length row - b) (drop b row)) i 0) (x + b + i) y p) (take (length l2 - b) (drop b l2))
      → back b (length l2) l2 z ≡ map_row whole l
  corners {e} {u} {v} {z} is ha hb n eu ev ez =
      let l1 : List ℕ = back a e l u in
      let l2 : List ℕ = v ++ drop a l1 in
      let one : l1 ≡ map_row (span a e inner) l =
      lent inner l u a e (omega arith) (omega arith)
      (eu ∙ map_row_same _ inner _ (λ i h. ap (λ (t : ℕ). inner_pix m.blit t (get_or (take (e - a) (drop a l)) i 0)) (lent_at row a e i (omega (arith, h, part_long l a e (omega arith) (omega arith)))))) in
      let n1 : length l1 ≡ length l = ap length one ∙ length_map_row (span a e inner) l in
      let two : l2 ≡ map_row (below a left) l1 =
      lent_front left l1 v a a (omega arith)
      (ev ∙ map_row_same _ left _ (λ i h. ap (λ (t : ℕ). edge_pix m t (x + i) y (get_or (take a l1) i 0)) (get_or-take a row i 0 (omega (arith, h, length-take-le a l1 (omega arith)))))) in
      let n2 : length l2 ≡ length l = ap length two ∙ length_map_row (below a left) l1 ∙ n1 in
      let k : b ≤ length l2 = omega arith in
      lent right l2 z b (length l2) k (omega arith)
      (ez ∙ map_row_same _ right _ (λ i h. ap (λ (t : ℕ). edge_pix m t (x + b + i) y (get_or (take (length l2 - b) (drop b l2)) i 0)) (lent_at row b (length row) i (omega (arith, h, part_long l2 b (length l2) k (omega arith))))))
      ∙ ap (map_row (span b (length l2) right)) (two ∙ ap (map_row (below a left)) one ∙ map_row_then (span a e inner) (below a left) l)
      ∙ map_row_then (λ i p. below a left i (span a e inner i p)) (span b (length l2) right) l
      ∙ map_row_same (λ i p. span b (length l2) right i (below a left i (span a e inner i p))) whole l
      (λ i h.
      ap (λ (t : ℕ). span b t right i (below a left i (span a e inner i (get_or l i 0)))) n2
      ∙ ap (λ (t : ℕ). span b (length l) right i (below a left i (span a t inner i (get_or l i 0)))) is ∙ three i (get_or l i 0) h)

-- ---- the source under the box

place_is : (x : ℤ) (u i : ℕ) → pos u ≡ x +ℤ pos i → place x u ≡ i
unfolding place
place_is x u i e = ap natural (ap (λ (z : ℤ). z -ℤ x) (e ∙ +ℤ_comm x (pos i)) ∙ +ℤ-neg_ℤ_cancel (pos i) x)

place_more : (x : ℤ) (u d : ℕ) → pos u ≡ x +ℤ pos (place x u) → place x (u + d) ≡ place x u + d
place_more x u d e = place_is x (u + d) (place x u + d) (ap (λ (z : ℤ). z +ℤ pos d) e ∙ +ℤ_assoc x (pos (place x u)) (pos d))

-- a column, or a row, of those over the source
pub place_at : {x : ℤ} {n from to : ℕ} (u : ℕ) → Covers x n from to → from ≤ u → place x u ≡ place x from + (u - from)
place_at {x} {n} {from} {to} u c f = let e : from + (u - from) ≡ u = omega arith in ap (place x) (sym e) ∙ place_more x from (u - from) c.start

pub place_in : {x : ℤ} {n from to : ℕ} (u : ℕ) → Covers x n from to → from ≤ u → u < to → place x u < n
place_in {x} {n} {from} {to} u c f t = omega (arith, c.room, place_at u c f)

-- ---- a row of the source
ltb_like : (i a j c : ℕ) → (i < a → j < c) → (a ≤ i → c ≤ j) → ltb i a ≡ ltb j c
ltb_like i a j c f g = elim (dec_lt i a) [
  | yes h ↦ rw (lt-ltb i a h, lt-ltb j c (f h))
  | no h ↦ let k : a ≤ i = omega arith in rw (le-ltb i a k, le-ltb j c (g k))
]

leb_like : (b i c j : ℕ) → (b ≤ i → c ≤ j) → (i < b → j < c) → leb b i ≡ leb c j
leb_like b i c j f g = elim (dec_lt i b) [
  | yes h ↦ rw (lt-leb b i h, lt-leb c j (g h))
  | no h ↦ let k : b ≤ i = omega arith in rw (le-leb b i k, le-leb c j (f k))
]

-- a pixel of the row: the code has found once how many of its n columns are in the left corner, and from which on they are in the right one
row_pix_lem : (src : List ℕ) (s : Sides) (m : Mask) (sx sy x y p n i : ℕ) {span a b t : ℕ} {corners : Bool} → span ≡ corner_span m.r
    → a ≡ min (span - sx) n → b ≡ min (s.w - (sx + span)) n → corners ≡ is_first span sy || is_last span s.h sy → t ≡ texel src s (sx + i) sy → i < n
    → row_pix corners (ltb i a) (leb b i) m t x y p ≡ source_pix src s m (sx + i) sy x y p
unfolding source_pix
row_pix_lem src s m sx sy x y p n i {span} {a} {b} es ea eb ec et h =
    rw (ec, et, ltb_like i a (sx + i) span (λ g. omega arith) (λ g. omega arith), leb_like b i s.w (sx + i + span) (λ g. omega arith) (λ g. omega arith), es)

-- the source's row under a row of n pixels begins at r, where the source has len words; the columns from sx on lie in it
pub record Under (s : Sides) (len n sx sy r : ℕ) : Type 0 where
  pub low : sy ≤ 4096
  pub begin : r ≡ row_start s sy
  pub room : r + sx + n ≤ len

module _ (src : List ℕ) {s : Sides} (m : Mask) {x y n sx sy r : ℕ} (S : is_source s (length src) ≡ true) (X : Covers m.blit.x s.w x (x + n)) (Y : Covers m.blit.y s.h y (y + 1))
    (ex : sx ≡ place m.blit.x x) (ey : sy ≡ place m.blit.y y) (er : r ≡ start_of s sy) where
  pub under : Under s (length src) n sx sy r
  under =
      let i = source_is s (length src) S in
      let h : sy < s.h = omega (arith, Y.room) in
      let e = start_is sy i h er in
      record { low = omega (arith, i.low); begin = e; room = omega (arith, e, X.room, row_room sy i h) }

  -- it is copied
  pub row_copied : {span a b : ℕ} {corners : Bool} (l : List ℕ) → length l ≡ n → span ≡ corner_span m.r → a ≡ min (span - sx) n → b ≡ min (s.w - (sx + span)) n → corners ≡ is_first span sy || is_last span s.h sy
      → map_row (λ i p. row_pix corners (ltb i a) (leb b i) m (get_or (take (r + sx + n - (r + sx)) (drop (r + sx) src)) i 0) (x + i) y p) l
      ≡ map_row (λ i p. source_pix src s m (place m.blit.x (x + i)) (place m.blit.y y) (x + i) y p) l
  row_copied {span} {a} {b} {corners} l el es ea eb ec = map_row_same _ _ l (λ i h.
      let p : ℕ = get_or l i 0 in
      let g : i < n = omega arith in
      let pixel : get_or (take (r + sx + n - (r + sx)) (drop (r + sx) src)) i 0 ≡ texel src s (sx + i) sy = rw under.begin (lent_texel src s sx sy (row_start s sy + sx + n) i (omega arith)) in
      let at : place m.blit.x (x + i) ≡ sx + i = place_at (x + i) X (omega arith) ∙ omega (arith, ex) in
      row_pix_lem src s m sx sy (x + i) y p n i es ea eb ec pixel g
      ∙ ap (λ (u : ℕ). source_pix src s m (sx + i) u (x + i) y p) ey
      ∙ ap (λ (u : ℕ). source_pix src s m u (place m.blit.y y) (x + i) y p) (sym at))

-- the first and the last lie over the source: all do
covers : (x : ℤ) (n from to : ℕ) → from < to → T (le_z x (pos from)) → T (lt_z (pos from) (x +ℤ pos n)) → T (le_z x (pos (to - 1))) → T (lt_z (pos (to - 1)) (x +ℤ pos n)) → Covers x n from to
covers x n from to l f g f' g' =
    let i = within x (pos from) n f g in
    let j = within x (pos (to - 1)) n f' g' in
    let e : place x from ≡ i.0 = place_is x from i.0 i.1 in
    let start : pos from ≡ x +ℤ pos (place x from) = i.1 ∙ ap (λ (m : ℕ). x +ℤ pos m) (sym e) in
    let back : from + (to - 1 - from) ≡ to - 1 = omega arith in
    let last : place x (to - 1) ≡ place x from + (to - 1 - from) = ap (place x) (sym back) ∙ place_more x from (to - 1 - from) start in
    record { start = start; room = omega (arith, last, place_is x (to - 1) j.0 j.1, j.2) }

yes_of : {t : Bool} → t ≡ true → T t
yes_of e = subst T (sym e) tt

-- a pixel of the box lies over the source
pub record Over (x y : ℤ) (s : Sides) (u v : ℕ) : Type 0 where
  pub left : T (le_z x (pos u))
  pub right : T (lt_z (pos u) (x +ℤ pos s.w))
  pub top : T (le_z y (pos v))
  pub bottom : T (lt_z (pos v) (y +ℤ pos s.h))

spans_far : (x : ℤ) (n u : ℕ) → spans x (far_side x n) (pos u) ≡ true → (le_z x (pos u) ≡ true) × (lt_z (pos u) (x +ℤ pos n) ≡ true)
unfolding spans far_side
spans_far x n u e =
    let t = both_true _ _ e in
    (t.0, (both_true _ _ (sym (below_min (pos u) (x +ℤ pos n) (pos 2147483647)) ∙ t.1)).0)

pub over : (w h : ℕ) (clip : IRect) (x y : ℤ) (s : Sides) (u v : ℕ) → holds (box_on w h clip (copy_box x y s)) (pos u) (pos v) ≡ true → Over x y s u v
unfolding box_on copy_box holds
over w h clip x y s u v e =
    let both = (both_true _ _ (sym (holds_intersect (copy_box x y s) (intersect clip (canvas w h)) (pos u) (pos v)) ∙ e)).0 in
    let t = both_true _ _ both in
    let c = spans_far x s.w u t.0 in
    let d = spans_far y s.h v t.1 in
    record { left = yes_of c.0; right = yes_of c.1; top = yes_of d.0; bottom = yes_of d.1 }

-- a row of the box lies over the source
module _ (w h : ℕ) (clip : IRect) (s : Sides) (k : Blit) (cv : List ℕ) where
  abbrev area : Area
  area = area_on (length cv) w h clip (copy_box k.x k.y s)

  held : (u v : ℕ) → area.x0 ≤ u → u < area.x1 → area.y0 ≤ v → v < area.y1 → Over k.x k.y s u v
  held u v p q g t =
      let o = area_some w h clip (copy_box k.x k.y s) cv (λ z. omega (arith, z, q)) in
      over w h clip k.x k.y s u v
      (rw o.sides (holds_box area.x0 area.y0 area.x1 area.y1 u v ∙ simp (le-leb _ _ p, lt-ltb _ _ q, le-leb _ _ g, lt-ltb _ _ t)))

  pub row_over : {y n : ℕ} → RowOf w h area y n → (Covers k.x s.w area.x0 (area.x0 + n)) × (Covers k.y s.h y (y + 1))
  row_over {y} {n} r =
      let first = held area.x0 y (omega arith) (omega (arith, r.some, r.columns)) r.from r.to in
      let last = held (area.x0 + n - 1) y (omega (arith, r.some)) (omega (arith, r.some, r.columns)) r.from r.to in
      let one : y + 1 - 1 ≡ y = omega arith in (
        covers k.x s.w area.x0 (area.x0 + n) (omega (arith, r.some)) first.left first.right last.left last.right,
        covers k.y s.h y (y + 1) (omega arith) first.top first.bottom (rw one first.top) (rw one first.bottom),
      )

  -- as the row's copy asks for it
  pub row_asks : {a : Area} {m : Mask} {y n : ℕ} → a ≡ area → m ≡ mask_of s k → RowOf w h a y n
      → ((a.x0 + n ≤ 4096) × (y ≤ 4096)) × ((Covers m.blit.x s.w a.x0 (a.x0 + n)) × (Covers m.blit.y s.h y (y + 1)))
  unfolding mask_of
  row_asks {a} {m} {y} {n} ea em r = ((omega (arith, r.columns, r.wide), omega (arith, r.low, r.high)), rw (ea, em) (row_over (rw ea at r)))

-- what is found once for all rows, as the row's copy asks for it
pub asks_found : (s : Sides) (k : Blit) (x : ℕ) {m : Mask} {sx span : ℕ} → m ≡ mask_of s k → sx ≡ place k.x x → span ≡ corner_span m.r → (sx ≡ place m.blit.x x) × (span ≡ corner_span m.r)
unfolding mask_of
asks_found s k x {m} em e f = (e ∙ ap (λ (q : Mask). place q.blit.x x) (sym em), f)

-- the box, row by row, is the copy
pub box_copied : (w h : ℕ) (clip : IRect) (src : List ℕ) (s : Sides) (k : Blit) (cv : List ℕ) {a : Area} {m : Mask} → a ≡ area_on (length cv) w h clip (copy_box k.x k.y s) → m ≡ mask_of s k → is_source s (length src) ≡ true
    → painted_on w h (boxed (area_box a) (λ u v p. source_pix src s m (place m.blit.x u) (place m.blit.y v) u v p)) cv ≡ painted_on w h (straight_rule w h clip src s k) cv
unfolding straight_rule mask_of
box_copied w h clip src s k cv {a} {m} ea em t = rw (ea, em, area_paints w h clip (copy_box k.x k.y s) (λ u v p. source_pix src s (mask_of s k) (place k.x u) (place k.y v) u v p) cv, t) refl

-- a pixel of the box
pub box_pix : (w h : ℕ) (clip : IRect) (src : List ℕ) (s : Sides) (k : Blit) (u v p : ℕ) → is_source s (length src) ≡ true
    → holds (box_on w h clip (copy_box k.x k.y s)) (pos u) (pos v) ≡ true
    → straight_rule w h clip src s k u v p ≡ source_pix src s (mask_of s k) (place k.x u) (place k.y v) u v p
unfolding straight_rule
box_pix w h clip src s k u v p t e = boxed_held (box_on w h clip (copy_box k.x k.y s)) _ u v p e ∙ rw t refl

-- a source that has not the sides s changes nothing
pub no_source : (w h : ℕ) (clip : IRect) (src : List ℕ) (s : Sides) (k : Blit) (cv : List ℕ) → is_source s (length src) ≡ false
    → cv ≡ painted_on w h (straight_rule w h clip src s k) cv
unfolding straight_rule
no_source w h clip src s k cv e = untouched w h (box_on w h clip (copy_box k.x k.y s)) _ cv (λ u v p. rw e)
