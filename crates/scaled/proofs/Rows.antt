-- What the rows of `blit_scaled` are made of: places that lie in the source, and lines of its colours.
use Prim.Native.Nat.{ℕ, ◌+◌, ◌-◌, ◌*◌, ◌%◌, ◌≤◌, ◌<◌}
use mathlib.Core.Path.{◌≡◌, refl, sym, ap, ◌∙◌}
use mathlib.Core.Bool.{Bool, true, false, cond, not, ◌&&◌, ◌||◌, true≢false}
use mathlib.Core.List.{List, [], ◌++◌}
use native.Mathlib.Decide.{dec_lt}
use native.Mathlib.Omega.{arith}
use borrow.Author.Count.{below_more}
use borrow.Author.Tests.{eqb-true}
use lib.Dec.{eqb}
use lib.ListN.{length, take, drop, get_or}
use lib.Seq.{get_or-take, length-take-le}
use lib.Ieee.{Float, binary32, add, sub, mul, lt}
use Rattle.mathf.specs.Real as Real
use Rattle.mathf.specs.Sqrt.{sqrt_of}
use Rattle.color.specs.Color.{mix_pix}
use Rattle.geom.specs.declared.Rect.{Rect}
use Rattle.geom.specs.declared.IRect.{IRect}
use Rattle.geom.specs.Geom.{outer_pixels}
use Rattle.canvas.specs.Rows.{map_row, below}
use Rattle.canvas.specs.Canvas.{painted_on, boxed, box_on}
use Rattle.canvas.proofs.Laws.Rows.{Rowed, rowed_end, map_row_same}
use Rattle.canvas.proofs.Laws.Spans.{back, rowed_span, rowed_head}
use Rattle.canvas.proofs.Laws.Layer.{untouched}
use Rattle.edge.specs.Edge.{corner_sd, rrect_sd, edge_sd}
use Rattle.sources.specs.declared.Sides.{Sides}
use Rattle.sources.specs.Source.{texel, is_source}
use Rattle.scaled.specs.declared.Stretch.{Stretch}
use Rattle.scaled.specs.declared.Mask.{Mask}
use Rattle.edge.specs.declared.Middle.{Middle}
use Rattle.scaled.specs.Scaled.{tap, first, next, across, sample, col_near, row_near, laid, masked_pix, scaled_pix, stretched_pix, no_copy, mask_of, scaled_rule}
use Rattle.scaled.specs.Private.{LentRow, Within, places, ByTwo, Paired, of_pair, row_at, Coloured, mixed, row_of, between, Clear, row_rule, Alike, col_axis, row_axis, beside, covered, masked_by, full, partial, row_full}
use Rattle.scaled.proofs.Lines.{done_at}

-- ---- places

-- a place lies in a row of n pixels
pub tap_in : (from size : Float) (n v : ℕ) → 1 ≤ n → tap from size n v < n * 256
unfolding tap
tap_in from size n v h = omega arith

-- and before its last pixel, where it has more than one
tap_last : (from size : Float) (n v : ℕ) → tap from size n v < places n
unfolding tap
tap_last from size n v = omega arith

-- the places under the columns from x on, taken from the front of a line
module _ (dest : Rect) (sw x n : ℕ) (l : List ℕ) (m : n ≤ length l) {part : List ℕ} (T : part ≡ map_row (λ i p. tap dest.x dest.w sw (x + i)) (take n l)) where
  abbrev places_of : List ℕ
  places_of = take n (part ++ drop n l)

  pub taps_long : length places_of ≡ n
  taps_long = let R = rowed_head n m T in length-take-le n _ (omega (arith, R.long))

  pub tap_at : (i : ℕ) → i < n → get_or places_of i 0 ≡ tap dest.x dest.w sw (x + i)
  tap_at i h =
      get_or-take n (part ++ drop n l) i 0 h
      ∙ done_at (λ i p. tap dest.x dest.w sw (x + i)) n l (rowed_head n m T).done i h (omega arith)

  pub taps_in : Within places_of (places sw)
  taps_in = record { is = λ i h. let g : i < n = omega (arith, taps_long) in omega (arith, tap_at i g, tap_last dest.x dest.w sw (x + i)) }

-- the two rows about a place lie in the source
pub row_of_in : (n parity f : ℕ) → 1 ≤ n → f < n * 256 → row_of n parity f < n
unfolding row_of
row_of_in n parity f h g = go (eqb (first f % 2) parity)
  where
    go : (t : Bool) → cond t (first f) (next n f) < n
    go true = omega arith
    go false = omega arith

-- ---- lines

-- the two pixels of each place of a row that is lent, mixed
pub span_of : (row taps line₀ : List ℕ) {pairs : List (List ℕ)} {line : List ℕ} → Paired row taps pairs
    → line ≡ map_row (λ i p. of_pair (get_or pairs i []) (get_or taps i 0)) line₀
    → length taps ≡ length line₀ → 2 ≤ length row → Within taps (places (length row))
    → line ≡ map_row (λ i p. row_at row (get_or taps i 0)) line₀
span_of row taps line₀ {pairs} P em n w W =
    em ∙ map_row_same _ (λ i p. row_at row (get_or taps i 0)) line₀ (λ i h.
    let f = get_or taps i 0 in
    let after : first f + 1 ≡ next (length row) f = omega (arith, W.is i (omega arith)) in
    rw (P.is i (omega arith)) (ap (λ (k : ℕ). mix_pix (get_or row (first f) 0) (get_or row k 0) (f % 256)) after))

-- of a row of one pixel, which has one place
pub one_of : (row taps line : List ℕ) {v : ℕ} → v ≡ mix_pix (get_or row 0 0) (get_or row 0 0) 0 → length row ≡ 1 → length line ≡ length taps → Within taps (places (length row))
    → map_row (λ i p. v) line ≡ map_row (λ i p. row_at row (get_or taps i 0)) line
one_of row taps line {v} e w m W = map_row_same _ _ line (λ i h.
    let z : get_or taps i 0 ≡ 0 = omega (arith, W.is i (omega arith)) in
    let last : next (length row) 0 ≡ 0 = omega arith in
    e ∙ ap (λ (k : ℕ). mix_pix (get_or row 0 0) (get_or row k 0) 0) (sym last) ∙ ap (row_at row) (sym z))

-- ---- places that go by two pixels

pub by_two_none : {taps : List ℕ} → ByTwo taps 0
by_two_none {taps} = record { is = λ i h. absurd (none i h) }
  where
    none : (i : ℕ) → i < 0 → ⊥
    none i h = omega arith

pub by_two_more : {taps : List ℕ} {i : ℕ} → ByTwo taps i → get_or taps i 0 ≡ get_or taps 0 0 + i * 512 → ByTwo taps (i + 1)
by_two_more {taps} {i} B e = record { is = below_more (λ (k : ℕ). get_or taps k 0 ≡ get_or taps 0 0 + k * 512) i B.is e }

-- the row at them
pub halved : (row taps line : List ℕ) → ByTwo taps (length taps) → 2 ≤ length row → length line ≡ length taps → Within taps (places (length row)) → let f = get_or taps 0 0 in
    map_row (λ i p. mix_pix (get_or row (first f + i * 2) 0) (get_or row (first f + i * 2 + 1) 0) (f % 256)) line
    ≡ map_row (λ i p. row_at row (get_or taps i 0)) line
halved row taps line B w m W = map_row_same _ _ line (λ i h.
    let lo : i < length taps = omega arith in
    let f = get_or taps 0 0 in
    let g = get_or taps i 0 in
    let at : g ≡ f + i * 512 = B.is i lo in
    let l : first f + i * 2 ≡ first g = omega (arith, at) in
    let r : first f + i * 2 + 1 ≡ next (length row) g = omega (arith, at, W.is i lo) in
    let t : f % 256 ≡ g % 256 = omega (arith, at) in
    ap (λ (k : ℕ). mix_pix (get_or row k 0) (get_or row (first f + i * 2 + 1) 0) (f % 256)) l
    ∙ ap (λ (k : ℕ). mix_pix (get_or row (first g) 0) (get_or row k 0) (f % 256)) r
    ∙ ap (λ (k : ℕ). mix_pix (get_or row (first g) 0) (get_or row (next (length row) g) 0) k) t)

-- that is the source's colour there
row_at_lem : {src : List ℕ} {s : Sides} {sy : ℕ} {row : List ℕ} → LentRow src s sy row → (f : ℕ) → f < s.w * 256 → row_at row f ≡ across src s sy f
unfolding across
row_at_lem {src} {s} {sy} {row} L f h =
    ap (λ (p : ℕ). mix_pix p (get_or row (next (length row) f) 0) (f % 256)) (L.is (first f) (omega arith))
    ∙ ap (λ (q : ℕ). mix_pix (texel src s (first f) sy) q (f % 256)) (ap (λ (w : ℕ). get_or row (next w f) 0) L.long ∙ L.is (next s.w f) (omega arith))

-- so the front of a line has the source's colours at the places
pub coloured : {src : List ℕ} {s : Sides} {sy : ℕ} {row : List ℕ} → LentRow src s sy row → (taps l : List ℕ) {part : List ℕ} → 1 ≤ s.w → Within taps (places s.w) → length taps ≤ length l
    → part ≡ map_row (λ i p. row_at row (get_or taps i 0)) (take (length taps) l) → Coloured src s sy taps (part ++ drop (length taps) l)
coloured {row = row} L taps l w W m T = record {
  is = λ i h.
      done_at (λ j p. row_at row (get_or taps j 0)) (length taps) l (rowed_head (length taps) m T).done i h (omega arith)
      ∙ row_at_lem L (get_or taps i 0) (omega (arith, W.is i h));
}

-- of the even row and the odd one, the first is the one whose parity the place's row has
turned : (m : ℕ) (g : ℕ → ℕ) (u v t : ℕ) → let even = cond (eqb (m % 2) 0) u v in let odd = cond (eqb (m % 2) 1) u v in
    mix_pix (g u) (g v) t ≡ cond (eqb (m % 2) 0) (mix_pix (g even) (g odd) t) (mix_pix (g odd) (g even) t)
turned m g u v t = elim (dec_lt (m % 2) 1) [
  | yes h ↦ let z : m % 2 ≡ 0 = omega arith in rw z
  | no h ↦ let z : m % 2 ≡ 1 = omega arith in rw z
]

-- a row's pixel, from the lines of the two rows about its place
pub line_pix : (src : List ℕ) (s : Sides) (k : Mask) (n x y : ℕ) (above below : List ℕ) (t : ℕ) {taps even odd : List ℕ} {f a b : ℕ}
    → length taps ≡ n → ((i : ℕ) → i < n → get_or taps i 0 ≡ tap k.dest.x k.dest.w s.w (x + i))
    → f ≡ tap k.dest.y k.dest.h s.h y → a ≡ row_of s.h 0 f → b ≡ row_of s.h 1 f
    → Coloured src s a taps even → Coloured src s b taps odd
    → ((i : ℕ) → mixed above below t i ≡ between f (get_or (take n even) i 0) (get_or (take n odd) i 0))
    → (i p : ℕ) → i < n → stretched_pix src s k (x + i) y p ≡ row_rule k x y (mixed above below t) i p
unfolding stretched_pix sample between row_of
line_pix src s k n x y above below t {taps} {even} {odd} {f} {a} {b} m T ef ea eb A B q i p h =
    let fx = tap k.dest.x k.dest.w s.w (x + i) in
    let fy = tap k.dest.y k.dest.h s.h y in
    let u : get_or (take n even) i 0 ≡ across src s a fx = get_or-take n even i 0 h ∙ A.is i (omega arith) ∙ ap (across src s a) (T i h) in
    let v : get_or (take n odd) i 0 ≡ across src s b fx = get_or-take n odd i 0 h ∙ B.is i (omega arith) ∙ ap (across src s b) (T i h) in
    rw (q i, u, v, ea, eb, ef)
    (ap (λ (c : ℕ). scaled_pix k c (x + i) y p) (turned (first fy) (λ row. across src s row fx) (first fy) (next s.h fy) (fy % 256)))

-- ---- the columns that no edge is near

-- to the same length, said otherwise
pub clear_to : {near : ℕ → Bool} {n : ℕ} {m : Middle} {l : ℕ} → Clear near n m → n ≡ l → Clear near l m
clear_to C e = rw (sym e) C

-- ---- a row: the columns before those that are covered alike, these, and those after them

-- near an edge, by what the row was found to be
pub masked_pix_lem : (k : Mask) (s x y p : ℕ) {q : Float} → q ≡ row_axis k y → masked_by k q s x p ≡ masked_pix k s x y p
unfolding masked_by masked_pix edge_sd rrect_sd
masked_pix_lem k s x y p at = rw at refl

-- where the row's own edge is the nearest
flat_sd : (p q r : Float) → lt q p || (lt Real.zero p && lt Real.zero q) ≡ false → corner_sd p q r ≡ sub binary32 q r
unfolding corner_sd
flat_sd p q r e = go (lt q p) (lt Real.zero p && lt Real.zero q) e
  where
    go : (u v : Bool) → u || v ≡ false
        → cond v (sub binary32 (sqrt_of (add binary32 (mul binary32 p p) (mul binary32 q q))) r) (cond u (sub binary32 p r) (sub binary32 q r)) ≡ sub binary32 q r
    go true v e = absurd (true≢false e)
    go false true e = absurd (true≢false e)
    go false false e = refl

pub flat_pix : (k : Mask) (s x y p : ℕ) {q : Float} {cov : ℕ} → row_near k y ≡ true → q ≡ row_axis k y → beside k q x ≡ false
    → lt Real.point_five (sub binary32 q k.r) ≡ false → cov ≡ covered k.alpha (sub binary32 q k.r) → scaled_pix k s x y p ≡ laid cov s p
unfolding scaled_pix masked_pix edge_sd rrect_sd beside
flat_pix k s x y p {q} {cov} near at flat out e =
    let sd : corner_sd (col_axis k x) (row_axis k y) k.r ≡ sub binary32 q k.r =
    ap (λ (v : Float). corner_sd (col_axis k x) v k.r) (sym at) ∙ flat_sd (col_axis k x) q k.r flat in
    rw (near, sd, out) (ap (λ (n : ℕ). laid n s p) (sym e))

-- where the row and the column are covered in full, each by its own side
module _ (k : Mask) (s p : ℕ) where
  abbrev Laid : Float → Type 0
  Laid sd = cond (lt Real.point_five sd) p (laid (covered k.alpha sd) s p) ≡ laid k.alpha s p

  full_laid : (q : Float) → full k q ≡ true → Laid (sub binary32 q k.r)
  unfolding full
  full_laid q e = go (lt Real.point_five (sub binary32 q k.r)) (eqb (covered k.alpha (sub binary32 q k.r)) k.alpha) refl e
    where
      go : (u v : Bool) → eqb (covered k.alpha (sub binary32 q k.r)) k.alpha ≡ v → not u && v ≡ true
          → cond u p (laid (covered k.alpha (sub binary32 q k.r)) s p) ≡ laid k.alpha s p
      go true v f e = absurd (true≢false (sym e))
      go false true f e = ap (λ (n : ℕ). laid n s p) (eqb-true _ _ f)
      go false false f e = absurd (true≢false (sym e))

  either : (u v w : Bool) (a b c : Float) → v ≡ false → Laid b → Laid c → Laid (cond (u && v) a (cond w b c))
  either u true w a b c e l m = absurd (true≢false e)
  either true false true a b c e l m = l
  either true false false a b c e l m = m
  either false false true a b c e l m = l
  either false false false a b c e l m = m

  side : (x : ℕ) (q : Float) → full k (col_axis k x) ≡ true → full k q ≡ true → lt Real.zero q ≡ false → masked_by k q s x p ≡ laid k.alpha s p
  unfolding masked_by corner_sd
  side x q f g e = either (lt Real.zero (col_axis k x)) (lt Real.zero q) (lt q (col_axis k x)) _ _ _ e (full_laid (col_axis k x) f) (full_laid q g)

  pub full_pix : (x y : ℕ) → row_full k y ≡ true → partial k x ≡ false → scaled_pix k s x y p ≡ laid k.alpha s p
  unfolding scaled_pix
  full_pix x y e f =
      row (lt Real.zero (row_axis k y)) (full k (row_axis k y)) refl refl e
    where
      col : (u : Bool) → full k (col_axis k x) ≡ u → not u ≡ false → full k (col_axis k x) ≡ true
      col true g h = g
      col false g h = absurd (true≢false h)

      near : (n : Bool) → masked_pix k s x y p ≡ laid k.alpha s p → cond n (masked_pix k s x y p) (laid k.alpha s p) ≡ laid k.alpha s p
      near true m = m
      near false m = refl

      row : (u v : Bool) → lt Real.zero (row_axis k y) ≡ u → full k (row_axis k y) ≡ v → not u && v ≡ true
          → cond (row_near k y || col_near k x) (masked_pix k s x y p) (laid k.alpha s p) ≡ laid k.alpha s p
      row true v g h e = absurd (true≢false (sym e))
      row false false g h e = absurd (true≢false (sym e))
      row false true g h e =
          near (row_near k y || col_near k x)
          (sym (masked_pix_lem k s x y p refl) ∙ side x (row_axis k y) (col (full k (col_axis k x)) refl f) h g)

-- a row that lies wholly within its own sides
pub full_alike : (k : Mask) (x y n : ℕ) {m : Middle} → row_full k y ≡ true → Clear (λ i. partial k (x + i)) n m → Alike k k.alpha x y n m
full_alike k x y n e C = record { order = C.order; room = C.room; is = λ i s p g h. full_pix k s p (x + i) y e (C.is i g h) }

-- one that is near an edge itself
pub near_alike : (k : Mask) (x y n : ℕ) {m : Middle} {q : Float} {cov : ℕ} → row_near k y ≡ true → q ≡ row_axis k y → Clear (λ i. beside k q (x + i)) n m
    → lt Real.point_five (sub binary32 q k.r) ≡ false → cov ≡ covered k.alpha (sub binary32 q k.r) → Alike k cov x y n m
near_alike k x y n near at C out e = record { order = C.order; room = C.room; is = λ i s p g h. flat_pix k s (x + i) y p near at (C.is i g h) out e }

-- its pixels from the first on, and its three spans
module _ (k : Mask) (x y : ℕ) (s : ℕ → ℕ) where
  abbrev from_first : ℕ → ℕ → ℕ
  from_first i p = row_rule k x y s (0 + i) p

  pub whole_edge : (l : List ℕ) → map_row from_first l ≡ map_row (row_rule k x y s) l
  whole_edge l = map_row_same from_first (row_rule k x y s) l (λ i h. let at : 0 + i ≡ i = omega arith in rw at)

  pub three : (l : List ℕ) {u v z : List ℕ} (m : Middle) {cov : ℕ} → Alike k cov x y (length l) m
      → u ≡ map_row from_first (take m.from l)
      → let l1 = u ++ drop m.from l in v ≡ map_row (λ i p. laid cov (s (m.from + i)) p) (take (m.to - m.from) (drop m.from l1))
      → let l2 = back m.from m.to l1 v in z ≡ map_row (λ i p. row_rule k x y s (m.to + i) p) (take (length l2 - m.to) (drop m.to l2))
      → back m.to (length l2) l2 z ≡ map_row (row_rule k x y s) l
  three l {u} {v} {z} m {cov} A eu ev ez =
      let l1 : List ℕ = u ++ drop m.from l in
      let l2 : List ℕ = back m.from m.to l1 v in
      let one : Rowed (row_rule k x y s) l l1 m.from = rowed_head m.from (omega (arith, A.order, A.room)) (eu ∙ whole_edge (take m.from l)) in
      let two : Rowed (row_rule k x y s) l l2 m.to =
      rowed_span (λ i p. laid cov (s (m.from + i)) p) m.to one A.order (omega (arith, A.room, one.long)) (λ i p q. A.is (m.from + i) (s (m.from + i)) p (omega arith) q) ev in
      let all : Rowed (row_rule k x y s) l (back m.to (length l2) l2 z) (length l2) =
      rowed_span (λ i p. row_rule k x y s (m.to + i) p) (length l2) two (omega (arith, A.room, two.long)) (omega arith) (λ i p _. refl) ez in
      rowed_end all (omega (arith, two.long))

-- ---- the canvas

module _ (w h : ℕ) (clip : IRect) (src : List ℕ) (s : Sides) (g : Stretch) where
  -- what is no source changes nothing
  pub no_source : (cv : List ℕ) → is_source s (length src) ≡ false → cv ≡ painted_on w h (scaled_rule w h clip src s g) cv
  unfolding scaled_rule
  no_source cv e = untouched w h (box_on w h clip (outer_pixels g.dest)) _ cv (λ x y p. rw e)

  -- nor does a copy onto less than a pixel, or at no alpha
  pub no_copy_lem : (cv : List ℕ) → is_source s (length src) ≡ true → no_copy g ≡ true → cv ≡ painted_on w h (scaled_rule w h clip src s g) cv
  unfolding scaled_rule
  no_copy_lem cv t e = untouched w h (box_on w h clip (outer_pixels g.dest)) _ cv (λ x y p. rw (t, e))

  -- otherwise the box is painted
  pub stretched : {B : IRect} {k : Mask} → is_source s (length src) ≡ true → no_copy g ≡ false → box_on w h clip (outer_pixels g.dest) ≡ B
      → k ≡ mask_of g → boxed B (stretched_pix src s k) ≡ scaled_rule w h clip src s g
  unfolding scaled_rule
  stretched t e b ek = rw (ek, b, t, e)
