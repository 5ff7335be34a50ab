-- A row of the shadow: the alphas of its columns, its distances by the kind of row, and its three spans, which join from left to right.
use Prim.Native.Nat.{ℕ, ◌+◌, ◌-◌, ◌≤◌, ◌<◌, min}
use mathlib.Core.Path.{◌≡◌, refl, sym, ap, ◌∙◌}
use mathlib.Core.Bool.{Bool, true, false, cond, ◌&&◌}
use mathlib.Core.List.{List, ◌++◌}
use native.Mathlib.Omega.{arith}
use borrow.Author.Tests.{le-leb, lt-leb, lt-ltb, le-ltb}
use lib.Dec.{leb, ltb}
use lib.IntN.{pos}
use lib.Ieee.{Float, lt, le}
use lib.ListN.{length, take, drop, get_or, length-append, length-drop, length-take, get_or-append}
use lib.Seq.{get_or-drop}
use Rattle.geom.specs.declared.Rect.{Rect}
use Rattle.geom.specs.Geom.{spans}
use Rattle.mathf.specs.Real as Real
use Rattle.geom.proofs.Laws.{box}
use Rattle.canvas.specs.Rows.{map_row}
use Rattle.canvas.specs.Canvas.{is_canvas, painted_on, boxed}
use Rattle.canvas.proofs.Laws.Area.{painted_on_lem, painted_off}
use Rattle.canvas.proofs.Laws.Box.{Striping, strip_start, strip_next, strip_end}
use Rattle.canvas.proofs.Laws.Rows.{Rowed, rowed_end, map_row_same, length_map_row, get_d-map_row}
use Rattle.canvas.proofs.Laws.Spans.{back, rowed_head, rowed_span}
use Rattle.edge.specs.declared.Middle.{Middle}
use Rattle.edge.specs.Edge.{Held}
use Rattle.edge.proofs.Laws.{spans_held}
use Rattle.edge.proofs.Held.{starts_in, goes_on, ends_in}
use Rattle.shadow.specs.declared.Shadow.{Shadow}
use Rattle.shadow.specs.Shadow.{alpha_of, row_turn, row_sd, col_sd, turn_sd, straight_alpha, corner_alpha, shadow_alpha, tinted, shadow_pix}
use Rattle.shadow.specs.Private.{straight, near_end, far_end, middle_from, middle_to, middle_alpha, shadow_sd, outer_pix, farther, Columns}

-- ---- the alphas of the columns

module _ {table cols : List ℕ} {x n : ℕ} {rect : Rect} {blur : Float} (C : Columns table cols x n rect blur) where
  -- of fewer columns
  pub columns_less : {m : ℕ} → m ≤ n → Columns table cols x m rect blur
  columns_less h = record { long = omega (arith, C.long); is = λ i l. C.is i (omega arith) }

  -- of those from the column b on
  pub columns_from : {y m : ℕ} (b : ℕ) → y ≡ x + b → b + m ≤ n → Columns table (drop b cols) y m rect blur
  columns_from {y} b e h = record {
    long = simp length-drop (omega (arith, C.long));
    is = λ i l. let at : x + (b + i) ≡ y + i = omega arith in get_or-drop b cols i 0 ∙ C.is (b + i) (omega arith) ∙ ap (λ (v : ℕ). alpha_of table blur (col_sd rect v)) at;
  }

  -- with more behind them
  pub columns_front : (rest : List ℕ) → Columns table (cols ++ rest) x n rect blur
  columns_front rest = record { long = simp length-append (omega (arith, C.long)); is = λ i l. get_or-append cols rest 0 i (omega (arith, C.long)) ∙ C.is i l }

-- as a row of alphas
pub columns_found : {table cols : List ℕ} (old : List ℕ) {x : ℕ} {rect : Rect} {blur : Float} → cols ≡ map_row (λ i _. alpha_of table blur (col_sd rect (x + i))) old → Columns table cols x (length old) rect blur
columns_found {table} {cols} old {x} {rect} {blur} e = record {
  long = omega (arith, ap length e ∙ length_map_row (λ i _. alpha_of table blur (col_sd rect (x + i))) old);
  is = λ i l. ap (λ (c : List ℕ). get_or c i 0) e ∙ get_d-map_row (λ i _. alpha_of table blur (col_sd rect (x + i))) old i l;
}

-- ---- the distance, where the row's own has been worked out

choose : (t : Bool) (f : Float → ℕ) (a b : Float) → cond t (f a) (f b) ≡ f (cond t a b)
choose true f a b = refl
choose false f a b = refl

-- in a straight row the alpha is the column's, from the table of columns, or the row's
pub alpha_side : {table cols : List ℕ} {x n : ℕ} {rect : Rect} {blur : Float} (r : Float) (y : ℕ) {qy sdy : Float}
    → Columns table cols x n rect blur → qy ≡ row_turn rect r y → sdy ≡ row_sd rect y → le qy Real.zero ≡ true
    → (i : ℕ) → i < n → farther sdy (col_sd rect (x + i)) (get_or cols i 0) (alpha_of table blur sdy) ≡ alpha_of table blur (shadow_sd rect r (x + i) y)
unfolding farther shadow_sd straight
alpha_side {table} {cols} {x} {rect = rect} {blur = blur} r y C q s t i h =
    let u = rw q at t in
    rw (C.is i h, s, u) (choose (lt (row_sd rect y) (col_sd rect (x + i))) (alpha_of table blur) (col_sd rect (x + i)) (row_sd rect y))

pub sd_turn : (rect : Rect) (r : Float) (y : ℕ) {qy : Float} → qy ≡ row_turn rect r y → le qy Real.zero ≡ false
    → (x : ℕ) → turn_sd rect r qy x ≡ shadow_sd rect r x y
unfolding shadow_sd straight
sd_turn rect r y q t x = let e = rw q at t in simp (e, q)

-- a pixel's alpha, by whether it is one of the middle columns
alpha_by : (table : List ℕ) (rect : Rect) (k : Shadow) (x y : ℕ)
    → shadow_alpha table rect k x y ≡ cond (spans (middle_from rect k y) (middle_to rect k y) (pos x)) (middle_alpha table rect k y) (alpha_of table k.blur (shadow_sd rect k.r x y))
unfolding shadow_alpha straight_alpha corner_alpha middle_from middle_to near_end far_end middle_alpha shadow_sd straight
alpha_by table rect k x y = go (le (row_turn rect k.r y) Real.zero) refl
  where
    go : (t : Bool) → le (row_turn rect k.r y) Real.zero ≡ t
        → shadow_alpha table rect k x y ≡ cond (spans (middle_from rect k y) (middle_to rect k y) (pos x)) (middle_alpha table rect k y) (alpha_of table k.blur (shadow_sd rect k.r x y))
    go true e = rw e
    go false e = rw e

-- ---- the spans

-- the rule of a row
abbrev pub rule : List ℕ → ℕ → Rect → Shadow → ℕ → ℕ → ℕ → ℕ
rule table x0 rect k y i p = shadow_pix table rect k (x0 + i) y p

no_and : (b : Bool) → b && false ≡ false
no_and true = refl
no_and false = refl

module _ (table : List ℕ) (rect : Rect) (k : Shadow) (y x0 : ℕ) (m : Middle) (l : List ℕ) (M : Held (middle_from rect k y) (middle_to rect k y) x0 (x0 + length l) m) where
  -- the middle columns, in their order
  pub ordered : (x0 ≤ m.from) × (m.from ≤ m.to) × (m.to ≤ x0 + length l)
  ordered = (starts_in _ _ x0 (x0 + length l) m (omega arith) M, goes_on _ _ x0 (x0 + length l) m (omega arith) M, ends_in _ _ x0 (x0 + length l) m (omega arith) M)

  pix_by : (x p : ℕ) {t : Bool} → x0 ≤ x → x < x0 + length l → leb m.from x && ltb x m.to ≡ t
      → shadow_pix table rect k x y p ≡ tinted k.color (cond t (middle_alpha table rect k y) (alpha_of table k.blur (shadow_sd rect k.r x y))) p
  unfolding shadow_pix
  pix_by x p h g e =
      ap (λ (a : ℕ). tinted k.color a p)
      (alpha_by table rect k x y
      ∙ ap (λ (b : Bool). cond b (middle_alpha table rect k y) (alpha_of table k.blur (shadow_sd rect k.r x y))) (spans_held _ _ x0 (x0 + length l) M.left M.right x h g ∙ e))

  abbrev here : ℕ → ℕ → ℕ
  here i p = rule table x0 rect k y i p

  at_left : (i p : ℕ) → i < m.from - x0 → here i p ≡ outer_pix table rect k (x0 + i) y p
  at_left i p h =
      let q : x0 + i < m.from = omega arith in
      let out : leb m.from (x0 + i) && ltb (x0 + i) m.to ≡ false = simp (lt-leb _ _ q) in pix_by (x0 + i) p (omega arith) (omega (arith, ordered)) out

  at_middle : (i p : ℕ) → m.from - x0 ≤ i → i < m.to - x0 → here i p ≡ tinted k.color (middle_alpha table rect k y) p
  at_middle i p h g =
      let lo : m.from ≤ x0 + i = omega arith in
      let hi : x0 + i < m.to = omega arith in
      let is : leb m.from (x0 + i) && ltb (x0 + i) m.to ≡ true = simp (le-leb _ _ lo, lt-ltb _ _ hi) in pix_by (x0 + i) p (omega arith) (omega (arith, ordered)) is

  at_right : (i p : ℕ) → m.to - x0 + i < length l → here (m.to - x0 + i) p ≡ outer_pix table rect k (m.to + i) y p
  at_right i p h =
      let at : x0 + (m.to - x0 + i) ≡ m.to + i = omega (arith, ordered) in
      let past : m.to ≤ m.to + i = omega arith in
      let out : leb m.from (m.to + i) && ltb (m.to + i) m.to ≡ false = ap (λ (b : Bool). leb m.from (m.to + i) && b) (le-ltb _ _ past) ∙ no_and (leb m.from (m.to + i)) in
      ap (λ (x : ℕ). shadow_pix table rect k x y p) at ∙ pix_by (m.to + i) p (omega (arith, ordered)) (omega (arith, ordered)) out

  -- the three spans, lent one after the other
  pub three : {u v z : List ℕ} (alpha : ℕ) → alpha ≡ middle_alpha table rect k y
      → u ≡ map_row (λ i p. outer_pix table rect k (x0 + i) y p) (take (m.from - x0) l)
      → (let r = u ++ drop (m.from - x0) l in v ≡ map_row (λ i p. tinted k.color alpha p) (take ((m.to - x0) - (m.from - x0)) (drop (m.from - x0) r)))
      → (let s = back (m.from - x0) (m.to - x0) (u ++ drop (m.from - x0) l) v in z ≡ map_row (λ i p. outer_pix table rect k (m.to + i) y p) (take (length s - (m.to - x0)) (drop (m.to - x0) s)))
      → (let s = back (m.from - x0) (m.to - x0) (u ++ drop (m.from - x0) l) v in back (m.to - x0) (length s) s z ≡ map_row here l)
  three {u} {v} {z} alpha e eu ev ez =
      let a = m.from - x0 in
      let b = m.to - x0 in
      let r = u ++ drop a l in
      let s = back a b r v in
      let R : Rowed here l r a = rowed_head a (omega (arith, ordered)) (eu ∙ map_row_same _ _ _ (λ i h. sym (at_left i _ (omega (arith, length-take a l))))) in
      let S = rowed_span {f = here} (λ i p. tinted k.color alpha p) b R (omega (arith, ordered)) (omega (arith, R.long, ordered))
      (λ i p h. at_middle (a + i) p (omega arith) h ∙ ap (λ (q : ℕ). tinted k.color q p) (sym e)) ev in
      let Q = rowed_span {f = here} (λ i p. outer_pix table rect k (m.to + i) y p) (length s) S (omega (arith, S.long, ordered)) (omega arith) (λ i p h. at_right i p (omega (arith, S.long))) ez in
      rowed_end Q (omega (arith, Q.long))

-- ---- the strips

-- the whole invariant of the loop over the strips, whose counter is x: the columns before it are painted, if the list is a canvas; `Striping` is of a canvas alone
pub record Striped (w h x0 y0 x1 y1 : ℕ) (F : ℕ → ℕ → ℕ → ℕ) (cv px : List ℕ) (x : ℕ) : Type 0 where
  pub off : is_canvas w h (length cv) ≡ false → px ≡ cv
  pub on : is_canvas w h (length cv) ≡ true → Striping w x0 y0 x1 y1 F cv px (min x x1)

pub striped_start : {w h x0 y0 x1 y1 : ℕ} {F : ℕ → ℕ → ℕ → ℕ} {cv : List ℕ} → x0 ≤ x1 → Striped w h x0 y0 x1 y1 F cv cv x0
striped_start {w} {h} {x0} {y0} {x1} {y1} {F} {cv} a = record {
  off = λ _. refl;
  on = λ _. let e : min x0 x1 ≡ x0 = omega arith in rw e (strip_start a);
}

-- a turn: the strip from x up to m is painted
pub striped_more : {w h x0 y0 x1 y1 : ℕ} {F : ℕ → ℕ → ℕ → ℕ} {cv px px' : List ℕ} {x m : ℕ} → Striped w h x0 y0 x1 y1 F cv px x → x < x1 → m ≡ min (x + 2048) x1
    → px' ≡ painted_on w h (boxed (box x y0 m y1) F) px → Striped w h x0 y0 x1 y1 F cv px' (x + 2048)
striped_more {w} {h} {x0} {y0} {x1} {y1} {F} {cv} {px} {px'} {x} {m} S a e q = record {
  off = λ t. let u = S.off t in q ∙ sym (painted_off w h _ px (ap (λ (l : List ℕ). is_canvas w h (length l)) u ∙ t)) ∙ u;
  on = λ t.
      let here : min x x1 ≡ x = omega arith in
      let I = rw here at (S.on t) in
      rw (sym e) (strip_next m I (omega arith) (omega arith) (q ∙ sym (painted_on_lem w h _ px (ap (λ (n : ℕ). is_canvas w h n) I.long ∙ t))));
}

pub striped_end : {w h x0 y0 x1 y1 : ℕ} {F : ℕ → ℕ → ℕ → ℕ} {cv px : List ℕ} {x : ℕ} → Striped w h x0 y0 x1 y1 F cv px x → x1 ≤ x → px ≡ painted_on w h (boxed (box x0 y0 x1 y1) F) cv
striped_end {w} {h} {x0} {y0} {x1} {y1} {F} {cv} {px} {x} S a = go (is_canvas w h (length cv)) refl
  where
    go : (t : Bool) → is_canvas w h (length cv) ≡ t → px ≡ painted_on w h (boxed (box x0 y0 x1 y1) F) cv
    go false t = S.off t ∙ painted_off w h _ cv t
    go true t = strip_end (S.on t) (omega arith) ∙ painted_on_lem w h _ cv t
