-- From spans of cells to the whole pass: cells that are stored one after the other, in any order, are the definition.
use mathlib.Core.Path.{◌≡◌, refl, sym, ◌∙◌, ap, subst}
use mathlib.Core.Logic.{◌≢◌, ◌⊎◌, inl, inr, ⊎_elim}
use mathlib.Core.List.{List, []}
use Prim.Native.Nat.{ℕ, zero, suc, ◌+◌, ◌-◌, ◌*◌, ◌/◌, ◌%◌, ◌≤◌, ◌<◌}
use native.Mathlib.Nat.{add-zero, mul-le-mul_right, eq-or-lt_of_le, le_of_suc-le-suc, not-suc-le-zero, div-add-mod', div-lt_iff_lt-mul, div-eq_of_lt, mod-lt, mod-eq_of_lt, mul-add-mod_self_right, mul-add-div_right}
use native.Mathlib.Numerals.{add-one}
use native.Mathlib.Omega.{arith}
use lib.ListN.{length, get_or, set, length-set}
use lib.Seq.{get_or-set_same, get_or-set_other, ext_get_or}
use Rattle.boxblur.specs.declared.Axis.{Axis}
use Rattle.boxblur.specs.declared.Axis.TheVariants.{Rows, Columns}
use Rattle.boxblur.specs.declared.Blur.{Blur}
use Rattle.boxblur.specs.Box.{window, held, mean, place, table, byte_h, byte_v}
use Rattle.boxblur.specs.Private.{Fits, Block, Split, PutCells, InLine, Small, Step, line_start, line_stride, line_cells, place_on, window_cell, sums_at, new_byte, cell, sum, scaled_sums, slid, put, put_means, means, span, stripe}
use Rattle.boxblur.proofs.Sums.{total_ext, small-sums, turn-fits, turn-slides, turn-stores}

-- ---- tables
pub table_length : (n : ℕ) (f : ℕ → ℕ) → length (table n f) ≡ n
unfolding table
table_length zero f = refl
table_length (suc n) f = ap suc (table_length n (λ k. f (suc k)))

pub table_at : (n : ℕ) (f : ℕ → ℕ) (i : ℕ) → i < n → get_or (table n f) i 0 ≡ f i
unfolding table
table_at zero f i h = absurd (not-suc-le-zero h)
table_at (suc n) f zero h = refl
table_at (suc n) f (suc i) h = table_at n (λ k. f (suc k)) i (le_of_suc-le-suc h)

order : (a b : ℕ) → (a < b) ⊎ (b ≤ a)
order a zero = inr (omega arith)
order zero (suc b) = inl (omega arith)
order (suc a) (suc b) = ⊎_elim (λ (l : a < b). inl (omega arith)) (λ (l : b ≤ a). inr (omega arith)) (order a b)

-- ---- where the cells stand
module _ (w x y ch : ℕ) (hx : x < w) (hc : ch < 3) where
  third : place w x y ch / 3 ≡ y * w + x
  third = omega arith

  pub channel_of : place w x y ch % 3 ≡ ch
  channel_of = omega arith

  pub row_of : place w x y ch / 3 / w ≡ y
  row_of = ap (λ (i : ℕ). i / w) third ∙ mul-add-div_right (omega arith) y x ∙ ap (λ (i : ℕ). y + i) (div-eq_of_lt hx) ∙ add-zero y

  pub column_of : place w x y ch / 3 % w ≡ x
  column_of = ap (λ (i : ℕ). i % w) third ∙ mul-add-mod_self_right y w x ∙ mod-eq_of_lt hx

  pub place_inside : (h : ℕ) → y < h → place w x y ch < 3 * (w * h)
  place_inside h hy = let k : suc y * w ≤ h * w = mul-le-mul_right w hy in omega arith

-- two columns, and two rows, share no byte
apart_columns : (w x x' y y' ch ch' : ℕ) → x < w → x' < w → ch < 3 → ch' < 3 → x < x' → place w x y ch ≢ place w x' y' ch'
apart_columns w x x' y y' ch ch' hx hx' hc hc' l e =
    let f : x ≡ x' = sym (column_of w x y ch hx hc) ∙ ap (λ (k : ℕ). k / 3 % w) e ∙ column_of w x' y' ch' hx' hc' in
    omega arith

apart_rows : (w x x' y y' ch ch' : ℕ) → x < w → x' < w → ch < 3 → ch' < 3 → y < y' → place w x y ch ≢ place w x' y' ch'
apart_rows w x x' y y' ch ch' hx hx' hc hc' l e =
    let f : y ≡ y' = sym (row_of w x y ch hx hc) ∙ ap (λ (k : ℕ). k / 3 / w) e ∙ row_of w x' y' ch' hx' hc' in
    omega arith

-- byte k's own place
pub place_of : (w k : ℕ) → place w (k / 3 % w) (k / 3 / w) (k % 3) ≡ k
place_of w k = rw (div-add-mod' (k / 3) w) (div-add-mod' k 3)

-- ---- three stores
module _ (d : List ℕ) (o a b c : ℕ) where
  put_0 : o + 2 < length d → get_or (put d o a b c) (o + 0) 0 ≡ a
  put_0 h =
      ap (λ (i : ℕ). get_or (put d o a b c) i 0) (add-zero o)
      ∙ get_or-set_other (set (set d o a) (o + 1) b) (o + 2) o c 0 (omega arith)
      ∙ get_or-set_other (set d o a) (o + 1) o b 0 (omega arith)
      ∙ get_or-set_same d o a 0 (omega arith)

  put_1 : o + 2 < length d → get_or (put d o a b c) (o + 1) 0 ≡ b
  put_1 h =
      get_or-set_other (set (set d o a) (o + 1) b) (o + 2) (o + 1) c 0 (omega arith)
      ∙ get_or-set_same (set d o a) (o + 1) b 0 (simp length-set (omega arith))

  put_2 : o + 2 < length d → get_or (put d o a b c) (o + 2) 0 ≡ c
  put_2 h = get_or-set_same (set (set d o a) (o + 1) b) (o + 2) c 0 (simp length-set (omega arith))

  put_other : (k : ℕ) → k ≢ o + 0 → k ≢ o + 1 → k ≢ o + 2 → get_or (put d o a b c) k 0 ≡ get_or d k 0
  put_other k p q r =
      get_or-set_other (set (set d o a) (o + 1) b) (o + 2) k c 0 r
      ∙ get_or-set_other (set d o a) (o + 1) k b 0 q
      ∙ get_or-set_other d o k a 0 (omega arith)

-- ---- spans and stripes, whatever is stored
module _ (f : ℕ → ℕ → ℕ → ℕ) (w : ℕ) where
  pub span_none : (y x : ℕ) (d : List ℕ) → d ≡ span f w y x 0 d
  unfolding span
  span_none y x d = refl

  pub span_length : (y x n : ℕ) (d : List ℕ) → length (span f w y x n d) ≡ length d
  unfolding span
  span_length y x zero d = refl
  span_length y x (suc n) d = simp length-set (span_length y x n d)

  pub span_more : (y x n : ℕ) (d e z : List ℕ) (o : ℕ) → e ≡ span f w y x n d → o ≡ (y * w + (x + n)) * 3 →
      z ≡ put e o (f (x + n) y 0) (f (x + n) y 1) (f (x + n) y 2) → z ≡ span f w y x (n + 1) d
  unfolding span
  span_more y x n d e z o p q t = t ∙ rw (p, q, add-one n)

  pub span_join : (y x n m : ℕ) (d : List ℕ) → span f w y (x + n) m (span f w y x n d) ≡ span f w y x (n + m) d
  unfolding span
  span_join y x n zero d = ap (λ (k : ℕ). span f w y x k d) (sym (add-zero n))
  span_join y x n (suc m) d =
      let e : x + n + m ≡ x + (n + m) = omega arith in
      let g : n + suc m ≡ suc (n + m) = omega arith in
      rw (g, e, span_join y x n m d)

  -- m cells after n others
  pub span_then : (y a b n m : ℕ) (d e z : List ℕ) → a + n ≡ b → e ≡ span f w y a n d → z ≡ span f w y b m e → z ≡ span f w y a (n + m) d
  span_then y a b n m d e z g p q =
      q ∙ ap (span f w y b m) p ∙ ap (λ (i : ℕ). span f w y i m (span f w y a n d)) (sym g) ∙ span_join y a n m d

  span_miss : (y x n : ℕ) (d : List ℕ) (k : ℕ) → ((x' ch : ℕ) → x ≤ x' → x' < x + n → ch < 3 → k ≢ place w x' y ch) →
      get_or (span f w y x n d) k 0 ≡ get_or d k 0
  unfolding span
  span_miss y x zero d k h = refl
  span_miss y x (suc n) d k h =
      put_other (span f w y x n d) ((y * w + (x + n)) * 3) (f (x + n) y 0) (f (x + n) y 1) (f (x + n) y 2) k
      (h (x + n) 0 (omega arith) (omega arith) (omega arith))
      (h (x + n) 1 (omega arith) (omega arith) (omega arith))
      (h (x + n) 2 (omega arith) (omega arith) (omega arith))
      ∙ span_miss y x n d k (λ x' ch l l'. h x' ch l (omega arith))

  here : (d : List ℕ) (x y ch : ℕ) → ch < 3 → (y * w + x) * 3 + 2 < length d →
      get_or (put d ((y * w + x) * 3) (f x y 0) (f x y 1) (f x y 2)) (place w x y ch) 0 ≡ f x y ch
  here d x y zero h l = put_0 d ((y * w + x) * 3) (f x y 0) (f x y 1) (f x y 2) l
  here d x y (suc zero) h l = put_1 d ((y * w + x) * 3) (f x y 0) (f x y 1) (f x y 2) l
  here d x y (suc (suc zero)) h l = put_2 d ((y * w + x) * 3) (f x y 0) (f x y 1) (f x y 2) l
  here d x y (suc (suc (suc ch))) h l = absurd (omega arith)

  span_hit : (y x n : ℕ) (d : List ℕ) → (y * w + (x + n)) * 3 ≤ length d → (x' ch : ℕ) → x ≤ x' → x' < x + n → ch < 3 →
      get_or (span f w y x n d) (place w x' y ch) 0 ≡ f x' y ch
  unfolding span
  span_hit y x zero d l x' ch a b c = absurd (omega arith)
  span_hit y x (suc n) d l x' ch a b c =
      ⊎_elim
      (λ (e : x' ≡ x + n). rw e (here (span f w y x n d) (x + n) y ch c (let q : length (span f w y x n d) ≡ length d = span_length y x n d in omega arith)))
      (λ (lt : x' < x + n).
      put_other (span f w y x n d) ((y * w + (x + n)) * 3) (f (x + n) y 0) (f (x + n) y 1) (f (x + n) y 2) (place w x' y ch) (omega arith) (omega arith) (omega arith)
      ∙ span_hit y x n d (omega arith) x' ch a lt c)
      (eq-or-lt_of_le (let b' : x' ≤ x + n = omega arith in b'))

  pub stripe_none : (x n : ℕ) (d : List ℕ) → d ≡ stripe f w x n 0 d
  unfolding stripe
  stripe_none x n d = refl

  pub stripe_more : (x n y : ℕ) (d e z : List ℕ) → e ≡ stripe f w x n y d → z ≡ span f w y x n e → z ≡ stripe f w x n (y + 1) d
  unfolding stripe
  stripe_more x n y d e z p q = q ∙ rw (p, add-one y)

  pub stripe_length : (x n m : ℕ) (d : List ℕ) → length (stripe f w x n m d) ≡ length d
  unfolding stripe
  stripe_length x n zero d = refl
  stripe_length x n (suc m) d = span_length m x n (stripe f w x n m d) ∙ stripe_length x n m d

  -- the columns before a stripe stay as they were
  stripe_miss : (x n m : ℕ) (d : List ℕ) → x + n ≤ w → (x' y ch : ℕ) → x' < x → ch < 3 →
      get_or (stripe f w x n m d) (place w x' y ch) 0 ≡ get_or d (place w x' y ch) 0
  unfolding stripe
  stripe_miss x n zero d a x' y ch b c = refl
  stripe_miss x n (suc m) d a x' y ch b c =
      span_miss m x n (stripe f w x n m d) (place w x' y ch) (λ x'' ch'' l l' c''. apart_columns w x' x'' y m ch ch'' (omega arith) (omega arith) c c'' (omega arith))
      ∙ stripe_miss x n m d a x' y ch b c

  stripe_hit : (h x n m : ℕ) (d : List ℕ) → x + n ≤ w → m ≤ h → length d ≡ 3 * (w * h) → (x' y ch : ℕ) → x ≤ x' → x' < x + n → y < m → ch < 3 →
      get_or (stripe f w x n m d) (place w x' y ch) 0 ≡ f x' y ch
  unfolding stripe
  stripe_hit h x n zero d a b e x' y ch l l' hy c = absurd (not-suc-le-zero hy)
  stripe_hit h x n (suc m) d a b e x' y ch l l' hy c =
      ⊎_elim
      (λ (q : y ≡ m).
      let g : length (stripe f w x n m d) ≡ length d = stripe_length x n m d in
      let k : suc m * w ≤ h * w = mul-le-mul_right w b in
      rw q (span_hit m x n (stripe f w x n m d) (omega arith) x' ch l l' c))
      (λ (lt : y < m).
      span_miss m x n (stripe f w x n m d) (place w x' y ch) (λ x'' ch'' k k' c''. apart_rows w x' x'' y m ch ch'' (omega arith) (omega arith) c c'' lt)
      ∙ stripe_hit h x n m d a (omega arith) e x' y ch l l' lt c)
      (eq-or-lt_of_le (le_of_suc-le-suc hy))

  -- the first x of w columns are stored
  abbrev pub Filled : (h x : ℕ) → List ℕ → Type 0
  Filled h x d = (x' y ch : ℕ) → x' < x → y < h → ch < 3 → get_or d (place w x' y ch) 0 ≡ f x' y ch

  pub columns_none : (h : ℕ) (d : List ℕ) → Filled h 0 d
  columns_none h d x' y ch l = absurd (not-suc-le-zero l)

  pub columns_more : (h x n : ℕ) (d z : List ℕ) → x + n ≤ w → length d ≡ 3 * (w * h) → Filled h x d → z ≡ stripe f w x n h d → Filled h (x + n) z
  columns_more h x n d z a e old q x' y ch l hy c =
      rw q
      (⊎_elim
      (λ (lt : x' < x). stripe_miss x n h d a x' y ch lt c ∙ old x' y ch lt hy c)
      (λ (ge : x ≤ x'). stripe_hit h x n h d a (omega arith) e x' y ch ge l hy c)
      (order x' x))

  -- all columns
  pub columns_all : 1 ≤ w → (h : ℕ) (d : List ℕ) → length d ≡ 3 * (w * h) → Filled h w d → (g : ℕ → ℕ) → ((k : ℕ) → f (k / 3 % w) (k / 3 / w) (k % 3) ≡ g k) →
      d ≡ table (3 * (w * h)) g
  columns_all p h d e all g q =
      ext_get_or 0 d (table (3 * (w * h)) g) (e ∙ sym (table_length (3 * (w * h)) g))
      (λ k l.
      let l' : k < 3 * (w * h) = omega arith in
      ap (λ (i : ℕ). get_or d i 0) (sym (place_of w k))
      ∙ all (k / 3 % w) (k / 3 / w) (k % 3) (mod-lt (k / 3) p) ((div-lt_iff_lt-mul p).1 (omega arith)) (mod-lt k (omega arith))
      ∙ q k
      ∙ sym (table_at (3 * (w * h)) g k l'))

-- ---- the passes

-- the same bytes, found as a line's
line_byte : (src : List ℕ) (start stride m r ch x : ℕ) (f : ℕ → ℕ) → ((i : ℕ) → start + i * stride + ch ≡ f i) → mean r (sum src start stride m r ch x) ≡ mean r (window m r (λ i. get_or src (f i) 0) x)
unfolding sum window
line_byte src start stride m r ch x f e =
    ap (mean r) (total_ext (2 * r + 1) (λ j. cell src start stride ch (held m r x j)) (λ j. get_or src (f (held m r x j)) 0) (λ j. ap (λ (k : ℕ). get_or src k 0) (e (held m r x j))))

-- what a pass stores for byte k
abbrev pub byte_along : Axis → (w h r : ℕ) → List ℕ → ℕ → ℕ
byte_along Rows = byte_h
byte_along Columns = byte_v

new_byte_lem : (axis : Axis) (src : List ℕ) (blur : Blur) (k : ℕ) →
    new_byte axis src blur (k / 3 % blur.w) (k / 3 / blur.w) (k % 3) ≡ byte_along axis blur.w blur.h blur.r src k
unfolding byte_h byte_v
new_byte_lem Rows src blur k =
    line_byte src ((k / 3 / blur.w * blur.w + 0) * 3) 3 blur.w blur.r (k % 3) (k / 3 % blur.w) (λ i. place blur.w i (k / 3 / blur.w) (k % 3)) (λ i. omega arith)
new_byte_lem Columns src blur k =
    line_byte src (k / 3 % blur.w * 3) (blur.w * 3) blur.h blur.r (k % 3) (k / 3 / blur.w) (λ i. place blur.w (k / 3 % blur.w) i (k % 3)) (λ i. omega arith)

-- the last of h rows
last_row : (h w : ℕ) → 1 ≤ h → (h - 1) * w + w ≡ h * w
last_row zero w p = absurd (omega arith)
last_row (suc h) w p = let e : suc h - 1 ≡ h = omega arith in rw e (omega arith)

-- the lines of a blur, and its cells
module _ (blur : Blur) (a : ℕ) (fits : Fits blur a) (x y : ℕ) (hx : x < blur.w) (hy : y < blur.h) where
  pub in_line : (axis : Axis) → InLine a (line_start axis blur x y) (line_stride axis blur) (line_cells axis blur) blur.r
  in_line Rows =
      let k : suc y * blur.w ≤ blur.h * blur.w = mul-le-mul_right blur.w hy in
      record { some = fits.wide; few = fits.narrow; narrow = fits.radius; room = omega (arith, fits.size, fits.wide) }
  in_line Columns =
      record { some = fits.tall; few = fits.low; narrow = fits.radius; room = omega (arith, fits.size, last_row blur.h blur.w fits.tall) }

  cell_inside : (y * blur.w + x) * 3 + 3 ≤ a
  cell_inside =
      let k : suc y * blur.w ≤ blur.h * blur.w = mul-le-mul_right blur.w hy in
      omega (arith, fits.size)

-- a whole row lies within the bytes
pub row_inside : (blur : Blur) (a : ℕ) → Fits blur a → (y : ℕ) → y < blur.h → (y * blur.w + blur.w) * 3 ≤ a
row_inside blur a fits y hy =
    let k : suc y * blur.w ≤ blur.h * blur.w = mul-le-mul_right blur.w hy in
    omega (arith, fits.size)

-- the step at the cell in column x of row y, along any axis
module _ (axis : Axis) (src : List ℕ) (blur : Blur) (fits : Fits blur (length src)) (x y : ℕ) (hx : x < blur.w) (hy : y < blur.h)
    (s : List ℕ) (p : s ≡ sums_at axis src blur x y) where
  module _ (new old : ℕ) (comes : new ≡ window_cell axis blur x y (2 * blur.r + 1)) (leaves : old ≡ window_cell axis blur x y 0) where
    pub cell-fits : ((i : ℕ) → get_or src i 0 < 256) → Step src s new old blur.inv
    cell-fits h =
        turn-fits src (line_start axis blur x y) (line_stride axis blur) (line_cells axis blur) blur.r (place_on axis x y) s p blur.inv fits.inverse new old comes leaves h
        (in_line blur (length src) fits x y hx hy axis)

    pub cell-slides : (z : List ℕ) → z ≡ slid src s new old blur.inv → z ≡ scaled_sums src (line_start axis blur x y) (line_stride axis blur) (line_cells axis blur) blur.r (place_on axis x y + 1)
    cell-slides =
        turn-slides src (line_start axis blur x y) (line_stride axis blur) (line_cells axis blur) blur.r (place_on axis x y) s p blur.inv fits.inverse new old comes leaves

  pub cell_small : ((i : ℕ) → get_or src i 0 < 256) → Small s
  cell_small = small-sums src (line_start axis blur x y) (line_stride axis blur) (line_cells axis blur) blur.r (place_on axis x y) s p

  -- the cell after the n stored ones
  pub cell_stored : (o : ℕ) → o ≡ (y * blur.w + x) * 3 → (from n : ℕ) (d e z : List ℕ) → from + n ≡ x → e ≡ span (new_byte axis src blur) blur.w y from n d → z ≡ put_means e s o →
      z ≡ span (new_byte axis src blur) blur.w y from (n + 1) d
  cell_stored o here from n d e z g t q =
      span_more (new_byte axis src blur) blur.w y from n d e z o t (rw g here)
      (rw g (q ∙ turn-stores src (line_start axis blur x y) (line_stride axis blur) (line_cells axis blur) blur.r (place_on axis x y) s p e o))

-- one more of the cells `from` to `to` - 1
one_more : (from to x w : ℕ) → from ≤ x → x < to → to ≤ w → (x < w) × ((from ≤ x + 1) × ((x + 1 ≤ to) × ((from + (x - from) ≡ x) × (x + 1 - from ≡ x - from + 1))))
one_more from to x w a b c = omega arith

-- ---- a row so far: the cells `from` to x - 1 are stored in d, which was d₀, and t are the sums around cell x
pub record Along (src : List ℕ) (blur : Blur) (y from to x : ℕ) (d₀ d t : List ℕ) : Type 0 where
  pub begun : from ≤ x
  pub within : x ≤ to
  pub sums : t ≡ sums_at Rows src blur x y
  pub stored : d ≡ span (new_byte Rows src blur) blur.w y from (x - from) d₀

module _ {src : List ℕ} {blur : Blur} {y from to : ℕ} {d₀ : List ℕ} where
  pub along_start : {t : List ℕ} → from ≤ to → t ≡ sums_at Rows src blur from y → Along src blur y from to from d₀ d₀ t
  along_start h e =
      let z : from - from ≡ 0 = omega arith in
      record { begun = omega arith; within = h; sums = e; stored = rw z (span_none (new_byte Rows src blur) blur.w y from d₀) }

  module _ {x : ℕ} {d t : List ℕ} (l : Along src blur y from to x d₀ d t) where
    pub along-length : length d ≡ length d₀
    along-length = ap length l.stored ∙ span_length (new_byte Rows src blur) blur.w y from (x - from) d₀

    pub along-end : (x < to → ⊥) → (t ≡ sums_at Rows src blur to y) × (d ≡ span (new_byte Rows src blur) blur.w y from (to - from) d₀)
    along-end n =
        let e : x ≡ to = omega (arith, l.within, n) in
        (l.sums ∙ ap (λ (x : ℕ). sums_at Rows src blur x y) e, l.stored ∙ ap (λ (x : ℕ). span (new_byte Rows src blur) blur.w y from (x - from) d₀) e)

    -- n cells more at once
    pub along-on : (n x' : ℕ) → x + n ≡ x' → {e v : List ℕ} → x' ≤ to → (v ≡ sums_at Rows src blur (x + n) y) × (e ≡ span (new_byte Rows src blur) blur.w y x n d) → Along src blur y from to x' d₀ e v
    along-on n x' i {e} {v} h q =
        let g : x' - from ≡ x - from + n = omega (arith, l.begun) in
        record {
          begun = omega (arith, l.begun);
          within = h;
          sums = q.0 ∙ ap (λ (k : ℕ). sums_at Rows src blur k y) i;
          stored = rw g (span_then (new_byte Rows src blur) blur.w y from x (x - from) n d₀ d e (omega (arith, l.begun)) l.stored q.1);
        }

    pub along-all : (n : ℕ) → from + n ≡ x → (t ≡ sums_at Rows src blur (from + n) y) × (d ≡ span (new_byte Rows src blur) blur.w y from n d₀)
    along-all n e =
        let g : x - from ≡ n = omega arith in
        (l.sums ∙ ap (λ (k : ℕ). sums_at Rows src blur k y) (sym e), l.stored ∙ ap (λ (k : ℕ). span (new_byte Rows src blur) blur.w y from k d₀) g)

    -- a turn at cell x
    module _ (fits : Fits blur (length src)) (long : length d₀ ≡ length src) (hy : y < blur.h) (hx : x < to) (ht : to ≤ blur.w) (o new old : ℕ)
        (here : o ≡ (y * blur.w + x) * 3) (comes : new ≡ window_cell Rows blur x y (2 * blur.r + 1)) (leaves : old ≡ window_cell Rows blur x y 0) where
      pub along-fits : ((i : ℕ) → get_or src i 0 < 256) → (o + 3 ≤ length d) × Step src t new old blur.inv
      along-fits h =
          let m = (one_more from to x blur.w l.begun hx ht).0 in
          (rw (here, along-length, long) (cell_inside blur (length src) fits x y m hy), cell-fits Rows src blur fits x y m hy t l.sums new old comes leaves h)

      pub along_more : {e v : List ℕ} → (v ≡ slid src t new old blur.inv) × (e ≡ put_means d t o) → Along src blur y from to (x + 1) d₀ e v
      along_more {e} {v} q =
          let m = one_more from to x blur.w l.begun hx ht in
          record {
            begun = m.1.0;
            within = m.1.1.0;
            sums = cell-slides Rows src blur fits x y m.0 hy t l.sums new old comes leaves v q.0;
            stored =
                rw m.1.1.1.1
                (cell_stored Rows src blur fits x y m.0 hy t l.sums o here from (x - from) d₀ d e m.1.1.1.0 l.stored q.1);
          }

-- ---- a block's sums

module _ (src : List ℕ) (blur : Blur) (x : ℕ) where
  pub block_none : (y : ℕ) (s : List (List ℕ)) → Block src blur x 0 y s
  block_none y s j l = absurd (not-suc-le-zero l)

  -- one more column
  pub block_more : (y i : ℕ) (s : List (List ℕ)) (t : List ℕ) → Block src blur x i y s → i < length s → t ≡ sums_at Columns src blur (x + i) y → Block src blur x (i + 1) y (set s i t)
  block_more y i s t b l e j k =
      ⊎_elim
      (λ (q : j ≡ i). rw q (get_or-set_same s i t [] l ∙ e))
      (λ (lt : j < i). get_or-set_other s i j t [] (omega arith) ∙ b j lt)
      (eq-or-lt_of_le (let k' : j ≤ i = omega arith in k'))

  pub split_more : (n y i : ℕ) (s : List (List ℕ)) (t : List ℕ) → Split src blur x n y i s → i < length s → t ≡ sums_at Columns src blur (x + i) (y + 1) → Split src blur x n y (i + 1) (set s i t)
  split_more n y i s t b l e =
      (block_more (y + 1) i s t b.0 l e, λ j k k'. get_or-set_other s i j t [] (omega arith) ∙ b.1 j (omega arith) k')

-- four columns more
module _ (src : List ℕ) (blur : Blur) (x n y : ℕ) where
  split_to : (i j : ℕ) (s : List (List ℕ)) (t : List ℕ) → i + 1 ≡ j → Split src blur x n y i s → i < length s → t ≡ sums_at Columns src blur (x + i) (y + 1) → Split src blur x n y j (set s i t)
  split_to i j s t e l h q = subst (λ (k : ℕ). Split src blur x n y k (set s i t)) e (split_more src blur x n y i s t l h q)

  pub split_four : (i : ℕ) (s : List (List ℕ)) (a b c d : List ℕ) → Split src blur x n y i s → i + 4 ≤ length s → a ≡ sums_at Columns src blur (x + i) (y + 1) → b ≡ sums_at Columns src blur (x + (i + 1)) (y + 1) →
      c ≡ sums_at Columns src blur (x + (i + 2)) (y + 1) → d ≡ sums_at Columns src blur (x + (i + 3)) (y + 1) → Split src blur x n y (i + 4) (set (set (set (set s i a) (i + 1) b) (i + 2) c) (i + 3) d)
  split_four i s a b c d l h e f g k =
      split_to (i + 3) (i + 4) (set (set (set s i a) (i + 1) b) (i + 2) c) d (omega arith)
      (split_to (i + 2) (i + 3) (set (set s i a) (i + 1) b) c (omega arith)
      (split_to (i + 1) (i + 2) (set s i a) b (omega arith) (split_to i (i + 1) s a refl l (omega arith) e) (simp length-set (omega arith)) f)
      (simp length-set (omega arith)) g) (simp length-set (omega arith)) k

-- a step at column j of a block that has not gone on yet
module _ (src : List ℕ) (blur : Blur) (fits : Fits blur (length src)) (x n y i j : ℕ) (s : List (List ℕ)) (l : Split src blur x n y i s) (hy : y < blur.h) (hi : i ≤ j) (hj : j < n) (hn : x + n ≤ blur.w)
    (new old : ℕ) (comes : new ≡ window_cell Columns blur (x + j) y (2 * blur.r + 1)) (leaves : old ≡ window_cell Columns blur (x + j) y 0) where
  hx : x + j < blur.w
  hx = below hj hn
    where
      below : j < n → x + n ≤ blur.w → x + j < blur.w
      below a b = omega arith

  now_sums : get_or s j [] ≡ sums_at Columns src blur (x + j) y
  now_sums = l.1 j hi hj

  pub split_fits : ((k : ℕ) → get_or src k 0 < 256) → Step src (get_or s j []) new old blur.inv
  split_fits = cell-fits Columns src blur fits (x + j) y hx hy (get_or s j []) now_sums new old comes leaves

  pub split_slides : {v : List ℕ} → v ≡ slid src (get_or s j []) new old blur.inv → v ≡ sums_at Columns src blur (x + j) (y + 1)
  split_slides {v} e = cell-slides Columns src blur fits (x + j) y hx hy (get_or s j []) now_sums new old comes leaves v e

-- what a block stores of its sums is what the pass stores
module _ (src : List ℕ) (blur : Blur) (x n y : ℕ) (s : List (List ℕ)) (l : Block src blur x n y s) where
  means_are : (i : ℕ) → i < n → (ch : ℕ) → means s x (x + i) y ch ≡ get_or (sums_at Columns src blur (x + i) y) ch 0 / 65536
  means_are i h ch = let e : x + i - x ≡ i = omega arith in rw e (ap (λ (t : List ℕ). get_or t ch 0 / 65536) (l i h))

  pub block_stores : (m : ℕ) → m ≤ n → (d : List ℕ) → span (means s x) blur.w y x m d ≡ span (new_byte Columns src blur) blur.w y x m d
  unfolding span mean
  block_stores zero h d = refl
  block_stores (suc m) h d = rw (block_stores m (omega arith) d, means_are m (omega arith) 0, means_are m (omega arith) 1, means_are m (omega arith) 2)

  pub block_small : Fits blur (length src) → y < blur.h → x + n ≤ blur.w → ((k : ℕ) → get_or src k 0 < 256) → (i : ℕ) → i < n → Small (get_or s i [])
  block_small fits hy hn h i k = cell_small Columns src blur fits (x + i) y (omega arith) hy (get_or s i []) (l i k) h

-- some of the columns that fit, in a slice of the same length
pub put_part : {n m w x y c : ℕ} {s : List (List ℕ)} → PutCells n s w x y 0 c → (i k : ℕ) → i + k ≤ c → m ≡ n → PutCells m s w x y i k
put_part {n} {m} {w} {x} {y} {c} {s} p i k h e =
    record {
      narrow = p.narrow;
      low = p.low;
      within = omega (arith, p.within);
      known = omega (arith, p.known);
      here = rw e p.here;
      small = λ j l. p.small j (omega arith);
    }

-- one more column's means stored
pub put_more : (s : List (List ℕ)) (w y x i j o : ℕ) (d e z : List ℕ) → i ≤ j → e ≡ span (means s x) w y (x + i) (j - i) d → o ≡ (y * w + x) * 3 → z ≡ put_means e (get_or s j []) (o + j * 3) →
    z ≡ span (means s x) w y (x + i) (j + 1 - i) d
put_more s w y x i j o d e z h p q r =
    let a : x + i + (j - i) - x ≡ j = omega arith in
    let g : j + 1 - i ≡ j - i + 1 = omega arith in
    rw g (span_more (means s x) w y (x + i) (j - i) d e z (o + j * 3) p (rw q (omega arith)) (rw a r))

-- where the block's column i stands in row v
pub block_place : (w x i v u o : ℕ) → o ≡ (v * w + x) * 3 → v ≡ u → o + i * 3 ≡ (x + i) * 3 + u * (w * 3)
block_place w x i v u o e q = rw (e, q) (omega arith)

-- ---- the parts of a row, and the whole
module _ (f : ℕ → ℕ → ℕ → ℕ) (w y : ℕ) where
  span_next : (a b c : ℕ) (d : List ℕ) → a ≤ b → b ≤ c → span f w y b (c - b) (span f w y a (b - a) d) ≡ span f w y a (c - a) d
  span_next a b c d h k =
      let e : b ≡ a + (b - a) = omega arith in
      let g : b - a + (c - b) ≡ c - a = omega arith in
      ap (λ (i : ℕ). span f w y i (c - b) (span f w y a (b - a) d)) e ∙ span_join f w y a (b - a) (c - b) d ∙ ap (λ (i : ℕ). span f w y a i d) g

  pub span_whole : (d e : List ℕ) → e ≡ span f w y 0 (w - 0) d → e ≡ span f w y 0 w d
  span_whole d e p = p ∙ ap (λ (i : ℕ). span f w y 0 i d) (omega arith)

  pub span_three : (a b : ℕ) (d d₁ d₂ d₃ : List ℕ) → a ≤ b → b ≤ w → d₁ ≡ span f w y 0 (a - 0) d → d₂ ≡ span f w y a (b - a) d₁ → d₃ ≡ span f w y b (w - b) d₂ →
      d₃ ≡ span f w y 0 w d
  span_three a b d d₁ d₂ d₃ h k p q r =
      span_whole d d₃ (r ∙ rw (q, p) (ap (λ (t : List ℕ). span f w y b (w - b) t) (span_next 0 a b d (omega arith) h) ∙ span_next 0 b w d (omega arith) k))

-- all columns stored are the pass
module _ (axis : Axis) (src : List ℕ) (blur : Blur) (a : ℕ) (fits : Fits blur a) where
  pub pass_end : (z : List ℕ) → length z ≡ a → Filled (new_byte axis src blur) blur.w blur.h blur.w z →
      z ≡ table (3 * (blur.w * blur.h)) (byte_along axis blur.w blur.h blur.r src)
  pass_end z e all =
      columns_all (new_byte axis src blur) blur.w fits.wide blur.h z (e ∙ fits.size) all (byte_along axis blur.w blur.h blur.r src) (new_byte_lem axis src blur)

  pub stripe_end : (d z : List ℕ) → length d ≡ a → z ≡ stripe (new_byte axis src blur) blur.w 0 blur.w blur.h d →
      z ≡ table (3 * (blur.w * blur.h)) (byte_along axis blur.w blur.h blur.r src)
  stripe_end d z e q =
      pass_end z (ap length q ∙ stripe_length (new_byte axis src blur) blur.w 0 blur.w blur.h d ∙ e)
      (λ x y ch l. columns_more (new_byte axis src blur) blur.w blur.h 0 blur.w d z (omega arith) (e ∙ fits.size) (columns_none (new_byte axis src blur) blur.w blur.h d) q x y ch (omega arith))
