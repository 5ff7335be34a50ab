-- Laws of window sums, for any values, and of a line of cells.
use mathlib.Core.Path.{◌≡◌, refl, sym, ◌∙◌, ap, ap₂}
use mathlib.Core.List.{List, [], ◌∷◌}
use Prim.Native.Nat.{ℕ, zero, suc, ◌+◌, ◌-◌, ◌*◌, ◌/◌, ◌≤◌, ◌<◌}
use native.Mathlib.Nat.{add-zero, mul-le-mul_right, mul-div-le, div-le_self}
use native.Mathlib.Numerals.{add-one}
use native.Mathlib.Omega.{arith}
use lib.ListN.{length, get_or}
use Rattle.boxblur.specs.Box.{total, held, window, mean}
use Rattle.boxblur.specs.Private.{cell, sum, sums, scaled, scaled_sums, slid, put_means, put, Small, Step, InLine}

-- ---- sums
pub total_ext : (n : ℕ) (f g : ℕ → ℕ) → ((j : ℕ) → f j ≡ g j) → total n f ≡ total n g
unfolding total
total_ext zero f g e = refl
total_ext (suc n) f g e = let i : total n f ≡ total n g = total_ext n f g e in omega (arith, e n)

pub total_bound : (n : ℕ) (f : ℕ → ℕ) (b : ℕ) → ((j : ℕ) → f j ≤ b) → total n f ≤ b * n
unfolding total
total_bound zero f b h = omega arith
total_bound (suc n) f b h = let i : total n f ≤ b * n = total_bound n f b h in omega (arith, h n)

-- the first value out, the next one in
pub total_shift : (n : ℕ) (f : ℕ → ℕ) → total n (λ j. f (suc j)) + f 0 ≡ total n f + f n
unfolding total
total_shift zero f = refl
total_shift (suc n) f = let i : total n (λ j. f (suc j)) + f 0 ≡ total n f + f n = total_shift n f in omega arith

pub total_first : (n : ℕ) (f : ℕ → ℕ) → 0 < n → f 0 ≤ total n f
unfolding total
total_first zero f h = absurd (omega arith)
total_first (suc zero) f h = omega arith
total_first (suc (suc n)) f h = let i : f 0 ≤ total (suc n) f = total_first (suc n) f (omega arith) in omega arith

-- ---- windows
module _ (m r : ℕ) (f : ℕ → ℕ) (x : ℕ) where
  pub window_bound : (b : ℕ) → ((j : ℕ) → f j ≤ b) → window m r f x ≤ b * (2 * r + 1)
  unfolding window
  window_bound b h = total_bound (2 * r + 1) (λ j. f (held m r x j)) b (λ j. h (held m r x j))

  pub window_first : f (held m r x 0) ≤ window m r f x
  unfolding window
  window_first = total_first (2 * r + 1) (λ j. f (held m r x j)) (omega arith)

  pub window_slide : window m r f (x + 1) + f (held m r x 0) ≡ window m r f x + f (held m r x (2 * r + 1))
  unfolding window
  window_slide =
      ap (λ (t : ℕ). t + f (held m r x 0))
      (total_ext (2 * r + 1) (λ j. f (held m r (x + 1) j)) (λ j. f (held m r x (suc j))) (λ j. ap f (omega arith)))
      ∙ total_shift (2 * r + 1) (λ j. f (held m r x j))

pub mean_room : (r s : ℕ) → s ≤ 255 * (2 * r + 1) → s * (65536 / (2 * r + 1)) ≤ 16711680
mean_room r s h =
    let a : s * (65536 / (2 * r + 1)) ≤ 255 * (2 * r + 1) * (65536 / (2 * r + 1)) = mul-le-mul_right (65536 / (2 * r + 1)) h in
    let b : (2 * r + 1) * (65536 / (2 * r + 1)) ≤ 65536 = mul-div-le 65536 (2 * r + 1) in
    omega arith

-- a scaled sum is a small number
pub scaled_room : (r s : ℕ) → s ≤ 255 * (2 * r + 1) → scaled r s < 16777216
scaled_room r s h = omega (arith, mean_room r s h)

-- what lies in a sum lies in it scaled
scaled_holds : (i s d : ℕ) → d ≤ s → d * i ≤ s * i + 32768
scaled_holds i s d h = let k : d * i ≤ s * i = mul-le-mul_right i h in omega arith

-- scaled sums go on as the sums do
scaled_slide : (i s c d t : ℕ) → d ≤ s → s + c - d ≡ t → s * i + 32768 + c * i - d * i ≡ t * i + 32768
scaled_slide i s c d t h e =
    let f : t + d ≡ s + c = omega arith in
    let g : (t + d) * i ≡ (s + c) * i = ap (λ (k : ℕ). k * i) f in
    omega arith

-- ---- a line of cells
pub cons3 : {a a' b b' c c' : ℕ} → a ≡ a' → b ≡ b' → c ≡ c' → ◌≡◌ {A = List ℕ} (a ∷ b ∷ c ∷ []) (a' ∷ b' ∷ c' ∷ [])
cons3 p q r = cc

-- the sum of the first n values of cell 0's window
unfoldable pub part : (src : List ℕ) (start stride m r ch n : ℕ) → ℕ
part src start stride m r ch n = total n (λ j. cell src start stride ch (held m r 0 j))

abbrev pub parts : (src : List ℕ) (start stride m r n : ℕ) → List ℕ
parts src start stride m r n =
    part src start stride m r 0 n ∷ part src start stride m r 1 n ∷ part src start stride m r 2 n ∷ []

pub held_inside : (m r x j : ℕ) → 1 ≤ m → held m r x j < m
held_inside m r x j h = omega arith

-- a cell of the line lies within the bytes
pub inside : (len start stride m r c : ℕ) → InLine len start stride m r → c < m → start + c * stride + 3 ≤ len
inside len start stride m r c i h =
    let k : c * stride ≤ (m - 1) * stride = mul-le-mul_right stride (omega arith) in
    omega (arith, i.room)

module _ (src : List ℕ) (start stride m r : ℕ) where
  -- the first window begins with its first cell, r + 1 times
  part_first : (ch n : ℕ) → n ≤ r + 1 → part src start stride m r ch n ≡ cell src start stride ch 0 * n
  unfolding part total
  part_first ch zero h = omega arith
  part_first ch (suc n) h =
      let i : part src start stride m r ch n ≡ cell src start stride ch 0 * n = part_first ch n (omega arith) in
      let z : held m r 0 n ≡ 0 = omega arith in
      rw z (omega arith)

  pub parts_first : (k : ℕ) (t : List ℕ) → k ≡ r + 1 → t ≡ (get_or src start 0 * k) ∷ (get_or src (start + 1) 0 * k) ∷ (get_or src (start + 2) 0 * k) ∷ [] →
      t ≡ parts src start stride m r (r + 1)
  parts_first k t e q =
      let a : start + 0 * stride + 0 ≡ start = omega arith in
      let b : start + 0 * stride ≡ start = omega arith in
      q ∙ rw e
      (cons3 (ap (λ (i : ℕ). get_or src i 0 * (r + 1)) (sym a) ∙ sym (part_first 0 (r + 1) (omega arith))) (ap (λ (i : ℕ). get_or src (i + 1) 0 * (r + 1)) (sym b) ∙ sym (part_first 1 (r + 1) (omega arith))) (ap (λ (i : ℕ). get_or src (i + 2) 0 * (r + 1)) (sym b) ∙ sym (part_first 2 (r + 1) (omega arith))))

  part_more : (ch n : ℕ) → part src start stride m r ch n + cell src start stride ch (held m r 0 n) ≡ part src start stride m r ch (n + 1)
  unfolding part total
  part_more ch n = rw add-one

  -- one more cell of the first window
  pub parts_more : (n v : ℕ) (s t : List ℕ) → s ≡ parts src start stride m r n → v ≡ held m r 0 n →
      t ≡ (get_or s 0 0 + get_or src (start + v * stride) 0) ∷ (get_or s 1 0 + get_or src (start + v * stride + 1) 0) ∷ (get_or s 2 0 + get_or src (start + v * stride + 2) 0) ∷ [] →
      t ≡ parts src start stride m r (n + 1)
  parts_more n v s t p q e =
      e ∙ rw (p, q)
      (cons3 (ap (λ (i : ℕ). part src start stride m r 0 n + get_or src i 0) (sym (add-zero (start + held m r 0 n * stride))) ∙ part_more 0 n) (part_more 1 n) (part_more 2 n))

  pub part_all : parts src start stride m r (2 * r + 1) ≡ sums src start stride m r 0
  unfolding part sum window
  part_all = refl

  pub part_bound : ((i : ℕ) → get_or src i 0 < 256) → (ch n : ℕ) → part src start stride m r ch n ≤ 255 * n
  unfolding part
  part_bound h ch n =
      total_bound n (λ j. cell src start stride ch (held m r 0 j)) 255
      (λ j. let k : cell src start stride ch (held m r 0 j) < 256 = h (start + held m r 0 j * stride + ch) in omega arith)

  pub sum_bound : ((i : ℕ) → get_or src i 0 < 256) → (ch x : ℕ) → sum src start stride m r ch x ≤ 255 * (2 * r + 1)
  unfolding sum
  sum_bound h ch x =
      window_bound m r (λ i. cell src start stride ch i) x 255
      (λ i. let k : cell src start stride ch i < 256 = h (start + i * stride + ch) in omega arith)

  pub sum_first : (ch x : ℕ) → cell src start stride ch (held m r x 0) ≤ sum src start stride m r ch x
  unfolding sum
  sum_first ch x = window_first m r (λ i. cell src start stride ch i) x

  pub sum_slide : (ch x : ℕ) → sum src start stride m r ch x + cell src start stride ch (held m r x (2 * r + 1)) - cell src start stride ch (held m r x 0) ≡ sum src start stride m r ch (x + 1)
  unfolding sum
  sum_slide ch x =
      let e : window m r (λ i. cell src start stride ch i) (x + 1) + cell src start stride ch (held m r x 0) ≡ window m r (λ i. cell src start stride ch i) x + cell src start stride ch (held m r x (2 * r + 1)) = window_slide m r (λ i. cell src start stride ch i) x in
      omega arith

  scaled_low : ((i : ℕ) → get_or src i 0 < 256) → (ch x : ℕ) → scaled r (sum src start stride m r ch x) < 16777216
  scaled_low h ch x = scaled_room r (sum src start stride m r ch x) (sum_bound h ch x)

  -- the sums around cell 0, scaled
  pub sums_low : ((i : ℕ) → get_or src i 0 < 256) → (inv : ℕ) → inv ≡ 65536 / (2 * r + 1) → {s : List ℕ} → s ≡ sums src start stride m r 0 →
      (get_or s 0 0 * inv ≤ 16711680) × ((get_or s 1 0 * inv ≤ 16711680) × (get_or s 2 0 * inv ≤ 16711680))
  sums_low h inv e p =
      rw (p, e) (
        mean_room r (sum src start stride m r 0 0) (sum_bound h 0 0),
        (mean_room r (sum src start stride m r 1 0) (sum_bound h 1 0), mean_room r (sum src start stride m r 2 0) (sum_bound h 2 0)),
      )

  pub sums_scaled : (inv : ℕ) → inv ≡ 65536 / (2 * r + 1) → {s : List ℕ} {a b c : ℕ} → s ≡ sums src start stride m r 0 → a ≡ get_or s 0 0 * inv + 32768 → b ≡ get_or s 1 0 * inv + 32768 → c ≡ get_or s 2 0 * inv + 32768 →
      a ∷ b ∷ c ∷ [] ≡ scaled_sums src start stride m r 0
  sums_scaled inv e p f g h = cons3 f g h ∙ rw (p, e)

  -- a turn at cell x: what it asks of the scaled sums s, what it makes of them, and what it stores
  module _ (x : ℕ) (s : List ℕ) (p : s ≡ scaled_sums src start stride m r x) where
    zero-ch : (i : ℕ) → get_or src (start + i * stride) 0 ≡ cell src start stride 0 i
    zero-ch i = ap (λ (k : ℕ). get_or src k 0) (sym (add-zero (start + i * stride)))

    pub small-sums : ((i : ℕ) → get_or src i 0 < 256) → Small s
    small-sums h = rw p (scaled_low h 0 x, (scaled_low h 1 x, scaled_low h 2 x))

    module _ (inv : ℕ) (e : inv ≡ 65536 / (2 * r + 1)) where
      oldest : (b : ℕ) → b ≡ start + held m r x 0 * stride →
          (get_or src b 0 * inv ≤ get_or s 0 0) × ((get_or src (b + 1) 0 * inv ≤ get_or s 1 0) × (get_or src (b + 2) 0 * inv ≤ get_or s 2 0))
      oldest b o =
          rw (p, o, e, zero-ch (held m r x 0)) (
            scaled_holds (65536 / (2 * r + 1)) (sum src start stride m r 0 x) (cell src start stride 0 (held m r x 0)) (sum_first 0 x),
            (
              scaled_holds (65536 / (2 * r + 1)) (sum src start stride m r 1 x) (cell src start stride 1 (held m r x 0)) (sum_first 1 x),
              scaled_holds (65536 / (2 * r + 1)) (sum src start stride m r 2 x) (cell src start stride 2 (held m r x 0)) (sum_first 2 x),
            ),
          )

      slides : (ch : ℕ) → scaled r (sum src start stride m r ch x) + cell src start stride ch (held m r x (2 * r + 1)) * (65536 / (2 * r + 1)) - cell src start stride ch (held m r x 0) * (65536 / (2 * r + 1)) ≡ scaled r (sum src start stride m r ch (x + 1))
      slides ch =
          scaled_slide (65536 / (2 * r + 1)) (sum src start stride m r ch x) (cell src start stride ch (held m r x (2 * r + 1))) (cell src start stride ch (held m r x 0)) (sum src start stride m r ch (x + 1)) (sum_first ch x) (sum_slide ch x)

      module _ (new old : ℕ) (q : new ≡ start + held m r x (2 * r + 1) * stride) (u : old ≡ start + held m r x 0 * stride) where
        pub turn-fits : ((i : ℕ) → get_or src i 0 < 256) → InLine (length src) start stride m r → Step src s new old inv
        turn-fits h i =
            record {
              comes = rw q (inside (length src) start stride m r (held m r x (2 * r + 1)) i (held_inside m r x (2 * r + 1) i.some));
              leaves = rw u (inside (length src) start stride m r (held m r x 0) i (held_inside m r x 0 i.some));
              scale = rw e (div-le_self 65536 (2 * r + 1));
              small = small-sums h;
              holds = oldest old u;
            }

        pub turn-slides : (z : List ℕ) → z ≡ slid src s new old inv → z ≡ scaled_sums src start stride m r (x + 1)
        turn-slides z f =
            f ∙ rw (p, q, u, e)
            (cons3 (ap₂ (λ (i j : ℕ). scaled r (sum src start stride m r 0 x) + i * (65536 / (2 * r + 1)) - j * (65536 / (2 * r + 1))) (zero-ch (held m r x (2 * r + 1))) (zero-ch (held m r x 0)) ∙ slides 0) (slides 1) (slides 2))

    pub turn-stores : (d : List ℕ) (o : ℕ) →
        put_means d s o ≡ put d o (mean r (sum src start stride m r 0 x)) (mean r (sum src start stride m r 1 x)) (mean r (sum src start stride m r 2 x))
    unfolding mean
    turn-stores d o = rw p
