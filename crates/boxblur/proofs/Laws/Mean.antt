-- What the means of a box pass are: never above the window's maximum, and which uniform values survive.
use mathlib.Core.Path.{◌≡◌, refl, ap}
use mathlib.Core.Logic.{◌↔◌}
use mathlib.Core.List.{List, [], ◌∷◌}
use Prim.Native.Nat.{ℕ, zero, suc, ◌+◌, ◌*◌, ◌/◌, ◌%◌, ◌≤◌, ◌<◌, max}
use native.Mathlib.Nat.{mul-le-mul_right, mul-le-mul_left, mul-div-le, div-lt_iff_lt-mul, le-div_iff_mul-le, div-eq_of_lt-le, div-add-mod}
use native.Mathlib.Omega.{arith}
use lib.ListN.{get_or}
use Rattle.boxblur.specs.Box.{total, held, window, highest, peak, mean, place, row, column, table, byte_h, byte_v, box_h, box_v}
use Rattle.boxblur.proofs.Sums.{window_bound}
use Rattle.boxblur.proofs.Pass.{table_at}

total_highest : (n : ℕ) (f : ℕ → ℕ) → total n f ≤ highest n f * n
unfolding total highest
total_highest zero f = omega arith
total_highest (suc n) f =
    let i : total n f ≤ highest n f * n = total_highest n f in
    let j : highest n f * n ≤ max (highest n f) (f n) * n = mul-le-mul_right n (omega arith) in
    let k : f n ≤ max (highest n f) (f n) = omega arith in
    more (total n f) (max (highest n f) (f n)) (f n) n (highest n f * n) i j k
  where
    more : (t p q n u : ℕ) → t ≤ u → u ≤ p * n → q ≤ p → t + q ≤ p * suc n
    more t p q n u i j k = omega arith

mean_below : (r s b : ℕ) → s ≤ b * (2 * r + 1) → mean r s ≤ b
unfolding mean
mean_below r s b h =
    let k : s * (65536 / (2 * r + 1)) ≤ b * (2 * r + 1) * (65536 / (2 * r + 1)) = mul-le-mul_right (65536 / (2 * r + 1)) h in
    let l : b * ((2 * r + 1) * (65536 / (2 * r + 1))) ≤ b * 65536 = mul-le-mul_left b (mul-div-le 65536 (2 * r + 1)) in
    let z : (s * (65536 / (2 * r + 1)) + 32768) / 65536 < suc b = (div-lt_iff_lt-mul {k = 65536} (omega arith)).1 (omega arith) in
    omega arith

-- never above the window's maximum
pub mean_peak : (m r : ℕ) (f : ℕ → ℕ) (x : ℕ) → mean r (window m r f x) ≤ peak m r f x
unfolding window peak
mean_peak m r f x =
    mean_below r (total (2 * r + 1) (λ j. f (held m r x j))) (highest (2 * r + 1) (λ j. f (held m r x j))) (total_highest (2 * r + 1) (λ j. f (held m r x j)))

total_uniform : (n c : ℕ) → total n (λ j. c) ≡ c * n
unfolding total
total_uniform zero c = omega arith
total_uniform (suc n) c = let i : total n (λ j. c) ≡ c * n = total_uniform n c in omega arith

-- a uniform value survives exactly when its loss is at most a half
pub uniform : (m r c x : ℕ) → (mean r (window m r (λ i. c) x) ≡ c) ↔ (c * (65536 % (2 * r + 1)) ≤ 32768)
unfolding window mean
uniform m r c x = rw (total_uniform (2 * r + 1) c) (down, up)
  where
    whole : c * ((2 * r + 1) * (65536 / (2 * r + 1)) + 65536 % (2 * r + 1)) ≡ c * 65536
    whole = ap (λ (t : ℕ). c * t) (div-add-mod 65536 (2 * r + 1))

    down : (c * (2 * r + 1) * (65536 / (2 * r + 1)) + 32768) / 65536 ≡ c → c * (65536 % (2 * r + 1)) ≤ 32768
    down e =
        let g : c * 65536 ≤ c * (2 * r + 1) * (65536 / (2 * r + 1)) + 32768 = (le-div_iff_mul-le {k = 65536} (omega arith)).0 (omega arith) in
        omega (arith, whole)

    up : c * (65536 % (2 * r + 1)) ≤ 32768 → (c * (2 * r + 1) * (65536 / (2 * r + 1)) + 32768) / 65536 ≡ c
    up h = div-eq_of_lt-le 65536 (omega (arith, whole)) (omega (arith, whole))

-- ---- the same at byte k of a whole pass, whichever line goes through the byte and wherever it stands on it
module _ (n m r : ℕ) (line : ℕ → ℕ → ℕ) (at : ℕ → ℕ) (k : ℕ) (l : k < n) where
  pub pass_at : get_or (table n (λ i. mean r (window m r (line i) (at i)))) k 0 ≡ mean r (window m r (line k) (at k))
  pass_at = table_at n (λ i. mean r (window m r (line i) (at i))) k l

  pass_peak : get_or (table n (λ i. mean r (window m r (line i) (at i)))) k 0 ≤ peak m r (line k) (at k)
  pass_peak = rw pass_at (mean_peak m r (line k) (at k))

  -- bytes stay bytes
  pass_byte : ((i : ℕ) → line k i ≤ 255) → get_or (table n (λ i. mean r (window m r (line i) (at i)))) k 0 ≤ 255
  pass_byte b = rw pass_at (mean_below r (window m r (line k) (at k)) 255 (window_bound m r (line k) (at k) 255 b))

module _ (w h r : ℕ) (src : List ℕ) (k : ℕ) (l : k < 3 * (w * h)) where
  pub box_h-peak : get_or (box_h w h r src) k 0 ≤ peak w r (row w src (k / 3 / w) (k % 3)) (k / 3 % w)
  unfolding byte_h
  box_h-peak = pass_peak (3 * (w * h)) w r (λ i. row w src (i / 3 / w) (i % 3)) (λ i. i / 3 % w) k l

  pub box_v-peak : get_or (box_v w h r src) k 0 ≤ peak h r (column w src (k / 3 % w) (k % 3)) (k / 3 / w)
  unfolding byte_v
  box_v-peak = pass_peak (3 * (w * h)) h r (λ i. column w src (i / 3 % w) (i % 3)) (λ i. i / 3 / w) k l

  module _ (b : (i : ℕ) → get_or src i 0 ≤ 255) where
    pub boxH-byte : get_or (box_h w h r src) k 0 ≤ 255
    unfolding byte_h
    boxH-byte = pass_byte (3 * (w * h)) w r (λ i. row w src (i / 3 / w) (i % 3)) (λ i. i / 3 % w) k l (λ x. b (place w x (k / 3 / w) (k % 3)))

    pub boxV-byte : get_or (box_v w h r src) k 0 ≤ 255
    unfolding byte_v
    boxV-byte = pass_byte (3 * (w * h)) h r (λ i. column w src (i / 3 % w) (i % 3)) (λ i. i / 3 / w) k l (λ y. b (place w (k / 3 % w) y (k % 3)))

-- ---- examples

-- a row of 0, 0, 255 at r = 1
pub row_example : box_h 3 1 1 (0 ∷ 0 ∷ 0 ∷ 0 ∷ 0 ∷ 0 ∷ 255 ∷ 255 ∷ 255 ∷ []) ≡ 0 ∷ 0 ∷ 0 ∷ 85 ∷ 85 ∷ 85 ∷ 170 ∷ 170 ∷ 170 ∷ []
unfolding byte_h table mean window total
row_example = refl

-- at r = 150 a uniform 149 stays and 150 loses one
pub stays_149 : (m x : ℕ) → mean 150 (window m 150 (λ i. 149) x) ≡ 149
stays_149 m x = (uniform m 150 149 x).1 (omega arith)

pub falls_150 : (m x : ℕ) → mean 150 (window m 150 (λ i. 150) x) ≡ 149
unfolding mean window
falls_150 m x = rw (total_uniform (2 * 150 + 1) 150) refl
