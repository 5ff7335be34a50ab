-- Cells of three bytes: their sums, a row of them, and the picture that the rows make.
use Prim.Native.Nat.{ℕ, zero, suc, ◌+◌, ◌-◌, ◌*◌, ◌/◌, ◌%◌, ◌≤◌, ◌<◌, min}
use mathlib.Core.Path.{◌≡◌, refl, sym, ap, ◌∙◌, subst}
use mathlib.Core.Logic.{◌⊎◌, ⊎_elim}
use mathlib.Core.List.{List, [], ◌∷◌}
use native.Mathlib.Nat.{mul-le-mul_left}
use native.Mathlib.Decide.{dec_lt}
use native.Mathlib.Numerals.{add-one}
use native.Mathlib.Omega.{arith}
use lib.ListN.{length, get_or, set, length-set}
use Rattle.boxblur.specs.Box.{total}
use Rattle.boxblur.proofs.Sums.{total_bound}
use Rattle.boxblur.proofs.Laws.Reach.{total_below}
use Rattle.canvas.specs.Rows.{map_row, below}
use Rattle.canvas.proofs.Laws.Rows.{Rowed, rowed_more, is_map_row, get_d-map_row, length_map_row, below_in, below_out}
use Rattle.backdrop.specs.Picture.{channel}
use Rattle.backdrop.specs.Private.{AnyScale, Within, rgb, from_column, along, block_mean}

-- ---- sums of channels

pub channel_byte : (ch p : ℕ) → channel ch p < 256
channel_byte zero p = omega arith
channel_byte (suc zero) p = omega arith
channel_byte (suc (suc n)) p = omega arith

pub cons3 : {a a' b b' c c' : ℕ} → a ≡ a' → b ≡ b' → c ≡ c' → ◌≡◌ {A = List ℕ} (a ∷ b ∷ c ∷ []) (a' ∷ b' ∷ c' ∷ [])
cons3 p q r = cc

module _ (cv : List ℕ) (at m x : ℕ) where
  -- no pixel, and one more
  pub along_none : {s : List ℕ} → s ≡ 0 ∷ 0 ∷ 0 ∷ [] → s ≡ rgb (along 0 cv at m x)
  unfolding along total
  along_none e = e

  one_more : (k ch : ℕ) → along k cv at m x ch + channel ch (get_or cv (at + min (x + k) m) 0) ≡ along (k + 1) cv at m x ch
  unfolding along total
  one_more k ch = rw add-one

  pub along_more : (k : ℕ) {a b s : List ℕ} → a ≡ rgb (along k cv at m x) → b ≡ rgb (λ ch. channel ch (get_or cv (at + min (x + k) m) 0)) → s ≡ rgb (λ ch. get_or a ch 0 + get_or b ch 0) →
      s ≡ rgb (along (k + 1) cv at m x)
  along_more k p q e = e ∙ rw (p, q) (cons3 (one_more k 0) (one_more k 1) (one_more k 2))

  along_most : (k ch : ℕ) → along k cv at m x ch ≤ 255 * k
  unfolding along
  along_most k ch =
      total_bound k (λ i. channel ch (get_or cv (at + min (x + i) m) 0)) 255
      (λ i. let b : channel ch (get_or cv (at + min (x + i) m) 0) < 256 = channel_byte ch (get_or cv (at + min (x + i) m) 0) in omega arith)

  pub within_along : (k n : ℕ) {s : List ℕ} → 255 * k ≤ n → s ≡ rgb (along k cv at m x) → Within n s
  within_along k n h e = rw e (omega (arith, along_most k 0), omega (arith, along_most k 1), omega (arith, along_most k 2))

-- the channels of one pixel are bytes
pub within_byte : (p n : ℕ) {s : List ℕ} → 255 ≤ n → s ≡ rgb (λ ch. channel ch p) → Within n s
within_byte p n h e = rw e (most 0, most 1, most 2)
  where
    most : (ch : ℕ) → channel ch p ≤ n
    most ch = omega (arith, channel_byte ch p)

-- the mean over k rows of what each sums to
module _ (k : ℕ) (cv s : List ℕ) (m x : ℕ) where
  -- the sums over the first n rows: none, one more, and their size
  abbrev pub rows_sum : ℕ → ℕ → ℕ
  rows_sum n ch = total n (λ j. along k cv (get_or s j 0) m x ch)

  pub rows_none : {t : List ℕ} → t ≡ 0 ∷ 0 ∷ 0 ∷ [] → t ≡ rgb (rows_sum 0)
  unfolding total
  rows_none e = e

  next_row : (n ch : ℕ) → rows_sum n ch + along k cv (get_or s n 0) m x ch ≡ rows_sum (n + 1) ch
  unfolding total
  next_row n ch = rw add-one

  pub rows_more : (n : ℕ) {a b t : List ℕ} → a ≡ rgb (rows_sum n) → b ≡ rgb (along k cv (get_or s n 0) m x) → t ≡ rgb (λ ch. get_or a ch 0 + get_or b ch 0) → t ≡ rgb (rows_sum (n + 1))
  rows_more n p q e = e ∙ rw (p, q) (cons3 (next_row n 0) (next_row n 1) (next_row n 2))

  rows_most : (n ch : ℕ) → rows_sum n ch ≤ 255 * k * n
  rows_most n ch = total_bound n (λ j. along k cv (get_or s j 0) m x ch) (255 * k) (λ j. along_most cv (get_or s j 0) m x k ch)

  pub within_rows : (n q : ℕ) {t : List ℕ} → 255 * k * n ≤ q → t ≡ rgb (rows_sum n) → Within q t
  within_rows n q h e = rw e (omega (arith, rows_most n 0), omega (arith, rows_most n 1), omega (arith, rows_most n 2))

  pub mean_rows : {n : ℕ} {t c : List ℕ} → n ≡ k * k → t ≡ rgb (rows_sum k) → c ≡ rgb (λ ch. get_or t ch 0 / n) → c ≡ rgb (block_mean k cv s m x)
  unfolding block_mean
  mean_rows z p e = e ∙ rw (p, z) refl

-- a cell none of whose columns are held

from_at : (s : List ℕ) (x j : ℕ) → j < 4 → get_or (from_column s x) j 0 ≡ get_or s j 0 + x
from_at s x zero h = refl
from_at s x (suc zero) h = refl
from_at s x (suc (suc zero)) h = refl
from_at s x (suc (suc (suc zero))) h = refl
from_at s x (suc (suc (suc (suc j)))) h = absurd (omega arith)

-- its columns end before the row does
pub ends_in : (k i n m : ℕ) → i < n → k * n ≤ m + 1 → k * i + k ≤ m + 1
ends_in k i n m h l = let q : k * suc i ≤ k * n = mul-le-mul_left k h in omega arith

module _ (k : ℕ) (cv : List ℕ) where
  along_same : (at at' m m' x x' ch : ℕ) → ((i : ℕ) → i < k → at + min (x + i) m ≡ at' + min (x' + i) m') → along k cv at m x ch ≡ along k cv at' m' x' ch
  unfolding along
  along_same at at' m m' x x' ch e =
      total_below k (λ i. channel ch (get_or cv (at + min (x + i) m) 0)) (λ i. channel ch (get_or cv (at' + min (x' + i) m') 0)) (λ i h. ap (λ (n : ℕ). channel ch (get_or cv n 0)) (e i h))

  -- it counts from its own first column, and it does not matter how far the row goes on
  block_from : (s : List ℕ) (x : ℕ) (t : List ℕ) (ch : ℕ) → k ≤ 4 → t ≡ from_column s x → block_mean k cv t (k - 1) 0 ch ≡ block_mean k cv s (x + k - 1) x ch
  unfolding block_mean
  block_from s x t ch h e =
      ap (λ (n : ℕ). n / (k * k))
      (total_below k (λ j. along k cv (get_or t j 0) (k - 1) 0 ch) (λ j. along k cv (get_or s j 0) (x + k - 1) x ch)
      (λ j l.
      ap (λ (n : ℕ). along k cv n (k - 1) 0 ch) (ap (λ (q : List ℕ). get_or q j 0) e ∙ from_at s x j (small l h))
      ∙ along_same (get_or s j 0 + x) (get_or s j 0) (k - 1) (x + k - 1) 0 x ch (λ i g. omega arith)))
    where
      small : {j : ℕ} → j < k → k ≤ 4 → j < 4
      small p q = omega arith

  block_inside : (s : List ℕ) (m x ch : ℕ) → x + k ≤ m + 1 → block_mean k cv s (x + k - 1) x ch ≡ block_mean k cv s m x ch
  unfolding block_mean
  block_inside s m x ch h =
      ap (λ (n : ℕ). n / (k * k))
      (total_below k (λ j. along k cv (get_or s j 0) (x + k - 1) x ch) (λ j. along k cv (get_or s j 0) m x ch)
      (λ j l. along_same (get_or s j 0) (get_or s j 0) (x + k - 1) m x x ch (λ i g. omega arith)))

  pub cell_from : (s : List ℕ) (x : ℕ) (t c : List ℕ) → k ≤ 4 → t ≡ from_column s x → c ≡ rgb (block_mean k cv t (k - 1) 0) → c ≡ rgb (block_mean k cv s (x + k - 1) x)
  cell_from s x t c h e q = q ∙ cons3 (block_from s x t 0 h e) (block_from s x t 1 h e) (block_from s x t 2 h e)

  pub cell_inside : (s : List ℕ) (m x : ℕ) (c : List ℕ) → x + k ≤ m + 1 → c ≡ rgb (block_mean k cv s (x + k - 1) x) → c ≡ rgb (block_mean k cv s m x)
  cell_inside s m x c h q = q ∙ cons3 (block_inside s m x 0 h) (block_inside s m x 1 h) (block_inside s m x 2 h)

-- what holds at each scale
by_scale : (P : ℕ → Type 0) → P 1 → P 2 → P 4 → (k : ℕ) → AnyScale k → P k
by_scale P one two four k s =
    ⊎_elim (λ (e : k ≡ 1). subst P (sym e) one) (λ (t : (k ≡ 2) ⊎ (k ≡ 4)). ⊎_elim (λ (e : k ≡ 2). subst P (sym e) two) (λ (e : k ≡ 4). subst P (sym e) four) t) s

-- how many pixels a cell has
pub scale_size : (k : ℕ) → AnyScale k → (1 ≤ k) × (k ≤ 4) × (255 * k * k ≡ k * k * 255) × (1 ≤ k * k) × (k * k ≤ 16)
scale_size =
    by_scale (λ k. (1 ≤ k) × (k ≤ 4) × (255 * k * k ≡ k * k * 255) × (1 ≤ k * k) × (k * k ≤ 16)) (omega arith, omega arith, omega arith, omega arith, omega arith) (omega arith, omega arith, omega arith, omega arith, omega arith) (omega arith, omega arith, omega arith, omega arith, omega arith)

pub scale_rows : (k j : ℕ) → AnyScale k → j ≤ k → 255 * k * j ≤ 4080
scale_rows k j = by_scale (λ k. j ≤ k → 255 * k * j ≤ 4080) (λ h. omega arith) (λ h. omega arith) (λ h. omega arith) k

-- ---- a row of cells: g ch i is channel ch of the i-th

abbrev pub in_row : (ℕ → ℕ → ℕ) → ℕ → ℕ → ℕ
in_row g k p = g (k % 3) (k / 3)

-- channel ch of cell i of a row of cells of k by k
abbrev pub cell_at : (px s : List ℕ) (k m ch i : ℕ) → ℕ
cell_at px s k m ch i = block_mean k px s m (k * i) ch

in_row_lem : (g : ℕ → ℕ → ℕ) (i ch : ℕ) → ch < 3 → g ch i ≡ g ((3 * i + ch) % 3) ((3 * i + ch) / 3)
in_row_lem g i ch h =
    let a : ch ≡ (3 * i + ch) % 3 = omega arith in
    let b : i ≡ (3 * i + ch) / 3 = omega arith in
    ap (λ (c : ℕ). g c i) a ∙ ap (g ((3 * i + ch) % 3)) b

pub rowed_cell : (g : ℕ → ℕ → ℕ) {l r c : List ℕ} (i : ℕ) → Rowed (in_row g) l r (3 * i) → 3 * i + 2 < length r → c ≡ rgb (λ ch. g ch i)
    → Rowed (in_row g) l (set (set (set r (3 * i) (get_or c 0 0)) (3 * i + 1) (get_or c 1 0)) (3 * i + 2) (get_or c 2 0)) (3 * (i + 1))
rowed_cell g {l} {r} {c} i inv h e =
    let a : 3 * i + 1 + 1 ≡ 3 * i + 2 = omega arith in
    let b : 3 * i + 2 + 1 ≡ 3 * (i + 1) = omega arith in
    let z : 3 * i ≡ 3 * i + 0 = omega arith in
    let one = rowed_more inv (omega arith) (ap (λ (s : List ℕ). get_or s 0 0) e ∙ in_row_lem g i 0 (omega arith) ∙ ap (λ (k : ℕ). g (k % 3) (k / 3)) (sym z)) in
    let two = rowed_more one (simp length-set (omega arith)) (ap (λ (s : List ℕ). get_or s 1 0) e ∙ in_row_lem g i 1 (omega arith)) in
    let three = subst (Rowed (in_row g) l (set (set r (3 * i) (get_or c 0 0)) (3 * i + 1) (get_or c 1 0))) a two in
    subst (Rowed (in_row g) l (set (set (set r (3 * i) (get_or c 0 0)) (3 * i + 1) (get_or c 1 0)) (3 * i + 2) (get_or c 2 0))) b
    (rowed_more three (simp length-set (omega arith)) (ap (λ (s : List ℕ). get_or s 2 0) e ∙ in_row_lem g i 2 (omega arith)))

-- ---- a rule that does not look at what was there
module _ (g : ℕ → ℕ) where
  -- what is done to the first n is done to them already
  pub again : (n : ℕ) (l : List ℕ) {r : List ℕ} → r ≡ map_row (below n (λ i p. g i)) l → r ≡ map_row (below n (λ i p. g i)) r
  again n l {r} e =
      let f : ℕ → ℕ → ℕ = λ i p. g i in
      let z : length r ≡ length l = ap length e ∙ length_map_row (below n f) l in
      is_map_row (below n f) r r refl
      (λ k h. elim (dec_lt k n) [
        | yes lo ↦ ap (λ (t : List ℕ). get_or t k 0) e ∙ get_d-map_row (below n f) l k (omega arith) ∙ below_in n f k (get_or l k 0) lo ∙ sym (below_in n f k (get_or r k 0) lo)
        | no hi ↦ sym (below_out n f k (get_or r k 0) (omega arith))
      ])
