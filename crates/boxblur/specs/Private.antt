-- For the contracts of private functions alone: how far a pass has come.
use Rattle.std.specs.Prelude.{◌≡◌, List, [], ◌∷◌, ℕ, zero, suc, ◌+◌, ◌-◌, ◌*◌, ◌/◌, ◌≤◌, ◌<◌, length, get_or, set}
use Rattle.boxblur.specs.declared.Axis.{Axis}
use Rattle.boxblur.specs.declared.Axis.TheVariants.{Rows, Columns}
use Rattle.boxblur.specs.declared.Blur.{Blur}
use Rattle.boxblur.specs.Box.{held, window, mean, box_h, box_v}

-- what a pass takes for granted of its numbers and of a slice of n bytes
pub record Fits (blur : Blur) (n : ℕ) : Type 0 where
  pub wide : 1 ≤ blur.w
  pub narrow : blur.w ≤ 4096
  pub tall : 1 ≤ blur.h
  pub low : blur.h ≤ 4096
  pub radius : 2 * blur.r + 1 ≤ 65536
  pub inverse : blur.inv ≡ 65536 / (2 * blur.r + 1)
  pub size : n ≡ 3 * (blur.w * blur.h)

-- ---- a line of m cells: a row or a column. The first is at byte start, the next one stride bytes further on

-- a line that lies within so many bytes
pub record InLine (len start stride m r : ℕ) : Type 0 where
  pub some : 1 ≤ m
  pub few : m ≤ 4096
  pub narrow : 2 * r + 1 ≤ 65536
  pub room : start + (m - 1) * stride + 3 ≤ len

-- channel ch of cell x
abbrev pub cell : (src : List ℕ) (start stride ch x : ℕ) → ℕ
cell src start stride ch x = get_or src (start + x * stride + ch) 0

-- the window's sum of each channel around cell x
unfoldable pub sum : (src : List ℕ) (start stride m r ch x : ℕ) → ℕ
sum src start stride m r ch x = window m r (λ i. cell src start stride ch i) x

abbrev pub sums : (src : List ℕ) (start stride m r x : ℕ) → List ℕ
sums src start stride m r x =
    sum src start stride m r 0 x ∷ sum src start stride m r 1 x ∷ sum src start stride m r 2 x ∷ []

-- the same scaled: a rounded mean is then its 65536th
abbrev pub scaled : (r sum : ℕ) → ℕ
scaled r sum = sum * (65536 / (2 * r + 1)) + 32768

abbrev pub scaled_sums : (src : List ℕ) (start stride m r x : ℕ) → List ℕ
scaled_sums src start stride m r x =
    scaled r (sum src start stride m r 0 x) ∷ scaled r (sum src start stride m r 1 x) ∷ scaled r (sum src start stride m r 2 x) ∷ []

-- ---- the line of a pass through the cell in column x of row y: its row, or its column

abbrev pub line_start : (axis : Axis) (blur : Blur) (x y : ℕ) → ℕ
line_start Rows blur x y = (y * blur.w + 0) * 3
line_start Columns blur x y = x * 3

abbrev pub line_stride : Axis → Blur → ℕ
line_stride Rows blur = 3
line_stride Columns blur = blur.w * 3

abbrev pub line_cells : Axis → Blur → ℕ
line_cells Rows blur = blur.w
line_cells Columns blur = blur.h

-- which cell of the line it is
abbrev pub place_on : Axis → (x y : ℕ) → ℕ
place_on Rows x y = x
place_on Columns x y = y

-- where cell j of its window stands
abbrev pub window_cell : (axis : Axis) (blur : Blur) (x y j : ℕ) → ℕ
window_cell axis blur x y j = line_start axis blur x y + held (line_cells axis blur) blur.r (place_on axis x y) j * line_stride axis blur

-- the scaled sums of its window
abbrev pub sums_at : (axis : Axis) (src : List ℕ) (blur : Blur) (x y : ℕ) → List ℕ
sums_at axis src blur x y =
    scaled_sums src (line_start axis blur x y) (line_stride axis blur) (line_cells axis blur) blur.r (place_on axis x y)

-- s has the sums of the columns x to x + n - 1 around row y
abbrev pub Block : (src : List ℕ) (blur : Blur) (x n y : ℕ) → List (List ℕ) → Type 0
Block src blur x n y s = (i : ℕ) → i < n → get_or s i [] ≡ sums_at Columns src blur (x + i) y

-- s has them of the first i columns around the next row already
abbrev pub Split : (src : List ℕ) (blur : Blur) (x n y i : ℕ) → List (List ℕ) → Type 0
Split src blur x n y i s = Block src blur x i (y + 1) s × ((j : ℕ) → i ≤ j → j < n → get_or s j [] ≡ sums_at Columns src blur (x + j) y)

-- ---- one cell

-- the scaled sums s with the cell at `new` in and the cell at `old` out
abbrev pub slid : (src s : List ℕ) (new old inv : ℕ) → List ℕ
slid src s new old inv =
    (get_or s 0 0 + get_or src new 0 * inv - get_or src old 0 * inv) ∷ (get_or s 1 0 + get_or src (new + 1) 0 * inv - get_or src (old + 1) 0 * inv)
    ∷ (get_or s 2 0 + get_or src (new + 2) 0 * inv - get_or src (old + 2) 0 * inv) ∷ []

-- three bytes stored from o on
abbrev pub put : List ℕ → ℕ → ℕ → ℕ → ℕ → List ℕ
put d o a b c = set (set (set d o a) (o + 1) b) (o + 2) c

-- the rounded means of the scaled sums s stored from o on
abbrev pub put_means : (d s : List ℕ) (o : ℕ) → List ℕ
put_means d s o = put d o (get_or s 0 0 / 65536) (get_or s 1 0 / 65536) (get_or s 2 0 / 65536)

-- what a step takes for granted of the scaled sums: both cells lie within the slice, no sum is too large, and each has in it what leaves
abbrev pub Small : List ℕ → Type 0
Small s = (get_or s 0 0 < 16777216) × ((get_or s 1 0 < 16777216) × (get_or s 2 0 < 16777216))

pub record Step (src s : List ℕ) (new old inv : ℕ) : Type 0 where
  pub comes : new + 3 ≤ length src
  pub leaves : old + 3 ≤ length src
  pub scale : inv ≤ 65536
  pub small : Small s
  pub holds : (get_or src old 0 * inv ≤ get_or s 0 0) × ((get_or src (old + 1) 0 * inv ≤ get_or s 1 0) × (get_or src (old + 2) 0 * inv ≤ get_or s 2 0))

-- ---- what is stored

-- what a pass stores at channel ch of the cell in column x of row y
abbrev pub new_byte : (axis : Axis) (src : List ℕ) (blur : Blur) (x y ch : ℕ) → ℕ
new_byte axis src blur x y ch =
    mean blur.r (sum src (line_start axis blur x y) (line_stride axis blur) (line_cells axis blur) blur.r ch (place_on axis x y))

-- the same, of a block's sums s: column x is the first of them
abbrev pub means : (s : List (List ℕ)) (x x' y ch : ℕ) → ℕ
means s x x' y ch = get_or (get_or s (x' - x) []) ch 0 / 65536

-- what a pass makes
abbrev pub pass_along : (axis : Axis) (w h r : ℕ) → List ℕ → List ℕ
pass_along Rows = box_h
pass_along Columns = box_v

-- c columns of a block that begins at column x, from its column i on, fit row y of a slice of so many bytes
pub record PutCells (room : ℕ) (s : List (List ℕ)) (w x y i c : ℕ) : Type 0 where
  pub narrow : w ≤ 4096
  pub low : y ≤ 4096
  pub within : x + (i + c) ≤ w
  pub known : i + c ≤ length s
  pub here : (y * w + w) * 3 ≤ room
  pub small : (j : ℕ) → j < i + c → Small (get_or s j [])

-- d with n cells of row y stored, from column x on, each as f says
unfoldable pub span : (f : ℕ → ℕ → ℕ → ℕ) (w y x n : ℕ) → List ℕ → List ℕ
span f w y x zero d = d
span f w y x (suc n) d =
    put (span f w y x n d) ((y * w + (x + n)) * 3) (f (x + n) y 0) (f (x + n) y 1) (f (x + n) y 2)

-- the same in the first m rows
unfoldable pub stripe : (f : ℕ → ℕ → ℕ → ℕ) (w x n m : ℕ) → List ℕ → List ℕ
stripe f w x n zero d = d
stripe f w x n (suc m) d = span f w m x n (stripe f w x n m d)
