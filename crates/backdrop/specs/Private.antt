-- For the contracts of private functions alone: what the code works out on its way.
use Rattle.std.specs.Prelude.{ℕ, ◌+◌, ◌-◌, ◌*◌, ◌/◌, ◌≤◌, ◌<◌, min, ◌≡◌, ◌⊎◌, List, [], ◌∷◌, ℤ, get_or, set}
use Rattle.color.specs.declared.Color.{Color}
use Rattle.canvas.specs.declared.Area.{Area}
use Rattle.boxblur.specs.Box.{total}
use Rattle.backdrop.specs.Window.{rows}
use Rattle.backdrop.specs.Picture.{channel, lum_at, tinted_byte}

-- a window with a pixel, on a canvas of w by h that has n pixels
pub record Shown (n w h : ℕ) (a : Area) : Type 0 where
  pub size : n ≡ h * w
  pub narrow : w ≤ 4096
  pub low : h ≤ 4096
  pub wide : a.x0 < a.x1
  pub tall : a.y0 < a.y1
  pub in_width : a.x1 ≤ w
  pub in_height : a.y1 ≤ h

-- a scale
abbrev pub AnyScale : ℕ → Type 0
AnyScale k = (k ≡ 1) ⊎ ((k ≡ 2) ⊎ (k ≡ 4))

-- the three channels, as an array
abbrev pub rgb : (ℕ → ℕ) → List ℕ
rgb f = f 0 ∷ f 1 ∷ f 2 ∷ []

-- each of them is at most n
abbrev pub Within : ℕ → List ℕ → Type 0
Within n s = (get_or s 0 0 ≤ n) × (get_or s 1 0 ≤ n) × (get_or s 2 0 ≤ n)

-- where row v of the window begins; past the last row that row again
abbrev pub row_start : ℕ → Area → ℕ → ℕ
row_start w a v = (a.y0 + min v (rows a - 1)) * w + a.x0

-- where the rows v to v + 3 begin
abbrev pub four_rows : ℕ → Area → ℕ → List ℕ
four_rows w a v = row_start w a v ∷ row_start w a (v + 1) ∷ row_start w a (v + 2) ∷ row_start w a (v + 3) ∷ []

-- pixel m of each of these rows is one of n
abbrev pub RowsIn : (n m : ℕ) → List ℕ → Type 0
RowsIn n m s = (get_or s 0 0 + m < n) × (get_or s 1 0 + m < n) × (get_or s 2 0 + m < n) × (get_or s 3 0 + m < n)

-- where their column x is
abbrev pub from_column : List ℕ → ℕ → List ℕ
from_column s x = (get_or s 0 0 + x) ∷ (get_or s 1 0 + x) ∷ (get_or s 2 0 + x) ∷ (get_or s 3 0 + x) ∷ []

-- channel ch, summed over the k pixels from x on of the row that begins at `at`; past its last column m that column again
unfoldable pub along : (k : ℕ) (cv : List ℕ) (at m x ch : ℕ) → ℕ
along k cv at m x ch = total k (λ i. channel ch (get_or cv (at + min (x + i) m) 0))

-- its mean over these pixels of the k rows that begin at s
unfoldable pub block_mean : (k : ℕ) (cv s : List ℕ) (m x ch : ℕ) → ℕ
block_mean k cv s m x ch = total k (λ j. along k cv (get_or s j 0) m x ch) / (k * k)

-- the bytes with the cell that begins at o tinted
unfoldable pub tinted_cell : ℤ → Color → List ℕ → ℕ → List ℕ
tinted_cell sat tint lo o =
    let l = lum_at lo o in
    set (set (set lo o (tinted_byte sat tint.r tint.a l (get_or lo o 0))) (o + 1) (tinted_byte sat tint.g tint.a l (get_or lo (o + 1) 0)))
    (o + 2) (tinted_byte sat tint.b tint.a l (get_or lo (o + 2) 0))
