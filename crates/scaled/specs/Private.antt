-- What only private contracts of `scaled` cite: what the code works out once for many pixels. No public contract reaches it.
use Rattle.std.specs.Prelude.{ℕ, ◌+◌, ◌-◌, ◌*◌, ◌%◌, ◌≤◌, ◌<◌, ◌≡◌, Bool, false, cond, not, ◌&&◌, ◌||◌, List, [], ◌∷◌, eqb, pos, length, get_or, Float}
use Rattle.std.specs.Float.{binary32}
use Rattle.std.specs.Float.Ieee.{sub, mul, lt, of_int, to_unsigned}
use Rattle.mathf.specs.Real as Real
use Rattle.color.specs.Color.{mix_pix}
use Rattle.sources.specs.declared.Sides.{Sides}
use Rattle.sources.specs.Source.{texel}
use Rattle.edge.specs.Edge.{corner_sd}
use Rattle.edge.specs.Corner as Corner
use Rattle.scaled.specs.declared.Mask.{Mask}
use Rattle.edge.specs.declared.Middle.{Middle}
use Rattle.scaled.specs.Scaled.{first, next, across, laid, scaled_pix}

-- a row that is lent of a source of the sides s: its row sy
pub record LentRow (src : List ℕ) (s : Sides) (sy : ℕ) (row : List ℕ) : Type 0 where
  pub long : length row ≡ s.w
  pub is : (x : ℕ) → x < s.w → get_or row x 0 ≡ texel src s x sy

-- each number of a line is below m
pub record Within (line : List ℕ) (m : ℕ) : Type 0 where
  pub is : (i : ℕ) → i < length line → get_or line i 0 < m

-- how many places a row of n pixels has: up to the last that lies before its last pixel, and the first in any case
abbrev pub places : ℕ → ℕ
places n = (n - 1) * 256 - 1 + 1

-- the first n places go by two pixels
pub record ByTwo (taps : List ℕ) (n : ℕ) : Type 0 where
  pub is : (i : ℕ) → i < n → get_or taps i 0 ≡ get_or taps 0 0 + i * 512

-- pairs of pixels of a row, one for each of the places taps: the pixel there, and the next one
pub record Paired (row taps : List ℕ) (pairs : List (List ℕ)) : Type 0 where
  pub is : (i : ℕ) → i < length taps → get_or pairs i [] ≡ get_or row (first (get_or taps i 0)) 0 ∷ get_or row (first (get_or taps i 0) + 1) 0 ∷ []

-- the colour of a pair at the place f
abbrev pub of_pair : List ℕ → ℕ → ℕ
of_pair pair f = mix_pix (get_or pair 0 0) (get_or pair 1 0) (f % 256)

-- the colour at the place f of a row of the source that is lent
abbrev pub row_at : List ℕ → ℕ → ℕ
row_at row f = mix_pix (get_or row (first f) 0) (get_or row (next (length row) f) 0) (f % 256)

-- a line has the colours of the source's row `row` at the places taps
pub record Coloured (src : List ℕ) (sides : Sides) (row : ℕ) (taps line : List ℕ) : Type 0 where
  pub is : (i : ℕ) → i < length taps → get_or line i 0 ≡ across src sides row (get_or taps i 0)

-- of two lines, the colours in column i, mixed t of 256 parts
abbrev pub mixed : List ℕ → List ℕ → ℕ → ℕ → ℕ
mixed above below t i = mix_pix (get_or above i 0) (get_or below i 0) t

-- of the two rows about the place f, the even one for the parity 0 and the odd one for 1
unfoldable pub row_of : ℕ → ℕ → ℕ → ℕ
row_of n parity f = cond (eqb (first f % 2) parity) (first f) (next n f)

-- the colour at the place f between that of the even row and that of the odd one
unfoldable pub between : ℕ → ℕ → ℕ → ℕ
between f even odd = cond (eqb (first f % 2) 0) (mix_pix even odd (f % 256)) (mix_pix odd even (f % 256))

-- of n columns, those of m are not as `near` says
pub record Clear (near : ℕ → Bool) (n : ℕ) (m : Middle) : Type 0 where
  pub order : m.from ≤ m.to
  pub room : m.to ≤ n
  pub is : (i : ℕ) → m.from ≤ i → i < m.to → near i ≡ false

-- row y from column x on, where the source's colours are s
abbrev pub row_rule : Mask → ℕ → ℕ → (ℕ → ℕ) → ℕ → ℕ → ℕ
row_rule k x y s i p = scaled_pix k (s i) (x + i) y p

-- of n pixels of row y from column x on, those of m are covered alike, cov of 256
pub record Alike (k : Mask) (cov x y n : ℕ) (m : Middle) : Type 0 where
  pub order : m.from ≤ m.to
  pub room : m.to ≤ n
  pub is : (i s p : ℕ) → m.from ≤ i → i < m.to → scaled_pix k s (x + i) y p ≡ laid cov s p

-- how far column x, or row y, lies beyond the straight part of its side
abbrev pub col_axis : Mask → ℕ → Float
col_axis k x = Corner.col_axis k.dest k.r x

abbrev pub row_axis : Mask → ℕ → Float
row_axis k y = Corner.row_axis k.dest k.r y

-- in a row that lies q beyond, column x is nearer to another edge than to the row's own
unfoldable pub beside : Mask → Float → ℕ → Bool
beside k q x = lt q (col_axis k x) || (lt Real.zero (col_axis k x) && lt Real.zero q)

-- how much of 256 is covered at the distance sd from the edge
abbrev pub covered : ℕ → Float → ℕ
covered alpha sd = to_unsigned 32 (mul binary32 (Real.saturate (sub binary32 Real.point_five sd)) (of_int binary32 (pos alpha)))

-- the pixel p under the mask, in column x of a row that lies q beyond
unfoldable pub masked_by : Mask → Float → ℕ → ℕ → ℕ → ℕ
masked_by k q s x p =
    let sd = corner_sd (col_axis k x) q k.r in
    cond (lt Real.point_five sd) p (laid (covered k.alpha sd) s p)

-- what lies q beyond the straight part of its side is covered in full, if that side is the nearest
unfoldable pub full : Mask → Float → Bool
full k q = not (lt Real.point_five (sub binary32 q k.r)) && eqb (covered k.alpha (sub binary32 q k.r)) k.alpha

-- column x is not, and row y is, wherever along its side
abbrev pub partial : Mask → ℕ → Bool
partial k x = not (full k (col_axis k x))

abbrev pub row_full : Mask → ℕ → Bool
row_full k y = not (lt Real.zero (row_axis k y)) && full k (row_axis k y)
