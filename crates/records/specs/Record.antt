-- A record of a painted layer: 87 words, of which the last 64 are the pixels that the Rust left.
use Rattle.std.specs.Prelude.{ℕ, zero, suc, ◌+◌, ◌*◌, ◌%◌, min, Bool, cond, List, [], ◌∷◌, ◌++◌, length, codes, decimal, ℤ, ◌==◌, from_bits, nat_lt, slice_index, Float}
use Rattle.std.specs.List.{list_all, range_with_len}
use Rattle.std.specs.Float.{binary32}
use Rattle.std.specs.Float.Ieee.{nan_bits, to_signed}
use Rattle.mathf.specs.Real as Real
use Rattle.block.specs.Bytes.{weighed}
use Rattle.geom.specs.declared.IRect.{IRect}
use Rattle.geom.specs.declared.Rect.{Rect}
use Rattle.records.specs.declared.tally.Counts.{Counts}
use Rattle.records.specs.declared.tally.Line.{Line}
use Rattle.records.specs.declared.tally.Replayed.{Replayed}

-- word i of n words: four bytes, the low one first; 0 where there is none
unfoldable pub word_of : ℕ → List ℕ → ℕ → ℕ
word_of n bytes i =
    cond (nat_lt i n)
    (slice_index bytes (i * 4) + slice_index bytes (i * 4 + 1) * 0x100 + slice_index bytes (i * 4 + 2) * 0x1_0000 + slice_index bytes (i * 4 + 3) * 0x100_0000) 0

-- word i of a record
abbrev pub word : List ℕ → ℕ → ℕ
word rec i = word_of 87 rec i

-- word i as a float; 0 where its bits are a NaN's
unfoldable pub real : List ℕ → ℕ → Float
real rec i = cond (nan_bits binary32 (word rec i)) Real.zero (from_bits binary32 (word rec i))

-- word i, a float, as a whole number
unfoldable pub whole : List ℕ → ℕ → ℤ
whole rec i = to_signed 31 (real rec i)

unfoldable pub clip : List ℕ → IRect
clip rec = record { x0 = whole rec 3; y0 = whole rec 4; x1 = whole rec 5; y1 = whole rec 6 }

unfoldable pub rect : List ℕ → Rect
rect rec = record { x = real rec 7; y = real rec 8; w = real rec 9; h = real rec 10 }

-- pixel i of those that start with `first` and grow by `step`
unfoldable pub pixel : ℕ → ℕ → ℕ → ℕ
pixel first step zero = first
pixel first step (suc i) = (pixel first step i + step) % 0x1_0000_0000

-- the first n pixels are the recorded ones
unfoldable pub recorded : List ℕ → List ℕ → ℕ → Bool
recorded rec px n = list_all (λ i. slice_index px i == word rec (23 + i)) (range_with_len 0 n)

-- one more, modulo 2^64
abbrev pub one_more : ℕ → ℕ
one_more n = (n + 1) % 0x1_0000_0000_0000_0000

-- a count, with one more and, where something else was made, one more that differs
abbrev pub with_one : Counts → Bool → Counts
with_one counts same = record { cases = one_more counts.cases; differ = cond same counts.differ (one_more counts.differ) }

-- the lines, with one replay more on line k; nothing where there is none
unfoldable pub counted : List Line → ℕ → Bool → List Line
counted [] k same = []
counted (l ∷ lines) zero same = record { name = l.name; counts = with_one l.counts same } ∷ lines
counted (l ∷ lines) (suc k) same = l ∷ counted lines k same

-- the lines, with each of these replays counted
unfoldable pub all_counted : List Line → List Replayed → List Line
all_counted lines [] = lines
all_counted lines (r ∷ rs) = all_counted (counted lines r.place r.same) rs

-- what is said of a count: how often the painter was replayed, and how often it made something else
abbrev pub told : Counts → List ℕ
told counts = decimal counts.cases ++ (codes " cases, " ++ (decimal counts.differ ++ codes " differ"))

-- line k: the name, and what is said of its count; nothing where there is none
unfoldable pub line : List Line → ℕ → List ℕ
line [] k = []
line (l ∷ lines) zero = l.name.now ++ (told l.counts ++ codes "\n")
line (l ∷ lines) (suc k) = line lines k

-- the first n lines
unfoldable pub lines : List Line → ℕ → List ℕ
lines ls zero = []
lines ls (suc n) = lines ls n ++ line ls n

-- the sum of a list's first 2048 bytes, each times its place from 1 on
unfoldable pub sum : List ℕ → ℕ
sum s = weighed s (min (length s) 2048)
