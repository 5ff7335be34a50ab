-- The box pass: each byte becomes the rounded mean of a window of 2 r + 1 bytes of its own channel, along its row (box_h) or its column (box_v).
-- An image is w by h cells, row by row, each cell three bytes, one for each channel.
use Rattle.std.specs.Prelude.{List, [], ◌∷◌, ℕ, zero, suc, ◌+◌, ◌-◌, ◌*◌, ◌/◌, ◌%◌, min, max, get_or}

-- ---- one window

-- f 0 + .. + f (n - 1)
unfoldable pub total : ℕ → (ℕ → ℕ) → ℕ
total zero f = 0
total (suc n) f = total n f + f n

-- the highest of f 0, .., f (n - 1)
unfoldable pub highest : ℕ → (ℕ → ℕ) → ℕ
highest zero f = 0
highest (suc n) f = max (highest n f) (f n)

-- x + j - r held to 0 .. m - 1 (a difference of these numbers stops at 0)
abbrev pub held : (m r x j : ℕ) → ℕ
held m r x j = min (x + j - r) (m - 1)

-- the sum of the 2 r + 1 values around place x of a line of m values; past an end the value at the end counts again
unfoldable pub window : (m r : ℕ) → (ℕ → ℕ) → ℕ → ℕ
window m r f x = total (2 * r + 1) (λ j. f (held m r x j))

-- the highest of these values
unfoldable pub peak : (m r : ℕ) → (ℕ → ℕ) → ℕ → ℕ
peak m r f x = highest (2 * r + 1) (λ j. f (held m r x j))

-- a window's sum as a rounded mean
unfoldable pub mean : (r sum : ℕ) → ℕ
mean r sum = (sum * (65536 / (2 * r + 1)) + 32768) / 65536

-- ---- the whole image

-- where channel ch of the cell in column x of row y stands
abbrev pub place : (w x y ch : ℕ) → ℕ
place w x y ch = (y * w + x) * 3 + ch

-- channel ch along row y, and along column x
abbrev pub row : (w : ℕ) → List ℕ → (y ch : ℕ) → ℕ → ℕ
row w src y ch x = get_or src (place w x y ch) 0

abbrev pub column : (w : ℕ) → List ℕ → (x ch : ℕ) → ℕ → ℕ
column w src x ch y = get_or src (place w x y ch) 0

-- byte k is channel k % 3 of the cell in column k / 3 % w of row k / 3 / w
unfoldable pub byte_h : (w h r : ℕ) → List ℕ → ℕ → ℕ
byte_h w h r src k = mean r (window w r (row w src (k / 3 / w) (k % 3)) (k / 3 % w))

unfoldable pub byte_v : (w h r : ℕ) → List ℕ → ℕ → ℕ
byte_v w h r src k = mean r (window h r (column w src (k / 3 % w) (k % 3)) (k / 3 / w))

-- f 0, .., f (n - 1)
unfoldable pub table : ℕ → (ℕ → ℕ) → List ℕ
table zero f = []
table (suc n) f = f 0 ∷ table n (λ k. f (suc k))

-- the pass along the rows, and the pass along the columns
abbrev pub box_h : (w h r : ℕ) → List ℕ → List ℕ
box_h w h r src = table (3 * (w * h)) (byte_h w h r src)

abbrev pub box_v : (w h r : ℕ) → List ℕ → List ℕ
box_v w h r src = table (3 * (w * h)) (byte_v w h r src)
