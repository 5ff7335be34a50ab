-- Places and cells lie in the picture, and pixels are short.
use Prim.Native.Nat.{ℕ, ◌+◌, ◌-◌, ◌*◌, ◌/◌, ◌%◌, ◌≤◌, ◌<◌, min}
use mathlib.Core.Path.{◌≡◌}
use mathlib.Core.List.{List}
use lib.Ieee.{Float}
use native.Mathlib.Nat.{mul-le-mul_right}
use native.Mathlib.Omega.{arith}
use lib.ListN.{length, get_or}
use Rattle.canvas.specs.Rows.{map_row}
use Rattle.canvas.proofs.Laws.Rows.{length_map_row, get_d-map_row}
use Rattle.canvas.proofs.Laws.Canvas.{row_in}
use Rattle.panel.specs.declared.Panel.{Panel}
use Rattle.panel.specs.declared.rim.Slope.{Slope}
use Rattle.panel.specs.Panel.{lit}
use Rattle.glass.specs.Places.{place, cell_at}
use Rattle.glass.specs.Private.{Sized, Clear}
use Rattle.glass.specs.General.{edge_col_place, edge_row_place}

-- a place lies in a row of n cells, and where there are two it has a next
pub place_in : (k n v : ℕ) → 1 ≤ n → place k n v < n * 256
unfolding place
place_in k n v h = omega arith

pub place_next : (k n v : ℕ) → 2 ≤ n → place k n v / 256 + 1 < n
unfolding place
place_next k n v h = omega arith

-- the bytes of a cell
pub cell_in : {p : Panel} {lo : List ℕ} → Sized p lo → (x y : ℕ) → x < p.lw → y < p.lh → cell_at p.lw x y + 3 ≤ length lo
cell_in {p} S x y h g = omega (arith, row_in p.lw p.lh y (x + 1) g (omega arith), S.bytes)

-- the places that a pixel of the edge sees
pub edge_col_in : (p : Panel) (table : List Float) (s : Slope) (x : ℕ) → 1 ≤ p.lw → edge_col_place p table s x < p.lw * 256
unfolding edge_col_place
edge_col_in p table s x h = place_in p.k p.lw _ h

pub edge_row_in : (p : Panel) (table : List Float) (s : Slope) (y : ℕ) → 1 ≤ p.lh → edge_row_place p table s y < p.lh * 256
unfolding edge_row_place
edge_row_in p table s y h = place_in p.k p.lh _ h

-- the bytes up to column x of the row y
pub span_in : {p : Panel} {lo : List ℕ} → Sized p lo → (x y : ℕ) → x ≤ p.lw → y < p.lh → cell_at p.lw x y ≤ length lo
span_in {p} S x y h g = omega (arith, row_in p.lw p.lh y x g h, S.bytes)

-- far below the largest number
pub few_bytes : {p : Panel} {lo : List ℕ} → Sized p lo → length lo ≤ 50331648
few_bytes {p} S =
    let rows : p.lh * p.lw ≤ 4096 * p.lw = mul-le-mul_right p.lw S.low in
    omega (arith, S.bytes, S.narrow)

-- ---- pixels whose top byte is 0

pub clear_map : (f : ℕ → ℕ → ℕ) (l : List ℕ) {r : List ℕ} → r ≡ map_row f l → ((i q : ℕ) → i < length l → f i q < 16777216) → Clear r
clear_map f l e h = rw e (record { is = λ i k. let n : i < length l = rw (length_map_row f l) at k in rw (get_d-map_row f l i n) (h i (get_or l i 0) n) })

-- without brightness they stay
pub lit_plain : (p : Panel) (q : ℕ) → p.up ≡ 0 → p.down ≡ 0 → q < 16777216 → lit p q ≡ q
unfolding lit
lit_plain p q u d h =
    let same : (v : ℕ) → v < 256 → min (v + p.up - p.down) 255 ≡ v = λ v k. omega (arith, u, d) in
    rw (same (q / 65536 % 256) (omega arith), same (q / 256 % 256) (omega arith), same (q % 256) (omega arith)) (omega arith)
