-- The rows of a flat panel: a pixel from the two columns of the picture that it lies between, and a row whose pixels are cells.
use Prim.Native.Nat.{ℕ, ◌+◌, ◌-◌, ◌*◌, ◌/◌, ◌%◌, ◌^◌, ◌≤◌, ◌<◌, min}
use mathlib.Core.Path.{◌≡◌, sym, ◌∙◌}
use mathlib.Core.Bool.{true}
use mathlib.Core.List.{List, ◌++◌}
use native.Mathlib.Omega.{arith}
use lib.Dec.{eqb, leb}
use lib.ListN.{length, take, drop}
use lib.Seq.{length-take-le}
use borrow.Author.Tests.{eqb-true, leb-true}
use Rattle.color.specs.Color.{mix_pix}
use Rattle.color.proofs.Laws.{mix_pix_start}
use Rattle.geom.proofs.Laws.{both_true}
use Rattle.canvas.specs.Rows.{map_row}
use Rattle.canvas.proofs.Laws.Rows.{Rowed, map_row_same}
use Rattle.canvas.proofs.Laws.Spans.{back, rowed_span, rowed_head}
use Rattle.panel.specs.declared.Panel.{Panel}
use Rattle.glass.specs.declared.Pair.{Pair}
use Rattle.glass.specs.Places.{place, col_place, row_place, cell_at, pix_at}
use Rattle.panel.specs.Panel.{lit}
use Rattle.glass.specs.Flat.{column, across, flat_pix}
use Rattle.glass.specs.Private.{pair_at, is_whole}

pub from_columns : (p : Panel) (lo : List ℕ) (x y : ℕ) {fx fy m q : ℕ} {k : Pair} → fx ≡ col_place p x → fy ≡ row_place p y → k ≡ pair_at lo p.lw fy (fx / 256)
    → m ≡ mix_pix k.left k.right (fx % 256) → q ≡ lit p m → q ≡ flat_pix p lo x y
unfolding flat_pix across pair_at
from_columns p lo x y ex ey ek em eq = rw (eq, em, ek, ex, ey)

-- ---- a row whose pixels are cells

pub record Whole (p : Panel) (x y : ℕ) : Type 0 where
  pub one : p.k ≡ 1
  pub from : p.wx ≤ x
  pub row : row_place p y % 256 ≡ 0

pub whole_is : (p : Panel) (x y : ℕ) → is_whole p x y ≡ true → Whole p x y
unfolding is_whole
whole_is p x y e =
    let b = both_true (eqb p.k 1) _ e in
    let d = both_true (leb p.wx x) _ b.1 in
    record { one = eqb-true p.k 1 b.0; from = leb-true p.wx x d.0; row = eqb-true (row_place p y % 256) 0 d.1 }

-- only the lowest 24 bits matter
lit_low : (p : Panel) (q : ℕ) → lit p (q % 2 ^ 24) ≡ lit p q
unfolding lit
lit_low p q =
    let r : q % 2 ^ 24 / 65536 % 256 ≡ q / 65536 % 256 = omega arith in
    let g : q % 2 ^ 24 / 256 % 256 ≡ q / 256 % 256 = omega arith in
    let b : q % 2 ^ 24 % 256 ≡ q % 256 = omega arith in
    rw (r, g, b)

-- mixed by none of the others
lit_start : (p : Panel) (a b c : ℕ) → lit p (mix_pix (mix_pix a b 0) c 0) ≡ lit p a
lit_start p a b c = rw (mix_pix_start (mix_pix a b 0) c, lit_low p (mix_pix a b 0), mix_pix_start a b) (lit_low p a)

whole_place : (p : Panel) (x y : ℕ) → Whole p x y → (m : ℕ) → m + 1 < p.lw → place p.k p.lw (m * 256) ≡ m * 256
unfolding place
whole_place p x y W m h = rw W.one (omega arith)

module _ (p : Panel) (lo : List ℕ) (x y : ℕ) (W : Whole p x y) where
  whole_at : (m : ℕ) → x - p.wx ≤ m → m + 1 < p.lw → flat_pix p lo (m + p.wx) y ≡ lit p (pix_at lo (cell_at p.lw m (row_place p y / 256)))
  unfolding flat_pix across column
  whole_at m h g =
      let back : m + p.wx - p.wx ≡ m = omega arith in
      let cell : m * 256 / 256 ≡ m = omega arith in
      let none : m * 256 % 256 ≡ 0 = omega arith in
      rw (back, whole_place p x y W m g, cell, none, W.row) (lit_start p _ _ _)

  pub whole_pix : (col i : ℕ) → col ≡ min (x - p.wx) (p.lw - 1) → col + i + 1 < p.lw
      → flat_pix p lo (x + i) y ≡ lit p (pix_at lo (cell_at p.lw col (row_place p y / 256) + i * 3))
  whole_pix col i e h =
      let from : p.wx ≤ x = W.from in
      let at : x + i ≡ col + i + p.wx = omega arith in
      let cell : cell_at p.lw (col + i) (row_place p y / 256) ≡ cell_at p.lw col (row_place p y / 256) + i * 3 = omega arith in
      rw (at, ← cell) (whole_at (col + i) (omega arith) h)

  abbrev rule : ℕ → ℕ → ℕ
  rule i q = flat_pix p lo (x + i) y

  -- the cells, and then the pixels of the last column of cells
  pub two : {l u v : List ℕ} {col m at : ℕ} → col ≡ min (x - p.wx) (p.lw - 1) → m ≡ min (p.lw - 1 - col) (length l) → at ≡ cell_at p.lw col (row_place p y / 256)
      → u ≡ map_row (λ i q. lit p (pix_at lo (at + i * 3))) (take m l)
      → v ≡ map_row (λ i q. flat_pix p lo (x + m + i) y) (take (length l - m) (drop m (u ++ drop m l)))
      → Rowed rule l (back m (length l) (u ++ drop m l) v) (length l)
  two {l} {u} {v} {col} {m} {at} ec em ea eu ev =
      let one : Rowed rule l (u ++ drop m l) m =
      rowed_head m (omega arith)
      (eu ∙ map_row_same (λ i q. lit p (pix_at lo (at + i * 3))) rule (take m l) (λ i h. let k : i < m = omega (arith, length-take-le m l (omega arith)) in rw ea (sym (whole_pix col i ec (omega arith))))) in
      rowed_span (λ i q. flat_pix p lo (x + m + i) y) (length l) one (omega arith) (omega (arith, one.long))
      (λ i q _. let at' : x + (m + i) ≡ x + m + i = omega arith in rw at') ev
