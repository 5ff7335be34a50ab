-- `shrink_row`: the row of cells of k by k is the definition's.
use Prim.Native.Nat.{ℕ, ◌-◌, ◌*◌, ◌/◌, ◌%◌, ◌≤◌}
use mathlib.Core.Path.{◌≡◌, refl, sym, ap, ◌∙◌}
use mathlib.Core.Logic.{inl, inr, ⊎_elim, ◌⊎◌}
use mathlib.Core.List.{List}
use native.Mathlib.Omega.{arith}
use borrow.Author.Rules.{rules}
use Rattle.canvas.specs.Rows.{map_row}
use Rattle.backdrop.specs.Window.{columns}
use Rattle.backdrop.specs.Private.{AnyScale, block_mean}
use Rattle.backdrop.proofs.Laws.Window.{scale_most, cells_most}
use Rattle.backdrop.proofs.Shrunk.{four_room, scale_of, row-k}
use Rattle.backdrop.proofs.small.shrink_row.Goals as goal
use Rattle.backdrop.proofs.small.shrink_row.Goals.{After-cells-n}

room : (c : After-cells-n) → c.cells-n.result ≤ 4096
room c = omega (arith, c.cells-n.ensures, cells_most (columns c.args.area) (scale_of c.requires.window.1), c.requires.window.0)

-- a row at the scale n, which is k
at_scale : (k n : ℕ) (px s out new : List ℕ) (m : ℕ) → k ≡ n → new ≡ map_row (λ i p. block_mean n px s m (n * (i / 3)) (i % 3)) out → new ≡ map_row (λ i p. block_mean k px s m (k * (i / 3)) (i % 3)) out
at_scale k n px s out new m e q = rw e q

pub row-requires : goal.row-requires
row-requires c =
    let a = c.args in
    (four_room c.requires.window.0 (a.k * a.y) c.four_rows-s.ensures, inl refl, room (goal.at.row-requires c).After-cells-n, c.requires.row.1 ∙ ap (λ (m : ℕ). 3 * m) (sym c.cells-n.ensures))

pub row-requires-in-2 : goal.row-requires-in-2
row-requires-in-2 c =
    let a = c.args in
    (four_room c.requires.window.0 (a.k * a.y) c.four_rows-s.ensures, inr (inl refl), room (goal.at.row-requires-in-2 c).After-cells-n, c.requires.row.1 ∙ ap (λ (m : ℕ). 3 * m) (sym c.cells-n.ensures))

pub row-requires-in_default : goal.row-requires-in_default
row-requires-in_default c =
    let a = c.args in
    (four_room c.requires.window.0 (a.k * a.y) c.four_rows-s.ensures, inr (inr refl), room (goal.at.row-requires-in_default c).After-cells-n, c.requires.row.1 ∙ ap (λ (m : ℕ). 3 * m) (sym c.cells-n.ensures))

-- where k is neither 1 nor 2
four : (k : ℕ) → AnyScale k → (k ≡ 1 → ⊥) → (k ≡ 2 → ⊥) → k ≡ 4
four k s p q = ⊎_elim (λ (e : k ≡ 1). absurd (p e)) (λ (t : (k ≡ 2) ⊎ (k ≡ 4)). ⊎_elim (λ (e : k ≡ 2). absurd (q e)) (λ (e : k ≡ 4). e) t) s

pub returns-in-1 : goal.returns-in-1
returns-in-1 c =
    let a = c.args in
    row-k a.size.w a.area a.px.now c.requires.window.0.wide c.requires.window.0.tall a.y a.out.now a.k (scale_most (scale_of c.requires.window.1)) c.four_rows-s.ensures
    (at_scale a.k 1 a.px.now c.four_rows-s.result a.out.now _ (columns a.area - 1) c.in-1.is c.row.ensures)

pub returns-in-2 : goal.returns-in-2
returns-in-2 c =
    let a = c.args in
    row-k a.size.w a.area a.px.now c.requires.window.0.wide c.requires.window.0.tall a.y a.out.now a.k (scale_most (scale_of c.requires.window.1)) c.four_rows-s.ensures
    (at_scale a.k 2 a.px.now c.four_rows-s.result a.out.now _ (columns a.area - 1) c.in-2.is c.row-in-2.ensures)

pub returns-in_default : goal.returns-in_default
returns-in_default c =
    let a = c.args in
    row-k a.size.w a.area a.px.now c.requires.window.0.wide c.requires.window.0.tall a.y a.out.now a.k (scale_most (scale_of c.requires.window.1)) c.four_rows-s.ensures
    (at_scale a.k 4 a.px.now c.four_rows-s.result a.out.now _ (columns a.area - 1) (four a.k c.requires.window.1 (search rules) (search rules)) c.row-in_default.ensures)
