-- `shrink`: row after row, the picture painted as a canvas of 3 × lw columns.
use Prim.Native.Nat.{ℕ, ◌+◌, ◌-◌, ◌*◌, ◌/◌, ◌%◌, ◌≤◌}
use mathlib.Core.Path.{◌≡◌, refl, ap, ap₂, ◌∙◌}
use mathlib.Core.List.{List}
use native.Mathlib.Omega.{arith}
use lib.ListN.{length, take, drop, length-take, length-drop}
use Rattle.geom.proofs.Laws.{box}
use Rattle.canvas.specs.Canvas.{painted, boxed}
use Rattle.canvas.proofs.Laws.Box.{box_start, box_room, box_end}
use Rattle.backdrop.specs.Window.{columns, rows, cells}
use Rattle.backdrop.specs.Picture.{crop, cell_mean}
use Rattle.backdrop.proofs.Laws.Window.{cells_most, cells_some}
use Rattle.backdrop.proofs.Shrunk.{scale_of, rows_shrunk, whole_row}
use Rattle.backdrop.proofs.small.shrink.Goals as goal
use Rattle.backdrop.proofs.small.shrink.Goals.{After-cells-rows, In-loop-y}

all_rows : (lw lh : ℕ) {n r : ℕ} → n ≡ 3 * lw → r ≡ lh → 3 * (lw * lh) ≡ r * n
all_rows lw lh p q = rw (p, q) (omega arith)

lent_length : (l : List ℕ) (a n : ℕ) → a + n ≤ length l → length (take (a + n - a) (drop a l)) ≡ n
lent_length l a n h = simp (length-take, length-drop) (omega arith)

-- the cells of a row, and the rows
sizes : (c : After-cells-rows) → let a = c.args in
    (3 * c.cells-n.result ≡ 3 * cells (columns a.area) a.k) × (c.cells-rows.result ≡ cells (rows a.area) a.k)
sizes c = (ap (λ (m : ℕ). 3 * m) c.cells-n.ensures, c.cells-rows.ensures)

pub overflow_mul-n : goal.overflow_mul-n
overflow_mul-n c =
    let e : c.cells-n.result ≤ 4096 = omega (arith, c.cells-n.ensures, cells_most (columns c.args.area) (scale_of c.requires.window.1), c.requires.window.0) in
    record { fits = omega arith }

pub loop-y-init : goal.loop-y-init
loop-y-init c =
    let z = sizes c in
    (z, box_start (c.requires.size ∙ all_rows (cells (columns c.args.area) c.args.k) (cells (rows c.args.area) c.args.k) z.0 z.1) (omega arith) (omega arith) (omega arith) (omega arith))

-- the one fact that is not linear: the row lies within the picture
room : (c : In-loop-y) → let l = c.loop-y in let n = 3 * c.cells-n.result in l.y * n + n ≤ length l.out
room c = (box_room c.loop-y.invariant.1 c.loop-y-test.true).1

pub shrink_row-requires : goal.shrink_row-requires
shrink_row-requires c =
    let l = c.loop-y in let n = 3 * c.cells-n.result in let y : l.y ≤ 4096 = omega (arith, c.loop-y-test.true, l.invariant.0.1, cells_most (rows c.args.area) (scale_of c.requires.window.1), c.requires.window.0) in record { window = c.requires.window; row = (y, lent_length l.out (l.y * n) n (room (goal.at.shrink_row-requires c).In-loop-y) ∙ l.invariant.0.0) }

pub loop-y-preserved : goal.loop-y-preserved
loop-y-preserved c =
    (c.loop-y.invariant.0, whole_row _ c.loop-y.invariant.1 c.loop-y-test.true (λ i p. refl) c.shrink_row.ensures)

pub returns : goal.returns
returns c =
    let a = c.args in
    let l = c.loop-y in
    box_end l.invariant.1 c.loop-y-test.false
    ∙ ap₂ (λ (n r : ℕ). painted n (boxed (box 0 0 n r) (λ x v p. cell_mean a.k (columns a.area) (rows a.area) (crop a.size.w a.area a.px.now) (x % 3) (x / 3) v)) a.out.now) l.invariant.0.0 l.invariant.0.1
    ∙ rows_shrunk a.k (columns a.area) (rows a.area) (crop a.size.w a.area a.px.now) a.out.now
    (cells_some (columns a.area) (scale_of c.requires.window.1) (omega (arith, c.requires.window.0.wide))) c.requires.size
