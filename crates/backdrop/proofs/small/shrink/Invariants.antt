-- `shrink`: row after row, the picture painted as a canvas of 3 × lw columns.
use Prim.Native.Nat.{◌-◌, ◌*◌, ◌/◌, ◌%◌}
use mathlib.Core.Path.{◌≡◌}
use Rattle.canvas.proofs.Laws.Box.{Boxing}
use Rattle.backdrop.specs.Window.{columns, rows, cells}
use Rattle.backdrop.specs.Picture.{crop, cell_mean}
use Rattle.backdrop.proofs.small.shrink.Given as goal

abbrev pub invariant-loop-y : goal.invariant-loop-y
invariant-loop-y l =
    ((l.n ≡ 3 * cells (columns l.area) l.k) × (l.rows ≡ cells (rows l.area) l.k))
    × Boxing l.n l.rows 0 0 l.n l.rows (λ c v p. cell_mean l.k (columns l.area) (rows l.area) (crop l.size.w l.area l.px) (c % 3) (c / 3) v) l.initial.out l.out l.y

abbrev pub decreases-loop-y : goal.decreases-loop-y
decreases-loop-y l = l.rows - l.y
