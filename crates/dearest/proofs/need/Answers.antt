-- `need`: the canvas is small, so nothing overflows.
use Prim.Native.Nat.{◌*◌, ◌≤◌}
use mathlib.Core.Path.{refl}
use native.Mathlib.Omega.{arith}
use Rattle.backdrop.proofs.Laws.Window.{scale_is}
use Rattle.dearest.specs.Dearest.{dearest_need}
use Rattle.dearest.proofs.Laws.Most.{cells_fit}
use Rattle.dearest.proofs.need.Goals as goal
use Rattle.dearest.proofs.need.Goals.{After-cells-rows}

few : (c : After-cells-rows) → c.cells-columns.result * c.cells-rows.result ≤ 4096 * 4096
few c = rw (c.cells-columns.ensures, c.cells-rows.ensures) (cells_fit _ _ c.requires (rw c.scale-k.ensures (scale_is _)))

pub returns : goal.returns
unfolding dearest_need
returns c = rw (c.cells-columns.ensures, c.cells-rows.ensures, c.scale-k.ensures) refl

pub overflow_mul-result : goal.overflow_mul-result
overflow_mul-result c = omega (arith, few c)

pub overflow_mul-result-2 : goal.overflow_mul-result-2
overflow_mul-result-2 c = omega (arith, few c)
