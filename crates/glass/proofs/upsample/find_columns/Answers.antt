-- `find_columns`: both rows of cells lie in the picture.
use Prim.Native.Nat.{ℕ, ◌+◌, ◌*◌, ◌/◌, ◌≤◌, ◌<◌}
use mathlib.Core.Path.{refl, ap}
use native.Mathlib.Omega.{arith}
use lib.ListN.{length}
use Rattle.glass.specs.Places.{cell_at}
use Rattle.glass.proofs.Sizes.{span_in, few_bytes}
use Rattle.glass.proofs.RunRow.{line_is}
use Rattle.glass.proofs.upsample.find_columns.Goals as goal
use Rattle.glass.proofs.upsample.find_columns.Goals.{After-next, Start}

-- the columns of a row of cells
room : (s : Start) (y : ℕ) → let a = s.args in y < a.view.p.lh → (cell_at a.view.p.lw a.m y + a.n * 3 ≤ length a.view.lo.now) × (length a.view.lo.now ≤ 50331648)
room s y h = let a = s.args in (omega (arith, span_in s.args.view.sized (a.m + a.n) y s.requires.1 h), few_bytes s.args.view.sized)

above : (s : Start) → let a = s.args in (cell_at a.view.p.lw a.m (a.fy / 256) + a.n * 3 ≤ length a.view.lo.now) × (length a.view.lo.now ≤ 50331648)
above s = room s (s.args.fy / 256) (omega (arith, s.requires.0))

below : (c : After-next) → let a = c.args in (cell_at a.view.p.lw a.m c.next.result + a.n * 3 ≤ length a.view.lo.now) × (length a.view.lo.now ≤ 50331648)
below c = room c.before.before.before c.next.result (omega (arith, c.next.ensures, c.args.view.sized.tall))

pub returns : goal.returns
returns c =
    let a = c.args in
    line_is a.view.lo.now a.view.p.lw a.view.p.lh a.fy a.m a.n a.flat a.line.now a.view.bytes c.requires.2 refl
    (ap (cell_at a.view.p.lw a.m) c.next.ensures) refl c.find_channels.ensures

pub overflow_mul-above : goal.overflow_mul-above
overflow_mul-above c = record { fits = omega (arith, above (goal.at.overflow_mul-above c).Start) }

pub overflow_add-above : goal.overflow_add-above
overflow_add-above c = omega (arith, above (goal.at.overflow_add-above c).Start)

pub overflow_mul-above-2 : goal.overflow_mul-above-2
overflow_mul-above-2 c = omega (arith, above (goal.at.overflow_mul-above-2 c).Start)

pub overflow_mul-below : goal.overflow_mul-below
overflow_mul-below c = record { fits = omega (arith, below (goal.at.overflow_mul-below c).After-next) }

pub overflow_add-below : goal.overflow_add-below
overflow_add-below c = omega (arith, below (goal.at.overflow_add-below c).After-next)

pub overflow_mul-below-2 : goal.overflow_mul-below-2
overflow_mul-below-2 c = omega (arith, below (goal.at.overflow_mul-below-2 c).After-next)

pub overflow_mul-n : goal.overflow_mul-n
overflow_mul-n c = omega (arith, above (goal.at.overflow_mul-n c).Start)

pub find_channels-requires : goal.find_channels-requires
find_channels-requires c = (c.requires.2, (above (goal.at.find_channels-requires c).Start).0, (below (goal.at.find_channels-requires c).After-next).0, omega arith)
