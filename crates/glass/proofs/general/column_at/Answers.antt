-- `column_at`: both cells lie in the picture.
use Prim.Native.Nat.{◌+◌, ◌/◌, ◌≤◌}
use native.Mathlib.Omega.{arith}
use lib.ListN.{length}
use Rattle.glass.specs.Places.{cell_at}
use Rattle.glass.proofs.Sizes.{cell_in}
use Rattle.glass.proofs.general.column_at.Goals as goal
use Rattle.glass.proofs.general.column_at.Goals.{After-next, Start}

above : (s : Start) → let a = s.args in cell_at a.view.p.lw a.x (a.fy / 256) + 3 ≤ length a.view.lo.now
above s = let a = s.args in cell_in s.args.view.sized a.x (a.fy / 256) s.requires.1 (omega (arith, s.requires.0))

below : (c : After-next) → let a = c.args in cell_at a.view.p.lw a.x c.next.result + 3 ≤ length a.view.lo.now
below c = let a = c.args in cell_in c.args.view.sized a.x c.next.result c.requires.1 (omega (arith, c.next.ensures, c.args.view.sized.tall))

pub column_ch-g-requires : goal.column_ch-g-requires
column_ch-g-requires c = (omega (arith, above (goal.at.column_ch-g-requires c).Start), omega (arith, below (goal.at.column_ch-g-requires c).After-next), omega arith)

pub column_ch-b-requires : goal.column_ch-b-requires
column_ch-b-requires c = (omega (arith, above (goal.at.column_ch-b-requires c).Start), omega (arith, below (goal.at.column_ch-b-requires c).After-next), omega arith)

pub returns : goal.returns
returns c =
    let h = c.column_ch-r.ensures in
    let j = c.column_ch-g.ensures in
    let k = c.column_ch-b.ensures in
    record {
      small = record { r = h.1; g = j.1; b = k.1 };
      r = rw c.next.ensures at h.0;
      g = rw c.next.ensures at j.0;
      b = rw c.next.ensures at k.0;
    }

pub overflow_mul-above : goal.overflow_mul-above
overflow_mul-above c = omega (arith, above (goal.at.overflow_mul-above c).Start)

pub overflow_add-above : goal.overflow_add-above
overflow_add-above c = omega (arith, above (goal.at.overflow_add-above c).Start)

pub overflow_mul-above-2 : goal.overflow_mul-above-2
overflow_mul-above-2 c = omega (arith, above (goal.at.overflow_mul-above-2 c).Start)

pub overflow_mul-below : goal.overflow_mul-below
overflow_mul-below c = omega (arith, below (goal.at.overflow_mul-below c).After-next)

pub overflow_add-below : goal.overflow_add-below
overflow_add-below c = omega (arith, below (goal.at.overflow_add-below c).After-next)

pub overflow_mul-below-2 : goal.overflow_mul-below-2
overflow_mul-below-2 c = omega (arith, below (goal.at.overflow_mul-below-2 c).After-next)

pub column_ch-r-requires : goal.column_ch-r-requires
column_ch-r-requires c = (omega (arith, above (goal.at.column_ch-r-requires c).Start), omega (arith, below (goal.at.column_ch-r-requires c).After-next), omega arith)
