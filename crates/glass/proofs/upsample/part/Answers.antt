-- `part`: the columns, the runs and the brightness.
use Prim.Native.Nat.{ℕ}
use mathlib.Core.Path.{refl, sym}
use native.Mathlib.Omega.{arith}
use lib.ListN.{length-replicate}
use Rattle.glass.proofs.RunRow.{part_is, line_clear}
use Rattle.glass.proofs.upsample.part.Goals as goal

pub find_columns-requires : goal.find_columns-requires
find_columns-requires c = (c.requires.0, omega (arith, c.requires.2), omega (arith, c.requires.4, length-replicate {A = ℕ} 387 0), omega arith)

pub mix_runs-requires : goal.mix_runs-requires
mix_runs-requires c =
    record { lengths = (c.requires.1, c.requires.4, omega (arith, c.requires.4, c.line-2-1.given), c.requires.3); line_low = c.find_columns.ensures.low }

pub returns : goal.returns
returns c =
    let a = c.args in
    part_is a.view.p a.view.lo.now a.flat a.fy a.m a.n a.dst.now c.requires.3 c.requires.1 c.find_columns.ensures c.mix_runs.ensures c.lit_clear.ensures

pub lit_clear-requires : goal.lit_clear-requires
lit_clear-requires c = line_clear c.requires.3 c.args.n c.args.dst.now c.find_columns.ensures.low c.requires.1 c.mix_runs.ensures

pub slice_bounds-find_columns-end : goal.slice_bounds-find_columns-end
slice_bounds-find_columns-end c = refl

pub overflow_add-n : goal.overflow_add-n
overflow_add-n c = omega (arith, c.requires.4)

pub slice_bounds-mix_runs-end : goal.slice_bounds-mix_runs-end
slice_bounds-mix_runs-end c = sym c.line-2-1.given
