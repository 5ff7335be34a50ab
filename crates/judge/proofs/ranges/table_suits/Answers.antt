-- `table_suits`: the entries passed so far.
use Rattle.block.specs.Bytes.{every}
use Rattle.block.specs.Ranges.{table_suits, bend_most}
use native.Mathlib.Omega.{arith}
use Rattle.judge.proofs.Laws.Every.{every_more}
use mathlib.Core.Path.{◌≡◌, refl}
use Rattle.judge.proofs.ranges.table_suits.Goals as goal

pub loop-i-init : goal.loop-i-init
unfolding every
loop-i-init c = refl

pub loop-i-preserved : goal.loop-i-preserved
loop-i-preserved c = rw (c.loop-i.invariant, c.entry.ensures) (every_more _ _)

pub returns : goal.returns
unfolding table_suits bend_most
returns c = let e : c.loop-i.i ≡ 33 = omega arith in rw (c.loop-i.invariant, e, c.bezel-most.ensures)
