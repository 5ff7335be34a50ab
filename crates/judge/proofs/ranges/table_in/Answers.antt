-- `table_in`: the entries passed so far.
use Rattle.block.specs.Bytes.{every}
use Rattle.judge.proofs.Laws.Every.{every_more}
use mathlib.Core.Path.{refl}
use Rattle.judge.proofs.ranges.table_in.Goals as goal

pub loop-i-init : goal.loop-i-init
unfolding every
loop-i-init c = refl

pub loop-i-preserved : goal.loop-i-preserved
loop-i-preserved c = rw (c.loop-i.invariant, c.within-all.ensures, c.entry.ensures) (every_more _ _)
