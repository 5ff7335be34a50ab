-- `runs_in`: where the first run begins, and how many there are.
use native.Mathlib.Omega.{arith}
use Rattle.glass.specs.Private.{by_two, by_four}
use Rattle.glass.proofs.RunRow.{runs_fit}
use Rattle.glass.proofs.runs_in.Goals as goal

pub returns-in-4 : goal.returns-in-4
returns-in-4 c = runs_fit 4 _ _ _ _ _ c.runs_of.ensures by_four c.in-4.is c.if-x-view.false (omega arith) (omega arith)

pub returns-in-2 : goal.returns-in-2
returns-in-2 c = runs_fit 2 _ _ _ _ _ c.runs_of-in-2.ensures by_two c.in-2.is c.if-x-view.false (omega arith) (omega arith)
