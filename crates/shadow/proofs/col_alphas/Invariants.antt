-- `col_alphas`: the columns passed so far have their alphas.
use Rattle.std.proofs.Common.{◌+◌}
use Rattle.canvas.proofs.Laws.Rows.{Rowed}
use Rattle.shadow.specs.Shadow.{alpha_of, col_sd}
use Rattle.shadow.proofs.col_alphas.Given as goal

abbrev pub invariant-loop-i : goal.invariant-loop-i
invariant-loop-i l = Rowed (λ i _. alpha_of l.caster.table l.caster.shadow.blur (col_sd l.caster.rect (l.x0 + i))) l.initial.cols l.cols l.i
