-- `cell`: the rows so far.
use mathlib.Core.Path.{◌≡◌}
use Rattle.backdrop.specs.Private.{rgb}
use Rattle.backdrop.proofs.Bytes.{rows_sum}
use Rattle.backdrop.proofs.small.cell.Given as goal

abbrev pub invariant-loop-j : goal.invariant-loop-j
invariant-loop-j g l = l.t ≡ rgb (rows_sum g.row.K l.px l.s l.m l.x l.j)
