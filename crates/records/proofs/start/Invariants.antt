-- The pixels passed are done, and v is the next one.
use Rattle.std.proofs.Common.{◌≡◌}
use Rattle.canvas.proofs.Laws.Rows.{Rowed}
use Rattle.records.specs.Record.{pixel}
use Rattle.records.proofs.start.Given as goal

abbrev pub invariant-loop-p : goal.invariant-loop-p
invariant-loop-p l = Rowed (λ k p. pixel l.first l.step k) l.initial.p-items l.p-items l.p-index × (l.v ≡ pixel l.first l.step l.p-index)
