-- `genie_spans`: the spans before this one are painted.
use Prim.Native.Nat.{◌+◌}
use Rattle.canvas.proofs.Laws.Rows.{Rowed}
use Rattle.genie.specs.Private.{row_pix}
use Rattle.genie.proofs.genie_spans.Given as goal

abbrev pub invariant-loop-at : goal.invariant-loop-at
invariant-loop-at l = Rowed (λ i p. row_pix l.band.row.now l.band.strip l.band.full (l.x + i) p) l.initial.dst l.dst l.at
