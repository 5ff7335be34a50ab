-- `fill_spans`: the loop's invariant is `Rowed` at the row's colours; each turn fetches the pairs of a span and lends the span to be mixed.
use Prim.Native.Nat.{min}
use lib.ListN.{length, get_or}
use Rattle.canvas.proofs.Laws.Rows.{Rowed}
use Rattle.scaled.specs.Private.{row_at}
use Rattle.scaled.proofs.fill_spans.Given as goal

abbrev pub invariant-loop-at : goal.invariant-loop-at
invariant-loop-at l = Rowed (λ i p. row_at l.row (get_or l.taps i 0)) l.initial.line l.line (min l.at (length l.taps))
