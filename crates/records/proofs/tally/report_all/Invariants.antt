-- The lines below k are written.
use Rattle.std.specs.Io.KnownBytes.{Appends}
use Rattle.records.specs.Record.{lines}
use Rattle.records.proofs.tally.report_all.Given as goal

abbrev pub invariant-loop-k : goal.invariant-loop-k
invariant-loop-k g l = Appends (g.W.Write.contents l.initial.out) (g.W.Write.contents l.out) (lines l.lines l.k)
