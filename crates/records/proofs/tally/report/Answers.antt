-- The line is one of these, or there is none.
use Rattle.std.proofs.Common.{arith}
use Rattle.std.proofs.KnownBytes.{Appends-nil}
use Rattle.records.proofs.Lines.{said, line_past}
use Rattle.records.proofs.tally.report.Goals as goal

pub returns-then-k-lines : goal.returns-then-k-lines
returns-then-k-lines g c = rw (line_past c.args.lines.now c.args.k (omega arith)) (Appends-nil _)

pub returns : goal.returns
returns g c = said _ _ _ _ c.args.lines.now c.args.k _ (omega arith) c.in_ok-write_all.ensures.bytes c.writeln.ensures.bytes
