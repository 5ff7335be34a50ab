-- Line by line.
use Rattle.std.proofs.KnownBytes.{Appends-nil}
use Rattle.records.specs.Record.{lines}
use Rattle.records.proofs.Lines.{lines_next}
use Rattle.records.proofs.tally.report_all.Goals as goal

pub loop-k-init : goal.loop-k-init
unfolding lines
loop-k-init g c = Appends-nil _

pub loop-k-preserved : goal.loop-k-preserved
loop-k-preserved g c = lines_next _ _ _ _ _ c.loop-k.invariant c.in_ok-report.ensures
