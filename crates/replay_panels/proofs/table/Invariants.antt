-- The entries below i are put in.
use Rattle.std.proofs.Common.{◌≡◌}
use Rattle.replay_panels.specs.Layer.{entries as put}
use Rattle.replay_panels.proofs.table.Given as goal

abbrev pub invariant-loop-i : goal.invariant-loop-i
invariant-loop-i l = l.entries ≡ put l.rec l.i
