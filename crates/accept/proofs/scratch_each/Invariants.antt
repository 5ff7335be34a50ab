-- `scratch_each`: the slices are long enough for the blocks passed so far.
use Rattle.std.proofs.Common.{Ok}
use Rattle.accept.specs.Tests.{scratch_test}
use mathlib.Core.Path.{◌≡◌}
use Rattle.accept.proofs.scratch_each.Given as goal

abbrev pub invariant-loop-n : goal.invariant-loop-n
invariant-loop-n l = scratch_test l.show.size.w l.show.size.h l.lent.first l.lent.second l.n l.show.rundown.now ≡ Ok l.n
