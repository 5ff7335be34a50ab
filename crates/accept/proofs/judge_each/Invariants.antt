-- `judge_each`: the blocks passed so far pass.
use Rattle.std.proofs.Common.{Ok}
use Rattle.accept.specs.Tests.{blocks_test}
use mathlib.Core.Path.{◌≡◌}
use Rattle.accept.proofs.judge_each.Given as goal

abbrev pub invariant-loop-n : goal.invariant-loop-n
invariant-loop-n l = blocks_test l.show.size.w l.show.table.now l.n l.show.rundown.now ≡ Ok l.n
