-- `test_rundown`: 3, then the blocks.
use Rattle.std.proofs.Common.{Err}
use mathlib.Core.Path.{refl, sym, ap, ◌∙◌}
use native.Mathlib.Omega.{arith}
use Rattle.answer.specs.Tests.{unless}
use Rattle.accept.specs.Tests.{rundown_test}
use Rattle.accept.specs.Private.{rundown_tests, blocks_tests}
use Rattle.accept.proofs.Laws.Tests.{lost}
use Rattle.accept.proofs.Table.{few_blocks}
use Rattle.accept.proofs.test_rundown.Goals as goal

pub returns-then-not-whole : goal.returns-then-not-whole
unfolding rundown_tests rundown_test unless
returns-then-not-whole c = ap Err c.at.ensures ∙ lost _ _ _ (rw (sym c.whole.ensures ∙ c.if-not-whole.true) refl)

pub test_blocks-requires : goal.test_blocks-requires
test_blocks-requires c = (few_blocks _ (sym c.whole.ensures ∙ c.if-not-whole.false), omega arith)

pub returns : goal.returns
unfolding rundown_tests rundown_test blocks_tests unless
returns c = rw (sym c.whole.ensures ∙ c.if-not-whole.false) c.test_blocks.ensures
