-- `placed`: 9, then 10.
use Rattle.std.proofs.Common.{Err}
use Rattle.accept.specs.Tests.{source_test, frame_test}
use Rattle.accept.specs.Private.{place_test}
use mathlib.Core.Path.{refl, sym, ap, ◌∙◌}
use Rattle.answer.specs.Tests.{unless}
use Rattle.accept.proofs.placed.Goals as goal

pub returns-then-not-source_there : goal.returns-then-not-source_there
unfolding place_test source_test unless
returns-then-not-source_there c = rw (sym c.source_there.ensures ∙ c.if-not-source_there.true) (ap Err c.at.ensures)

pub returns-then-not-frame_there : goal.returns-then-not-frame_there
unfolding place_test source_test frame_test unless
returns-then-not-frame_there c = rw (sym c.source_there.ensures ∙ c.if-not-source_there.false, sym c.frame_there.ensures ∙ c.if-not-frame_there.true) (ap Err c.at-then-not-frame_there.ensures)

pub returns : goal.returns
unfolding place_test source_test frame_test unless
returns c = rw (sym c.source_there.ensures ∙ c.if-not-source_there.false, sym c.frame_there.ensures ∙ c.if-not-frame_there.false) refl
