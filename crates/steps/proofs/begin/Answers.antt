-- `begin`: play's tests, and nothing painted.
use mathlib.Core.Path.{refl, sym}
use Rattle.steps.specs.Steps.{call_answer, tests, answer_by}
use Rattle.steps.proofs.Laws.Calls.{begin_unchanged}
use Rattle.steps.proofs.begin.Goals as goal

pub returns : goal.returns
unfolding call_answer tests answer_by
returns c =
    record { answer = rw c.of.ensures at c.test_all.ensures; canvas = sym (begin_unchanged _ _ _ refl).canvas; scratch = (refl, refl) }
