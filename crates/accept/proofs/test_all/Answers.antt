-- `test_all`: how many layers `test_layers` finds.
use mathlib.Core.Path.{sym, ◌∙◌}
use Rattle.answer.proofs.Laws.{handed_on}
use Rattle.accept.proofs.Laws.Tests.{found_as, lost_as}
use Rattle.accept.proofs.test_all.Goals as goal

pub returns : goal.returns
returns c = sym (found_as _ _ _ (sym c.in_ok-layers.ensures)).0

pub returns-in_err-layers : goal.returns-in_err-layers
returns-in_err-layers c = handed_on _ _ c.from_residual.ensures ∙ sym (lost_as _ _ _ (sym c.in_err-layers.ensures))
