-- `test_sizes`: 1, 2, then the rundown.
use Rattle.std.proofs.Common.{Err}
use mathlib.Core.Path.{sym, ap, ◌∙◌}
use Rattle.answer.specs.Tests.{unless}
use Rattle.answer.proofs.Laws.{handed_on}
use Rattle.accept.specs.Tests.{sizes_answer, canvas_test, table_test}
use Rattle.accept.specs.Private.{rundown_tests}
use Rattle.accept.proofs.Laws.Tests.{found_as, lost_as}
use Rattle.accept.proofs.test_sizes.Goals as goal

pub returns-then-not-is_canvas : goal.returns-then-not-is_canvas
unfolding sizes_answer canvas_test unless
returns-then-not-is_canvas c = rw (sym c.is_canvas.ensures ∙ c.if-not-is_canvas.true) (ap Err c.at.ensures)

pub returns-then-not-table_right : goal.returns-then-not-table_right
unfolding sizes_answer canvas_test table_test unless
returns-then-not-table_right c = rw (sym c.is_canvas.ensures ∙ c.if-not-is_canvas.false, sym c.table_right.ensures ∙ c.if-not-table_right.true) (ap Err c.at-then-not-table_right.ensures)

pub returns : goal.returns
unfolding sizes_answer canvas_test table_test rundown_tests unless
returns c = rw (sym c.is_canvas.ensures ∙ c.if-not-is_canvas.false, sym c.table_right.ensures ∙ c.if-not-table_right.false) (sym (found_as _ _ _ (sym c.in_ok-layers.ensures)).0)

pub returns-in_err-layers : goal.returns-in_err-layers
unfolding sizes_answer canvas_test table_test rundown_tests unless
returns-in_err-layers c = rw (sym c.is_canvas.ensures ∙ c.if-not-is_canvas.false, sym c.table_right.ensures ∙ c.if-not-table_right.false) (handed_on _ _ c.from_residual.ensures ∙ sym (lost_as _ _ _ (sym c.in_err-layers.ensures)))
