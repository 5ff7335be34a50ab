-- `choose`: the next block of the priorities that the tests have gathered.
use mathlib.Core.Path.{sym, ◌∙◌}
use native.Mathlib.Omega.{arith}
use Rattle.answer.proofs.Laws.{handed_on}
use Rattle.steps.proofs.Choice.{fits, refused_tests, choice_is, none_is}
use Rattle.steps.proofs.choose.Goals as goal

pub shared_ref_as_front-find_next : goal.shared_ref_as_front-find_next
shared_ref_as_front-find_next c = let a = c.args in omega (arith, fits a.show.size.w a.show.size.h a.lent.canvas a.show.table.now a.lent.pool a.show.rundown.now a.lent.first a.lent.second a.last _ c.in_ok-layers.ensures)

pub returns : goal.returns
returns c =
    let a = c.args in
    c.ok_or.ensures.value ∙ (rw c.at.ensures (none_is _))
    ∙ sym (choice_is a.show.size.w a.show.size.h a.lent.canvas a.show.table.now a.lent.pool a.show.rundown.now a.lent.first a.lent.second a.last _ c.in_ok-layers.ensures _ (rw c.from.ensures at c.find_next-next.ensures))

pub returns-in_err-layers : goal.returns-in_err-layers
returns-in_err-layers c =
    let a = c.args in
    handed_on _ _ c.from_residual.ensures ∙ sym (refused_tests a.show.size.w a.show.size.h a.lent.canvas a.show.table.now a.lent.pool a.show.rundown.now a.lent.first a.lent.second a.last _ c.in_err-layers.ensures)
