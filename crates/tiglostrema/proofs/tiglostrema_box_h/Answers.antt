-- The pass's own answer, as a number.
use mathlib.Core.Path.{◌∙◌}
use Rattle.answer.proofs.Laws.{packed_by}
use Rattle.tiglostrema.proofs.tiglostrema_box_h.Goals as goal

pub returns : goal.returns
returns c =
    let pass = c.box_h.ensures in
    (c.pack.ensures ∙ packed_by _ _ pass.0, pass.1)
