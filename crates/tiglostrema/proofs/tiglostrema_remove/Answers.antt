-- What `remove` of `rundown` answers and leaves.
use Rattle.answer.specs.Answer.{packed}
use mathlib.Core.Path.{ap, ◌∙◌}
use Rattle.tiglostrema.proofs.tiglostrema_remove.Goals as goal

pub returns : goal.returns
returns c =
    let done = c.remove.ensures in record { answer = c.pack.ensures ∙ ap packed done.answer; leaves = rw done.answer at done.leaves }
