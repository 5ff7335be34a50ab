-- What `dearest` answers and leaves.
use mathlib.Core.Path.{ap, ◌∙◌}
use Rattle.answer.specs.Answer.{packed}
use Rattle.tiglostrema.proofs.tiglostrema_dearest.Goals as goal

pub returns : goal.returns
returns c =
    let done = rw c.size_of.ensures at c.dearest.ensures in record { answer = c.pack.ensures ∙ ap packed done.answer; block = done.block }
