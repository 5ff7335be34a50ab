-- What `play` answers and leaves.
use Rattle.answer.specs.Answer.{packed}
use mathlib.Core.Path.{ap, ◌∙◌}
use Rattle.tiglostrema.proofs.tiglostrema_play.Goals as goal

pub returns : goal.returns
returns c =
    let show = c.show_of-show.ensures in
    let done = rw (show.rundown, show.size, show.table) at c.play.ensures in record {
      answer = c.pack.ensures ∙ ap packed done.answer;
      canvas = done.canvas;
      first = rw done.answer at done.scratch.0;
      second = rw done.answer at done.scratch.1;
    }
