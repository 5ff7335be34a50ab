-- One step after another: the canvas before, the play, the answer, the canvas, the forecast.
use mathlib.Core.Path.{refl}
use Rattle.replay_rundowns.specs.Recorded.{before, replayed}
use Rattle.replay_rundowns.proofs.replay.Goals as goal

pub returns : goal.returns
unfolding before replayed
returns c =
    rw (
      c.is_foretold.ensures,
      c.is_recorded.ensures,
      c.is_answer.ensures,
      c.tiglostrema_play-answer.ensures.answer,
      c.tiglostrema_play-answer.ensures.canvas,
      c.word-height.ensures,
      c.word-width.ensures,
      c.started-px.ensures,
      c.word-2.ensures,
      c.word.ensures,
    )
    refl
