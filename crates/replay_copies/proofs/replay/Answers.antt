-- One step after another: the canvas before, the source, the copy, the comparison.
use Rattle.replay_copies.specs.Layer.{replayed, pixels}
use Rattle.replay_copies.proofs.replay.Goals as goal

pub returns : goal.returns
unfolding replayed pixels
returns c =
    rw (
      c.copy_first.ensures,
      c.started-src.ensures,
      c.word-4.ensures,
      c.word-3.ensures,
      c.started-px.ensures,
      c.word-2.ensures,
      c.word.ensures,
    )
    at c.is_recorded.ensures
