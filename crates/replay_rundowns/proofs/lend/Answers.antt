-- The parts that are lent start at 0, and are as long as the record says.
use Rattle.records.proofs.Laws.{part_length}
use Rattle.replay_rundowns.specs.Recorded.{pool, as_recorded}
use Rattle.replay_rundowns.proofs.lend.Goals as goal

pub returns : goal.returns
unfolding pool as_recorded
returns c =
    rw (
      part_length _ _ c.len_of-la.ensures.1,
      part_length _ _ c.len_of-lb.ensures.1,
      c.len_of-lb.ensures.0,
      c.len_of-la.ensures.0,
      c.len_of-t.ensures.0,
      c.len_of-m.ensures.0,
      c.started-pool.ensures,
      c.word-2.ensures,
      c.word.ensures,
      c.words-table.ensures,
    )
    at c.replay.ensures
