-- The answer and the sum beside the recorded words.
use Rattle.std.proofs.Common.{refl, sym, arith}
use Rattle.replay_blocks.specs.Asked.{replayed}
use Rattle.replay_blocks.proofs.Left.{end_fits, part_is}
use Rattle.replay_blocks.proofs.Call.replay.Goals as goal

pub slice_bounds-sum-end : goal.slice_bounds-sum-end
slice_bounds-sum-end c =
    omega (arith, end_fits _ _ _ _ _ _ _ refl c.settled_len-end.ensures c.answer-answer.ensures.left)

pub returns : goal.returns
unfolding replayed
returns c =
    rw (
      sym c.answer-answer.ensures.answer,
      c.pair-recorded.ensures,
      c.word-3.ensures,
      c.word-2.ensures,
      c.word.ensures,
      c.sum-left.ensures,
      part_is _ _ _ _ _ _ _ refl c.settled_len-end.ensures c.answer-answer.ensures.left,
    )
    refl
