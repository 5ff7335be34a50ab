-- The front is place 0.
use Rattle.block.specs.Bytes.{block_at}
use Rattle.c_blocks.proofs.block_judge.Goals as goal

pub returns : goal.returns
unfolding block_at
returns c = c.block_judge_at.ensures
