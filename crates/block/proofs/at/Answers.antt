-- `at`: the part of the buffer that is lent is the block.
use Rattle.block.proofs.Laws.{block_is, block_none}
use mathlib.Core.Path.{sym}
use Rattle.block.proofs.at.Goals as goal

pub returns-then-n-buf : goal.returns-then-n-buf
returns-then-n-buf c = block_is _ _ c.if-n-buf.true

pub returns : goal.returns
returns c = sym (block_none _ _ c.if-n-buf.false)
