-- `need`: the part of the buffer that is lent is the block.
use Rattle.block.proofs.Laws.{block_is, block_none}
use Rattle.layer.specs.Layer.{needed, need_by, kind_of}
use mathlib.Core.Path.{refl, ap, ◌∙◌}
use Rattle.layer.proofs.need.Goals as goal

pub returns-then-n-buf : goal.returns-then-n-buf
returns-then-n-buf c = c.need_block.ensures ∙ ap (needed _ _) (block_is _ _ c.if-n-buf.true)

pub returns : goal.returns
unfolding needed need_by kind_of
returns c = rw (block_none _ _ c.if-n-buf.false) refl
