-- The word of the colour that `from_pix` gives.
use mathlib.Core.Path.{◌∙◌, ap}
use Rattle.c_leaves.specs.Out.{word}
use Rattle.c_leaves.proofs.leaf_from_pix.Goals as goal

pub returns : goal.returns
returns c = c.word_of.ensures ∙ ap word c.from_pix.ensures
