-- The word of the colour that `mix` gives.
use mathlib.Core.Path.{◌∙◌, ap}
use Rattle.c_leaves.specs.Out.{word}
use Rattle.c_leaves.proofs.leaf_color_mix.Goals as goal

pub returns : goal.returns
returns c = c.word_of.ensures ∙ ap word c.mix.ensures
