-- `need_block`: by the kind.
use Rattle.layer.proofs.ByKind.{need_glass}
use Rattle.block.proofs.Laws.Kinds.{kind_number}
use Rattle.block.specs.declared.Kind.TheVariants.{Glass}
use mathlib.Core.Path.{◌∙◌}
use Rattle.layer.proofs.need_block.Goals as goal

pub returns-in-Some-Glass : goal.returns-in-Some-Glass
returns-in-Some-Glass c = rw (c.entries-table.ensures, c.clip.ensures, c.rect.ensures, c.style_of.ensures) at c.need.ensures ∙ need_glass _ _ _ (kind_number _ Glass (cc))
