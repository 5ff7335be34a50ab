-- `entries`: entry by entry.
use Rattle.block.proofs.Floats.{all_floats}
use Rattle.block.specs.Fields.{entries}
use lib.Ieee.{nan}
use Rattle.std.proofs.Common.{rules}
use Rattle.block.proofs.fields.entries.Goals as goal

pub returns : goal.returns
unfolding entries
returns c = let f = c.from_fn.ensures.items in all_floats _ 104 _ 33 f.long (λ k h. let q = f.at k nan h in search rules)
