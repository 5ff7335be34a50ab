-- `put_text`: a copy.
use Rattle.std.proofs.Common.{refl, ◌∙◌, arith}
use Rattle.playout.proofs.Laws.{copied}
use Rattle.playout.proofs.put_text.Goals as goal

pub returns : goal.returns
returns c = record { bytes = copied _ _ _ c.args.at (c.copy_from_slice.ensures.after ∙ c.as_bytes.ensures.value) (omega arith); end = refl }
