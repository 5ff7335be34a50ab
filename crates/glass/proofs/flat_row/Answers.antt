-- `flat_row`: by the test of the row.
use mathlib.Core.Path.{sym, ◌∙◌}
use Rattle.glass.proofs.flat_row.Goals as goal

pub upsampled_row-requires : goal.upsampled_row-requires
upsampled_row-requires c = let s = c.requires in (s.2, λ _. (s.0, s.1))

pub whole_row-requires : goal.whole_row-requires
whole_row-requires c =
    record { row = c.requires; whole = sym c.is_whole.ensures ∙ c.if-is_whole.true }
