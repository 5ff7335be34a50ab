-- `genie_rows`: what the rows that are left make of the canvas as it is, all rows make of the canvas as it came.
use mathlib.Core.Path.{◌≡◌}
use Rattle.genie.specs.Genie.{genie_row, in_turn}
use Rattle.genie.proofs.genie_rows.Given as goal

abbrev pub invariant-loop-sy : goal.invariant-loop-sy
invariant-loop-sy l =
    in_turn l.size.w l.size.h (genie_row l.size.w l.size.h l.clip l.src l.sides l.flight) l.sy l.px ≡ in_turn l.size.w l.size.h (genie_row l.size.w l.size.h l.clip l.src l.sides l.flight) l.sides.h l.initial.px
