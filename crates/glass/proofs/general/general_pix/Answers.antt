-- `general_pix`: inside, or of the edge.
use borrow.Author.Rules.{rules}
use Rattle.glass.specs.General as General
use Rattle.glass.proofs.general.general_pix.Goals as goal
use Rattle.glass.proofs.general.general_pix.Goals.{else-row_inside-via-then-row_inside+else-contains, else-row_inside-via-else-row_inside}

pub returns-then-contains : goal.returns-then-contains
unfolding General.general_pix General.within
returns-then-contains c = search rules

pub returns : goal.returns
unfolding General.general_pix General.within
returns c =
    elim c.else-row_inside.branch [
      | else-row_inside-via-then-row_inside+else-contains w ↦ search rules
      | else-row_inside-via-else-row_inside w ↦ search rules
    ]
