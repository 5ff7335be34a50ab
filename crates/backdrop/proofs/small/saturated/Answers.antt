-- `saturated`: 32 bits hold it.
use Rattle.backdrop.proofs.Tint.{Saturated, saturated_read}
use Rattle.backdrop.proofs.small.saturated.Goals as goal
use Rattle.backdrop.proofs.small.saturated.Goals.{Start}

here : (s : Start) → let a = s.args in Saturated a.c a.l a.sat
here s = let a = s.args in saturated_read a.c a.l a.sat s.ranges.c.fits s.ranges.l.fits s.requires s.ranges.sat

pub returns : goal.returns
returns c = rw c.from.ensures ((here (goal.at.returns c).Start).is _ (rw (c.from-2.ensures, c.from-3.ensures) at c.shr8.ensures))
