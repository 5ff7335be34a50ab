-- `toward`: 32 bits hold it.
use Rattle.backdrop.proofs.Tint.{Toward, toward_read}
use Rattle.backdrop.proofs.small.toward.Goals as goal
use Rattle.backdrop.proofs.small.toward.Goals.{Start}

here : (s : Start) → let a = s.args in Toward a.t a.a a.v
here s = let a = s.args in toward_read a.t a.a a.v s.ranges.t.fits s.ranges.a.fits s.requires

pub returns : goal.returns
returns c = (here (goal.at.returns c).Start).is _ (rw (c.from.ensures, c.from-2.ensures) at c.shr8.ensures)
