-- `level_place`: where the bezel bends the view, and where not.
use Rattle.glass.specs.Private as Private
use Rattle.glass.proofs.general.level.level_place.Goals as goal

pub returns-in-Some : goal.returns-in-Some
unfolding Private.level_seen
returns-in-Some c = rw (c.in-Some.is, c.place.ensures, c.seen.ensures.0)

pub returns-in-None : goal.returns-in-None
unfolding Private.level_seen
returns-in-None c = rw (c.in-None.is, c.col_place.ensures)
