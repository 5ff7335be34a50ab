-- The place and the sides are words 7 to 10.
use Rattle.std.proofs.Common.{refl}
use Rattle.records.specs.Record.{rect}
use Rattle.records.proofs.rect_of.Goals as goal

pub returns : goal.returns
unfolding rect
returns c = rw (c.real.ensures, c.real-2.ensures, c.real-3.ensures, c.real-4.ensures) refl
