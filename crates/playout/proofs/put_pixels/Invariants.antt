-- `put_pixels`: the pixels below i have been put, seven bytes each.
use Rattle.playout.specs.Put.{Put}
use Rattle.playout.specs.Printed.{pixels}
use Rattle.playout.proofs.put_pixels.Given as goal

abbrev pub invariant-loop-i : goal.invariant-loop-i
invariant-loop-i l = Put (pixels l.px l.i) l.initial.out l.at l.out l.to
