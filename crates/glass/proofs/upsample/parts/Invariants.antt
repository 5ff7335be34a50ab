-- `parts`: the loop's invariant is `Rowed` at the pixel's rule, a part to a turn.
use Prim.Native.Nat.{◌*◌, min}
use Rattle.canvas.proofs.Laws.Rows.{Rowed}
use Rattle.glass.specs.Private.{run_pix}
use Rattle.glass.proofs.upsample.parts.Given as goal

abbrev pub invariant-loop-at : goal.invariant-loop-at
invariant-loop-at l = Rowed (λ j q. run_pix l.view.p l.view.lo.now l.flat l.fy l.m j) l.initial.dst l.dst (min l.at l.count * l.view.p.k)
