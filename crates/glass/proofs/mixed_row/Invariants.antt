-- `mixed_row`: the loop's invariant is `Rowed` at the pixel's rule, with the columns that are kept.
use Prim.Native.Nat.{◌+◌, ◌≤◌}
use mathlib.Core.Path.{◌≡◌}
use Rattle.canvas.proofs.Laws.Rows.{Rowed}
use Rattle.glass.specs.Flat.{flat_pix}
use Rattle.glass.specs.Private.{pair_at}
use Rattle.glass.proofs.mixed_row.Given as goal

abbrev pub invariant-loop-i : goal.invariant-loop-i
invariant-loop-i l = Rowed (λ j q. flat_pix l.view.p l.view.lo.now (l.x + j) l.y) l.initial.dst l.dst l.i × (l.kept ≡ pair_at l.view.lo.now l.view.p.lw l.fy l.held) × (l.held ≤ l.view.p.lw)
