-- `put_row`: sixteen columns more with each turn, and then the rest.
use Prim.Native.Nat.{◌≤◌, ◌*◌, ◌/◌, ◌%◌}
use mathlib.Core.Path.{◌≡◌}
use lib.ListN.{length}
use Rattle.boxblur.specs.Private.{means, span}
use Rattle.boxblur.proofs.columns.put_row.Given as goal

abbrev pub invariant-loop-i : goal.invariant-loop-i
invariant-loop-i l = (l.m ≡ length l.s / 16 * 16) × ((l.i ≤ l.m) × ((l.i % 16 ≡ 0) × (l.dst ≡ span (means l.s l.x) l.w l.y l.x l.i l.initial.dst)))
