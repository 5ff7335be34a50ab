-- `put_cell`: three stores.
use native.Mathlib.Omega.{arith}
use lib.ListN.{length-set}
use Rattle.boxblur.proofs.put_cell.Goals as goal

pub bounds-dst-o-2 : goal.bounds-dst-o-2
bounds-dst-o-2 c = simp length-set (omega arith)

pub bounds-dst-o-3 : goal.bounds-dst-o-3
bounds-dst-o-3 c = simp length-set (omega arith)

pub returns : goal.returns
returns c = cc
