-- `first_scaled`: the three sums, scaled.
use Prim.Native.Nat.{◌≤◌, ◌*◌}
use native.Mathlib.Omega.{arith}
use lib.ListN.{get_or}
use Rattle.boxblur.proofs.Sums.{sums_low, sums_scaled}
use Rattle.boxblur.proofs.first_scaled.Goals as goal
use Rattle.boxblur.proofs.first_scaled.Goals.{After-first_sums-s}

low : (c : After-first_sums-s) → let s = c.first_sums-s.result in let inv = c.args.inv in (get_or s 0 0 * inv ≤ 16711680) × ((get_or s 1 0 * inv ≤ 16711680) × (get_or s 2 0 * inv ≤ 16711680))
low c = let a = c.args in sums_low a.src.now a.start a.stride a.m a.r (λ i. omega (arith, c.shared_slice_known-1.given i)) a.inv c.requires.1 c.first_sums-s.ensures

pub returns : goal.returns
returns c =
    let a = c.args in
    sums_scaled a.src.now a.start a.stride a.m a.r a.inv c.requires.1 c.first_sums-s.ensures c.scale.ensures c.scale-2.ensures c.scale-3.ensures

pub scale-requires : goal.scale-requires
scale-requires c = (low c).0

pub scale-requires-2 : goal.scale-requires-2
scale-requires-2 c = (low (goal.at.scale-requires-2 c).After-first_sums-s).1.0

pub scale-requires-3 : goal.scale-requires-3
scale-requires-3 c = (low (goal.at.scale-requires-3 c).After-first_sums-s).1.1
