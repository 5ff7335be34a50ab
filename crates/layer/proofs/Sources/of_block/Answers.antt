-- `of_block`: the part of the pool that is lent is the source.
use Prim.Native.Nat.{◌≤◌}
use lib.ListN.{length}
use native.Mathlib.Omega.{arith}
use Rattle.sources.proofs.Pool.{lent, in_pool, its_sides}
use Rattle.layer.proofs.Sources.of_block.Goals as goal
use Rattle.layer.proofs.Sources.of_block.Goals.{After-find-at}

-- it lies in the pool
room : (c : After-find-at) → let p = c.find-at.result in (p.from ≤ p.to) × (p.to ≤ length c.args.self.pool.now)
room c = rw c.find-at.ensures (in_pool _ _ _)

pub returns : goal.returns
returns c = rw (c.find-at.ensures, c.source.ensures) (lent _ _ _, its_sides _ _ _)

pub offset_bounds-self-at : goal.offset_bounds-self-at
offset_bounds-self-at c = omega (arith, room (goal.at.offset_bounds-self-at c).After-find-at)

pub slice_bounds-result-count : goal.slice_bounds-result-count
slice_bounds-result-count c = omega (arith, room (goal.at.slice_bounds-result-count c).After-find-at)

pub slice_bounds-result-start : goal.slice_bounds-result-start
slice_bounds-result-start c = omega (arith, room (goal.at.slice_bounds-result-start c).After-find-at)

pub slice_bounds-result-end : goal.slice_bounds-result-end
slice_bounds-result-end c = omega (arith, room (goal.at.slice_bounds-result-end c).After-find-at)
