-- For private contracts: no public one cites this.
use Rattle.std.specs.Prelude.{ℕ, ◌+◌, ◌-◌, ◌≤◌, ◌≡◌, ℤ, pos, ◌+ℤ◌}
use Rattle.straight.specs.Straight.{place}

-- the canvas's columns, or rows, from `from` up to `to` lie over a source of n of them that starts at x
pub record Covers (x : ℤ) (n from to : ℕ) : Type 0 where
  pub start : pos from ≡ x +ℤ pos (place x from)
  pub room : place x from + (to - from) ≤ n
