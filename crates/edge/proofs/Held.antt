-- Columns that were held to those of a row lie in its order.
use Prim.Native.Nat.{ℕ, ◌≤◌}
use lib.IntN.{ℤ}
use Rattle.edge.specs.declared.Middle.{Middle}
use Rattle.edge.specs.Edge.{Held}
use Rattle.edge.proofs.Laws.{clamped}

pub starts_in : (lo hi : ℤ) (x0 x1 : ℕ) (m : Middle) → x0 ≤ x1 → Held lo hi x0 x1 m → x0 ≤ m.from
starts_in lo hi x0 x1 m h M = (clamped _ x0 x1 h M.left).0

pub goes_on : (lo hi : ℤ) (x0 x1 : ℕ) (m : Middle) → x0 ≤ x1 → Held lo hi x0 x1 m → m.from ≤ m.to
goes_on lo hi x0 x1 m h M = (clamped _ m.from x1 (clamped _ x0 x1 h M.left).1 M.right).0

pub ends_in : (lo hi : ℤ) (x0 x1 : ℕ) (m : Middle) → x0 ≤ x1 → Held lo hi x0 x1 m → m.to ≤ x1
ends_in lo hi x0 x1 m h M = (clamped _ m.from x1 (clamped _ x0 x1 h M.left).1 M.right).1
