-- The law that the replaying programs cite.
use Rattle.std.proofs.Common.{◌≡◌, ℕ, ◌≤◌, length, take, replicate, arith, length-take}
use lib.ListN.{length-replicate}

-- n of as many or more zeros are n
pub part_length : (most n : ℕ) → n ≤ most → length {A = ℕ} (take n (replicate most 0)) ≡ n
part_length most n fits = omega (arith, fits, length-take {A = ℕ} n (replicate most 0), length-replicate {A = ℕ} most 0)
