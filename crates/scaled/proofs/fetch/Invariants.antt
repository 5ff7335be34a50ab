-- `fetch`: the pairs of the places so far stand.
use Prim.Native.Nat.{ℕ, ◌+◌, ◌<◌}
use mathlib.Core.Path.{◌≡◌}
use mathlib.Core.List.{[], ◌∷◌}
use lib.ListN.{length, get_or}
use Rattle.scaled.specs.Scaled.{first}
use Rattle.scaled.proofs.fetch.Given as goal

abbrev pub invariant-loop-i : goal.invariant-loop-i
invariant-loop-i l =
    (length l.pairs ≡ 64) × ((i : ℕ) → i < l.i → get_or l.pairs i [] ≡ get_or l.row (first (get_or l.taps i 0)) 0 ∷ get_or l.row (first (get_or l.taps i 0) + 1) 0 ∷ [])
