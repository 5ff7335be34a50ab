-- A line of numbers, one for each column: those of a part, and those of its front once they are stored.
use Prim.Native.Nat.{ℕ, ◌+◌, ◌-◌, ◌≤◌, ◌<◌}
use mathlib.Core.Path.{◌≡◌, ap, ◌∙◌}
use mathlib.Core.List.{List}
use native.Mathlib.Omega.{arith}
use lib.ListN.{length, take, drop, get_or}
use lib.Seq.{get_or-take, get_or-drop}
use Rattle.canvas.specs.Rows.{map_row, below}
use Rattle.canvas.proofs.Laws.Rows.{get_d-map_row, below_in}
use Rattle.scaled.specs.Private.{Within}

-- a number of a part that is lent
pub part_at : (l : List ℕ) (a b i : ℕ) → i < b - a → get_or (take (b - a) (drop a l)) i 0 ≡ get_or l (a + i) 0
part_at l a b i h = get_or-take (b - a) (drop a l) i 0 h ∙ get_or-drop a l i 0

-- numbers that are low are so in a part
pub within_part : {l : List ℕ} {m : ℕ} (a b : ℕ) → Within l m → b ≤ length l → length (take (b - a) (drop a l)) ≡ b - a → Within (take (b - a) (drop a l)) m
within_part {l} a b W h e = record { is = λ i g. omega (arith, part_at l a b i (omega arith), W.is (a + i) (omega arith)) }

-- what one of the first n is then
pub done_at : (f : ℕ → ℕ → ℕ) (n : ℕ) (l : List ℕ) {r : List ℕ} → r ≡ map_row (below n f) l → (i : ℕ) → i < n → i < length l → get_or r i 0 ≡ f i (get_or l i 0)
done_at f n l e i h g = ap (λ (t : List ℕ). get_or t i 0) e ∙ get_d-map_row (below n f) l i g ∙ below_in n f i (get_or l i 0) h
