-- The set of blocks: what add and remove promised before their blocks had an order. The promise still holds.
use Rattle.std.proofs.Common.{Ok}
use mathlib.Core.Path.{◌≡◌, refl, sym, ap, ◌∙◌}
use mathlib.Core.Bool.{Bool, true, false, cond, ◌&&◌}
use mathlib.Core.List.{List, [], ◌∷◌}
use Prim.Native.Nat.{ℕ, ◌+◌}
use native.Mathlib.Omega.{arith}
use lib.Dec.{eqb}
use Rattle.block.specs.Fields.{priority}
use Rattle.order.specs.Order.{sort}
use Rattle.order.proofs.Laws.Counts.{count, count_sort}
use Rattle.rundown.specs.Kept.{blocks, sealed, without, ordered, AddLeaves, RemoveLeaves}

-- the same bytes
unfoldable pub alike : List ℕ → List ℕ → Bool
alike [] [] = true
alike [] (d ∷ b) = false
alike (c ∷ a) [] = false
alike (c ∷ a) (d ∷ b) = eqb c d && alike a b

-- how often the block b stands in the list
unfoldable pub times : List ℕ → List (List ℕ) → ℕ
times b [] = 0
times b (a ∷ l) = cond (alike b a) 1 0 + times b l

-- each block stands in both lists, each as often: the set of blocks is the same, wherever they stand
abbrev pub SameBlocks : List (List ℕ) → List (List ℕ) → Type 0
SameBlocks l m = (b : List ℕ) → times b l ≡ times b m

times_count : (b : List ℕ) (l : List (List ℕ)) → times b l ≡ count (alike b) l
unfolding times count
times_count b [] = refl
times_count b (a ∷ l) = omega (arith, times_count b l)

-- to put blocks in order is to keep their set
pub ordered_same : (l : List (List ℕ)) → SameBlocks (ordered l) l
unfolding ordered
ordered_same l b = times_count b (sort (List ℕ) priority l) ∙ count_sort (List ℕ) priority (alike b) l ∙ sym (times_count b l)

-- so it is the one that was promised
pub add_same : (count n : ℕ) (new before after : List ℕ) → AddLeaves (Ok n) count new before after → SameBlocks (blocks n after) (sealed new ∷ blocks count before)
unfolding AddLeaves
add_same count n new before after l b = ap (times b) l.1 ∙ ordered_same (sealed new ∷ blocks count before) b

pub remove_same : (count n p : ℕ) (before after : List ℕ) → RemoveLeaves (Ok n) count p before after → SameBlocks (blocks n after) (without p (blocks count before))
unfolding RemoveLeaves
remove_same count n p before after l b = ap (times b) l.1 ∙ ordered_same (without p (blocks count before)) b
