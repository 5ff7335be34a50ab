-- A worked example, whatever the layers are: 10 and 9 are held in this order, 256 is added, and 10 removed.
use Rattle.std.proofs.Common.{Ok}
use mathlib.Core.Path.{◌≡◌, refl, ap, ◌∙◌}
use mathlib.Core.List.{List, [], ◌∷◌, map}
use Prim.Native.Nat.{ℕ}
use native.Mathlib.Omega.{arith}
use borrow.Author.Tests.{lt-ltb, le-ltb, eq-eqb, ne_eqb}
use lib.ListN.{length}
use Rattle.block.specs.Bytes.{block_at}
use Rattle.block.specs.Fields.{priority}
use Rattle.order.specs.Order.{sort, insert}
use Rattle.rundown.specs.Kept.{blocks, sealed, without, ordered, AddLeaves, RemoveLeaves}
use Rattle.rundown.proofs.Laws.Sealed.{sealed_priority}

module _ (ten nine new : List ℕ) (e : priority ten ≡ 10) (f : priority nine ≡ 9) (g : priority new ≡ 256) where
  -- as numbers they ascend; as text 256 would stand before 9, and by the low byte before both
  added : ordered (new ∷ ten ∷ nine ∷ []) ≡ nine ∷ ten ∷ new ∷ []
  unfolding ordered sort insert
  added =
      rw (le-ltb (priority ten) (priority nine) (omega (arith, e, f)), le-ltb (priority new) (priority nine) (omega (arith, f, g)), le-ltb (priority new) (priority ten) (omega (arith, e, g))) refl

  removed : ordered (without 10 (nine ∷ ten ∷ new ∷ [])) ≡ nine ∷ new ∷ []
  unfolding ordered sort insert without
  removed =
      rw (ne_eqb (priority nine) 10 (λ q. omega (arith, f, q)), eq-eqb (priority ten) 10 e, ne_eqb (priority new) 10 (λ q. omega (arith, g, q)))
      (rw (lt-ltb (priority nine) (priority new) (omega (arith, f, g))) refl)

pub worked : (before new after end : List ℕ) → length new ≡ 508 → priority (block_at before 0) ≡ 10 → priority (block_at before 1) ≡ 9 → priority new ≡ 256
    → AddLeaves (Ok 3) 2 new before after → RemoveLeaves (Ok 2) 3 10 after end
    → (map priority (blocks 3 after) ≡ 9 ∷ 10 ∷ 256 ∷ []) × (map priority (blocks 2 end) ≡ 9 ∷ 256 ∷ [])
unfolding AddLeaves RemoveLeaves blocks
worked before new after end long e f g l k =
    let h = sealed_priority new long ∙ g in
    let a = l.1 ∙ added (block_at before 0) (block_at before 1) (sealed new) e f h in
    let b = k.1 ∙ ap (λ m. ordered (without 10 m)) a ∙ removed (block_at before 0) (block_at before 1) (sealed new) e f h in
    (ap (map priority) a ∙ rw (e, f, h) refl, ap (map priority) b ∙ rw (f, h) refl)
