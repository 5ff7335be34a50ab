-- A rundown that passes its tests still does after add and after remove, and its blocks ascend; to remove what was just added gives back the blocks, in order.
-- The laws go by add's and remove's contracts alone: their answers and what they leave.
use Rattle.std.proofs.Common.{Ok}
use mathlib.Core.Path.{◌≡◌, refl, sym, ap, ◌∙◌}
use mathlib.Core.Logic.{⊎_elim}
use mathlib.Core.List.Memᴰ.{cases_cons}
use mathlib.Core.List.Memᴰ.{head as here}
use mathlib.Core.List.{List, [], ◌∷◌, Memᴰ as In}
use Prim.Native.Nat.{ℕ, ◌-◌, ◌*◌, ◌≤◌, ◌<◌}
use native.Mathlib.Omega.{arith}
use borrow.Author.Tests.{eq-eqb}
use lib.Dec.{eqb}
use lib.ListN.{length}
use Rattle.block.specs.Bytes.{byte, block_at}
use Rattle.block.specs.Fields.{priority}
use Rattle.block.specs.Verdict.{verdict}
use Rattle.order.specs.Order.{sort}
use Rattle.order.proofs.Laws.Sort.{Distinct, in_sort, sort_in, sort_ascends}
use Rattle.order.proofs.Laws.Only.{sorted_is}
use Rattle.rundown.specs.Tests.{tested, present, taken, add_answer, remove_answer}
use Rattle.rundown.specs.Kept.{blocks, sealed, without, ordered, AddLeaves, RemoveLeaves}
use Rattle.rundown.proofs.Each.{some_yes}
use Rattle.rundown.proofs.Laws.Held.{Held, held_at, held_of, added}
use Rattle.rundown.proofs.Laws.Blocks.{Ascends, in_blocks, blocks_in, blocks_ascend, distinct_blocks}
use Rattle.rundown.proofs.Laws.Sealed.{sealed_priority, sealed_passes}
use Rattle.rundown.proofs.Laws.Without.{in_without, without_none, distinct_without, without-insert}
use Rattle.answer.specs.Tests.{unless}
use Rattle.answer.proofs.Laws.{passes, counted, count_is}

-- blocks that are those of a list in order, whose priorities differ
module _ (n : ℕ) (l : List (List ℕ)) (after : List ℕ) (e : blocks n after ≡ ordered l) (d : Distinct (List ℕ) priority l) where
  ordered_ascends : Ascends n after
  unfolding ordered
  ordered_ascends = blocks_ascend after n (rw e (sort_ascends (List ℕ) priority l d))

  -- they are held where each of the list passes
  ordered_held : n ≤ 256 → 512 * n ≤ length after → ((b : List ℕ) → In b l → verdict b ≡ Ok tt) → Held n after
  unfolding ordered
  ordered_held f h v = record {
    few = f;
    fits = h;
    pass = λ i m. v (block_at after i) (in_sort (List ℕ) priority (block_at after i) l (rw e at (blocks_in after n i m)));
    apart = λ i j m k q. omega (arith, ordered_ascends i j m k, q);
  }

-- each block held passes
pub held_passes : (count : ℕ) (buf b : List ℕ) → Held count buf → In b (blocks count buf) → verdict b ≡ Ok tt
held_passes count buf b q m = let w = in_blocks buf count b m in sym (ap verdict w.1.1) ∙ q.pass w.0 w.1.0

-- ---- after add

module _ (count n : ℕ) (before new after : List ℕ) (long : length new ≡ 508) (e : add_answer count before new ≡ Ok n) (l : AddLeaves (Ok n) count new before after) where
  new_free : (b : List ℕ) → In b (blocks count before) → priority b ≡ priority new → ⊥
  new_free b m q = let w = in_blocks before count b m in (added count n before new e).free w.0 w.1.0 (ap priority w.1.1 ∙ q)

  distinct_new : Distinct (List ℕ) priority (sealed new ∷ blocks count before)
  unfolding Distinct
  distinct_new = (λ z m q. new_free z m (sym q ∙ sealed_priority new long), distinct_blocks before count (added count n before new e).held.apart)

  pub add_ascends : Ascends n after
  unfolding AddLeaves
  add_ascends = ordered_ascends n (sealed new ∷ blocks count before) after l.1 distinct_new

  pub add_keeps : ((o : ℕ) → byte new o < 256) → tested n after ≡ Ok n
  unfolding AddLeaves
  add_keeps small =
      let a = added count n before new e in
      held_of n after
      (ordered_held n (sealed new ∷ blocks count before) after l.1 distinct_new (omega (arith, a.is, a.below)) (omega (arith, a.is, a.fits, l.0))
      (λ b m. ⊎_elim (λ q. ap verdict q ∙ sealed_passes new long small a.pass) (held_passes count before b a.held) (cases_cons m)))

-- ---- after remove

pub record Removed (count : ℕ) (buf : List ℕ) (p n : ℕ) : Type 0 where
  pub is : n ≡ count - 1
  pub held : Held count buf

pub removed : (count n : ℕ) (buf : List ℕ) (p : ℕ) → remove_answer count buf p ≡ Ok n → Removed count buf p n
unfolding remove_answer
removed count n buf p e =
    let w = counted (tested count buf) (present p count buf ∷ []) (count - 1) n e in
    let x = counted (present p count buf) [] (count - 1) n w.1 in
    record { is = count_is (count - 1) n x.1; held = held_at count w.0.0 buf w.0.1 }

module _ (count n p : ℕ) (before after : List ℕ) (e : remove_answer count before p ≡ Ok n) (l : RemoveLeaves (Ok n) count p before after) where
  distinct_left : Distinct (List ℕ) priority (without p (blocks count before))
  distinct_left = distinct_without p (blocks count before) (distinct_blocks before count (removed count n before p e).held.apart)

  pub remove_ascends : Ascends n after
  unfolding RemoveLeaves
  remove_ascends = ordered_ascends n (without p (blocks count before)) after l.1 distinct_left

  pub remove_keeps : tested n after ≡ Ok n
  unfolding RemoveLeaves
  remove_keeps =
      let r = removed count n before p e in
      held_of n after
      (ordered_held n (without p (blocks count before)) after l.1 distinct_left (omega (arith, r.is, r.held.few)) (omega (arith, r.is, r.held.fits, l.0))
      (λ b m. held_passes count before b r.held (in_without p b (blocks count before) m)))

-- the answer where a block has the priority
pub remove_accepts : (count p i : ℕ) (buf : List ℕ) → tested count buf ≡ Ok count → i < count → priority (block_at buf i) ≡ p → remove_answer count buf p ≡ Ok (count - 1)
unfolding remove_answer present unless taken
remove_accepts count p i buf ok l e =
    passes (tested count buf) (present p count buf ∷ []) count (count - 1) ok ∙ (rw (some_yes (λ k. eqb (priority (block_at buf k)) p) i count l (eq-eqb _ _ e)) refl)

-- ---- what was just added is removed: remove accepts it, and leaves the blocks before add in order

module _ (count n : ℕ) (a new b : List ℕ) (long : length new ≡ 508) (small : (o : ℕ) → byte new o < 256)
    (e : add_answer count a new ≡ Ok n) (l : AddLeaves (Ok n) count new a b) where
  pub accepts : remove_answer n b (priority new) ≡ Ok count
  unfolding AddLeaves ordered
  accepts =
      let m : In (sealed new) (blocks n b) = rw l.1 (sort_in (List ℕ) priority (sealed new) (sealed new ∷ blocks count a) (here refl)) in
      let w = in_blocks b n (sealed new) m in
      remove_accepts n (priority new) w.0 b (add_keeps count n a new b long e l small) w.1.0 (ap priority w.1.1 ∙ sealed_priority new long)
      ∙ ap Ok (omega (arith, (added count n a new e).is))

  left_over : without (priority new) (blocks n b) ≡ ordered (blocks count a)
  unfolding AddLeaves ordered sort
  left_over =
      ap (without (priority new)) l.1 ∙ without-insert (priority new) (sealed new) (sealed_priority new long) (sort (List ℕ) priority (blocks count a))
      ∙ without_none (priority new) (sort (List ℕ) priority (blocks count a)) (λ z m. new_free count n a new b long e l z (in_sort (List ℕ) priority z (blocks count a) m))

  pub back : (c : List ℕ) → RemoveLeaves (Ok count) n (priority new) b c → blocks count c ≡ ordered (blocks count a)
  unfolding RemoveLeaves ordered
  back c k =
      k.1 ∙ ap (sort (List ℕ) priority) left_over
      ∙ sorted_is (List ℕ) priority (sort (List ℕ) priority (blocks count a)) (sort_ascends (List ℕ) priority (blocks count a) (distinct_blocks a count (added count n a new e).held.apart))
