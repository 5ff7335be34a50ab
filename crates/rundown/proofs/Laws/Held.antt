-- The tests of what is held, as facts: they pass where every block passes and no two have one priority.
use Rattle.answer.specs.Answer.{refused}
use Rattle.std.proofs.Common.{Ok, None, Some}
use mathlib.Core.Path.{◌≡◌, refl, sym, ◌∙◌}
use mathlib.Core.Bool.{Bool, true, false, cond, ◌||◌}
use mathlib.Core.List.{List, [], ◌∷◌}
use Prim.Native.Nat.{ℕ, zero, suc, ◌+◌, ◌-◌, ◌*◌, ◌≤◌, ◌<◌}
use native.Mathlib.Decide.{dec_lt}
use native.Mathlib.Omega.{arith}
use borrow.Author.Tests.{leb-true, ltb-true, le-leb, ne_eqb, eqb-false}
use lib.Dec.{leb, ltb, eqb}
use lib.ListN.{length}
use Rattle.answer.specs.declared.Cause.TheVariants.{Rundown, Priority, Room, Absent}
use Rattle.block.specs.Bytes.{block_at}
use Rattle.block.specs.Fields.{priority}
use Rattle.block.specs.Verdict.{shape, verdict}
use Rattle.rundown.specs.Tests.{some, sized, held, taken, apart, tested, free, room, present, add_answer, remove_answer}
use Rattle.rundown.proofs.Each.{some_no, taken_there, taken_nowhere}
use Rattle.answer.specs.Tests.{unless, at}
use Rattle.rundown.specs.Private.{PlaceOf}
use Rattle.geom.proofs.Laws.{both_true}
use Rattle.answer.proofs.Laws.{passes, counted, count_is, chosen, spared, judged, each_at, each_of}

-- at most 256 blocks, all of them in the buffer, each passes 4 to 7 and 15, and no two have one priority
pub record Held (count : ℕ) (buf : List ℕ) : Type 0 where
  pub few : count ≤ 256
  pub fits : 512 * count ≤ length buf
  pub pass : (i : ℕ) → i < count → verdict (block_at buf i) ≡ Ok tt
  pub apart : (i j : ℕ) → i < j → j < count → priority (block_at buf i) ≡ priority (block_at buf j) → ⊥

or_false : (a b : Bool) → (a || b) ≡ false → (a ≡ false) × (b ≡ false)
or_false false b e = (refl, e)
or_false true b e = let z : ◌≡◌ {A = ℕ} 0 1 = cc in absurd (omega arith)

none_at : (f : ℕ → Bool) (n : ℕ) → some n f ≡ false → (i : ℕ) → i < n → f i ≡ false
unfolding some
none_at f zero e i h = absurd (omega arith)
none_at f (suc n) e i h =
    let x = or_false (some n f) (f n) e in
    elim (dec_lt i n) [ yes l ↦ none_at f n x.0 i l | no l ↦ let s : i ≡ n = omega arith in rw s x.1 ]

-- no block has the priority
pub untaken : (p n : ℕ) (buf : List ℕ) → taken p n buf ≡ false → (i : ℕ) → i < n → priority (block_at buf i) ≡ p → ⊥
unfolding taken
untaken p n buf e i h = eqb-false _ _ (none_at (λ k. eqb (priority (block_at buf k)) p) n e i h)

pub untaken_of : (p n : ℕ) (buf : List ℕ) → ((i : ℕ) → i < n → priority (block_at buf i) ≡ p → ⊥) → taken p n buf ≡ false
unfolding taken
untaken_of p n buf h = some_no _ n (λ i l. ne_eqb _ _ (h i l))

pub held_at : (count m : ℕ) (buf : List ℕ) → tested count buf ≡ Ok m → Held count buf
unfolding tested sized held apart
held_at count m buf e =
    let x = counted (sized count buf) (held count buf ∷ apart count buf ∷ []) count m e in
    let y = counted (held count buf) (apart count buf ∷ []) count m x.1 in
    let z = counted (apart count buf) [] count m y.1 in
    let s = both_true (leb count 256) (leb (512 * count) (length buf)) (chosen _ Rundown count 0 x.0.0 x.0.1) in
    record {
      few = leb-true count 256 s.0;
      fits = leb-true (512 * count) (length buf) s.1;
      pass = λ i h. let w = each_at (λ n. at n (verdict (block_at buf n))) count y.0.0 y.0.1 i h in judged i w.0 (verdict (block_at buf i)) w.1;
      apart = λ i j l h. let w = each_at (λ n. cond (taken (priority (block_at buf n)) n buf) (refused Priority n) (Ok n)) count z.0.0 z.0.1 j h in
          untaken (priority (block_at buf j)) j buf (spared _ Priority j j w.0 w.1) i l;
    }

pub held_of : (count : ℕ) (buf : List ℕ) → Held count buf → tested count buf ≡ Ok count
unfolding tested sized held apart unless at
held_of count buf q =
    let s : sized count buf ≡ Ok count = rw (le-leb count 256 q.few, le-leb (512 * count) (length buf) q.fits) in
    let h : held count buf ≡ Ok count = each_of _ count (λ i l. (i, rw (q.pass i l) refl)) in
    let a : apart count buf ≡ Ok count = each_of _ count (λ j l. (j, rw (untaken_of (priority (block_at buf j)) j buf (λ i m. q.apart i j m l)) refl)) in
    passes (sized count buf) (held count buf ∷ apart count buf ∷ []) count count s ∙ passes (held count buf) (apart count buf ∷ []) count count h ∙ passes (apart count buf) [] count count a

-- what is known where add answers with a count
pub record Added (count : ℕ) (buf new : List ℕ) (n : ℕ) : Type 0 where
  pub is : n ≡ count + 1
  pub below : count < 256
  pub fits : 512 * count + 512 ≤ length buf
  pub held : Held count buf
  pub pass : shape new ≡ Ok tt
  pub free : (i : ℕ) → i < count → priority (block_at buf i) ≡ priority new → ⊥

pub added : (count n : ℕ) (buf new : List ℕ) → add_answer count buf new ≡ Ok n → Added count buf new n
unfolding add_answer free room
added count n buf new e =
    let w = counted (tested count buf) (at count (shape new) ∷ free (priority new) count buf ∷ room count buf ∷ []) (count + 1) n e in
    let x = counted (at count (shape new)) (free (priority new) count buf ∷ room count buf ∷ []) (count + 1) n w.1 in
    let y = counted (free (priority new) count buf) (room count buf ∷ []) (count + 1) n x.1 in
    let z = counted (room count buf) [] (count + 1) n y.1 in
    let s = both_true (ltb count 256) (leb (512 * (count + 1)) (length buf)) (chosen _ Room count count z.0.0 z.0.1) in
    record {
      is = count_is (count + 1) n z.1;
      below = ltb-true count 256 s.0;
      fits = omega (arith, leb-true (512 * (count + 1)) (length buf) s.1);
      held = held_at count w.0.0 buf w.0.1;
      pass = judged count x.0.0 (shape new) x.0.1;
      free = untaken (priority new) count buf (spared _ Priority count count y.0.0 y.0.1);
    }

-- remove's answer from the place of the priority: a block of the rundown has it, or none
module _ (p count : ℕ) (buf : List ℕ) (ok : tested count buf ≡ Ok count) where
  pub remove_yes : (r : ℕ) → PlaceOf p count buf (Some r) → Ok (count - 1) ≡ remove_answer count buf p
  unfolding remove_answer present unless
  remove_yes r f = sym (passes (tested count buf) (present p count buf ∷ []) count (count - 1) ok ∙ (rw (taken_there p count buf r f) refl))

  pub remove_no : PlaceOf p count buf None → refused Absent 0 ≡ remove_answer count buf p
  unfolding remove_answer present unless
  remove_no f = sym (passes (tested count buf) (present p count buf ∷ []) count (count - 1) ok ∙ (rw (taken_nowhere p count buf f) refl))

  -- no other block has it
  pub only_one : (r : ℕ) → PlaceOf p count buf (Some r) → (i : ℕ) → i < count → (i ≡ r → ⊥) → priority (block_at buf i) ≡ p → ⊥
  only_one r f i l n e =
      elim (dec_lt i r) [ yes m ↦ f.first i m e | no m ↦ (held_at count count buf ok).apart r i (omega arith) l (f.has ∙ sym e) ]
