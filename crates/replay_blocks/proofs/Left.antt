-- What stands at the front of the buffer after each thing that is asked, by the number that was answered.
use Rattle.std.proofs.Common.{Ok, Err}
use mathlib.Core.Path.{◌≡◌, refl, sym, ap, ◌∙◌}
use mathlib.Core.Bool.{Bool, true, false, cond, ◌||◌}
use mathlib.Core.List.{List, [], ◌∷◌, flatten}
use Prim.Native.Nat.{ℕ, ◌-◌, ◌*◌, ◌≤◌}
use native.Mathlib.Omega.{arith}
use borrow.Author.Tests.{lt-ltb, le-ltb, ne_eqb}
use lib.Dec.{eqb, ltb}
use lib.ListN.{length, take}
use lib.Seq.{take_all}
use Rattle.answer.specs.declared.Cause.{Cause}
use Rattle.answer.specs.Answer.{packed, Answer, refused as refusal}
use Rattle.answer.proofs.Laws.{counted, value_is, value_packed, refusal_above}
use Rattle.rundown.specs.Tests.{tested, present, add_answer, remove_answer}
use Rattle.rundown.specs.Kept.{blocks, sealed, without, ordered, AddLeaves, RemoveLeaves}
use Rattle.rundown.proofs.Laws.Held.{held_at, added}
use Rattle.rundown.proofs.Laws.Blocks.{flatten_blocks}
use Rattle.replay_blocks.specs.Asked.{settled, word, handed, gone, bytes_left}
use Rattle.replay_blocks.specs.Private.{settled_len, Begins}

-- ---- a buffer that stays as it was

whole : (before after : List ℕ) → after ≡ before → Begins before (length before) before after
whole before after e = record {
  long = ap length e;
  fits = omega (arith, ap length e);
  is = ap (take (length before)) e ∙ take_all (length before) before (omega arith);
}

untouched : (asked answer : ℕ) (buf : List ℕ) → (asked ≡ 1 → ⊥) → (asked ≡ 2 → ⊥) → Begins buf (settled_len asked answer (length buf)) buf buf
unfolding settled_len
untouched asked answer buf h l = rw (ne_eqb asked 1 h, ne_eqb asked 2 l) (go (ltb answer 0x1_0000_0000))
  where
    go : (t : Bool) → Begins buf (cond t (length buf) (length buf)) buf buf
    go true = whole buf buf refl
    go false = whole buf buf refl

-- ---- add and remove

module _ (asked : ℕ) (changes : (eqb asked 1 || eqb asked 2) ≡ true) (bs : List (List ℕ)) (before after : List ℕ) where
  accepted : (n : ℕ) → n ≤ 256 → 512 * n ≤ length before → length after ≡ length before → blocks n after ≡ bs
      → Begins before (settled_len asked (packed (Ok n)) (length before)) (settled (Ok n) bs before) after
  unfolding settled_len settled
  accepted n few fits long e =
      let h : 512 * n ≤ length after = omega arith in
      rw (changes, value_packed n (omega arith), lt-ltb n 0x1_0000_0000 (omega arith)) (record { long = long; fits = h; is = sym (flatten_blocks n after h) ∙ ap flatten e })

  refused : (c : Cause) (n : ℕ) → after ≡ before → Begins before (settled_len asked (packed (refusal c n)) (length before)) (settled (refusal c n) bs before) after
  unfolding settled_len settled
  refused c n e = rw (changes, le-ltb (packed (refusal c n)) 0x1_0000_0000 (refusal_above c n)) (whole before after e)

add_left : (a : Answer) (count : ℕ) (new before after : List ℕ) → add_answer count before new ≡ a → AddLeaves a count new before after
    → Begins before (settled_len 1 (packed a) (length before)) (settled a (ordered (sealed new ∷ blocks count before)) before) after
unfolding AddLeaves
add_left (Ok n) count new before after e l =
    let w = added count n before new e in
    accepted 1 refl _ before after n (omega (arith, w.is, w.below)) (omega (arith, w.is, w.fits)) l.0 l.1
add_left (Err r) count new before after e l = refused 1 refl _ before after r.cause r.beside l

remove_left : (a : Answer) (count p : ℕ) (before after : List ℕ) → remove_answer count before p ≡ a → RemoveLeaves a count p before after
    → Begins before (settled_len 2 (packed a) (length before)) (settled a (ordered (without p (blocks count before))) before) after
unfolding RemoveLeaves remove_answer
remove_left (Ok n) count p before after e l =
    let m = value_is _ (count - 1) n e in
    let t = counted (tested count before) (present p count before ∷ []) (count - 1) n e in
    let q = held_at count t.0.0 before t.0.1 in
    accepted 2 refl _ before after n (omega (arith, m, q.few)) (omega (arith, m, q.fits)) l.0 l.1
remove_left (Err r) count p before after e l = refused 2 refl _ before after r.cause r.beside l

-- ---- by what is asked

module _ (head new before after : List ℕ) (asked answer : ℕ) (a : asked ≡ word head 0) where
  abbrev Left : Type 0
  Left = Begins before (settled_len (word head 0) answer (length before)) (bytes_left head new before) after

  pub left_by_add : (count : ℕ) → asked ≡ 1 → count ≡ handed head → answer ≡ packed (add_answer count before new) → AddLeaves (add_answer count before new) count new before after → Left
  unfolding bytes_left
  left_by_add count e h r l = rw (← a, e, r, ← h) (add_left (add_answer count before new) count new before after refl l)

  pub left_by_remove : (count p : ℕ) → asked ≡ 2 → count ≡ handed head → p ≡ gone head → answer ≡ packed (remove_answer count before p) → RemoveLeaves (remove_answer count before p) count p before after → Left
  unfolding bytes_left
  left_by_remove count p e h g r l = rw (← a, e, r, ← h, ← g) (remove_left (remove_answer count before p) count p before after refl l)

-- a question changes nothing
pub left_by_judge : (head new buf : List ℕ) (asked answer : ℕ) → asked ≡ word head 0 → (asked ≡ 1 → ⊥) → (asked ≡ 2 → ⊥)
    → Begins buf (settled_len (word head 0) answer (length buf)) (bytes_left head new buf) buf
unfolding bytes_left
left_by_judge head new buf asked answer a h l = rw (← a, ne_eqb asked 1 h, ne_eqb asked 2 l) (untouched asked answer buf h l)

-- ---- the part of the buffer that is summed

module _ (head new before after : List ℕ) (asked answer end : ℕ) (a : asked ≡ word head 0) (n : end ≡ settled_len asked answer (length after))
    (b : Begins before (settled_len (word head 0) answer (length before)) (bytes_left head new before) after) where
  end_is : end ≡ settled_len (word head 0) answer (length before)
  end_is = n ∙ (rw (a, b.long) refl)

  pub end_fits : end ≤ length after
  end_fits = rw end_is b.fits

  pub part_is : take end after ≡ bytes_left head new before
  part_is = rw end_is b.is
