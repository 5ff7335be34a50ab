-- Tests one after the other: what a loop over them knows.
use Rattle.answer.specs.Answer.{Answer, refused}
use Rattle.std.proofs.Common.{Ok, None, Some}
use Rattle.std.specs.List.{list_any}
use mathlib.Core.Path.{◌≡◌, refl, sym, ap, ◌∙◌}
use mathlib.Core.Bool.{Bool, true, false, cond, ◌||◌}
use mathlib.Core.List.{List, [], ◌∷◌}
use Prim.Native.Nat.{ℕ, zero, suc, ◌*◌, ◌/◌, ◌≤◌, ◌<◌}
use native.Mathlib.Decide.{dec_lt}
use native.Mathlib.Omega.{arith}
use borrow.Author.Tests.{eq-eqb, ne_eqb}
use lib.Dec.{eqb}
use lib.ListN.{length, get_or, take}
use lib.Seq.{length-take-le, get_or-take}
use Rattle.block.specs.Bytes.{block_at}
use Rattle.block.specs.Fields.{priority}
use Rattle.answer.specs.declared.Cause.TheVariants.{Priority}
use Rattle.rundown.specs.Tests.{some, taken, apart, repeats}
use Rattle.answer.specs.Tests.{each}
use Rattle.rundown.specs.Private.{PlaceOf}
use Rattle.order.specs.Order.{priorities}
use Rattle.order.proofs.Laws.Listed.{length_priorities, priorities_at}

-- the code divides the length where the definition multiplies the count
pub all_fit : (n l : ℕ) → n ≤ l / 512 → 512 * n ≤ l
all_fit n l h = omega arith

pub some_do_not : (n l : ℕ) → l / 512 < n → l < 512 * n
some_do_not n l h = omega arith

-- tests that agree below n
pub each_alike : (t u : ℕ → Answer) (n : ℕ) → ((i : ℕ) → i < n → t i ≡ u i) → each t n ≡ each u n
unfolding each
each_alike t u zero h = refl
each_alike t u (suc n) h = rw (each_alike t u n (λ i l. h i (omega arith)), h n (omega arith)) refl

pub some_alike : (f g : ℕ → Bool) (n : ℕ) → ((i : ℕ) → i < n → f i ≡ g i) → some n f ≡ some n g
unfolding some
some_alike f g zero h = refl
some_alike f g (suc n) h = rw (some_alike f g n (λ i l. h i (omega arith)), h n (omega arith)) refl

-- none below n
pub some_no : (f : ℕ → Bool) (n : ℕ) → ((i : ℕ) → i < n → f i ≡ false) → some n f ≡ false
unfolding some
some_no f zero h = refl
some_no f (suc n) h = rw (some_no f n (λ i l. h i (omega arith)), h n (omega arith)) refl

or_true : (a b : Bool) → b ≡ true → (a || b) ≡ true
or_true true b e = refl
or_true false b e = e

-- one below n
pub some_yes : (f : ℕ → Bool) (i n : ℕ) → i < n → f i ≡ true → some n f ≡ true
unfolding some
some_yes f i zero l e = absurd (omega arith)
some_yes f i (suc n) l e =
    elim (dec_lt i n) [ yes h ↦ rw (some_yes f i n h e) refl | no h ↦ let q : n ≡ i = omega arith in or_true (some n f) (f n) (rw q e) ]

-- std's test of a list, which goes from its front
or_last : (a b c : Bool) → ((a || b) || c) ≡ (a || (b || c))
or_last true b c = refl
or_last false b c = refl

some_front : (f : ℕ → Bool) (n : ℕ) → some (suc n) f ≡ (f 0 || some n (λ i. f (suc i)))
unfolding some
some_front f zero = go (f 0)
  where
    go : (b : Bool) → b ≡ (b || false)
    go true = refl
    go false = refl
some_front f (suc n) = rw (some_front f n) (or_last (f 0) (some n (λ i. f (suc i))) (f (suc n)))

some_in : (ps : List ℕ) (p : ℕ) → list_any (λ y. eqb y p) ps ≡ some (length ps) (λ i. eqb (get_or ps i 0) p)
unfolding some
some_in [] p = refl
some_in (x ∷ ps) p = ap (λ (b : Bool). eqb x p || b) (some_in ps p) ∙ sym (some_front (λ i. eqb (get_or (x ∷ ps) i 0) p) (length ps))

-- the code looks among the priorities before place n
pub some_before : (ps : List ℕ) (n p : ℕ) → n ≤ length ps → list_any (λ y. eqb y p) (take n ps) ≡ some n (λ i. eqb (get_or ps i 0) p)
some_before ps n p h =
    let f : length (take n ps) ≡ n = length-take-le n ps h in
    some_in (take n ps) p ∙ (rw f (some_alike _ _ n (λ i m. ap (λ (v : ℕ). eqb v p) (get_or-take n ps i 0 m))))

-- 8 of the priorities is 8 of the blocks
pub repeats_is : (buf : List ℕ) (n : ℕ) → repeats (priorities buf n) ≡ apart n buf
unfolding repeats apart taken
repeats_is buf n = rw (length_priorities buf n) (each_alike _ _ n same)
  where
    same : (k : ℕ) → k < n → cond (some k (λ i. eqb (get_or (priorities buf n) i 0) (get_or (priorities buf n) k 0))) (refused Priority k) (Ok k)
        ≡ cond (some k (λ i. eqb (priority (block_at buf i)) (priority (block_at buf k)))) (refused Priority k) (Ok k)
    same k l =
        let p = priority (block_at buf k) in
        rw (priorities_at buf n k l, some_alike (λ i. eqb (get_or (priorities buf n) i 0) p) (λ i. eqb (priority (block_at buf i)) p) k (λ i m. ap (λ (v : ℕ). eqb v p) (priorities_at buf n i (omega arith)))) refl

-- the place of a priority tells whether a block has it
pub taken_there : (p count : ℕ) (buf : List ℕ) (r : ℕ) → PlaceOf p count buf (Some r) → taken p count buf ≡ true
unfolding taken
taken_there p count buf r q = some_yes _ r count q.below (eq-eqb _ _ q.has)

pub taken_nowhere : (p count : ℕ) (buf : List ℕ) → PlaceOf p count buf None → taken p count buf ≡ false
unfolding taken
taken_nowhere p count buf q = some_no _ count (λ i l. ne_eqb _ _ (q i l))
