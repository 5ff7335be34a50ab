-- The blocks without those of one priority: which they are, that they still ascend, and that a block put back where it was gives the blocks as they were.
use mathlib.Core.Path.{◌≡◌, refl, sym, ap, ◌∙◌}
use mathlib.Core.Logic.{◌≢◌, ⊎_elim}
use mathlib.Core.Bool.{Bool, true, false, cond}
use mathlib.Core.List.Memᴰ.{cases_cons}
use mathlib.Core.List.Memᴰ.{head as here}
use mathlib.Core.List.Memᴰ.{not-nil}
use mathlib.Core.List.Memᴰ.{tail as there}
use mathlib.Core.List.{List, [], ◌∷◌, ◌++◌, Memᴰ as In}
use Prim.Native.Nat.{ℕ, ◌<◌}
use native.Mathlib.Omega.{arith}
use borrow.Author.Tests.{ne_eqb, eq-eqb, eqb-false, le-ltb}
use lib.Dec.{eqb, ltb}
use Rattle.block.specs.Fields.{priority}
use Rattle.order.specs.Order.{insert}
use Rattle.order.proofs.Laws.Sort.{Distinct, Ascending}
use Rattle.order.proofs.Laws.Only.{insert_lowest}
use Rattle.rundown.specs.Kept.{without}

module _ (p : ℕ) where
  -- ---- which they are

  pub in_without : (b : List ℕ) (l : List (List ℕ)) → In b (without p l) → In b l
  unfolding without
  in_without b [] m = m
  in_without b (a ∷ l) m = go (eqb (priority a) p) (in_without b l) m
    where
      go : (t : Bool) → (In b (without p l) → In b l) → In b (cond t (without p l) (a ∷ without p l)) → In b (a ∷ l)
      go true ih m = there (ih m)
      go false ih m = ⊎_elim (λ e. here e) (λ q. there (ih q)) (cases_cons m)

  pub without_one : (b : List ℕ) → (priority b ≡ p → ⊥) → without p (b ∷ []) ≡ b ∷ []
  unfolding without
  without_one b h = rw (ne_eqb (priority b) p h) refl

  pub without_that : (b : List ℕ) → priority b ≡ p → without p (b ∷ []) ≡ []
  unfolding without
  without_that b h = rw (eq-eqb (priority b) p h) refl

  pub without_none : (l : List (List ℕ)) → ((b : List ℕ) → In b l → priority b ≡ p → ⊥) → without p l ≡ l
  unfolding without
  without_none [] h = refl
  without_none (b ∷ l) h = rw (ne_eqb (priority b) p (h b (here refl))) (ap (λ (m : List (List ℕ)). b ∷ m) (without_none l (λ a q. h a (there q))))

  pub without_append : (l m : List (List ℕ)) → without p (l ++ m) ≡ without p l ++ without p m
  unfolding without
  without_append [] m = refl
  without_append (b ∷ l) m = rw (without_append l m) (go (eqb (priority b) p))
    where
      go : (t : Bool) → cond t (without p l ++ without p m) (b ∷ (without p l ++ without p m)) ≡ cond t (without p l) (b ∷ without p l) ++ without p m
      go true = refl
      go false = refl

  -- none of them has it
  pub without_lacks : (b : List ℕ) (l : List (List ℕ)) → In b (without p l) → priority b ≡ p → ⊥
  unfolding without
  without_lacks b [] m = absurd (not-nil m)
  without_lacks b (a ∷ l) m = go (eqb (priority a) p) refl (without_lacks b l) m
    where
      go : (t : Bool) → eqb (priority a) p ≡ t → (In b (without p l) → priority b ≡ p → ⊥) → In b (cond t (without p l) (a ∷ without p l)) → priority b ≡ p → ⊥
      go true e ih m = ih m
      go false e ih m = ⊎_elim (λ q r. eqb-false (priority a) p e (ap priority (sym q) ∙ r)) ih (cases_cons m)

  -- ---- their order

  -- what is said of each block and those behind it is said of fewer
  module _ (R : List ℕ → List ℕ → Type 0) (P : List (List ℕ) → Type 0) (none : P []) (more : (b : List ℕ) (l : List (List ℕ)) → ((z : List ℕ) → In z l → R b z) → P l → P (b ∷ l))
      (less : (b : List ℕ) (l : List (List ℕ)) → P (b ∷ l) → ((z : List ℕ) → In z l → R b z) × P l) where
    fewer : (l : List (List ℕ)) → P l → P (without p l)
    unfolding without
    fewer [] a = none
    fewer (b ∷ l) a = let q = less b l a in go (eqb (priority b) p) q.0 (fewer l q.1)
      where
        go : (t : Bool) → ((z : List ℕ) → In z l → R b z) → P (without p l) → P (cond t (without p l) (b ∷ without p l))
        go true h r = r
        go false h r = more b (without p l) (λ z m. h z (in_without z l m)) r

  pub distinct_without : (l : List (List ℕ)) → Distinct (List ℕ) priority l → Distinct (List ℕ) priority (without p l)
  unfolding Distinct
  distinct_without = fewer (λ b z. priority b ≢ priority z) (Distinct (List ℕ) priority) tt (λ b l h r. (h, r)) (λ b l d. d)

  pub ascending_without : (l : List (List ℕ)) → Ascending (List ℕ) priority l → Ascending (List ℕ) priority (without p l)
  unfolding Ascending
  ascending_without = fewer (λ b z. priority b < priority z) (Ascending (List ℕ) priority) tt (λ b l h r. (h, r)) (λ b l a. a)

  -- ---- a block put in and taken out

  module _ (b : List ℕ) (e : priority b ≡ p) where
    -- put in, it is what is taken out again
    pub without-insert : (l : List (List ℕ)) → without p (insert (List ℕ) priority b l) ≡ without p l
    unfolding without insert
    without-insert [] = rw (eq-eqb (priority b) p e) refl
    without-insert (a ∷ l) = go (ltb (priority b) (priority a)) (without-insert l)
      where
        go : (t : Bool) → without p (insert (List ℕ) priority b l) ≡ without p l
            → without p (cond t (b ∷ a ∷ l) (a ∷ insert (List ℕ) priority b l)) ≡ cond (eqb (priority a) p) (without p l) (a ∷ without p l)
        go true r = rw (eq-eqb (priority b) p e) refl
        go false r = rw r refl

    -- taken out of an ascending list, it is put in where it was
    pub insert-without : (l : List (List ℕ)) → Ascending (List ℕ) priority l → In b l → insert (List ℕ) priority b (without p l) ≡ l
    unfolding without insert Ascending
    insert-without [] a m = absurd (not-nil m)
    insert-without (c ∷ l) a m = ⊎_elim first (λ q. later q (insert-without l a.1 q)) (cases_cons m)
      where
        first : b ≡ c → insert (List ℕ) priority b (cond (eqb (priority c) p) (without p l) (c ∷ without p l)) ≡ c ∷ l
        first q =
            let r : priority c ≡ p = ap priority (sym q) ∙ e in
            rw (eq-eqb (priority c) p r, without_none l (λ z n s. omega (arith, a.0 z n, r, s)), q) (insert_lowest (List ℕ) priority c l a.0)

        later : In b l → insert (List ℕ) priority b (without p l) ≡ l → insert (List ℕ) priority b (cond (eqb (priority c) p) (without p l) (c ∷ without p l)) ≡ c ∷ l
        later q ih =
            let h : priority c < priority b = a.0 b q in
            rw (ne_eqb (priority c) p (λ s. omega (arith, h, s, e)), le-ltb (priority b) (priority c) (omega arith), ih) refl
