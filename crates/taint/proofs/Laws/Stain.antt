-- 01's rules of the stain, one by one. They settle it: each kind of layer, in its box, and all of them outside it.
use mathlib.Core.Path.{◌≡◌, refl, sym, ap, ◌∙◌}
use mathlib.Core.Logic.{◌≢◌}
use mathlib.Core.Bool.{Bool, true, false, not, ◌&&◌, ◌||◌, cond}
use Prim.Native.Nat.{ℕ}
use borrow.Author.Tests.{eq-eqb, ne_eqb}
use lib.Dec.{eqb}
use Rattle.geom.specs.declared.IRect.{IRect}
use Rattle.taint.specs.Stain.{Sort, plain, copy, glass, inside, Stain, meets, after}

added : (a b : Bool) → b ≡ true → (a || b) ≡ true
added true b e = refl
added false b e = e

removed : (a b : Bool) → b ≡ true → (a && not b) ≡ false
removed true true e = refl
removed true false e = sym e
removed false b e = refl

unadded : (a b : Bool) → b ≡ false → (a || b) ≡ a
unadded true b e = refl
unadded false b e = e

unremoved : (a b : Bool) → b ≡ false → (a && not b) ≡ a
unremoved true true e = sym e
unremoved true false e = refl
unremoved false b e = refl

module _ (w n s : ℕ) (box : IRect) (σ : Stain) (k : ℕ) where
  -- a copy of the hidden source stains its box, an exact one too
  pub copy_stains : (exact : Bool) → inside w box k ≡ true → after w n s (copy s exact) box σ k ≡ true
  unfolding after
  copy_stains exact i = rw (eq-eqb s s refl) (added (σ k) _ i)

  -- an exact copy of another source leaves no stain in its box
  pub exact_clears : (t : ℕ) → t ≢ s → inside w box k ≡ true → after w n s (copy t true) box σ k ≡ false
  unfolding after
  exact_clears t d i = rw (ne_eqb t s d) (removed (σ k) _ i)

  -- any other copy of another source keeps what is stained
  pub copy_keeps : (t : ℕ) → t ≢ s → after w n s (copy t false) box σ k ≡ σ k
  unfolding after
  copy_keeps t d = rw (ne_eqb t s d) refl

  -- glass whose window meets the stain stains its box
  pub glass_stains : (win : IRect) → meets w n win σ ≡ true → inside w box k ≡ true → after w n s (glass win) box σ k ≡ true
  unfolding after
  glass_stains win m i = rw m (added (σ k) _ i)

  -- glass whose window misses the stain keeps it, in its box too
  pub glass_keeps : (win : IRect) → meets w n win σ ≡ false → after w n s (glass win) box σ k ≡ σ k
  unfolding after
  glass_keeps win m = rw m refl

  -- and so does every layer that is neither a copy nor glass
  pub plain_keeps : after w n s plain box σ k ≡ σ k
  unfolding after
  plain_keeps = refl

  -- outside the box every layer leaves the stain as it was
  pub stays : (κ : Sort) → inside w box k ≡ false → after w n s κ box σ k ≡ σ k
  unfolding after
  stays plain o = refl
  stays (copy t exact) o = go (eqb t s) exact
    where
      go : (u e : Bool) → cond u (σ k || inside w box k) (cond e (σ k && not (inside w box k)) (σ k)) ≡ σ k
      go true e = unadded (σ k) _ o
      go false true = unremoved (σ k) _ o
      go false false = refl
  stays (glass win) o = go (meets w n win σ)
    where
      go : (m : Bool) → cond m (σ k || inside w box k) (σ k) ≡ σ k
      go true = unadded (σ k) _ o
      go false = refl

  -- a clean pixel stays clean under a layer that has it in its box only where it is neither a copy of s nor glass
  pub stays_clean : (κ : Sort) → (inside w box k ≡ true → ((e : Bool) → κ ≢ copy s e) × ((win : IRect) → κ ≢ glass win)) → σ k ≡ false → after w n s κ box σ k ≡ false
  unfolding after
  stays_clean plain h c = c
  stays_clean (copy t e) h c = go (inside w box k) refl
    where
      go : (i : Bool) → inside w box k ≡ i → after w n s (copy t e) box σ k ≡ false
      go false o = stays (copy t e) o ∙ c
      go true o = rw (ne_eqb t s (λ q. (h o).0 e (ap (λ (t : ℕ). copy t e) q)), c) (same e)
        where
          same : (e : Bool) → cond e false false ≡ false
          same true = refl
          same false = refl
  stays_clean (glass win) h c = go (inside w box k) refl
    where
      go : (i : Bool) → inside w box k ≡ i → after w n s (glass win) box σ k ≡ false
      go false o = stays (glass win) o ∙ c
      go true o = absurd ((h o).1 win refl)
