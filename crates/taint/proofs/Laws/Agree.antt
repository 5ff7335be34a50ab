-- Demand 3 in the abstract: two playings that differ in one source's pixels agree outside the stain.
-- Generic over the blocks, the pools and the painter. What it asks of the painter is the record Painter.
use mathlib.Core.Path.{◌≡◌, refl, sym, ◌∙◌}
use mathlib.Core.Logic.{◌≢◌}
use mathlib.Core.Bool.{Bool, true, false, not, ◌&&◌, ◌||◌, cond}
use mathlib.Core.List.Memᴰ.{head as here}
use mathlib.Core.List.Memᴰ.{tail as there}
use mathlib.Core.List.{List, [], ◌∷◌, map, foldl, Memᴰ as In}
use Prim.Native.Nat.{ℕ, ◌<◌}
use borrow.Author.Tests.{eqb-false}
use lib.Dec.{eqb}
use lib.ListN.{length, get_or}
use Rattle.geom.specs.declared.IRect.{IRect}
use Rattle.taint.proofs.Laws.Sets.{none_in, or_left, or_right, and_rest}
use Rattle.taint.specs.Stain.{Sort, plain, copy, glass, inside, Layer, Stain, meets, after, stain}

-- two canvases of n pixels agree outside a stain
abbrev pub Agree : ℕ → Stain → List ℕ → List ℕ → Type 0
Agree n σ c d = (k : ℕ) → k < n → σ k ≡ false → get_or c k 0 ≡ get_or d k 0

-- a playing: each step paints its block from its own pool, the lowest first
module _ (Pool Block Step : Type 0) (paint : Pool → Block → List ℕ → List ℕ) (block : Step → Block) where
  abbrev pub play_each : (Step → Pool) → List Step → List ℕ → List ℕ
  play_each pool xs c = foldl (λ c x. paint (pool x) (block x) c) c xs

module _ (w n : ℕ) (Pool Block : Type 0) (source : Pool → ℕ → List ℕ) (layer : Block → Layer) (paint : Pool → Block → List ℕ → List ℕ)
    (Fit : Pool → Type 0) (Ok : Block → Type 0) where
  -- what each real kind has, of a pool as long as the sources' sizes say and a block that the tests accept
  pub record Painter : Type 0 where
    -- (1) the canvas keeps its length
    pub keeps : (p : Pool) (b : Block) → Ok b → (c : List ℕ) → length c ≡ n → length (paint p b c) ≡ n
    -- (2) no pixel outside the box changes
    pub outside : (p : Pool) (b : Block) → Ok b → (c : List ℕ) → length c ≡ n → (k : ℕ) → k < n → inside w (layer b).box k ≡ false → get_or (paint p b c) k 0 ≡ get_or c k 0
    -- (3) fill, stroke, shadow, frame: the new pixel goes by the old one alone
    pub plain_law : (p q : Pool) (b : Block) → Ok b → (c d : List ℕ) → length c ≡ n → length d ≡ n → (layer b).sort ≡ plain → (k : ℕ) → k < n → get_or c k 0 ≡ get_or d k 0 → get_or (paint p b c) k 0 ≡ get_or (paint q b d) k 0
    -- (4) a copy: the same, given its source's pixels
    pub copy_law : (p q : Pool) (b : Block) → Ok b → (c d : List ℕ) → length c ≡ n → length d ≡ n → (t : ℕ) (e : Bool) → (layer b).sort ≡ copy t e → source p t ≡ source q t → (k : ℕ) → k < n → get_or c k 0 ≡ get_or d k 0 → get_or (paint p b c) k 0 ≡ get_or (paint q b d) k 0
    -- (5) an exact copy: in the box the old pixel does not count
    pub exact_law : (p q : Pool) → Fit p → Fit q → (b : Block) → Ok b → (c d : List ℕ) → length c ≡ n → length d ≡ n → (t : ℕ) → (layer b).sort ≡ copy t true → source p t ≡ source q t → (k : ℕ) → k < n → inside w (layer b).box k ≡ true → get_or (paint p b c) k 0 ≡ get_or (paint q b d) k 0
    -- (6) glass: a pixel of the box goes by the window
    pub glass-law : (p q : Pool) (b : Block) → Ok b → (c d : List ℕ) → length c ≡ n → length d ≡ n → (win : IRect) → (layer b).sort ≡ glass win → ((j : ℕ) → j < n → inside w win j ≡ true → get_or c j 0 ≡ get_or d j 0) → (k : ℕ) → k < n → inside w (layer b).box k ≡ true → get_or (paint p b c) k 0 ≡ get_or (paint q b d) k 0

  -- the pools have the same pixels in every source but s
  abbrev pub Alike : ℕ → Pool → Pool → Type 0
  Alike s p q = (t : ℕ) → t ≢ s → source p t ≡ source q t

  -- two steps with one block, from pools alike but for s
  pub record Twin (s : ℕ) (p q : Pool) (b : Block) : Type 0 where
    pub first_fits : Fit p
    pub second_fits : Fit q
    pub accepted : Ok b
    pub same : Alike s p q

  module _ (L : Painter) (s : ℕ) (p q : Pool) (fp : Fit p) (fq : Fit q) (same : Alike s p q) (b : Block) (ok : Ok b) (c d : List ℕ) (lc : length c ≡ n) (ld : length d ≡ n) (σ : Stain) (A : Agree n σ c d) where
    -- outside the box
    off : (k : ℕ) → k < n → σ k ≡ false → inside w (layer b).box k ≡ false → get_or (paint p b c) k 0 ≡ get_or (paint q b d) k 0
    off k h e o = L.outside p b ok c lc k h o ∙ A k h e ∙ sym (L.outside q b ok d ld k h o)

    copied : (t : ℕ) (x : Bool) → (layer b).sort ≡ copy t x → (same? : Bool) → eqb t s ≡ same? → (k : ℕ) → k < n →
        cond same? (σ k || inside w (layer b).box k) (cond x (σ k && not (inside w (layer b).box k)) (σ k)) ≡ false → get_or (paint p b c) k 0 ≡ get_or (paint q b d) k 0
    copied t x q₁ true q₂ k h e = off k h (or_left (σ k) (inside w (layer b).box k) e) (or_right (σ k) (inside w (layer b).box k) e)
    copied t false q₁ false q₂ k h e = L.copy_law p q b ok c d lc ld t false q₁ (same t (eqb-false t s q₂)) k h (A k h e)
    copied t true q₁ false q₂ k h e = go (inside w (layer b).box k) refl e
      where
        go : (o : Bool) → inside w (layer b).box k ≡ o → (σ k && not o) ≡ false → get_or (paint p b c) k 0 ≡ get_or (paint q b d) k 0
        go true o z = L.exact_law p q fp fq b ok c d lc ld t q₁ (same t (eqb-false t s q₂)) k h o
        go false o z = off k h (clean-left (σ k) z) o
          where
            clean-left : (a : Bool) → (a && true) ≡ false → a ≡ false
            clean-left true u = u
            clean-left false u = refl

    blurred : (win : IRect) → (layer b).sort ≡ glass win → (m : Bool) → meets w n win σ ≡ m → (k : ℕ) → k < n →
        cond m (σ k || inside w (layer b).box k) (σ k) ≡ false → get_or (paint p b c) k 0 ≡ get_or (paint q b d) k 0
    unfolding meets
    blurred win q₁ true q₂ k h e = off k h (or_left (σ k) (inside w (layer b).box k) e) (or_right (σ k) (inside w (layer b).box k) e)
    blurred win q₁ false q₂ k h e = go (inside w (layer b).box k) refl
      where
        go : (o : Bool) → inside w (layer b).box k ≡ o → get_or (paint p b c) k 0 ≡ get_or (paint q b d) k 0
        go true o =
            L.glass-law p q b ok c d lc ld win q₁
            (λ j l i. A j l (and_rest (inside w win j) (σ j) (none_in n (λ j. inside w win j && σ j) q₂ j l) i))
            k
            h
            o
        go false o = off k h e o

    painted : (κ : Sort) → (layer b).sort ≡ κ → Agree n (after w n s κ (layer b).box σ) (paint p b c) (paint q b d)
    unfolding after
    painted plain e k h z = L.plain_law p q b ok c d lc ld e k h (A k h z)
    painted (copy t x) e k h z = copied t x e (eqb t s) refl k h z
    painted (glass win) e k h z = blurred win e (meets w n win σ) refl k h z

  -- one layer
  pub agree_one : (L : Painter) (s : ℕ) (p q : Pool) → Fit p → Fit q → Alike s p q → (b : Block) → Ok b → (c d : List ℕ) → length c ≡ n → length d ≡ n → (σ : Stain) → Agree n σ c d →
      Agree n (after w n s (layer b).sort (layer b).box σ) (paint p b c) (paint q b d)
  agree_one L s p q fp fq same b ok c d lc ld σ A = painted L s p q fp fq same b ok c d lc ld σ A (layer b).sort refl

  -- THE THEOREM: canvases that agree outside a stain agree, after the same steps with pools alike but for s, outside the stain that the steps leave.
  -- As it holds for every list of steps, it holds after each of them.
  module _ (L : Painter) (s : ℕ) (Step : Type 0) (block : Step → Block) (p q : Step → Pool) where
    pub agree-each : (xs : List Step) → ((x : Step) → In x xs → Twin s (p x) (q x) (block x)) → (c d : List ℕ) → length c ≡ n → length d ≡ n → (σ : Stain) → Agree n σ c d →
        Agree n (stain w n s (map (λ x. layer (block x)) xs) σ) (play_each Pool Block Step paint block p xs c) (play_each Pool Block Step paint block q xs d)
    unfolding stain
    agree-each [] t c d lc ld σ A = A
    agree-each (x ∷ xs) t c d lc ld σ A =
        let b = block x in
        let y = t x (here refl) in
        agree-each xs (λ z m. t z (there m)) (paint (p x) b c) (paint (q x) b d) (L.keeps (p x) b y.accepted c lc) (L.keeps (q x) b y.accepted d ld) (after w n s (layer b).sort (layer b).box σ)
        (agree_one L s (p x) (q x) y.first_fits y.second_fits y.same b y.accepted c d lc ld σ A)
