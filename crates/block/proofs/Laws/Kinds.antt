-- The kinds by their numbers, and back.
use mathlib.Core.Path.{◌≡◌, refl, sym, ap, ◌∙◌}
use mathlib.Core.Bool.{Bool, true, false, cond}
use Prim.Native.Nat.{ℕ}
use borrow.Author.Tests.{eqb-true, ne_eqb}
use lib.Dec.{eqb}
use Rattle.std.specs.Prelude.{Option, Some, None}
use Rattle.block.specs.declared.Kind.{Kind}
use Rattle.block.specs.declared.Kind.TheVariants.{Fill, Stroke, Shadow, Glass, Straight, Scaled, Genie, Frame}
use Rattle.block.specs.Fields.{kind_of}

abbrev pub number : Kind → ℕ
number Fill = 1
number Stroke = 2
number Shadow = 3
number Glass = 4
number Straight = 5
number Scaled = 6
number Genie = 7
number Frame = 8

-- the kind x with number n, or one of the others
one : (k n : ℕ) (x : Kind) (rest : Option Kind) (κ : Kind) → n ≡ number x → cond (eqb k n) (Some x) rest ≡ Some κ → (rest ≡ Some κ → k ≡ number κ) → k ≡ number κ
one k n x rest κ q e more = go (eqb k n) refl e
  where
    go : (t : Bool) → eqb k n ≡ t → cond t (Some x) rest ≡ Some κ → k ≡ number κ
    go true u e = let s : x ≡ κ = cc in eqb-true k n u ∙ q ∙ ap number s
    go false u e = more e

no : {A : Type 0} {κ : Kind} → ◌≡◌ {A = Option Kind} None (Some κ) → A
no e = absurd (cc)

-- a block of a kind has its number
pub kind_number : (k : ℕ) (κ : Kind) → kind_of k ≡ Some κ → k ≡ number κ
unfolding kind_of
kind_number k κ e =
    one k 1 Fill _ κ refl e
    (λ e. one k 2 Stroke _ κ refl e
    (λ e. one k 3 Shadow _ κ refl e
    (λ e. one k 4 Glass _ κ refl e
    (λ e. one k 5 Straight _ κ refl e
    (λ e. one k 6 Scaled _ κ refl e
    (λ e. one k 7 Genie _ κ refl e
    (λ e. one k 8 Frame _ κ refl e no)))))))

pub of_number : (x : Kind) → kind_of (number x) ≡ Some x
unfolding kind_of
of_number Fill = refl
of_number Stroke = refl
of_number Shadow = refl
of_number Glass = refl
of_number Straight = refl
of_number Scaled = refl
of_number Genie = refl
of_number Frame = refl

-- and of another kind another
pub not_number : (k : ℕ) (κ x : Kind) → kind_of k ≡ Some κ → (κ ≡ x → ⊥) → eqb k (number x) ≡ false
not_number k κ x e n = ne_eqb k (number x) (λ q. let s : Some κ ≡ Some x = sym e ∙ ap kind_of q ∙ of_number x in let t : κ ≡ x = cc in n t)

-- and of no kind has none of them
pub record NoKind (k : ℕ) : Type 0 where
  pub not1 : eqb k 1 ≡ false
  pub not2 : eqb k 2 ≡ false
  pub not3 : eqb k 3 ≡ false
  pub not4 : eqb k 4 ≡ false
  pub not5 : eqb k 5 ≡ false
  pub not6 : eqb k 6 ≡ false
  pub not7 : eqb k 7 ≡ false
  pub not8 : eqb k 8 ≡ false

other : (t : Bool) (x : Kind) (rest : Option Kind) → cond t (Some x) rest ≡ None → (t ≡ false) × (rest ≡ None)
other true x rest e = absurd (cc)
other false x rest e = (refl, e)

pub no_kind : (k : ℕ) → kind_of k ≡ None → NoKind k
unfolding kind_of
no_kind k e =
    let a = other (eqb k 1) Fill _ e in
    let b = other (eqb k 2) Stroke _ a.1 in
    let c = other (eqb k 3) Shadow _ b.1 in
    let d = other (eqb k 4) Glass _ c.1 in
    let f = other (eqb k 5) Straight _ d.1 in
    let g = other (eqb k 6) Scaled _ f.1 in
    let h = other (eqb k 7) Genie _ g.1 in
    let i = other (eqb k 8) Frame _ h.1 in
    record { not1 = a.0; not2 = b.0; not3 = c.0; not4 = d.0; not5 = f.0; not6 = g.0; not7 = h.0; not8 = i.0 }
