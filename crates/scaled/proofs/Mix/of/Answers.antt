-- `of`: by the parity of the row that the place lies in.
use Prim.Native.Nat.{ℕ, ◌/◌, ◌%◌}
use mathlib.Core.Path.{◌≡◌, refl, sym, ap, ◌∙◌}
use borrow.Author.Tests.{eq-eqb, ne_eqb}
use Rattle.scaled.specs.Private.{between}
use Rattle.scaled.proofs.Mix.of.Goals as goal
use Rattle.scaled.proofs.Mix.of.Goals.{then-first-eq0, else-first-eq0}

pub returns-clause-colours : goal.returns-clause-colours
unfolding between
returns-clause-colours c = elim c.if-first-eq0.branch [
  | then-first-eq0 w ↦ λ i.
      let e : c.args.f / 256 % 2 ≡ 0 = ap (λ (m : ℕ). m % 2) (sym c.first.ensures) ∙ w.if-first-eq0.true in
      rw (w.result-is, eq-eqb _ _ e) refl
  | else-first-eq0 w ↦ λ i.
      rw (w.result-is, ne_eqb (c.args.f / 256 % 2) 0 (λ z. w.if-first-eq0.false (ap (λ (m : ℕ). m % 2) c.first.ensures ∙ z))) refl
]
