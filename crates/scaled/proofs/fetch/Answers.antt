-- `fetch`: each turn stores the pair of one place; both pixels lie in the row.
use Prim.Native.Nat.{ℕ, ◌+◌}
use mathlib.Core.Path.{◌≡◌, ap, ◌∙◌}
use mathlib.Core.List.{[], ◌∷◌}
use native.Mathlib.Decide.{dec_lt}
use native.Mathlib.Omega.{arith}
use borrow.Author.Rules.{rules}
use lib.ListN.{get_or, length-set}
use Rattle.std.proofs.lemmas.List.{get_or-set_same, get_or-set_other}
use Rattle.scaled.proofs.fetch.Goals as goal

pub loop-i-init : goal.loop-i-init
loop-i-init c = (search rules, λ i h. absurd (omega arith))

pub loop-i-preserved : goal.loop-i-preserved
loop-i-preserved c =
    let l = c.loop-i in
    let row = c.args.row.now in (
      length-set l.pairs l.i _ ∙ l.invariant.0,
      λ j h. elim (dec_lt j l.i) [
        | yes lo ↦ get_or-set_other l.pairs l.i j _ [] (λ e. omega arith) ∙ l.invariant.1 j lo
        | no hi ↦
            let e : j ≡ l.i = omega arith in
            rw e
            (get_or-set_same l.pairs l.i _ [] (omega (arith, l.invariant.0, c.loop-i-test.true, c.requires.sized))
            ∙ ap (λ (a : ℕ). get_or row a 0 ∷ get_or row (a + 1) 0 ∷ []) c.first-a.ensures)
      ],
    )

pub returns : goal.returns
returns c = record { is = λ i h. c.loop-i.invariant.1 i (omega (arith, c.loop-i-test.false, h)) }
