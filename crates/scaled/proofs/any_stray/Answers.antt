-- `any_stray`: as long as no place has strayed, all so far go by two pixels.
use Prim.Native.Nat.{ℕ}
use mathlib.Core.Path.{◌≡◌, ◌∙◌, sym, subst}
use mathlib.Core.Bool.{true≢false}
use native.Mathlib.Omega.{arith}
use lib.ListN.{length}
use Rattle.scaled.specs.Private.{ByTwo}
use Rattle.scaled.proofs.Rows.{by_two_none, by_two_more}
use Rattle.scaled.proofs.any_stray.Goals as goal
use Rattle.scaled.proofs.any_stray.Goals.{then-t-want, else-t-want}

pub loop-t-init : goal.loop-t-init
loop-t-init c = (omega arith, λ _. by_two_none)

pub loop-t-preserved : goal.loop-t-preserved
loop-t-preserved c =
    let l = c.loop-t in (
      omega (arith, l.invariant.0),
      elim c.if-t-want.branch [
        | then-t-want w ↦ λ z. absurd (true≢false (sym w.stray-is ∙ z))
        | else-t-want w ↦ λ z. by_two_more (l.invariant.1 (sym w.stray-is ∙ z)) (w.if-t-want.false ∙ l.invariant.0)
      ],
    )

pub returns : goal.returns
returns c =
    let l = c.loop-t in
    let a = c.args in
    let all : l.t-index ≡ length a.taps.now = omega (arith, c.loop-t-test.false) in
    λ z. subst (λ (m : ℕ). ByTwo a.taps.now m) all (l.invariant.1 z)
