-- `blur`: the definition's tests; each pass keeps the lengths.
use Prim.Native.Nat.{ℕ, ◌≤◌}
use mathlib.Core.Path.{ap, ◌∙◌}
use native.Mathlib.Omega.{arith}
use lib.ListN.{length}
use Rattle.backdrop.specs.Picture.{pass}
use Rattle.backdrop.proofs.Blur.{radius_most, length_pass, blurred_3, blurred_2, blurred_0}
use Rattle.backdrop.proofs.small.blur.Goals as goal
use Rattle.backdrop.proofs.small.blur.Goals.{After-radius-r}

small : (c : After-radius-r) → c.radius-r.result ≤ 32767
small c = omega (arith, c.radius-r.ensures, radius_most c.args.s)

pub pass-requires : goal.pass-requires
pass-requires c =
    let p = c.requires in record { sides = (p.sides.0, p.sides.1, p.sides.2, p.sides.3, small (goal.at.pass-requires c).After-radius-r); size = (p.size.0, p.size.1) }

pub pass-requires-then-s : goal.pass-requires-then-s
pass-requires-then-s c =
    let p = c.requires in record { sides = (p.sides.0, p.sides.1, p.sides.2, p.sides.3, small (goal.at.pass-requires-then-s c).After-radius-r); size = (ap length c.pass.ensures ∙ length_pass _ _ _ _, c.pass.auto.b ∙ p.size.1) }

pub pass-requires-then-s-2 : goal.pass-requires-then-s-2
pass-requires-then-s-2 c =
    let p = c.requires in record { sides = (p.sides.0, p.sides.1, p.sides.2, p.sides.3, small (goal.at.pass-requires-then-s-2 c).After-radius-r); size = (ap length c.pass-then-s.ensures ∙ length_pass _ _ _ _, c.pass-then-s.auto.b ∙ c.pass.auto.b ∙ p.size.1) }

pub returns-then-s-2 : goal.returns-then-s-2
returns-then-s-2 c =
    let a = c.args in
    let r = c.radius-r.result in
    c.pass-then-s-2.ensures
    ∙ ap (pass a.w a.h r) (c.pass-then-s.ensures ∙ ap (pass a.w a.h r) c.pass.ensures)
    ∙ ap (λ (n : ℕ). pass a.w a.h n (pass a.w a.h n (pass a.w a.h n a.a.now))) c.radius-r.ensures
    ∙ blurred_3 a.w a.h a.s a.a.now c.if-s.true c.if-s-2.true

pub returns-else-s-2 : goal.returns-else-s-2
returns-else-s-2 c =
    let a = c.args in
    let r = c.radius-r.result in
    c.pass-then-s.ensures
    ∙ ap (pass a.w a.h r) c.pass.ensures
    ∙ ap (λ (n : ℕ). pass a.w a.h n (pass a.w a.h n a.a.now)) c.radius-r.ensures
    ∙ blurred_2 a.w a.h a.s a.a.now c.if-s.true c.if-s-2.false

pub returns-else-s : goal.returns-else-s
returns-else-s c = let a = c.args in blurred_0 a.w a.h a.s a.a.now c.if-s.false
