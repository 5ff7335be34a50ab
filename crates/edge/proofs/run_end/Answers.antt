-- `run_end`: the loop's invariant is that the pixels passed are away.
use Prim.Native.Nat.{◌+◌, ◌≤◌}
use native.Mathlib.Omega.{arith}
use mathlib.Core.Path.{◌≡◌, sym, ap, ◌∙◌}
use lib.Ieee.{Float}
use Rattle.edge.specs.Corner.{away, col_axis}
use Rattle.edge.proofs.Corner.{run_none, run_more}
use Rattle.edge.proofs.run_end.Goals as goal

pub loop-e-preserved : goal.loop-e-preserved
loop-e-preserved c =
    let a = c.args in
    let q : c.col_axis-qx.result ≡ col_axis a.rect a.r (a.x + c.loop-e.e) = c.col_axis-qx.ensures in
    run_more c.loop-e.invariant c.loop-e-test.true (ap (λ (z : Float). away a.k z a.qy) (sym q) ∙ sym c.is_away.ensures ∙ c.if-not-is_away.false)

pub returns-then-x-gt-MOST_SIDE : goal.returns-then-x-gt-MOST_SIDE
returns-then-x-gt-MOST_SIDE c = run_none

pub loop-e-init : goal.loop-e-init
loop-e-init c = run_none

pub returns-then-not-is_away : goal.returns-then-not-is_away
returns-then-not-is_away c = c.loop-e.invariant

pub returns : goal.returns
returns c =
    let inv = c.loop-e.invariant in
    let end : c.max.result ≤ c.loop-e.e = omega (arith, c.max.ensures, c.loop-e-test.false, inv.first) in
    record { first = omega (arith, c.max.ensures); last = λ h. omega (arith, c.max.ensures); is = λ j a b. inv.is j a (omega arith) }
