-- `fill_row`: a row of one pixel has one place; places that go by two pixels, and any others.
use Prim.Native.Nat.{◌≤◌}
use mathlib.Core.Path.{◌∙◌}
use native.Mathlib.Omega.{arith}
use lib.ListN.{length}
use Rattle.scaled.specs.Private.{ByTwo}
use Rattle.scaled.proofs.Rows.{one_of, halved}
use Rattle.scaled.proofs.fill_row.Goals as goal
use Rattle.scaled.proofs.fill_row.Goals.{Else-row-eq1, Then-goes_by_two}

pub returns-then-row-eq1 : goal.returns-then-row-eq1
returns-then-row-eq1 c =
    let a = c.args in
    c.row_fill.ensures ∙ one_of a.row.now a.taps.now a.line.now c.mix_pix.ensures c.if-row-eq1.true c.requires.sized.0 c.requires.within

more : (c : Else-row-eq1) → 2 ≤ length c.args.row.now
more c = omega (arith, c.if-row-eq1.false, c.requires.sized)

by_two : (c : Then-goes_by_two) → let a = c.args in (1 ≤ length a.taps.now) × ByTwo a.taps.now (length a.taps.now)
by_two c = c.goes_by_two.ensures c.if-goes_by_two.true

pub returns-then-goes_by_two : goal.returns-then-goes_by_two
returns-then-goes_by_two c =
    let a = c.args in
    c.halve.ensures ∙ halved a.row.now a.taps.now a.line.now (by_two (goal.at.returns-then-goes_by_two c).Then-goes_by_two).1 (more (goal.at.returns-then-goes_by_two c).Else-row-eq1) c.requires.sized.0 c.requires.within
