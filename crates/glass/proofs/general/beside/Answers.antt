-- `beside`: what is kept, or the columns anew.
use Prim.Native.Nat.{◌+◌, ◌-◌, min}
use mathlib.Core.Path.{◌≡◌}
use native.Mathlib.Omega.{arith}
use Rattle.glass.proofs.general.beside.Goals as goal

pub returns-then-x-held : goal.returns-then-x-held
returns-then-x-held c = rw c.if-x-held.true c.requires.kept

pub column_at-right-requires : goal.column_at-right-requires
column_at-right-requires c = (c.requires.in_picture.0, omega (arith, c.min.ensures, c.args.view.sized.wide))

pub returns-then-x-held-2 : goal.returns-then-x-held-2
returns-then-x-held-2 c =
    let a = c.args in
    let same : min (a.held + 1) (a.view.p.lw - 1) ≡ a.x = omega (arith, c.if-x-held-2.true, c.requires.in_picture.1) in
    record { left = rw same at c.requires.kept.right; right = rw c.min.ensures at c.column_at-right.ensures }

pub returns : goal.returns
returns c = c.columns_at.ensures

pub overflow_add-held : goal.overflow_add-held
overflow_add-held c = omega (arith, c.requires.in_picture.2, c.args.view.sized.narrow)

pub overflow_add-x : goal.overflow_add-x
overflow_add-x c = omega (arith, c.requires.in_picture.1, c.args.view.sized.narrow)

pub columns_at-requires : goal.columns_at-requires
columns_at-requires c = (c.requires.in_picture.0, c.requires.in_picture.1)
