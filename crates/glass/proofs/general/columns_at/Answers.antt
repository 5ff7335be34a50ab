-- `columns_at`: each from its callee.
use native.Mathlib.Omega.{arith}
use Rattle.glass.proofs.general.columns_at.Goals as goal

pub returns : goal.returns
returns c = record { left = c.column_at-left.ensures; right = rw c.min.ensures at c.column_at-right.ensures }

pub column_at-left-requires : goal.column_at-left-requires
column_at-left-requires c = c.requires

pub overflow_add-x : goal.overflow_add-x
overflow_add-x c = omega (arith, c.requires.1, c.args.view.sized.narrow)

pub column_at-right-requires : goal.column_at-right-requires
column_at-right-requires c = (c.requires.0, omega (arith, c.min.ensures, c.args.view.sized.wide))
