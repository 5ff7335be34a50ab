-- `all_zero`: all runs are tested.
use Rattle.judge.proofs.Unused.{fits_at, five_clear}
use native.Mathlib.Omega.{arith}
use Rattle.judge.proofs.form.Runs.all_zero.Goals as goal

pub returns : goal.returns
returns c = five_clear _ _ _ _ _ _ _ (omega arith) c.any.ensures c.any-2.ensures c.any-3.ensures c.any-4.ensures c.any-5.ensures

pub any-requires : goal.any-requires
any-requires c = fits_at 0 c.args.self.now.at 0 (0, 0) c.args.self.now.in_order.in_order (omega arith)

pub any-requires-2 : goal.any-requires-2
any-requires-2 c = fits_at 0 c.args.self.now.at 1 (0, 0) c.args.self.now.in_order.in_order (omega arith)

pub any-requires-3 : goal.any-requires-3
any-requires-3 c = fits_at 0 c.args.self.now.at 2 (0, 0) c.args.self.now.in_order.in_order (omega arith)

pub any-requires-4 : goal.any-requires-4
any-requires-4 c = fits_at 0 c.args.self.now.at 3 (0, 0) c.args.self.now.in_order.in_order (omega arith)

pub any-requires-5 : goal.any-requires-5
any-requires-5 c = fits_at 0 c.args.self.now.at 4 (0, 0) c.args.self.now.in_order.in_order (omega arith)
