-- `estimate` meets its contract: each float whose bits it takes passed a test, so it is no NaN.
use Rattle.std.proofs.Common.{arith}
use Rattle.mathf.proofs.Laws.Tests.{yes}
use Rattle.mathf.proofs.Squares.{above_no_nan, low_no_nan}
use Rattle.mathf.proofs.estimate.Goals as goal

pub float_from_bits-x : goal.float_from_bits-x
float_from_bits-x c = low_no_nan _ (omega arith)

pub float_from_bits-y0 : goal.float_from_bits-y0
float_from_bits-y0 c = low_no_nan _ (omega arith)

pub float_to_bits-result : goal.float_to_bits-result
float_to_bits-result c = above_no_nan _ _ (yes c.if-v.true)
