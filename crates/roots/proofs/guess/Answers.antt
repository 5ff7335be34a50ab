-- `guess` meets its contract: each pattern is in range.
use native.Mathlib.Omega.{arith}
use Rattle.roots.proofs.Laws.{low_no_nan}
use Rattle.roots.proofs.guess.Goals as goal

pub float_from_bits-y0 : goal.float_from_bits-y0
float_from_bits-y0 c = low_no_nan _ (omega arith)
