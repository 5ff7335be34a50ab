-- `radicand` meets its contract: the product is below 2 ^ 48.
use native.Mathlib.Nat.{lt_of_lt_of_le}
use lib.Dec.{lit≤}
use Rattle.roots.proofs.Laws.{radical_most}
use Rattle.roots.proofs.radicand.Goals as goal

pub overflow_mul-result : goal.overflow_mul-result
overflow_mul-result c = record { fits = lt_of_lt_of_le (radical_most c.args.b) (lit≤ tt) }
