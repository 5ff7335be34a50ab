-- What the test of the rundown finds out.
use mathlib.Core.Path.{◌≡◌}
use mathlib.Core.Bool.{true}
use mathlib.Core.List.{List}
use Prim.Native.Nat.{ℕ, ◌/◌, ◌%◌, ◌≤◌}
use borrow.Author.Tests.{leb-true}
use lib.Dec.{leb, eqb}
use lib.ListN.{length}
use Rattle.geom.proofs.Laws.{both_true}
use Rattle.accept.specs.Tests.{rundown_right}

pub few_blocks : (buf : List ℕ) → rundown_right buf ≡ true → length buf / 512 ≤ 256
unfolding rundown_right
few_blocks buf e = leb-true (length buf / 512) 256 (both_true (eqb (length buf % 512) 0) (leb (length buf / 512) 256) e).1
