-- `map_pixels`: the loop's invariant is `Rowed` at every rule that says what f answers.
use Rattle.std.proofs.Common.{◌≡◌, ℕ, ◌<◌, length}
use Rattle.canvas.proofs.Laws.Rows.{Rowed}
use Rattle.canvas.proofs.map_pixels.Given as goal

abbrev pub invariant-loop-i : goal.invariant-loop-i
invariant-loop-i g l = (rule : ℕ → ℕ → ℕ) → ((i p r : ℕ) → i < length l.initial.dst → goal.F-post g l.f i p r → r ≡ rule i p) → Rowed rule l.initial.dst l.dst l.i
