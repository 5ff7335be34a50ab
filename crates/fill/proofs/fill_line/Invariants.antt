-- `fill_line`: the numbers passed so far are found, by every rule that says what f answers.
use Rattle.std.proofs.Common.{◌≡◌, ℕ, ◌<◌, length}
use Rattle.std.specs.Prelude.{Float}
use Rattle.fill.specs.Private.{Lined}
use Rattle.fill.proofs.fill_line.Given as goal

abbrev pub invariant-loop-i : goal.invariant-loop-i
invariant-loop-i g l = (rule : ℕ → Float) → ((i : ℕ) (v : Float) → i < length l.initial.line → goal.F-post g l.f i v → v ≡ rule i) → Lined rule l.i l.line
