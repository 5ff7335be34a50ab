-- `paint_turns`: the loop's invariant is `Rowed` at every rule that says what `run` and `few` make of their pixels, and that the others stay.
use Rattle.std.proofs.Common.{◌≡◌, ℕ, ◌<◌, ◌≤◌, ◌+◌, ◌-◌, length}
use Rattle.canvas.specs.Rows.{map_row}
use Rattle.canvas.proofs.Laws.Rows.{Rowed}
use Rattle.canvas.proofs.paint_turns.Given as goal

abbrev pub invariant-loop-i : goal.invariant-loop-i
invariant-loop-i g l =
    (rule : ℕ → ℕ → ℕ)
    → ((i e : ℕ) → i ≤ length l.initial.dst → goal.A-post g l.run_end i e → (i ≤ e) × (e ≤ length l.initial.dst))
    → ((i e : ℕ) → i ≤ length l.initial.dst → goal.B-post g l.bare_end i e → (i ≤ e) × (e ≤ length l.initial.dst))
    → ((i e : ℕ) (part part' : _) → goal.A-post g l.run_end i e → i + length part.now ≡ e → goal.R-post g l.run i part tt part' → part'.now ≡ map_row (λ k p. rule (i + k) p) part.now)
    → ((i e k p : ℕ) → goal.B-post g l.bare_end i e → i ≤ k → k < e → rule k p ≡ p)
    → ((i : ℕ) (part part' : _) → i + length part.now ≤ length l.initial.dst → goal.F-post g l.few i part tt part' → part'.now ≡ map_row (λ k p. rule (i + k) p) part.now)
    → Rowed rule l.initial.dst l.dst l.i

abbrev pub decreases-loop-i : goal.decreases-loop-i
decreases-loop-i g l = length l.initial.dst - l.i
