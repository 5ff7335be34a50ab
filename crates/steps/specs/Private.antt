-- What private contracts cite.
use Rattle.answer.specs.Answer.{Answer}
use Rattle.std.specs.Prelude.{ℕ, List, Ok, Err}
use Rattle.steps.specs.Steps.{next, or_none}

-- the number of the block that a step paints, or why it paints none
unfoldable pub choice : Answer → List ℕ → ℕ → Answer
choice (Ok count) buf last = or_none (next buf count last)
choice (Err r) buf last = Err r
