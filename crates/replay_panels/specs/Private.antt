-- What private contracts cite.
use Rattle.std.specs.Prelude.{◌≡◌, ℕ, List}
use Rattle.std.specs.Fn.{Shared}
use Rattle.answer.specs.Answer.{Answer}
use denote.Ref.{Bor, MutBor}
use Rattle.records.specs.Record.{word}

-- a pass of the bytes src over the bytes `before`, with the record's sides and radius, may leave `after`
pub record Passes {F : Type 0} (g : Shared F (Bor (List ℕ) × (MutBor (List ℕ) × (ℕ × (ℕ × (ℕ × Unit {0}))))) (Answer × (MutBor (List ℕ) × Unit {0}))) (f : F) (rec src before after : List ℕ) : Type 0 where
  pub shown : Bor (List ℕ)
  pub shows : shown.now ≡ src
  pub lent : MutBor (List ℕ)
  pub lends : lent.now ≡ before
  pub answer : Answer
  pub left : MutBor (List ℕ)
  pub met : g.post f (shown, (lent, (word rec 1, (word rec 2, (word rec 7, tt))))) (answer, (left, tt))
  pub leaves : left.now ≡ after
