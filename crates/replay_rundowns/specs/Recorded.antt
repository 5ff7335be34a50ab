-- A recorded rundown: the words of its record, and the rundown's bytes behind it. compare/rundowns/src/record.rs says what each word holds.
use Rattle.std.specs.Prelude.{Bool, cond, ◌&&◌, List, [], ◌∷◌, ℕ, ◌+◌, ◌*◌, min, eqb, length, replicate, take, get_or}
use Rattle.canvas.specs.Rows.{map_row}
use Rattle.accept.specs.Tests.{answer}
use Rattle.play.specs.Play.{final}
use Rattle.forecast.specs.Forecast.{forecast_of, totals_after}
use Rattle.answer.specs.Answer.{packed}
use Rattle.replay_rundowns.specs.declared.Outcome.{Outcome}
use Rattle.replay_rundowns.specs.declared.Outcome.TheVariants.{Accepted, Refused}
use Rattle.records.specs.Record as Record
use Rattle.records.specs.Record.{word}

-- the canvas before: 64 pixels, of which the first is word 9, and they grow by word 10
unfoldable pub before : List ℕ → List ℕ
before rec = map_row (λ i p. Record.pixel (word rec 9) (word rec 10) i) (replicate 64 0)

-- the pool's pixels, as many as there is room for: they start with word 11, and grow by word 12
unfoldable pub pool : List ℕ → List ℕ
pool rec = map_row (λ i p. Record.pixel (word rec 11) (word rec 12) i) (replicate 256 0)

-- the table's words, as many as there is room for
unfoldable pub words : List ℕ → List ℕ
words rec = word rec 13 ∷ word rec 14 ∷ word rec 15 ∷ word rec 16 ∷ word rec 17 ∷ word rec 18 ∷ word rec 19 ∷ word rec 20 ∷ []

-- word i as a length, of at most so many
unfoldable pub len : List ℕ → ℕ → ℕ → ℕ
len rec i most = min (word rec i) most

-- by the number of the recorded cause: 0 accepted
abbrev pub outcome : ℕ → Outcome
outcome number = cond (eqb number 0) Accepted Refused

-- the recorded answer: the cause's number and what stands beside it
unfoldable pub is_answer : List ℕ → ℕ → Bool
is_answer rec v = eqb v (word rec 7 * 0x1_0000_0000 + word rec 8)

-- the recorded sums of the forecast: the scratch of each slice, and the cells
unfoldable pub are_totals : List ℕ → List ℕ → Bool
are_totals rec totals = eqb (get_or totals 0 0) (word rec 21) && eqb (get_or totals 1 0) (word rec 22)

-- the forecast leaves the recorded sums where there were zeros: a refusal leaves those
unfoldable pub foretold : (rec table rundown : List ℕ) → Bool
foretold rec table rundown = are_totals rec (totals_after (forecast_of (word rec 0) (word rec 1) table rundown) (replicate 2 0))

-- a play on these buffers gives the recorded answer, and leaves the recorded canvas; and so for the forecast's sums
unfoldable pub replayed : (rec table pool rundown : List ℕ) (la lb : ℕ) → Bool
replayed rec table pool rundown la lb =
    let w = word rec 0 in
    let h = word rec 1 in
    (is_answer rec (packed (answer w h (length (before rec)) table (length pool) rundown la lb))
    && Record.recorded rec (final w h table pool rundown la lb (before rec)) 64)
    && foretold rec table rundown

-- the same on what the record says: words 2 and 3 are the pool's length and the table's, words 5 and 6 those of scratch
unfoldable pub as_recorded : List ℕ → List ℕ → Bool
as_recorded rec rundown =
    replayed rec (take (len rec 3 8) (words rec)) (take (len rec 2 256) (pool rec)) rundown (len rec 5 256) (len rec 6 256)
