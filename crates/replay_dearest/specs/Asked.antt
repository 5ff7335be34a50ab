-- A recorded call for the dearest panel. compare/dearest/src/record.rs says what each word holds.
use Rattle.std.specs.Prelude.{Bool, cond, ◌&&◌, List, ℕ, ◌+◌, ◌*◌, ◌%◌, eqb, replicate, Float}
use Rattle.std.specs.Float.{binary32}
use Rattle.std.specs.Float.Ieee.{of_bits}
use Rattle.replay_dearest.specs.declared.Outcome.{Outcome}
use Rattle.replay_dearest.specs.declared.Outcome.TheVariants.{Told, RefusedForSize, RefusedForBlur}
use Rattle.records.specs.Record.{word, sum}
use Rattle.dearest.specs.Dearest.{dearest_answer, block_after}
use Rattle.answer.specs.Answer.{packed}

-- the blur by its bits: those of a NaN, whichever, are a NaN
unfoldable pub blur_of : List ℕ → Float
blur_of rec = of_bits binary32 (word rec 2)

-- the answer is the recorded one, and so is the sum of the bytes left where these were lent
unfoldable pub replayed_over : List ℕ → List ℕ → Bool
replayed_over rec lent =
    eqb (packed (dearest_answer (word rec 0) (word rec 1) (blur_of rec))) (word rec 3 * 0x1_0000_0000 + word rec 4)
    && eqb (sum (block_after (word rec 0) (word rec 1) (blur_of rec) lent)) (word rec 6)

-- by the number of the recorded cause: 0 told, 1 refused for the size, else for the blur
abbrev pub outcome : ℕ → Outcome
outcome number = cond (eqb number 0) Told (cond (eqb number 1) RefusedForSize RefusedForBlur)

-- lent are 512 bytes, each word 5
unfoldable pub replayed : List ℕ → Bool
replayed rec = replayed_over rec (replicate 512 (word rec 5 % 256))
