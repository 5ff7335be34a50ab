-- A recorded block or call: its head of eight words, and the bytes behind it. compare/blocks/src/record.rs says what each holds.
use Rattle.std.specs.Prelude.{Bool, cond, ◌&&◌, ℕ, ◌+◌, ◌*◌, ◌%◌, min, eqb, Ok, Err}
use mathlib.Core.List.{List, ◌∷◌, flatten}
use Rattle.block.specs.Bytes.{block_at, placed}
use Rattle.block.specs.Verdict.{verdict}
use Rattle.rundown.specs.Tests.{add_answer, remove_answer}
use Rattle.rundown.specs.Kept.{blocks, sealed, without, ordered}
use Rattle.records.specs.Record.{word_of, sum}
use Rattle.answer.specs.Answer.{packed, Answer}
use Rattle.answer.specs.Tests.{at}

-- word i of the head's eight
abbrev pub word : List ℕ → ℕ → ℕ
word head i = word_of 8 head i

-- the count of blocks or the place that is handed in: two words
unfoldable pub handed : List ℕ → ℕ
handed head = word head 1 + word head 2 * 0x1_0000_0000

-- the priority of the block that is to go
unfoldable pub gone : List ℕ → ℕ
gone head = word head 3 % 0x1_0000

-- the answer by what is asked: 0 the tests of the block at the front, 1 add, 2 remove, else the tests of the block at a place
unfoldable pub answered : List ℕ → List ℕ → List ℕ → ℕ
answered head new buf =
    cond (eqb (word head 0) 0) (packed (at 0 (verdict (block_at buf 0))))
    (cond (eqb (word head 0) 1) (packed (add_answer (handed head) buf new))
    (cond (eqb (word head 0) 2) (packed (remove_answer (handed head) buf (gone head)))
    (packed (at 0 (verdict (placed buf (handed head)))))))

-- the bytes of these blocks, one behind the other, where the answer is a count; on a refusal those of the buffer
unfoldable pub settled : Answer → List (List ℕ) → List ℕ → List ℕ
settled (Ok n) bs buf = flatten bs
settled (Err r) bs buf = buf

-- the bytes that are settled afterwards: past the last block of an accepted add or remove they are free
unfoldable pub bytes_left : List ℕ → List ℕ → List ℕ → List ℕ
bytes_left head new buf =
    cond (eqb (word head 0) 1) (settled (add_answer (handed head) buf new) (ordered (sealed new ∷ blocks (handed head) buf)) buf)
    (cond (eqb (word head 0) 2) (settled (remove_answer (handed head) buf (gone head)) (ordered (without (gone head) (blocks (handed head) buf))) buf)
    buf)

-- how many bytes the buffer has
unfoldable pub buffer_len : List ℕ → ℕ
buffer_len head = min (word head 4) 2048

-- the answer is the recorded one, and so is the sum of the bytes left
unfoldable pub replayed : List ℕ → List ℕ → List ℕ → Bool
replayed head new buf =
    eqb (answered head new buf) (word head 5 * 0x1_0000_0000 + word head 6) && eqb (sum (bytes_left head new buf)) (word head 7)
