-- The tests of add and remove, in 01's order, over a buffer and the count of blocks at its front.
use Rattle.answer.specs.Answer.{Answer, refused}
use Rattle.std.specs.Prelude.{ℕ, zero, suc, ◌+◌, ◌-◌, ◌*◌, Bool, false, cond, ◌&&◌, ◌||◌, List, [], ◌∷◌, leb, ltb, eqb, length, get_or, Ok}
use Rattle.answer.specs.declared.Cause.TheVariants.{Rundown, Priority, Room, Absent}
use Rattle.block.specs.Bytes.{block_at}
use Rattle.block.specs.Fields.{priority}
use Rattle.block.specs.Verdict.{shape, verdict}
use Rattle.answer.specs.Tests.{unless, each, at}

-- f holds of a number below n
unfoldable pub some : ℕ → (ℕ → Bool) → Bool
some zero f = false
some (suc n) f = some n f || f n

-- 3: at most 256 blocks, all of them in the buffer
unfoldable pub sized : ℕ → List ℕ → Answer
sized count buf = cond (leb count 256 && leb (512 * count) (length buf)) (Ok count) (refused Rundown 0)

-- 4 to 7 and 15 of each block
unfoldable pub held : ℕ → List ℕ → Answer
held count buf = each (λ n. at n (verdict (block_at buf n))) count

-- one of the first n blocks has the priority p
unfoldable pub taken : ℕ → ℕ → List ℕ → Bool
taken p n buf = some n (λ i. eqb (priority (block_at buf i)) p)

-- 8: a block whose priority an earlier one has
unfoldable pub apart : ℕ → List ℕ → Answer
apart count buf = each (λ n. cond (taken (priority (block_at buf n)) n buf) (refused Priority n) (Ok n)) count

-- 8, of the blocks' priorities
unfoldable pub repeats : List ℕ → Answer
repeats ps = each (λ n. cond (some n (λ i. eqb (get_or ps i 0) (get_or ps n 0))) (refused Priority n) (Ok n)) (length ps)

-- the tests of what is held: 3, then 4 to 7 and 15 of each block, then 8
unfoldable pub tested : ℕ → List ℕ → Answer
tested count buf = unless (sized count buf ∷ held count buf ∷ apart count buf ∷ []) count

-- 8, for the new block
unfoldable pub free : ℕ → ℕ → List ℕ → Answer
free p count buf = cond (taken p count buf) (refused Priority count) (Ok count)

-- 12: less than 256 blocks held, and 512 bytes left
unfoldable pub room : ℕ → List ℕ → Answer
room count buf = cond (ltb count 256 && leb (512 * (count + 1)) (length buf)) (Ok count) (refused Room count)

-- 13: a block has the priority
unfoldable pub present : ℕ → ℕ → List ℕ → Answer
present p count buf = cond (taken p count buf) (Ok count) (refused Absent 0)

-- what add answers, given the 508 new bytes
unfoldable pub add_answer : ℕ → List ℕ → List ℕ → Answer
add_answer count buf new =
    unless (tested count buf ∷ at count (shape new) ∷ free (priority new) count buf ∷ room count buf ∷ []) (count + 1)

-- what remove answers, given the priority
unfoldable pub remove_answer : ℕ → List ℕ → ℕ → Answer
remove_answer count buf p = unless (tested count buf ∷ present p count buf ∷ []) (count - 1)
