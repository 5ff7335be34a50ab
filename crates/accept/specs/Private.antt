-- What private contracts cite.
use Rattle.answer.specs.Answer.{Answer}
use Rattle.std.specs.Prelude.{ℕ, ◌/◌, List, [], ◌∷◌, length}
use Rattle.answer.specs.Tests.{unless, at}
use Rattle.block.specs.Verdict.{verdict}
use Rattle.rundown.specs.Tests.{apart}
use Rattle.accept.specs.Tests.{rundown_test, source_test, frame_test, blocks_test}

-- 9 and 10 of a block
unfoldable pub place_test : ℕ → List ℕ → ℕ → List ℕ → Answer
place_test w table n b = unless (source_test table n b ∷ frame_test w n b ∷ []) n

-- 4 to 7, 15, 9 and 10 of a block
unfoldable pub block_test : ℕ → List ℕ → ℕ → List ℕ → Answer
block_test w table n b = unless (at n (verdict b) ∷ source_test table n b ∷ frame_test w n b ∷ []) n

-- 4 to 10
unfoldable pub blocks_tests : ℕ → List ℕ → ℕ → List ℕ → Answer
blocks_tests w table count buf = unless (blocks_test w table count buf ∷ apart count buf ∷ []) count

-- 3 to 10
unfoldable pub rundown_tests : ℕ → List ℕ → List ℕ → Answer
rundown_tests w table buf =
    let count = length buf / 512 in
    unless (rundown_test buf ∷ blocks_test w table count buf ∷ apart count buf ∷ []) count
