-- The tests of one block.
use Rattle.answer.specs.Answer.{Verdict}
use Rattle.std.specs.Prelude.{ℕ, cond, List, Ok, Err}
use Rattle.answer.specs.declared.Cause.TheVariants.{Check, Form, Floats, Integers, Bend}
use Rattle.block.specs.Bytes.{check_right}
use Rattle.block.specs.Form.{well_formed}
use Rattle.block.specs.Ranges.{floats_in, integers_in, bend_suits}

-- the tests 5, 6, 7 and 15, for which a block's first 508 bytes suffice
unfoldable pub shape : List ℕ → Verdict
shape b =
    cond (well_formed b) (cond (floats_in b) (cond (integers_in b) (cond (bend_suits b) (Ok tt) (Err Bend)) (Err Integers)) (Err Floats)) (Err Form)

-- the tests 4 to 7 and 15
unfoldable pub verdict : List ℕ → Verdict
verdict b = cond (check_right b) (shape b) (Err Check)
