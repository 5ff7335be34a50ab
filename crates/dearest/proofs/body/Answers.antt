-- `body`: the words that are not 0, stored one by one.
use mathlib.Core.Path.{ap, ◌∙◌}
use Prim.Native.Nat.{ℕ, ◌+◌}
use mathlib.Core.List.{List, ◌++◌}
use lib.Ieee.{binary32, to_bits, of_bits}
use lib.ListN.{take, drop}
use Rattle.rundown.specs.Kept.{bytes_of}
use Rattle.dearest.specs.Dearest.{f4096, f1, put, dearest_body}
use Rattle.dearest.proofs.body.Goals as goal

pub float_to_bits-blur : goal.float_to_bits-blur
float_to_bits-blur c = rw c.requires tt

-- v from byte o on
abbrev word : ℕ → ℕ → List ℕ → List ℕ
word o v b = take o b ++ (bytes_of v ++ drop (o + 4) b)

pub returns : goal.returns
unfolding dearest_body put to_bits of_bits
returns c =
    c.put-6.ensures
    ∙ ap (word 40 f4096) (c.put-5.ensures
    ∙ ap (word 44 f4096) (c.put-4.ensures
    ∙ ap (word 52 (to_bits binary32 c.args.blur)) (c.put-3.ensures
    ∙ ap (word 60 f1) (c.put-2.ensures
    ∙ ap (word 244 4096) c.put.ensures))))
