-- `judge_block`: the first 508 bytes, and the check that is the rest.
use Rattle.block.specs.Bytes.{byte, u32, weighed, check_right}
use Rattle.block.specs.Verdict.{shape, verdict}
use Rattle.block.proofs.Laws.Alone.{u32_same}
use Rattle.judge.proofs.Laws.Same.{shape_same, weighed_same}
use Rattle.judge.proofs.Unused.{covered}
use Prim.Native.Nat.{ℕ, ◌+◌, ◌<◌}
use borrow.Author.Tests.{eq-eqb, ne_eqb}
use lib.ListN.{take, drop}
use lib.Seq.{get_or-take, get_or-drop}
use mathlib.Core.List.{List}
use mathlib.Core.Path.{◌≡◌, sym, ◌∙◌}
use native.Mathlib.Omega.{arith}
use Rattle.judge.proofs.judge_block.Goals as goal
use Rattle.judge.proofs.judge_block.Goals.{After-from_le_bytes, then-unused, else-unused}

-- what is read of the parts is what is read of the block
pub record Read (b new rest : List ℕ) : Type 0 where
  pub shape : shape new ≡ shape b
  pub sum : weighed new 508 ≡ weighed b 508
  pub check : u32 rest 0 ≡ u32 b 508

read : (b new rest : List ℕ) → new ≡ take 508 b → rest ≡ drop 508 b → Read b new rest
read b new rest n d =
    let e : (o : ℕ) → o < 508 → byte new o ≡ byte b o = λ o h. rw n (get_or-take 508 b o 0 h) in
    let f : (o : ℕ) → o < 4 → byte b (508 + o) ≡ byte rest o = λ o h. rw d (sym (get_or-drop 508 b o 0)) in
    record { shape = shape_same new b e; sum = weighed_same new b e 508 (omega arith); check = sym (u32_same b 508 rest 4 f 0 (omega arith)) }

parts : (c : After-from_le_bytes) → Read c.args.b.now c.unwrap.result.0.now c.unwrap.result.1.now
parts c = let s = rw c.unwrap.ensures at c.split_first_chunk.ensures.cases in read _ _ _ s.0 s.1

-- the sum, with the unused bytes or without
sum : (c : After-from_le_bytes) → c.if-unused.sum ≡ weighed c.unwrap.result.0.now 508
sum c = elim c.if-unused.branch [ then-unused w ↦ w.sum-is ∙ w.weighed_outside-sum.ensures | else-unused w ↦ w.sum-is ∙ w.weighed-sum.ensures ]

pub judge_shape-requires : goal.judge_shape-requires
judge_shape-requires c = c.all_zero-unused.ensures ∙ covered _ _ _ _ c.gaps-runs.ensures

pub returns-then-from_le_bytes-sum : goal.returns-then-from_le_bytes-sum
unfolding verdict check_right u32
returns-then-from_le_bytes-sum c =
    let p = parts (goal.at.returns-then-from_le_bytes-sum c).After-from_le_bytes in
    rw (ne_eqb (u32 c.args.b.now 508) (weighed c.args.b.now 508) (λ q. c.if-from_le_bytes-sum.true (c.from_le_bytes.ensures ∙ p.check ∙ q ∙ sym p.sum ∙ sym (sum (goal.at.returns-then-from_le_bytes-sum c).After-from_le_bytes))))

pub returns : goal.returns
unfolding verdict check_right u32
returns c =
    let p = parts (goal.at.returns c).After-from_le_bytes in
    rw (eq-eqb (u32 c.args.b.now 508) (weighed c.args.b.now 508) (sym p.check ∙ sym c.from_le_bytes.ensures ∙ c.if-from_le_bytes-sum.false ∙ sum (goal.at.returns c).After-from_le_bytes ∙ p.sum)) (c.judge_shape.ensures ∙ p.shape)
