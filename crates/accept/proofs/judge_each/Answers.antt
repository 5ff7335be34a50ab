-- `judge_each`: the blocks passed so far pass.
use Rattle.answer.specs.Answer.{Answer}
use Prim.Native.Nat.{ℕ}
use Rattle.block.specs.Bytes.{block_at}
use Rattle.accept.specs.Tests.{blocks_test}
use Rattle.accept.specs.Private.{block_test}
use mathlib.Core.List.{List}
use native.Mathlib.Omega.{arith}
use mathlib.Core.Path.{sym, ◌∙◌}
use Rattle.answer.proofs.Laws.{each_none, each_more, each_refuses, handed_on}
use Rattle.accept.proofs.judge_each.Goals as goal

abbrev test : ℕ → List ℕ → List ℕ → ℕ → Answer
test w table buf n = block_test w table n (block_at buf n)

pub loop-n-init : goal.loop-n-init
unfolding blocks_test
loop-n-init c = each_none _

pub loop-n-preserved : goal.loop-n-preserved
unfolding blocks_test block_test
loop-n-preserved c = let s = c.args.show in let l = c.loop-n in each_more (test s.size.w s.table.now s.rundown.now) l.n _ l.invariant (sym c.in_ok-judge_one.ensures)

pub returns-in_err-judge_one : goal.returns-in_err-judge_one
unfolding blocks_test block_test
returns-in_err-judge_one c = let s = c.args.show in let l = c.loop-n in handed_on _ _ c.from_residual.ensures ∙ sym (each_refuses (test s.size.w s.table.now s.rundown.now) _ l.n c.args.count l.invariant (sym c.in_err-judge_one.ensures) c.loop-n-test.true)

pub judge_one-requires : goal.judge_one-requires
judge_one-requires c = omega (arith, c.requires, c.loop-n-test.true)
