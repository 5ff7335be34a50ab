-- What is asked leads to that answer, and to the bytes left.
use Rattle.std.proofs.Common.{◌≡◌, refl, sym, arith}
use borrow.Author.Tests.{eq-eqb, ne_eqb}
use Rattle.replay_blocks.specs.Asked.{word, answered}
use Rattle.replay_blocks.proofs.Left.{left_by_add, left_by_remove, left_by_judge}
use Rattle.replay_blocks.proofs.Call.answer.Goals as goal

pub returns-in-Judge : goal.returns-in-Judge
unfolding answered
returns-in-Judge c =
    let is : word c.args.self.now.head 0 ≡ 0 = rw c.in-Judge.is at c.ask.ensures in
    record {
      answer = rw (eq-eqb _ _ is) c.block_judge.ensures;
      left = left_by_judge _ _ _ _ _ refl (λ e. omega (arith, is)) (λ e. omega (arith, is));
    }

pub returns-in-Add : goal.returns-in-Add
unfolding answered
returns-in-Add c =
    let is : word c.args.self.now.head 0 ≡ 1 = rw c.in-Add.is at c.ask.ensures in
    let count = c.handed.ensures in
    let added = c.tiglostrema_add.ensures in
    record {
      answer = rw (is, sym count) added.answer;
      left = left_by_add _ _ _ _ _ _ refl _ is count added.answer added.leaves;
    }

pub returns-in-Remove : goal.returns-in-Remove
unfolding answered
returns-in-Remove c =
    let is : word c.args.self.now.head 0 ≡ 2 = rw c.in-Remove.is at c.ask.ensures in
    let count = c.handed-in-Remove.ensures in
    let gone = c.gone.ensures in
    let removed = c.tiglostrema_remove.ensures in
    record {
      answer = rw (is, sym count, sym gone) removed.answer;
      left = left_by_remove _ _ _ _ _ _ refl _ _ is count gone removed.answer removed.leaves;
    }

pub returns-in-JudgeAt : goal.returns-in-JudgeAt
unfolding answered
returns-in-JudgeAt c =
    let is = rw c.in-JudgeAt.is at c.ask.ensures in
    record {
      answer = rw (ne_eqb _ _ is.0, ne_eqb _ _ is.1.0, ne_eqb _ _ is.1.1, sym c.handed-in-JudgeAt.ensures) c.block_judge_at.ensures;
      left = left_by_judge _ _ _ _ _ refl is.1.0 is.1.1;
    }
