-- `scratch_each`: the slices are long enough for the blocks passed so far.
use Rattle.answer.specs.Answer.{Answer, refused}
use Rattle.std.proofs.Common.{Ok, Err}
use Prim.Native.Nat.{ℕ}
use Rattle.block.specs.Bytes.{block_at}
use Rattle.answer.specs.declared.Cause.TheVariants.{Scratch}
use Rattle.layer.specs.Layer.{has_room}
use Rattle.accept.specs.Tests.{scratch_test}
use borrow.Author.Tests.{le-leb, lt-leb}
use mathlib.Core.Bool.{cond}
use mathlib.Core.List.{List}
use mathlib.Core.Path.{refl, ap, sym, ◌∙◌}
use Rattle.answer.proofs.Laws.{each_none, each_more, each_refuses}
use Rattle.accept.proofs.scratch_each.Goals as goal
use Rattle.accept.proofs.scratch_each.Goals.{then-need-lent-via-then-need-lent, then-need-lent-via-else-need-lent+then-need-lent-2}

abbrev test : ℕ → ℕ → ℕ → ℕ → List ℕ → ℕ → Answer
test w h la lb buf n = cond (has_room w h (block_at buf n) la lb) (Ok n) (refused Scratch n)

pub loop-n-init : goal.loop-n-init
unfolding scratch_test
loop-n-init c = each_none _

pub returns-then-need-lent : goal.returns-then-need-lent
unfolding scratch_test has_room
returns-then-need-lent c =
    let a = c.args in
    let l = c.loop-n in
    ap Err c.at.ensures
    ∙ sym (each_refuses (test a.show.size.w a.show.size.h a.lent.first a.lent.second a.show.rundown.now) _ l.n a.count l.invariant
    (elim c.then-need-lent.branch [
      | then-need-lent-via-then-need-lent w ↦ rw (← c.need-need.ensures, lt-leb _ a.lent.first w.if-need-lent.true) refl
      | then-need-lent-via-else-need-lent+then-need-lent-2 w ↦ rw (← c.need-need.ensures, le-leb _ a.lent.first w.if-need-lent.false, lt-leb _ a.lent.second w.if-need-lent-2.true) refl
    ])
    c.loop-n-test.true)

pub loop-n-preserved : goal.loop-n-preserved
unfolding scratch_test has_room
loop-n-preserved c =
    let a = c.args in
    let l = c.loop-n in
    each_more (test a.show.size.w a.show.size.h a.lent.first a.lent.second a.show.rundown.now) l.n l.n l.invariant (rw (← c.need-need.ensures, le-leb _ a.lent.first c.if-need-lent.false, le-leb _ a.lent.second c.if-need-lent-2.false) refl)
