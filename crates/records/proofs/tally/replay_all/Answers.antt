-- One call more, and what it replayed is counted.
use Rattle.std.proofs.Common.{refl, [], arith}
use Rattle.records.specs.Record.{all_counted}
use Rattle.records.proofs.Calls.{one_more, at_none, at_error, at_last_turn}
use Rattle.records.proofs.tally.replay_all.Goals as goal
use Rattle.records.proofs.tally.replay_all.Goals.{else-loop-test, then-loop-test+in_ok-r+in_default}

pub loop-init : goal.loop-init
unfolding all_counted
loop-init g c = record { seen = []; turns = refl; each = refl; so_far = refl }

pub returns-in_err-r : goal.returns-in_err-r
returns-in_err-r g c =
    at_error _ _ _ _ _ _ _ _ _ c.loop.invariant c.in_err-r.was c.next.ensures c.from_residual.ensures.0 c.from_residual.ensures.1

pub loop-preserved : goal.loop-preserved
loop-preserved g c = one_more _ _ _ _ _ _ _ _ _ c.loop.invariant c.in_ok-r.was c.in-Some.is c.next.ensures c.count.ensures

pub returns : goal.returns
returns g c =
    elim c.loop-test.branch [
      | else-loop-test w ↦ rw w.input-is (at_last_turn _ _ _ _ c.loop.invariant (omega arith))
      | then-loop-test+in_ok-r+in_default w ↦ rw w.input-is (at_none _ _ _ _ _ _ _ _ c.loop.invariant w.in_ok-r.was w.in_default.is w.next.ensures)
    ]
