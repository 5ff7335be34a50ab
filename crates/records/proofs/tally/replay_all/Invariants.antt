-- As many calls as turns replayed something, and each of these replays is counted.
use Rattle.records.proofs.Calls.{Replays}
use Rattle.records.proofs.tally.replay_all.Given as goal

abbrev pub invariant-loop : goal.invariant-loop
invariant-loop g l = Replays g.F.Fn l.next l.initial.lines l.initial.input l.counter l.input l.lines
