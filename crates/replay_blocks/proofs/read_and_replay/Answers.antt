-- The part of the buffer that is lent is as long as the head says.
use Rattle.std.proofs.Common.{rules, ◌≡◌, Bool, List, ℕ, min, ap}
use Rattle.records.proofs.Calls.{lent_as}
use Rattle.replay_blocks.specs.Asked.{buffer_len, replayed}
use Rattle.replay_blocks.proofs.read_and_replay.Goals as goal

pub returns : goal.returns
unfolding buffer_len
returns g c =
    lent_as _ _ _ _ _ (λ (same : Bool) (read : List ℕ). same ≡ replayed c.args.call.now.head c.args.call.now.new read) (ap (λ (n : ℕ). min n 2048) c.word-len.ensures) c.read_part.ensures.lent
    (λ shown left same called. search rules)
