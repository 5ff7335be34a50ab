-- The part that is lent is as long as the record says.
use Rattle.std.proofs.Common.{rules, ◌≡◌, Bool, List, ℕ, min, ap}
use Rattle.records.proofs.Calls.{lent_as}
use Rattle.replay_rundowns.specs.Recorded.{len, as_recorded}
use Rattle.replay_rundowns.proofs.read_and_lend.Goals as goal

pub returns : goal.returns
unfolding len
returns g c =
    lent_as _ _ _ _ _ (λ (same : Bool) (read : List ℕ). same ≡ as_recorded c.args.rec.now read) (ap (λ (n : ℕ). min n 2560) c.word.ensures) c.read_part.ensures.lent (λ shown left same called. search rules)
