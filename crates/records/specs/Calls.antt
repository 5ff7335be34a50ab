-- What the calls of a closure give at a `&mut`.
use Rattle.std.specs.Prelude.{◌≡◌, ◌-◌, ◌^◌, ◌⊎◌, List, length, Result, Ok, Err, Option, Some, None, MatchResult}
use Rattle.std.specs.Fn.{Shared}
use Rattle.std.specs.List.{FoldsTo}
use denote.Ref.{MutBor}
use Rattle.records.specs.declared.tally.Replayed.{Replayed}

-- a call of f at a `&mut` to `before` may give r, and leave `after` there
pub record Gives {F S T : Type 0} (g : Shared F (MutBor S × Unit {0}) (T × (MutBor S × Unit {0}))) (f : F) (before : S) (r : T) (after : S) : Type 0 where
  pub shown : MutBor S
  pub shows : shown.now ≡ before
  pub left : MutBor S
  pub met : g.post f (shown, tt) (r, (left, tt))
  pub leaves : left.now ≡ after

-- calls of f, one after the other: each of these replayed something, and one more found the end, or failed, unless 2 ^ 64 - 1 were made
pub record GivesAll {F S E : Type 0} (g : Shared F (MutBor S × Unit {0}) (Result (Option Replayed) E × (MutBor S × Unit {0}))) (f : F) (before : S) (seen : List Replayed) (result : Result Unit E) (after : S) : Type 0 where
  pub last : S
  pub each : FoldsTo (λ s r t. Gives g f s (Ok (Some r)) t) before seen last
  pub end : MatchResult result (λ _. Gives g f last (Ok None) after ⊎ ((length seen ≡ 2 ^ 64 - 1) × (last ≡ after))) (λ e. Gives g f last (Err e) after)
