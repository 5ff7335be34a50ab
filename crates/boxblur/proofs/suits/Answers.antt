use native.Mathlib.Omega.{arith}
use Rattle.boxblur.proofs.Refusal.{suits_not}
use Rattle.boxblur.proofs.suits.Goals as goal

pub returns-then-r-gt32767 : goal.returns-then-r-gt32767
returns-then-r-gt32767 c = suits_not _ _ _ _ _ (λ s. omega arith)
