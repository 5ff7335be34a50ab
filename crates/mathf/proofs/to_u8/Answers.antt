-- `to_u8` meets its contract: 8 bits are 12 bits held to 255.
use Rattle.std.proofs.Common.{◌≡◌, ℕ, min, sym, ap, ◌∙◌, arith}
use lib.Ieee.{to_unsigned}
use Rattle.mathf.proofs.Laws.Cut.{narrowest}
use Rattle.mathf.proofs.to_u8.Goals as goal
use Rattle.mathf.proofs.to_u8.Goals.{After-to_u12-k}

held : (c : After-to_u12-k) → to_unsigned 8 c.args.x ≡ min c.to_u12-k.result 255
held c = narrowest c.args.x ∙ ap (λ (n : ℕ). min n 255) (sym c.to_u12-k.ensures)

pub returns-then-k-lt255 : goal.returns-then-k-lt255
returns-then-k-lt255 c = omega (arith, c.if-k-lt255.true, held (goal.at.returns-then-k-lt255 c).After-to_u12-k)

pub returns-else-k-lt255 : goal.returns-else-k-lt255
returns-else-k-lt255 c = omega (arith, c.if-k-lt255.false, held (goal.at.returns-else-k-lt255 c).After-to_u12-k)
