-- `put_byte`: two digits.
use Rattle.std.proofs.Common.{ap, ◌∙◌}
use Rattle.playout.specs.Printed.{byte, digit}
use Rattle.playout.proofs.Laws.{join, put_is}
use Rattle.playout.proofs.put_byte.Goals as goal

pub returns : goal.returns
unfolding byte
returns c =
    join
    (put_is (c.digit.ensures ∙ ap digit c.from.ensures) c.put-low.ensures)
    (put_is (c.digit-2.ensures ∙ ap digit c.from-2.ensures) c.put.ensures)
