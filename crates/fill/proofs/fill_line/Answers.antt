-- `fill_line`: the numbers passed so far are found, by every rule that says what f answers.
use Rattle.std.proofs.Common.{rules}
use Rattle.fill.proofs.Laws.{lined_none, lined_more, lined_all}
use Rattle.fill.proofs.fill_line.Goals as goal

pub loop-i-init : goal.loop-i-init
loop-i-init g c = λ rule says. lined_none

pub loop-i-preserved : goal.loop-i-preserved
loop-i-preserved g c = λ rule says. lined_more (c.loop-i.invariant rule says) (search rules) (says _ _ (search rules) c.f.ensures)

pub returns : goal.returns
returns g c = λ rule says. lined_all (c.loop-i.invariant rule says) c.loop-i-test.false
