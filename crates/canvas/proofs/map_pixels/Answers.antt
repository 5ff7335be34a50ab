-- `map_pixels`: the loop's invariant is `Rowed` at every rule that says what f answers.
use Rattle.canvas.proofs.Laws.Rows.{rowed_start, rowed_more, rowed_end}
use Rattle.std.proofs.Common.{rules}
use Rattle.canvas.proofs.map_pixels.Goals as goal

pub loop-i-init : goal.loop-i-init
loop-i-init g c = λ rule says. rowed_start

pub loop-i-preserved : goal.loop-i-preserved
loop-i-preserved g c = λ rule says. let inv = c.loop-i.invariant rule says in rowed_more inv (search rules) (says _ _ _ (search rules) c.f.ensures)

pub returns : goal.returns
returns g c = λ rule says. rowed_end (c.loop-i.invariant rule says) (search rules)
