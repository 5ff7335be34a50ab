-- `columns`: what is kept, or the columns anew.
use mathlib.Core.Path.{ap}
use Rattle.glass.specs.declared.Pair.{Pair}
use Rattle.glass.specs.Private as Private
use Rattle.glass.proofs.columns.Goals as goal

pub returns-then-x-held : goal.returns-then-x-held
returns-then-x-held c = rw c.if-x-held.true c.requires.kept

pub returns-then-x-held-2 : goal.returns-then-x-held-2
unfolding Private.pair_at
returns-then-x-held-2 c =
    let kept = ap (λ (k : Pair). k.right) c.requires.kept in
    rw (kept, ← c.if-x-held-2.true, c.column-right.ensures)

pub returns : goal.returns
unfolding Private.pair_at
returns c = rw (c.column-left.ensures, c.column-right.ensures)
