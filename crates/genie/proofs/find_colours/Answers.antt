-- `find_colours`: a column that was not reached yet is the line's first number there, so it lies in the row.
use Prim.Native.Nat.{ℕ, ◌<◌}
use mathlib.Core.Path.{◌≡◌, refl, ap, ◌∙◌}
use mathlib.Core.List.{List}
use native.Mathlib.Omega.{arith}
use lib.ListN.{length, get_or}
use Rattle.canvas.specs.Rows.{below}
use Rattle.canvas.proofs.Laws.Rows.{Rowed, rowed_start, rowed_more, rowed_end, get_d-map_row, below_out}
use Rattle.genie.proofs.find_colours.Goals as goal
use Rattle.genie.proofs.find_colours.Goals.{In-loop-q}

-- the line's number is still the column
old : {f : ℕ → ℕ → ℕ} {l r : List ℕ} {i : ℕ} → Rowed f l r i → i < length r → get_or r i 0 ≡ get_or l i 0
old {f} {l} {r} {i} R h = ap (λ (t : List ℕ). get_or t i 0) R.done ∙ get_d-map_row (below i f) l i (omega (arith, R.long)) ∙ below_out i f i _ (omega arith)

pub loop-q-init : goal.loop-q-init
loop-q-init c = rowed_start

-- it is one of the line's
here : (c : In-loop-q) → c.loop-q.q-index < length c.loop-q.line
here c = omega (arith, c.loop-q-test.true, c.loop-q.invariant.long)

pub bounds-row-q : goal.bounds-row-q
bounds-row-q c = omega (arith, old c.loop-q.invariant (here (goal.at.bounds-row-q c).In-loop-q), c.requires c.loop-q.q-index c.loop-q-test.true)

pub loop-q-preserved : goal.loop-q-preserved
loop-q-preserved c = rowed_more c.loop-q.invariant (here (goal.at.loop-q-preserved c).In-loop-q) refl

pub returns : goal.returns
returns c = rowed_end c.loop-q.invariant (omega (arith, c.loop-q-test.false, c.loop-q.invariant.long))
