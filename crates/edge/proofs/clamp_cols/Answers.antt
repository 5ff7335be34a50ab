-- `clamp_cols`: the definition's two tests, of v or 0 where v is below it.
use mathlib.Core.Path.{◌≡◌, ap, ◌∙◌}
use lib.IntN.{pos}
use mir.Syntax.{w32}
use mir.Val.{to_z, of_z}
use mir.Facts.{to_z-of_z}
use Rattle.std.specs.Int.{int_max}
use Rattle.edge.proofs.Laws.{clamped_low, clamped_high}
use Rattle.edge.proofs.clamp_cols.Goals as goal
use Rattle.edge.proofs.clamp_cols.Goals.{After-max-n}

greater : (c : After-max-n) → to_z w32 (of_z w32 c.max-n.result) ≡ int_max c.args.v (pos 0)
greater c = to_z-of_z {w = w32} (record { sfits = c.max-n.type_inv }) ∙ (rw (to_z-of_z c.ranges.v) at c.max-n.ensures.value)

pub returns-then-n-lo : goal.returns-then-n-lo
returns-then-n-lo c = clamped_low c.args.v _ c.args.lo c.args.hi (greater (goal.at.returns-then-n-lo c).After-max-n) c.if-n-lo.true

pub returns-else-n-lo : goal.returns-else-n-lo
returns-else-n-lo c = ap pos c.min.ensures ∙ clamped_high c.args.v _ c.args.lo c.args.hi (greater (goal.at.returns-else-n-lo c).After-max-n) c.if-n-lo.false
