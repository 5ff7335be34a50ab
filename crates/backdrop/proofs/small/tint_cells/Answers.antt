-- `tint_cells`: the cells so far.
use Prim.Native.Nat.{ℕ, ◌+◌, ◌*◌, ◌<◌}
use mathlib.Core.Path.{◌≡◌, sym, ap, ◌∙◌, subst}
use mathlib.Core.List.{List}
use native.Mathlib.Omega.{arith}
use mir.Syntax.{w32}
use mir.Val.{to_z, of_z}
use lib.ListN.{length}
use lib.IntN.{ℤ}
use Rattle.backdrop.specs.Picture.{satq}
use Rattle.backdrop.specs.Private.{tinted_cell}
use Rattle.backdrop.proofs.Whole.{in32, read_as}
use Rattle.backdrop.proofs.Tint.{satq_most, Tinting, tinting_start, tinting_more, tinting_end}
use Rattle.backdrop.proofs.small.tint_cells.Goals as goal
use Rattle.backdrop.proofs.small.tint_cells.Goals.{After-satq-sat, In-loop-i}

-- the saturation as the code reads it
read : (c : After-satq-sat) → to_z w32 (of_z w32 c.satq-sat.result) ≡ satq c.args.saturation
read c = let s = c.args.saturation in read_as c.satq-sat.ensures (in32 (satq s) (omega (arith, satq_most s)))

-- the cell lies in the slice
room : (c : In-loop-i) → 3 * c.loop-i.i + 2 < length c.loop-i.a
room c = omega (arith, c.loop-i-test.true, c.loop-i.invariant.1.long, c.requires)

pub tint_cell-requires : goal.tint_cell-requires
tint_cell-requires c = (room (goal.at.tint_cell-requires c).In-loop-i, rw (read (goal.at.tint_cell-requires c).After-satq-sat) (satq_most _))

pub loop-i-preserved : goal.loop-i-preserved
loop-i-preserved c =
    let a = c.args in
    let l = c.loop-i in
    let e = c.tint_cell.ensures ∙ ap (λ (s : ℤ). tinted_cell s a.tint l.a (3 * l.i)) (read (goal.at.loop-i-preserved c).After-satq-sat) in
    (omega (arith, c.loop-i-test.true), subst (λ (r : List ℕ). Tinting (satq a.saturation) a.tint a.a.now r (l.i + 1)) (sym e) (tinting_more l.i l.invariant.1 (room (goal.at.loop-i-preserved c).In-loop-i)))

pub returns : goal.returns
returns c =
    tinting_end c.args.saturation c.loop-i.i c.loop-i.invariant.1 (omega (arith, c.loop-i-test.false, c.requires))

pub loop-i-init : goal.loop-i-init
loop-i-init c = (omega arith, tinting_start)
