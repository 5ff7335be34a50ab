-- `tint_ch`: one after the other.
use Prim.Native.Nat.{◌≤◌}
use mathlib.Core.Path.{◌≡◌, ap, ◌∙◌}
use native.Mathlib.Omega.{arith}
use mir.Syntax.{w32}
use mir.Val.{to_z, of_z}
use mir.Facts.{to_z-of_z}
use lib.IntN.{nat_abs}
use Rattle.backdrop.specs.Picture.{saturated, toward, byte, tinted_byte}
use Rattle.backdrop.proofs.Whole.{in32, read_as}
use Rattle.backdrop.proofs.Tint.{saturated_most, toward_fits}
use Rattle.backdrop.proofs.small.tint_ch.Goals as goal
use Rattle.backdrop.proofs.small.tint_ch.Goals.{After-saturated, After-toward, Start}

most : (s : Start) → let a = s.args in nat_abs (saturated a.sat a.l a.c) ≤ 4200000
most s = let a = s.args in saturated_most a.c a.l a.sat s.ranges.c.fits s.ranges.l.fits s.requires

first : (c : After-saturated) → let a = c.args in to_z w32 (of_z w32 c.saturated.result) ≡ saturated a.sat a.l a.c
first c =
    read_as (rw (to_z-of_z c.ranges.sat) at c.saturated.ensures) (in32 (saturated c.args.sat c.args.l c.args.c) (omega (arith, most c.before)))

then : (c : After-toward) → let a = c.args in to_z w32 (of_z w32 c.toward.result) ≡ toward a.t a.a (saturated a.sat a.l a.c)
then c =
    let a = c.args in
    read_as (c.toward.ensures ∙ ap (toward a.t a.a) (first c.before))
    (toward_fits a.t a.a (saturated a.sat a.l a.c) c.ranges.t.fits c.ranges.a.fits (most c.before.before))

pub toward-requires : goal.toward-requires
toward-requires c = rw (first c) (most (goal.at.toward-requires c).Start)

pub returns : goal.returns
unfolding tinted_byte
returns c = c.byte.ensures ∙ ap byte (then (goal.at.returns c).After-toward)
