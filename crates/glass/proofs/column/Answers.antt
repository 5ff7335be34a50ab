-- `column`: both cells lie in the picture.
use Prim.Native.Nat.{ℕ, ◌+◌, ◌*◌, ◌/◌, ◌%◌, ◌≤◌}
use mathlib.Core.Path.{◌≡◌, ap, ◌∙◌}
use native.Mathlib.Omega.{arith}
use lib.ListN.{length}
use Rattle.color.specs.Color.{mix_pix}
use Rattle.glass.specs.Places.{cell_at, pix_at}
use Rattle.glass.specs.Flat as Flat
use Rattle.glass.proofs.Sizes.{cell_in}
use Rattle.glass.proofs.column.Goals as goal
use Rattle.glass.proofs.column.Goals.{Start}

room : (s : Start) → let a = s.args in cell_at a.view.p.lw a.x (a.fy / 256 + 1) + 3 ≤ length a.view.lo.now
room s = let a = s.args in cell_in s.args.view.sized a.x (a.fy / 256 + 1) s.requires.1 s.requires.0

pub returns : goal.returns
unfolding Flat.column
returns c =
    let a = c.args in
    let y = a.fy / 256 in
    let below : cell_at a.view.p.lw a.x y + a.view.p.lw * 3 ≡ cell_at a.view.p.lw a.x (y + 1) = omega arith in
    c.down.ensures ∙ ap (λ (o : ℕ). mix_pix (pix_at a.view.lo.now (cell_at a.view.p.lw a.x y)) (pix_at a.view.lo.now o) (a.fy % 256)) below

pub overflow_mul-fy : goal.overflow_mul-fy
overflow_mul-fy c = omega (arith, room (goal.at.overflow_mul-fy c).Start)

pub overflow_add-fy : goal.overflow_add-fy
overflow_add-fy c = omega (arith, room (goal.at.overflow_add-fy c).Start)

pub overflow_mul-fy-2 : goal.overflow_mul-fy-2
overflow_mul-fy-2 c = omega (arith, room (goal.at.overflow_mul-fy-2 c).Start)

pub down-requires : goal.down-requires
down-requires c = omega (arith, room (goal.at.down-requires c).Start)
