-- `put_sides`: a side fits an i32.
use Prim.Native.Nat.{ℕ, ◌≤◌}
use mathlib.Core.Path.{refl, ◌∙◌}
use native.Mathlib.Omega.{arith}
use mir.Syntax.{w32}
use mir.Val.{SFits}
use mir.Facts.{to_z-of_z}
use lib.IntN.{pos}
use Rattle.forecast.proofs.put_sides.Goals as goal

fits : (n : ℕ) → n ≤ 4096 → SFits w32 (pos n)
fits n l = record { sfits = omega arith }

pub returns : goal.returns
returns c =
    let p = c.requires in
    let a = c.args.a in
    c.copy_from_slice.ensures.after ∙ rw (to_z-of_z (fits a.x0 p.1), to_z-of_z (fits a.y0 p.2), to_z-of_z (fits a.x1 p.3), to_z-of_z (fits a.y1 p.4)) refl
