-- `shr8`: a shift does not grow.
use native.Mathlib.Omega.{arith}
use mir.Syntax.{w32}
use mir.Val.{SFits}
use mir.Facts.{to_z-of_z}
use lib.Signed.{shr_z, mag_shr}
use Rattle.backdrop.proofs.small.shr8.Goals as goal

pub returns : goal.returns
returns c =
    let z = c.args.z in
    let f : SFits w32 (shr_z z 256) = record { sfits = omega (arith, mag_shr z 256, c.ranges.z.sfits) } in
    rw (to_z-of_z c.ranges.z) (to_z-of_z f)
