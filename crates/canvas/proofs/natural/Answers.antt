-- `natural`: a side that is not below zero is its own magnitude, and fits.
use native.Mathlib.Omega.{arith}
use mir.Syntax.{w32, w64}
use mir.Val.{Fits, SFits}
use mir.Facts.{to_z-of_z}
use lib.Dec.{T}
use lib.IntN.{ℤ, pos, negsuc, nat_abs}
use lib.Signed.{non_neg}
use Rattle.geom.proofs.Sides.{sides}
use Rattle.canvas.proofs.natural.Goals as goal

fits : (z : ℤ) → T (non_neg z) → SFits w32 z → T (non_neg z) × Fits w64 (nat_abs z)
fits (pos n) t s = (t, record { fits = omega (arith, s.sfits) })
fits (negsuc n) t s = absurd t

pub overflow_cast-result : goal.overflow_cast-result
overflow_cast-result c =
    let s = sides c.args.b c.struct_told-1.given in
    rw (to_z-of_z s.x0) (fits c.args.b.x0 c.requires.x0_natural s.x0)

pub overflow_cast-result-2 : goal.overflow_cast-result-2
overflow_cast-result-2 c =
    let s = sides c.args.b c.struct_told-2-1.given in
    rw (to_z-of_z s.y0) (fits c.args.b.y0 c.requires.y0_natural s.y0)

pub overflow_cast-result-3 : goal.overflow_cast-result-3
overflow_cast-result-3 c =
    let s = sides c.args.b c.struct_told-3-1.given in
    rw (to_z-of_z s.x1) (fits c.args.b.x1 c.requires.x1_natural s.x1)

pub overflow_cast-result-4 : goal.overflow_cast-result-4
overflow_cast-result-4 c =
    let s = sides c.args.b c.struct_told-4-1.given in
    rw (to_z-of_z s.y1) (fits c.args.b.y1 c.requires.y1_natural s.y1)
