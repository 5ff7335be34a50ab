-- Whole numbers as the code keeps them: the sizes of sums, differences, products and shifts, and what 32 and 64 bits hold.
use Prim.Native.Nat.{zero, suc, ◌+◌, ◌*◌, ◌≤◌, ◌<◌}
use mathlib.Core.Path.{◌≡◌, refl}
use native.Mathlib.Omega.{arith}
use lib.IntN.{ℤ, pos, negsuc, neg_ℤ, nat_abs, ◌+ℤ◌, ◌-ℤ◌, ◌*ℤ◌}
use lib.Signed.{mag, shr_z}
use mir.Syntax.{w32}
use mir.Val.{SFits, to_z, of_z}
use mir.Facts.{to_z-of_z}
use Rattle.mathf.proofs.Laws.Corner.{add_size}

-- ---- sizes

mag_least : (z : ℤ) → mag z ≤ nat_abs z
mag_least (pos n) = omega arith
mag_least (negsuc n) = omega arith

abs_neg : (z : ℤ) → nat_abs (neg_ℤ z) ≡ nat_abs z
abs_neg (pos zero) = refl
abs_neg (pos (suc n)) = refl
abs_neg (negsuc n) = refl

pub abs_add : (a b : ℤ) → nat_abs (a +ℤ b) ≤ nat_abs a + nat_abs b
abs_add a b = add_size a b (nat_abs a + nat_abs b) (omega arith)

pub abs_sub : (a b : ℤ) → nat_abs (a -ℤ b) ≤ nat_abs a + nat_abs b
abs_sub a b = omega (arith, abs_add a (neg_ℤ b), abs_neg b)

pub abs_mul : (a b : ℤ) → nat_abs (a *ℤ b) ≡ nat_abs a * nat_abs b
abs_mul (pos m) (pos n) = refl
abs_mul (pos m) (negsuc n) = abs_neg (pos (m * suc n))
abs_mul (negsuc m) (pos n) = abs_neg (pos (suc m * n))
abs_mul (negsuc m) (negsuc n) = refl

pub abs_shr : (z : ℤ) → nat_abs (shr_z z 256) ≤ nat_abs z
abs_shr (pos n) = omega arith
abs_shr (negsuc n) = omega arith

pub in32 : (z : ℤ) → nat_abs z < 2147483648 → SFits w32 z
in32 z h = record { sfits = omega (arith, mag_least z) }

-- what the code reads of a number that is z
pub read_as : {r z : ℤ} → r ≡ z → SFits w32 z → to_z w32 (of_z w32 r) ≡ z
read_as e f = rw e (to_z-of_z f)
