-- A window reaches out of its panel wherever the blur is not below zero: no float of the sum has a minus sign.
use Prim.Native.Nat.{ℕ, zero, suc, ◌+◌, ◌-◌, ◌*◌, ◌^◌}
use mathlib.Core.Path.{◌≡◌, refl, sym, ◌∙◌, subst}
use mathlib.Core.Bool.{Bool, true, false, cond}
use mathlib.Core.List.{List}
use lib.ListN.{get_or}
use native.Mathlib.Nat.{zero-mul, mul-pos}
use native.Mathlib.Omega.{arith}
use lib.Dec.{T, ltb}
use lib.IntN.{ℤ, pos}
use lib.Ieee.{Float, nan, inf, fin, binary32, up, down, odd, units, round, low, emax, prec, sum, add, mul, lt, is_nan, to_signed, of_bits}
use lib.Ieee.Fits.{up_pos, down_pos, round_is}
use lib.Ieee.Scale.{round_same}
use borrow.Author.Tests.{lt-ltb, le-ltb}
use Rattle.mathf.specs.Real as Real
use Rattle.mathf.specs.Round.{ceil_of}
use Rattle.geom.specs.Geom.{two}
use Rattle.backdrop.specs.declared.GlassStyle.{GlassStyle}
use Rattle.backdrop.specs.Window.{three, largest, reach, margin}

-- no number, or one with a plus sign
data Plus : Float → Type 0 where
  none : Plus nan
  far : Plus (inf false)
  near : (m : ℕ) (e : ℤ) → Plus (fin false m e)

either : (t : Bool) {x y : Float} → Plus x → Plus y → Plus (cond t x y)
either true p q = p
either false p q = q

odd_plus : (d q k l : ℕ) → Plus (odd d false q k l)
unfolding odd
odd_plus d zero k l = near 0 (pos 0)
odd_plus d (suc q) k l = near _ _

units_plus : (q k : ℕ) → Plus (units binary32 false q k)
unfolding units
units_plus q k = either (ltb (q * 2 ^ k) (2 ^ (low binary32 + suc (emax binary32)))) (odd_plus (suc (prec binary32)) q k (low binary32)) far

round_plus : (a c : ℕ) → Plus (round binary32 false a c)
round_plus a c = rw (round_is binary32 false a c) (units_plus _ _)

-- a sum of such a number and one that may also be -0
data Least : Float → Type 0 where
  plus : {x : Float} → Plus x → Least x
  nought : (e : ℤ) → Least (fin true 0 e)

add_plus : {x y : Float} → Plus x → Plus y → Plus (add binary32 x y)
unfolding add sum
add_plus none q = none
add_plus far none = none
add_plus far far = far
add_plus far (near n d) = far
add_plus (near m e) none = none
add_plus (near m e) far = far
add_plus (near m e) (near n d) = round_plus (m * up e * down d + n * up d * down e) (down e * down d)

sums : (s t : Bool) (a b c : ℕ) → t ≡ false → Plus (cond s (round binary32 false a c) (round binary32 t b c))
sums true t a b c e = round_plus a c
sums false t a b c e = rw e (round_plus b c)

add_least : {x y : Float} → Least x → Plus y → Plus (add binary32 x y)
unfolding add sum
add_least (plus p) q = add_plus p q
add_least (nought e) none = none
add_least (nought e) far = far
add_least (nought e) (near n d) =
    let a = 0 * up e * down d in
    let b = n * up d * down e in
    sums (ltb a b) (ltb b a) (b - a) (a - b) (down e * down d) (le-ltb b a (omega (arith, zero-mul (up e), zero-mul (down d))))

-- twice what is not below zero
none_below : (m : ℕ) (e : ℤ) → lt (fin true (suc m) e) Real.zero ≡ false → ⊥
unfolding lt of_bits
none_below m e h = go (lt-ltb 0 (suc m * up e * 1 + 0 * 1 * down e) (omega (arith, mul-pos {m = suc m} {n = up e} (omega arith) (up_pos e))))
  where
    go : ltb 0 (suc m * up e * 1 + 0 * 1 * down e) ≡ true → ⊥
    go t = subst T (sym t ∙ h) tt

twice : (x : Float) → lt x Real.zero ≡ false → Least (mul binary32 x two)
unfolding mul lt of_bits
twice nan h = plus none
twice (inf true) h = absurd (subst T h tt)
twice (inf false) h = plus far
twice (fin false m e) h = plus (round_plus (m * up e * (1 * 2)) (down e * 1))
twice (fin true zero e) h = subst Least (sym (round_same binary32 true (0 * up e * (1 * 2)) (down e * 1) 0 1 (omega (arith, down_pos e)) (omega arith) (omega (arith, zero-mul (up e))))) (nought (pos 0))
twice (fin true (suc m) e) h = absurd (none_below m e h)

-- the table's largest entry, which starts from 0, is a number
data Over : Float → Type 0 where
  far : Over (inf false)
  near : (m : ℕ) (e : ℤ) → Over (fin false m e)

over_plus : {x : Float} → Over x → Plus x
over_plus far = far
over_plus (near m e) = near m e

one_of : (t : Bool) {x y : Float} → Over x → Over y → Over (cond t x y)
one_of true p q = p
one_of false p q = q

max_over : {a : Float} → Over a → (b : Float) → Over (Real.max a b)
unfolding Real.max lt is_nan
max_over far nan = far
max_over far (inf true) = far
max_over far (inf false) = far
max_over far (fin t n d) = far
max_over (near m e) nan = near m e
max_over (near m e) (inf true) = near m e
max_over (near m e) (inf false) = far
max_over (near m e) (fin true n d) = near m e
max_over (near m e) (fin false n d) = one_of (ltb (m * up e * down d) (n * up d * down e)) (near n d) (near m e)

zero_over : Over Real.zero
unfolding of_bits
zero_over = near 0 (pos 0)

largest_over : (table : List Float) (n : ℕ) → Over (largest table n)
unfolding largest
largest_over table zero = zero_over
largest_over table (suc n) = max_over (largest_over table n) (get_or table n nan)

reach_plus : (style : GlassStyle) (table : List Float) → Plus (reach style table)
unfolding reach
reach_plus style table = over_plus (one_of (lt Real.point_five (Real.max style.bezel Real.zero)) (largest_over table 33) zero_over)

three_plus : Plus three
unfolding of_bits
three_plus = near 3 (pos 0)

-- ---- up to a whole number
ceil_plus : {x : Float} → Plus x → Plus (ceil_of x)
unfolding ceil_of
ceil_plus none = none
ceil_plus far = far
ceil_plus (near m e) = round_plus _ _

cast_plus : {x : Float} → Plus x → (n : ℕ) × (to_signed 31 x ≡ pos n)
unfolding to_signed
cast_plus none = (_, refl)
cast_plus far = (_, refl)
cast_plus (near m e) = (_, refl)

pub margin_out : (style : GlassStyle) (table : List Float) → lt style.blur Real.zero ≡ false → (n : ℕ) × (margin style table ≡ pos n)
unfolding margin
margin_out style table h = cast_plus (ceil_plus (add_plus (add_least (twice style.blur h) (reach_plus style table)) three_plus))
