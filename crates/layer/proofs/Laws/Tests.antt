-- What the tests have found out about a block that they accept, as far as the painters' laws ask for it.
use Prim.Native.Nat.{ℕ, ◌+◌, ◌*◌, ◌≤◌}
use mathlib.Core.Path.{◌≡◌, refl, sym, subst}
use mathlib.Core.Bool.{Bool, true, false, cond, ◌&&◌}
use mathlib.Core.List.{List}
use native.Mathlib.Omega.{arith}
use lib.Dec.{T, leb, eqb}
use lib.IntN.{ℤ, pos, negsuc, nat_abs}
use lib.Signed.{le_z}
use lib.Ieee.{Float, nan, inf, fin, up, down, of_bits, lt, le, eq}
use borrow.Author.Tests.{le-ltb, leb-true, eqb-true}
use Rattle.mathf.specs.Real as Real
use Rattle.block.specs.Fields as Fields
use Rattle.block.specs.Ranges as Ranges
use Rattle.geom.proofs.Laws.{both_true}

-- ---- glass: the blur is not below zero

pub not_below : (v : Float) → le Real.zero v ≡ true → lt v Real.zero ≡ false
unfolding le lt eq of_bits
not_below nan e = refl
not_below (inf true) e = absurd (subst T (sym e) tt)
not_below (inf false) e = refl
not_below (fin false m x) e = le-ltb (m * up x * 1) (0 * 1 * down x) (omega arith)
not_below (fin true m x) e =
    let s = both_true (eqb (0 * 1 * down x) (m * up x * 1)) (eqb (0 * 1 * down x) 0) e in
    let z : m * up x * 1 ≡ 0 * 1 * down x = sym (eqb-true (0 * 1 * down x) (m * up x * 1) s.0) in
    le-ltb 0 (m * up x * 1 + 0 * 1 * down x) (omega arith)

either : (t x y : Bool) → cond t (x && y) x ≡ true → x ≡ true
either true x y e = (both_true x y e).0
either false x y e = e

pub blur_up : (b : List ℕ) → Fields.kind b ≡ 4 → Ranges.floats_in b ≡ true → lt (Fields.blur b) Real.zero ≡ false
unfolding Ranges.floats_in Ranges.glass_floats Ranges.glass_scalars Ranges.within
blur_up b k e =
    let g = rw k at e in
    let s = either (lt Real.point_five (Fields.bezel b)) _ _ g in
    let p = (both_true _ (Ranges.within Real.zero Real.one (Fields.spec b)) s).0 in
    let q = (both_true _ (Ranges.within Real.zero Ranges.f256 (Fields.bezel b)) p).0 in
    let r = (both_true _ (Ranges.within Real.zero Ranges.f8 (Fields.saturation b) && Ranges.within Ranges.minus1 Real.one (Fields.brightness b)) q).0 in
    let t = (both_true (Ranges.rect_in b && Ranges.radius_in b) (Ranges.within Real.zero Ranges.f64 (Fields.blur b)) r).1 in
    not_below (Fields.blur b) (both_true (le Real.zero (Fields.blur b)) (le (Fields.blur b) Ranges.f64) t).0

-- ---- a straight copy: its place is near enough

pub near : (z : ℤ) → Ranges.coordinate z ≡ true → nat_abs z ≤ 16384
unfolding Ranges.between
near (pos n) e = let s = both_true (le_z (negsuc 16383) (pos n)) (le_z (pos n) (pos 16384)) e in leb-true n 16384 s.1
near (negsuc n) e = let s = both_true (le_z (negsuc 16383) (negsuc n)) (le_z (negsuc n) (pos 16384)) e in let h : n ≤ 16383 = leb-true n 16383 s.0 in omega arith

pub places : (b : List ℕ) → Fields.kind b ≡ 5 → Ranges.integers_in b ≡ true → (nat_abs (Fields.x b) ≤ 16384) × (nat_abs (Fields.y b) ≤ 16384)
unfolding Ranges.integers_in Ranges.straight_integers
places b k e =
    let g = rw k at e in
    let s = (both_true (Ranges.clip_in b) _ g).1 in
    let p = (both_true _ (leb (Fields.dim b) 255) s).0 in
    let q = (both_true (Ranges.coordinate (Fields.x b) && Ranges.coordinate (Fields.y b)) (leb (Fields.alpha b) 255) p).0 in
    let r = both_true (Ranges.coordinate (Fields.x b)) (Ranges.coordinate (Fields.y b)) q in
    (near (Fields.x b) r.0, near (Fields.y b) r.1)
