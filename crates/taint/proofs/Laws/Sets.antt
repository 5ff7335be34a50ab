-- Sets of pixels, as Bools.
use mathlib.Core.Path.{◌≡◌, refl, subst, sym}
use mathlib.Core.Logic.{⊎_elim}
use mathlib.Core.Bool.{Bool, true, false, ◌&&◌, ◌||◌}
use Prim.Native.Nat.{ℕ, zero, suc, ◌<◌}
use native.Mathlib.Nat.{not-suc-le-zero, eq-or-lt_of_le, le_of_suc-le-suc}
use Rattle.taint.specs.Stain.{nonempty}

pub or_left : (a b : Bool) → (a || b) ≡ false → a ≡ false
or_left true b e = e
or_left false b e = refl

pub or_right : (a b : Bool) → (a || b) ≡ false → b ≡ false
or_right true true e = e
or_right true false e = refl
or_right false b e = e

pub and_rest : (a b : Bool) → (a && b) ≡ false → a ≡ true → b ≡ false
and_rest true b e h = e
and_rest false true e h = sym h
and_rest false false e h = refl

pub and_true : (a b : Bool) → a ≡ true → b ≡ true → (a && b) ≡ true
and_true true b h k = k
and_true false b h k = h

pub none_in : (n : ℕ) (f : ℕ → Bool) → nonempty n f ≡ false → (j : ℕ) → j < n → f j ≡ false
unfolding nonempty
none_in zero f e j h = absurd (not-suc-le-zero h)
none_in (suc n) f e j h =
    ⊎_elim (λ (q : j ≡ n). subst (λ (i : ℕ). f i ≡ false) (sym q) (or_left (f n) (nonempty n f) e)) (λ lt. none_in n f (or_right (f n) (nonempty n f) e) j lt)
    (eq-or-lt_of_le (le_of_suc-le-suc h))
