-- A test of every number below n: what it says of each, and one number more.
use mathlib.Core.Path.{◌≡◌, refl}
use mathlib.Core.Bool.{Bool, true, ◌&&◌}
use Prim.Native.Nat.{ℕ, zero, suc, ◌+◌, ◌<◌}
use native.Mathlib.Decide.{dec_lt}
use native.Mathlib.Numerals.{add-one}
use native.Mathlib.Omega.{arith}
use Rattle.geom.proofs.Laws.{both_true}
use Rattle.block.specs.Bytes.{every}

pub every_at : (f : ℕ → Bool) (n : ℕ) → every n f ≡ true → (o : ℕ) → o < n → f o ≡ true
unfolding every
every_at f zero e o h = absurd (omega arith)
every_at f (suc n) e o h = elim (dec_lt o n) [ yes l ↦ every_at f n (both_true (every n f) (f n) e).0 o l | no l ↦ let q : o ≡ n = omega arith in rw q (both_true (every n f) (f n) e).1 ]

pub every_more : (f : ℕ → Bool) (n : ℕ) → (every n f && f n) ≡ every (n + 1) f
unfolding every
every_more f n = rw (add-one n) refl
