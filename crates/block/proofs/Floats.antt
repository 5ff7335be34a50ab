-- A table of floats, read entry by entry from a block's bytes.
use Prim.Native.Nat.{ℕ, zero, suc, ◌+◌, ◌*◌, ◌<◌}
use mathlib.Core.Path.{◌≡◌, refl, sym, ap, ◌∙◌}
use mathlib.Core.List.{List}
use native.Mathlib.Omega.{arith}
use lib.Ieee.{Float, nan}
use lib.ListN.{length, get_or}
use lib.Seq.{ext_get_or}
use Rattle.block.specs.Bytes.{f32}
use Rattle.block.specs.Fields.{floats}

length_floats : (b : List ℕ) (o n : ℕ) → length (floats b o n) ≡ n
unfolding floats
length_floats b o zero = refl
length_floats b o (suc n) = ap suc (length_floats b (o + 4) n)

floats_at : (b : List ℕ) (o n k : ℕ) → k < n → get_or (floats b o n) k nan ≡ f32 b (o + 4 * k)
unfolding floats
floats_at b o zero k h = absurd (omega arith)
floats_at b o (suc n) zero h = let e : o ≡ o + 4 * 0 = omega arith in ap (f32 b) e
floats_at b o (suc n) (suc k) h = let e : o + 4 + 4 * k ≡ o + 4 * suc k = omega arith in floats_at b (o + 4) n k (omega arith) ∙ ap (f32 b) e

-- a list of n floats that are read so
pub all_floats : (b : List ℕ) (o : ℕ) (t : List Float) (n : ℕ) → length t ≡ n → ((k : ℕ) → k < n → get_or t k nan ≡ f32 b (o + 4 * k)) → t ≡ floats b o n
all_floats b o t n l is = ext_get_or nan t (floats b o n) (l ∙ sym (length_floats b o n)) (λ k h. let m : k < n = omega (arith, l) in is k m ∙ sym (floats_at b o n k m))
