-- One pixel more of the canvas before, and a word as a float.
use Rattle.std.proofs.Common.{◌≡◌, ℕ, ◌+◌, ◌%◌, ◌^◌, List, Bool, cond, refl, add-zero, add-suc}
use lib.Ieee.{Float, binary32, of_bits, is_nan}
use lib.Ieee.Bits.{nan_bits_is}
use Rattle.mathf.specs.Real as Real
use Rattle.records.specs.Record.{word, pixel, real}

pub pixel_next : (first step i : ℕ) → pixel first step (i + 1) ≡ (pixel first step i + step) % 2 ^ 32
unfolding pixel
pixel_next first step i = rw (add-suc, add-zero) refl

pub real_is : (rec : List ℕ) (i w : ℕ) (x : Float) (b : Bool) → w ≡ word rec i → x ≡ of_bits binary32 w → b ≡ is_nan x → cond b Real.zero x ≡ real rec i
unfolding real
real_is rec i w x b e f h = rw (h, f, e, nan_bits_is binary32 (word rec i)) refl
