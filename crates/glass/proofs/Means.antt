-- Weighted means of bytes.
use Prim.Native.Nat.{ℕ, ◌+◌, ◌-◌, ◌*◌, ◌≤◌, ◌<◌}
use mathlib.Core.Path.{◌≡◌}
use native.Mathlib.Nat.{mul-le-mul_right, mul-add}
use native.Mathlib.Omega.{arith}
use Rattle.glass.specs.General.{blend}

-- a mean lies no higher than both
pub mean_most : (m t a b : ℕ) → t ≤ 256 → a ≤ m → b ≤ m → blend t a b ≤ m * 256
mean_most m t a b h f g =
    let first : a * (256 - t) ≤ m * (256 - t) = mul-le-mul_right (256 - t) f in
    let second : b * t ≤ m * t = mul-le-mul_right t g in
    let all : 256 - t + t ≡ 256 = omega arith in
    let both = rw all at (mul-add m (256 - t) t) in
    omega arith

-- of two bytes, and of two such means
pub of_bytes : (t a b : ℕ) → t ≤ 256 → a < 256 → b < 256 → blend t a b ≤ 65280
of_bytes t a b h f g = omega (arith, mean_most 255 t a b h (omega arith) (omega arith))

pub of_means : (t a b : ℕ) → (t ≤ 256) × (a ≤ 65280) × (b ≤ 65280) → blend t a b ≤ 16711680
of_means t a b h = omega (arith, mean_most 65280 t a b h.0 h.1 h.2)
