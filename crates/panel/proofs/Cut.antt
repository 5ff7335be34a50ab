-- A number of at most 510 cut at 255: where it is 256 or more, `|` with 255 fills its low byte. Two such numbers in one word.
use Prim.Native.Nat.{ℕ, zero, suc, ◌≤◌, ◌<◌, ◌+◌, ◌*◌, ◌-◌, ◌/◌, ◌%◌, min}
use mathlib.Core.Path.{◌≡◌, refl, ◌∙◌, ap₂}
use native.Mathlib.Omega.{arith}
use lib.Bits.{bit_or, bit_and, and_zero_r, or_zero_r, or_add_and, and_mask, and_block, or_block, or_lt}
use Rattle.color.specs.Color.{red, green, blue}
use Rattle.panel.specs.declared.Panel.{Panel}
use Rattle.panel.specs.Panel.{lit}

full : (x : ℕ) → bit_or x 255 ≡ x + 255 - x % 256
full x =
    let m : bit_and x 255 ≡ x % 256 = and_mask x 8 in
    let e : bit_or x 255 + bit_and x 255 ≡ x + 255 = or_add_and x 255 in
    omega (arith, m, e)

one : (x h : ℕ) → h ≡ x / 256 → x ≤ 510 → bit_or x (h * 255) % 256 ≡ min x 255
one x zero e l = let a : bit_or x (zero * 255) ≡ x = or_zero_r x in omega (arith, a, e, l)
one x (suc zero) e l = let a : bit_or x (suc zero * 255) ≡ x + 255 - x % 256 = full x in omega (arith, a, e, l)
one x (suc (suc h)) e l = omega (arith, e, l)

pub two : (a b f g : ℕ) → f ≡ a * 65536 + b → g ≡ a / 256 * 255 * 65536 + b / 256 * 255 → a ≤ 510 → b ≤ 510 →
    bit_or f g / 65536 % 256 * 65536 + bit_or f g % 256 ≡ min a 255 * 65536 + min b 255
two a b f g e k l m =
    let o : bit_or f g ≡ bit_or a (a / 256 * 255) * 65536 + bit_or b (b / 256 * 255) = ap₂ bit_or e k ∙ or_block 16 a (a / 256 * 255) b (b / 256 * 255) (omega arith) (omega arith) in
    let n : bit_or b (b / 256 * 255) < 65536 = or_lt 16 b (b / 256 * 255) (omega arith) (omega arith) in
    let p : bit_or a (a / 256 * 255) % 256 ≡ min a 255 = one a (a / 256) refl l in
    let q : bit_or b (b / 256 * 255) % 256 ≡ min b 255 = one b (b / 256) refl m in
    apart (bit_or f g) (bit_or a (a / 256 * 255)) (bit_or b (b / 256 * 255)) (min a 255) (min b 255) o n p q
  where
    apart : (w u v s t : ℕ) → w ≡ u * 65536 + v → v < 65536 → u % 256 ≡ s → v % 256 ≡ t → w / 65536 % 256 * 65536 + w % 256 ≡ s * 65536 + t
    apart w u v s t o n p q = omega arith

-- the two numbers that red and blue make with `up` added to both, and the pixel of the three
pub fields : (r b up : ℕ) → r < 256 → b < 256 → up ≤ 256 → ((r * 65536 + b + up * 65537) / 65536 ≡ r + up) × ((r * 65536 + b + up * 65537) % 65536 ≡ b + up)
fields r b up k l m = (omega arith, omega arith)

joined : (x y s t u : ℕ) → x ≡ s * 65536 + u → y ≡ t → s ≤ 255 → t ≤ 255 → u ≤ 255 → (x + y * 256 ≡ s * 65536 + t * 256 + u) × (x + y * 256 < 4294967296)
joined x y s t u a b c d e = (omega arith, omega arith)

pub whole : (r g b up x y : ℕ) → r < 256 → g < 256 → b < 256 → up < 256 →
    x ≡ min ((r * 65536 + b + up * 65537) / 65536) 255 * 65536 + min ((r * 65536 + b + up * 65537) % 65536) 255 →
    y ≡ min ((g + up) / 65536) 255 * 65536 + min ((g + up) % 65536) 255 →
    (x + y * 256 ≡ min (r + up) 255 * 65536 + min (g + up) 255 * 256 + min (b + up) 255) × (x + y * 256 < 4294967296)
whole r g b up x y k l m n e f =
    let p = fields r b up k m (omega arith) in
    let c : x ≡ min (r + up) 255 * 65536 + min (b + up) 255 = e ∙ ap₂ (λ (i j : ℕ). min i 255 * 65536 + min j 255) p.0 p.1 in
    let d : y ≡ min (g + up) 255 = alone g up y l n f in
    joined x y (min (r + up) 255) (min (g + up) 255) (min (b + up) 255) c d (low (r + up)) (low (g + up)) (low (b + up))
  where
    alone : (g up y : ℕ) → g < 256 → up < 256 → y ≡ min ((g + up) / 65536) 255 * 65536 + min ((g + up) % 65536) 255 → y ≡ min (g + up) 255
    alone g up y l n f = omega arith

    low : (n : ℕ) → min n 255 ≤ 255
    low n = omega arith

-- as the panel's brightness says it, where nothing is taken
pub lit_raised : (p : Panel) (q : ℕ) {n : ℕ} → p.down ≡ 0 → n ≡ min (red q + p.up) 255 * 65536 + min (green q + p.up) 255 * 256 + min (blue q + p.up) 255 → n ≡ lit p q
unfolding lit
lit_raised p q z e =
    let same : (v : ℕ) → v + p.up - p.down ≡ v + p.up = λ v. omega (arith, z) in
    rw (same (red q), same (green q), same (blue q)) e

-- ---- less 256: where a number is below it, `&` with 0 clears its low byte

less_one : (x h : ℕ) → h ≡ x / 256 → x ≤ 511 → bit_and x (h * 255) ≡ x - 256
less_one x zero e l = let a : bit_and x (zero * 255) ≡ 0 = and_zero_r x in omega (arith, a, e, l)
less_one x (suc zero) e l = let a : bit_and x (suc zero * 255) ≡ x % 256 = and_mask x 8 in omega (arith, a, e, l)
less_one x (suc (suc h)) e l = omega (arith, e, l)

pub less_two : (a b f g : ℕ) → f ≡ a * 65536 + b → g ≡ a / 256 * 255 * 65536 + b / 256 * 255 → a ≤ 511 → b ≤ 511 → bit_and f g ≡ (a - 256) * 65536 + (b - 256)
less_two a b f g e k l m =
    ap₂ bit_and e k ∙ and_block 16 a (a / 256 * 255) b (b / 256 * 255) (omega arith) (omega arith)
    ∙ ap₂ (λ (i j : ℕ). i * 65536 + j) (less_one a (a / 256) refl l) (less_one b (b / 256) refl m)

pub less_whole : (r g b rest x y : ℕ) → r < 256 → g < 256 → b < 256 → rest ≤ 256 →
    x ≡ ((r * 65536 + b + rest * 65537) / 65536 - 256) * 65536 + ((r * 65536 + b + rest * 65537) % 65536 - 256) →
    y ≡ ((g + rest) / 65536 - 256) * 65536 + ((g + rest) % 65536 - 256) →
    (x + y * 256 ≡ (r + rest - 256) * 65536 + (g + rest - 256) * 256 + (b + rest - 256)) × (x + y * 256 < 4294967296)
less_whole r g b rest x y k l m n e f =
    let p = fields r b rest k m n in
    let c : x ≡ (r + rest - 256) * 65536 + (b + rest - 256) = e ∙ ap₂ (λ (i j : ℕ). (i - 256) * 65536 + (j - 256)) p.0 p.1 in
    let d : y ≡ g + rest - 256 = alone g rest y l n f in
    joined x y (r + rest - 256) (g + rest - 256) (b + rest - 256) c d (low r rest k n) (low g rest l n) (low b rest m n)
  where
    alone : (g rest y : ℕ) → g < 256 → rest ≤ 256 → y ≡ ((g + rest) / 65536 - 256) * 65536 + ((g + rest) % 65536 - 256) → y ≡ g + rest - 256
    alone g rest y l n f = omega arith

    low : (v rest : ℕ) → v < 256 → rest ≤ 256 → v + rest - 256 ≤ 255
    low v rest k n = omega arith

-- where nothing is added
pub lit_lowered : (p : Panel) (q rest : ℕ) {n : ℕ} → p.up ≡ 0 → p.down < 256 → rest ≡ 256 - p.down → n ≡ (red q + rest - 256) * 65536 + (green q + rest - 256) * 256 + (blue q + rest - 256) → n ≡ lit p q
unfolding lit
lit_lowered p q rest z d er e =
    rw (one (red q) p.up p.down rest z d er (omega arith), one (green q) p.up p.down rest z d er (omega arith), one (blue q) p.up p.down rest z d er (omega arith)) e
  where
    one : (v up down rest : ℕ) → up ≡ 0 → down < 256 → rest ≡ 256 - down → v < 256 → min (v + up - down) 255 ≡ v + rest - 256
    one v up down rest z d er h = omega arith
