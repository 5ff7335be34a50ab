-- A new block with its check: it passes where its 508 bytes do, and a block that passes is its first 508 bytes with their check.
use Rattle.std.proofs.Common.{Ok, Err}
use mathlib.Core.Path.{◌≡◌, refl, sym, ap, ◌∙◌}
use mathlib.Core.Bool.{Bool, true, false, cond}
use mathlib.Core.List.{List, ◌∷◌, ◌++◌}
use Prim.Native.Nat.{ℕ, ◌+◌, ◌*◌, ◌/◌, ◌%◌, ◌<◌}
use native.Mathlib.Nat.{div-add-mod', div-div-eq-div-mul}
use native.Mathlib.Omega.{arith}
use borrow.Author.Tests.{eq-eqb, eqb-true}
use lib.ListN.{length, get_or, take, drop, length-append, take-append-drop, drop_of_length-le, get_or-append}
use lib.Seq.{length-take-le, get_or-append-add, get_or-take, drop-cons}
use Rattle.answer.specs.declared.Cause.TheVariants.{Check}
use Rattle.block.specs.Bytes.{byte, u32, weighed, check_right}
use Rattle.block.specs.Fields.{priority}
use Rattle.block.specs.Verdict.{shape, verdict}
use Rattle.judge.proofs.Laws.Same.{priority_same, shape_same, weighed_same, weighed_below}
use Rattle.rundown.specs.Kept.{bytes_of, sealed}

-- four bytes are their number
joined : (w x y z a b c d : ℕ) → w ≡ x * 256 + a → x ≡ y * 256 + b → y ≡ z * 256 + c → z ≡ d → a + b * 0x100 + c * 0x1_0000 + d * 0x100_0000 ≡ w
joined w x y z a b c d e f g h = omega arith

pub byte_by_byte : (w : ℕ) → w < 0x1_0000_0000 → w % 256 + w / 0x100 % 256 * 0x100 + w / 0x1_0000 % 256 * 0x1_0000 + w / 0x100_0000 % 256 * 0x100_0000 ≡ w
byte_by_byte w h =
    let a : w / 0x100 / 256 * 256 + w / 0x100 % 256 ≡ w / 0x100 = div-add-mod' (w / 0x100) 256 in
    let b : w / 0x1_0000 / 256 * 256 + w / 0x1_0000 % 256 ≡ w / 0x1_0000 = div-add-mod' (w / 0x1_0000) 256 in
    let d : w / 0x100_0000 ≡ w / 0x100_0000 % 256 = omega arith in
    joined w (w / 0x100) (w / 0x1_0000) (w / 0x100_0000) _ _ _ _ (omega arith)
    (rw (div-div-eq-div-mul w 0x100 256) at (sym a)) (rw (div-div-eq-div-mul w 0x1_0000 256) at (sym b)) d

-- and a number of four bytes has them
digits : (a b c d : ℕ) → a < 256 → b < 256 → c < 256 → d < 256 → let n = a + b * 0x100 + c * 0x1_0000 + d * 0x100_0000 in
    (n % 256 ≡ a) × (n / 0x100 % 256 ≡ b) × (n / 0x1_0000 % 256 ≡ c) × (n / 0x100_0000 % 256 ≡ d)
digits a b c d ha hb hc hd =
    let n = a + b * 0x100 + c * 0x1_0000 + d * 0x100_0000 in
    let n₁ : n / 0x100 ≡ b + c * 0x100 + d * 0x1_0000 = omega arith in
    let n₂ : n / 0x1_0000 ≡ c + d * 0x100 = omega arith in
    let n₃ : n / 0x100_0000 ≡ d = omega arith in
    (omega arith, rw n₁ (omega arith), rw n₂ (omega arith), rw n₃ (omega arith))

-- a new block with its check
module _ (new : List ℕ) (long : length new ≡ 508) where
  body : (o : ℕ) → o < 508 → byte (sealed new) o ≡ byte new o
  unfolding sealed
  body o h = get_or-append new (bytes_of (weighed new 508)) 0 o (omega (arith, long))

  tail : (k : ℕ) → byte (sealed new) (508 + k) ≡ get_or (bytes_of (weighed new 508)) k 0
  unfolding sealed
  tail k = let e : 508 + k ≡ length new + k = omega (arith, long) in ap (λ (o : ℕ). get_or (sealed new) o 0) e ∙ get_or-append-add new (bytes_of (weighed new 508)) k 0

  pub sealed_priority : priority (sealed new) ≡ priority new
  sealed_priority = priority_same (sealed new) new body

  check_read : ((o : ℕ) → byte new o < 256) → u32 (sealed new) 508 ≡ weighed new 508
  unfolding u32 bytes_of
  check_read small =
      let w = weighed new 508 in
      let l : w < 0x1_0000_0000 = omega (arith, weighed_below new small 508 (omega arith)) in
      rw (tail 0, tail 1, tail 2, tail 3) (byte_by_byte w l)

  check_passes : ((o : ℕ) → byte new o < 256) → check_right (sealed new) ≡ true
  unfolding check_right
  check_passes small = eq-eqb _ _ (check_read small ∙ sym (weighed_same (sealed new) new body 508 (omega arith)))

  pub sealed_passes : ((o : ℕ) → byte new o < 256) → shape new ≡ Ok tt → verdict (sealed new) ≡ Ok tt
  unfolding verdict
  sealed_passes small ok = rw (check_passes small) (shape_same (sealed new) new body ∙ ok)

pub sealed_long : (new : List ℕ) → length new ≡ 508 → length (sealed new) ≡ 512
unfolding sealed bytes_of
sealed_long new l = omega (arith, length-append new (bytes_of (weighed new 508)), l)

-- a block that passes 4 to 7 and 15
module _ (b : List ℕ) (long : length b ≡ 512) (small : (o : ℕ) → byte b o < 256) (ok : verdict b ≡ Ok tt) where
  both : (check_right b ≡ true) × (shape b ≡ Ok tt)
  unfolding verdict
  both = go (check_right b) ok
    where
      go : (t : Bool) → cond t (shape b) (Err Check) ≡ Ok tt → (t ≡ true) × (shape b ≡ Ok tt)
      go true e = (refl, e)
      go false e = let z : ◌≡◌ {A = ℕ} 0 1 = cc in absurd (omega arith)

  body_same : (o : ℕ) → o < 508 → byte (take 508 b) o ≡ byte b o
  body_same o h = get_or-take 508 b o 0 h

  pub body_long : length (take 508 b) ≡ 508
  body_long = length-take-le 508 b (omega (arith, long))

  pub body_passes : shape (take 508 b) ≡ Ok tt
  body_passes = shape_same (take 508 b) b body_same ∙ both.1

  pub body_priority : priority (take 508 b) ≡ priority b
  body_priority = priority_same (take 508 b) b body_same

  check_is : weighed (take 508 b) 508 ≡ u32 b 508
  unfolding check_right
  check_is = weighed_same (take 508 b) b body_same 508 (omega arith) ∙ sym (eqb-true _ _ both.0)

  end_is : bytes_of (u32 b 508) ≡ drop 508 b
  unfolding bytes_of u32
  end_is =
      let e₀ = digits (byte b 508) (byte b 509) (byte b 510) (byte b 511) (small 508) (small 509) (small 510) (small 511) in
      rw (e₀.0, e₀.1, e₀.2, e₀.3)
      (sym (drop-cons b 508 0 (omega (arith, long)) ∙ ap (λ (l : List ℕ). byte b 508 ∷ l)
      (drop-cons b 509 0 (omega (arith, long)) ∙ ap (λ (l : List ℕ). byte b 509 ∷ l)
      (drop-cons b 510 0 (omega (arith, long)) ∙ ap (λ (l : List ℕ). byte b 510 ∷ l)
      (drop-cons b 511 0 (omega (arith, long)) ∙ ap (λ (l : List ℕ). byte b 511 ∷ l) (drop_of_length-le b {i = 512} (omega (arith, long))))))))

  -- its first 508 bytes, with their check, are the block
  pub sealed_again : sealed (take 508 b) ≡ b
  unfolding sealed
  sealed_again = ap (λ (n : ℕ). take 508 b ++ bytes_of n) check_is ∙ ap (λ (l : List ℕ). take 508 b ++ l) end_is ∙ take-append-drop 508 b
