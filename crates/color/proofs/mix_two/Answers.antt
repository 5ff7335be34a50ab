-- `color::mix_two` meets its contract: the wrapped sum is that of both products, which stay within their lanes.
use Rattle.std.proofs.Common.{◌≡◌, ℕ, ◌+◌, ◌-◌, ◌*◌, ◌%◌, ◌^◌, ◌<◌, ◌≤◌, sym, ap, ◌∙◌, mul-add, arith}
use Rattle.color.specs.Color.{red, blue, mix_ch}
use Rattle.color.proofs.Lanes.{Word, word, Split, split}
use Rattle.color.proofs.mix_two.Goals as goal
use Rattle.color.proofs.mix_two.Goals.{Start}

-- t and 256 - t times a number make 256 of it
whole : (c t : ℕ) → t ≤ 256 → c * t + c * (256 - t) ≡ c * 256
whole c t h = let e : t + (256 - t) ≡ 256 = omega arith in sym (mul-add c t (256 - t)) ∙ ap (λ (n : ℕ). c * n) e

-- q - p, wrapped, and p + r more, wrapped
wrapped : (p q r s : ℕ) → p + r ≡ s → p < 2 ^ 32 → r + q < 2 ^ 32 → (s + (q + (2 ^ 32 - p)) % 2 ^ 32) % 2 ^ 32 ≡ r + q
wrapped p q r s f g h = omega arith

facts : (c : Start) → let x = c.args in Word 256 (red x.b) (blue x.b) (red x.a) (blue x.a) x.t
facts c =
    let x = c.args in
    word 256 (red x.b) (blue x.b) (red x.a) (blue x.a) x.t (omega arith) (omega arith) (omega arith) (omega arith) c.requires

all : (c : Start) → let x = c.args in let w = red x.a * 65536 + blue x.a in w * x.t + w * (256 - x.t) ≡ w * 256
all c = let x = c.args in whole (red x.a * 65536 + blue x.a) x.t c.requires

parts : (c : Start) → let x = c.args in let u = 256 - x.t in
    Split ((red x.a * 65536 + blue x.a) * u + (red x.b * 65536 + blue x.b) * x.t)
    (red x.a * u + red x.b * x.t)
    (blue x.a * u + blue x.b * x.t)
parts c = split _ _ _ (omega (arith, facts c)) (omega (arith, facts c)) (omega (arith, facts c))

sum : (c : Start) → let x = c.args in let v = red x.a * 65536 + blue x.a in let w = red x.b * 65536 + blue x.b in
    (v * 256 + (w * x.t + (2 ^ 32 - v * x.t)) % 2 ^ 32) % 2 ^ 32 ≡ v * (256 - x.t) + w * x.t
sum c = wrapped _ _ _ _ (all c) (omega (arith, all c)) (omega (arith, facts c))

pub returns : goal.returns
unfolding mix_ch
returns c = let s = parts (goal.at.returns c).Start in rw (sum (goal.at.returns c).Start, s.top, s.low)

pub overflow_mul-more : goal.overflow_mul-more
overflow_mul-more c = omega (arith, facts c)

pub overflow_mul-more-2 : goal.overflow_mul-more-2
overflow_mul-more-2 c = omega (arith, all c)
