-- `cells`: a quotient rounded up, by its whole part and its rest.
use Prim.Native.Nat.{ℕ, zero, suc, ◌+◌, ◌-◌, ◌*◌, ◌/◌, ◌%◌, ◌<◌, min}
use mathlib.Core.Path.{◌≡◌, sym, ap, ◌∙◌}
use native.Mathlib.Nat.{div-add-mod', mod-lt, suc-mul, div-zero}
use native.Mathlib.Omega.{arith}
use lib.Arith.{digits_div}
use Rattle.backdrop.specs.Window.{cells}
use Rattle.backdrop.proofs.cells.Goals as goal

rounded : (q r k : ℕ) → r < k → q + min 1 r ≡ (q * k + r + k - 1) / k
rounded q zero k h =
    let e : q * k + 0 + k - 1 ≡ q * k + (k - 1) = omega arith in
    let l : k - 1 < k = omega arith in
    let z : q + min 1 0 ≡ q = omega arith in
    z ∙ sym (ap (λ (n : ℕ). n / k) e ∙ digits_div q l)
rounded q (suc r) k h =
    let e : q * k + suc r + k - 1 ≡ suc q * k + r = omega (arith, suc-mul q k) in
    let l : r < k = omega arith in
    let z : q + min 1 (suc r) ≡ suc q = omega arith in
    z ∙ sym (ap (λ (n : ℕ). n / k) e ∙ digits_div (suc q) l)

pub returns-then-k-eq0 : goal.returns-then-k-eq0
unfolding cells
returns-then-k-eq0 c = rw c.if-k-eq0.true (sym (div-zero _))

pub returns : goal.returns
unfolding cells
returns c =
    let a = c.args in
    let k : 0 < a.k = omega (arith, c.if-k-eq0.false) in
    c.div_ceil.ensures
    ∙ rounded (a.n / a.k) (a.n % a.k) a.k (mod-lt a.n k)
    ∙ ap (λ (n : ℕ). (n + a.k - 1) / a.k) (div-add-mod' a.n a.k)
