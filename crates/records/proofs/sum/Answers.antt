-- A byte is at most 255, and the place below 2048.
use Rattle.std.proofs.Common.{◌≡◌, ℕ, List, get_or, sym, ◌+◌, ◌*◌, ◌<◌, ◌≤◌, mul-le-mul_right, ap, ◌∙◌, add-one, arith, length, take, length-take}
use Rattle.std.proofs.lemmas.List.{get_or-take}
use Rattle.block.specs.Bytes.{weighed}
use Rattle.records.specs.Record.{sum}
use Rattle.records.proofs.sum.Goals as goal

small : (i b : ℕ) → i < 2048 → b ≤ 255 → (i + 1) * b ≤ 522240
small i b h s = let l : (i + 1) * b ≤ 2048 * b = mul-le-mul_right b (omega arith) in omega arith

pub loop-i-init : goal.loop-i-init
unfolding weighed
loop-i-init c = (omega arith, omega arith)

-- a byte of the part that is summed
next : (b : List ℕ) (m i v s : ℕ) → s ≡ weighed b i → i < length (take m b) → v ≡ get_or (take m b) i 0 → s + (i + 1) * v ≡ weighed b (i + 1)
unfolding weighed
next b m i v s e h f =
    let h : i < m = omega (arith, length-take {A = ℕ} m b) in
    rw (e, f, get_or-take m b i 0 h) (sym (ap (weighed b) (add-one i)))

pub loop-i-preserved : goal.loop-i-preserved
loop-i-preserved c =
    let l = c.loop-i in
    let n : c.min.result ≤ 2048 = omega arith in
    let w : (l.i + 1) * c.from.result ≤ 522240 = small l.i c.from.result (omega (arith, length-take {A = ℕ})) (omega arith) in
    (next _ _ l.i _ _ l.invariant.0 (omega arith) c.from.ensures, omega (arith, l.invariant.1, w))

pub returns : goal.returns
unfolding sum
returns c = c.loop-i.invariant.0 ∙ ap (weighed c.args.b.now) (omega (arith, length-take {A = ℕ}))
