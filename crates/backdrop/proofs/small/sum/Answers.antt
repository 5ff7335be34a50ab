-- `sum`: one more pixel; the sums are small.
use Prim.Native.Nat.{ℕ, ◌+◌}
use mathlib.Core.Path.{ap, ◌∙◌, refl}
use native.Mathlib.Omega.{arith}
use lib.ListN.{get_or}
use Rattle.backdrop.specs.Picture.{channel}
use Rattle.backdrop.specs.Private.{rgb}
use Rattle.backdrop.proofs.Bytes.{along_none, along_more, within_along, within_byte}
use Rattle.backdrop.proofs.small.sum.Goals as goal

pub loop-i-init : goal.loop-i-init
loop-i-init g c = let a = c.args in along_none a.px.now a.at a.m a.x refl

pub add-next-requires : goal.add-next-requires
add-next-requires g c =
    let a = c.args in
    let l = c.loop-i in
    (within_along a.px.now a.at a.m a.x l.i 4080 (omega (arith, c.loop-i-test.true, c.requires.2)) l.invariant, within_byte _ 4080 (omega arith) c.channels.ensures)

pub loop-i-preserved : goal.loop-i-preserved
loop-i-preserved g c =
    let a = c.args in
    let l = c.loop-i in
    along_more a.px.now a.at a.m a.x l.i l.invariant
    (c.channels.ensures ∙ ap (λ (n : ℕ). rgb (λ ch. channel ch (get_or a.px.now (a.at + n) 0))) c.min.ensures)
    c.add-next.ensures
