-- `any`: 0 so far where the bytes passed are zero.
use Prim.Native.Nat.{◌+◌, ◌-◌}
use Rattle.judge.proofs.Unused.{zeros_none, zeros_more}
use lib.ListN.{length, get_or, take, drop, length-drop}
use lib.Seq.{length-take-le, get_or-take, get_or-drop}
use mathlib.Core.Path.{◌≡◌, ◌∙◌}
use native.Mathlib.Omega.{arith}
use Rattle.judge.proofs.form.any.Goals as goal

pub loop-byte-init : goal.loop-byte-init
loop-byte-init c = zeros_none _ _ _ (omega arith)

pub loop-byte-preserved : goal.loop-byte-preserved
loop-byte-preserved c =
    let a = c.args in
    let l = c.loop-byte in
    let n : length (take (a.to - a.from) (drop a.from a.b.now)) ≡ a.to - a.from = length-take-le (a.to - a.from) (drop a.from a.b.now) (rw (length-drop a.from a.b.now) (omega arith)) in
    let e : get_or (take (a.to - a.from) (drop a.from a.b.now)) l.byte-index 0 ≡ get_or a.b.now (a.from + l.byte-index) 0 =
    get_or-take (a.to - a.from) (drop a.from a.b.now) l.byte-index 0 (omega arith) ∙ get_or-drop a.from a.b.now l.byte-index 0 in
    let f : a.from + (l.byte-index + 1) ≡ a.from + l.byte-index + 1 = omega arith in
    rw (e, f) (zeros_more _ _ (a.from + l.byte-index) l.s (omega arith) l.invariant)

pub returns : goal.returns
returns c =
    let a = c.args in
    let l = c.loop-byte in
    let n : length (take (a.to - a.from) (drop a.from a.b.now)) ≡ a.to - a.from = length-take-le (a.to - a.from) (drop a.from a.b.now) (rw (length-drop a.from a.b.now) (omega arith)) in
    let e : a.from + l.byte-index ≡ a.to = omega arith in
    rw e at l.invariant
