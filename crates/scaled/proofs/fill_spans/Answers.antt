-- `fill_spans`: the loop's invariant is `Rowed` at the row's colours; each turn fetches the pairs of a span and lends the span to be mixed.
use Prim.Native.Nat.{min, ℕ, ◌+◌, ◌-◌, ◌≤◌, ◌<◌}
use mathlib.Core.Path.{◌≡◌, sym, ap}
use mathlib.Core.List.{List}
use native.Mathlib.Omega.{arith}
use lib.ListN.{length, take, drop}
use Rattle.canvas.proofs.Laws.Rows.{rowed_start, rowed_end}
use Rattle.canvas.proofs.Laws.Spans.{part_long, rowed_span}
use Rattle.scaled.specs.Private.{Within, places, row_at}
use Rattle.scaled.proofs.Lines.{part_at, within_part}
use Rattle.scaled.proofs.Rows.{span_of}
use Rattle.scaled.proofs.fill_spans.Goals as goal
use Rattle.scaled.proofs.fill_spans.Goals.{After-strip_end-end}

-- the span has a column, and at most 64, of the line
span : (c : After-strip_end-end) → let l = c.loop-at in let m = c.strip_end-end.result in let a = c.args in
    (l.at < m) × (m ≤ length l.line) × (m ≤ l.at + 64) × (m ≤ length a.taps.now)
span c =
    let e = c.strip_end-end.ensures in
    let t = c.loop-at-test.true in
    let n = c.loop-at.invariant.long in
    let p = c.requires.sized in
    (omega (arith, e, t), omega (arith, e, n, p), omega (arith, e), omega (arith, e))

-- its part of the line and that of the places are as long, and these lie in the row
record Part (line taps : List ℕ) (at m k : ℕ) : Type 0 where
  wide : length (take (m - at) (drop at line)) ≡ m - at
  long : length (take (m - at) (drop at taps)) ≡ m - at
  low : Within (take (m - at) (drop at taps)) k

part : (c : After-strip_end-end) → let l = c.loop-at in let a = c.args in
    Part l.line a.taps.now l.at c.strip_end-end.result (places (length a.row.now))
part c =
    let l = c.loop-at in
    let m = c.strip_end-end.result in
    let q = span c in
    let long = part_long c.args.taps.now l.at m (omega (arith, q)) (omega (arith, q)) in
    record { wide = part_long l.line l.at m (omega (arith, q)) q.1; long = long; low = within_part l.at m c.requires.within q.3 long }

zero_min : (n : ℕ) → min 0 n ≡ 0
zero_min n = omega arith

pub loop-at-preserved : goal.loop-at-preserved
loop-at-preserved c =
    let q = span (goal.at.loop-at-preserved c).After-strip_end-end in
    let P = part (goal.at.loop-at-preserved c).After-strip_end-end in
    let m = c.strip_end-end.result in
    let l = c.loop-at in
    let a = c.args in
    let taps : List ℕ = take (m - l.at) (drop l.at a.taps.now) in
    let line : List ℕ = take (m - l.at) (drop l.at l.line) in
    let here : min l.at (length a.taps.now) ≡ l.at = omega (arith, c.loop-at-test.true) in
    rw (sym c.strip_end-end.ensures) (rowed_span _ m (rw here at l.invariant) (omega (arith, q)) q.1 (λ i p h. ap (row_at a.row.now) (sym (part_at a.taps.now l.at m i (omega arith))))
    (span_of a.row.now taps line c.fetch.ensures c.mix_line.ensures (omega (arith, P.wide, P.long)) c.requires.sized.2 P.low))

pub returns : goal.returns
returns c = rowed_end c.loop-at.invariant (omega (arith, c.loop-at-test.false, c.loop-at.invariant.long, c.requires.sized))

pub returns-2 : goal.returns-2
returns-2 c =
    let q = span (goal.at.returns-2 c).After-strip_end-end in
    let P = part (goal.at.returns-2 c).After-strip_end-end in
    let m = c.strip_end-end.result in
    let l = c.loop-at in
    let a = c.args in
    let taps : List ℕ = take (m - l.at) (drop l.at a.taps.now) in
    let line : List ℕ = take (m - l.at) (drop l.at l.line) in
    let here : min l.at (length a.taps.now) ≡ l.at = omega (arith, c.loop-at-test.true) in
    let R = rowed_span _ m (rw here at l.invariant) (omega (arith, q)) q.1 (λ i p h. ap (row_at a.row.now) (sym (part_at a.taps.now l.at m i (omega arith))))
    (span_of a.row.now taps line c.fetch.ensures c.mix_line.ensures (omega (arith, P.wide, P.long)) c.requires.sized.2 P.low) in
    rowed_end R (omega (arith, R.long, c.strip_end-end.ensures, c.requires.sized))

pub loop-at-init : goal.loop-at-init
loop-at-init c = rw (zero_min (length c.args.taps.now)) rowed_start
