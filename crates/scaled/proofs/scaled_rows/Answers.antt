-- `scaled_rows`: each turn lends one row of the box, between the rows of the source that the two lines hold.
use Prim.Native.Nat.{ℕ, ◌+◌, ◌*◌, ◌-◌, ◌≤◌, ◌<◌}
use native.Mathlib.Omega.{arith}
use lib.ListN.{length, replicate, length-replicate}
use lib.Seq.{length-take-le}
use Rattle.std.proofs.Common.{rules}
use Rattle.canvas.proofs.Laws.Canvas.{row_in}
use Rattle.canvas.proofs.Laws.Spans.{part_long}
use Rattle.canvas.proofs.Laws.Box.{box_start, box_room, box_row, box_end}
use Rattle.sources.proofs.Laws.{IsSource, source_is}
use Rattle.scaled.specs.Private.{row_of, partial}
use Rattle.scaled.proofs.Rows.{tap_in, taps_long, tap_at, taps_in, row_of_in, line_pix, clear_to}
use Rattle.scaled.proofs.scaled_rows.Goals as goal
use Rattle.scaled.proofs.scaled_rows.Goals.{After-tap-f, In-loop-y, Start}

-- the columns
cols : (s : Start) → let a = s.args.area in (a.x0 + (a.x1 - a.x0) ≤ 4096) × (a.x1 - a.x0 ≤ 2048)
cols s = let p = s.requires in (omega (arith, p.canvas.1, p.inside.0, p.inside.1), omega (arith, p.inside.4))

-- they have room in a line
fits : (s : Start) → let a = s.args.area in a.x1 - a.x0 ≤ length (replicate {A = ℕ} 2048 0)
fits s = omega (arith, (cols s).1, length-replicate {A = ℕ} 2048 0)

source : (s : Start) → IsSource s.args.image.sides (length s.args.image.px.now)
source s = source_is s.args.image.sides (length s.args.image.px.now) s.args.image.whole

pub find_taps-requires : goal.find_taps-requires
find_taps-requires c =
    let s = (goal.at.find_taps-requires c).Start in
    (omega (arith, (cols s).0, length-take-le (c.args.area.x1 - c.args.area.x0) (replicate {A = ℕ} 2048 0) (fits s)), (source s).wide, (source s).narrow)

pub take-requires-clause-sized : goal.take-requires-clause-sized
take-requires-clause-sized c =
    let s = (goal.at.take-requires-clause-sized c).Start in
    let a = c.args in
    (omega (arith, (source s).tall), omega (arith, taps_long a.k.dest a.image.sides.w a.area.x0 _ _ (fits s) c.find_taps.ensures, (cols s).1))

pub take-requires-clause-places : goal.take-requires-clause-places
take-requires-clause-places c =
    let a = c.args in taps_in a.k.dest a.image.sides.w a.area.x0 _ _ (fits (goal.at.take-requires-clause-places c).Start) c.find_taps.ensures

pub take-requires-2-clause-sized : goal.take-requires-2-clause-sized
take-requires-2-clause-sized c =
    let s = (goal.at.take-requires-2-clause-sized c).Start in
    let a = c.args in
    (omega (arith, (source s).tall), omega (arith, taps_long a.k.dest a.image.sides.w a.area.x0 _ _ (fits s) c.find_taps.ensures, (cols s).1))

pub take-requires-2-clause-places : goal.take-requires-2-clause-places
take-requires-2-clause-places c =
    let a = c.args in taps_in a.k.dest a.image.sides.w a.area.x0 _ _ (fits (goal.at.take-requires-2-clause-places c).Start) c.find_taps.ensures

pub loop-y-init : goal.loop-y-init
loop-y-init c =
    let p = c.requires in
    let even = c.take.ensures in
    let odd = c.take-2.ensures in
    (box_start p.canvas.0 p.inside.0 p.inside.1 p.inside.2 p.inside.3, rw even.0 even.1, rw odd.0 odd.1)

pub tap-f-requires : goal.tap-f-requires
tap-f-requires c = let s = source (goal.at.tap-f-requires c).Start in (s.tall, s.low)

pub row_of-requires : goal.row_of-requires
row_of-requires c = (source (goal.at.row_of-requires c).Start).tall

pub row_of-requires-in-loop-y : goal.row_of-requires-in-loop-y
row_of-requires-in-loop-y c = (source (goal.at.row_of-requires-in-loop-y c).Start).tall

-- the two rows about the row's place lie in the source
row_below : (c : After-tap-f) (parity : ℕ) → let h = c.args.image.sides.h in row_of h parity c.tap-f.result < h
row_below c parity =
    let a = c.args in
    let s = source_is a.image.sides (length a.image.px.now) a.image.whole in
    row_of_in a.image.sides.h parity c.tap-f.result s.tall (omega (arith, c.tap-f.ensures, tap_in a.k.dest.y a.k.dest.h a.image.sides.h c.loop-y.y s.tall))

pub keep-requires-clause-sized : goal.keep-requires-clause-sized
keep-requires-clause-sized c =
    let s = (goal.at.keep-requires-clause-sized c).Start in
    let a = c.args in
    (omega (arith, c.row_of.ensures, row_below (goal.at.keep-requires-clause-sized c).After-tap-f 0), omega (arith, taps_long a.k.dest a.image.sides.w a.area.x0 _ _ (fits s) c.find_taps.ensures, (cols s).1))

pub keep-requires-clause-places : goal.keep-requires-clause-places
keep-requires-clause-places c =
    let a = c.args in taps_in a.k.dest a.image.sides.w a.area.x0 _ _ (fits (goal.at.keep-requires-clause-places c).Start) c.find_taps.ensures

pub keep-requires-in-loop-y-clause-sized : goal.keep-requires-in-loop-y-clause-sized
keep-requires-in-loop-y-clause-sized c =
    let s = (goal.at.keep-requires-in-loop-y-clause-sized c).Start in
    let a = c.args in
    (omega (arith, c.row_of-in-loop-y.ensures, row_below (goal.at.keep-requires-in-loop-y-clause-sized c).After-tap-f 1), omega (arith, taps_long a.k.dest a.image.sides.w a.area.x0 _ _ (fits s) c.find_taps.ensures, (cols s).1))

pub keep-requires-in-loop-y-clause-places : goal.keep-requires-in-loop-y-clause-places
keep-requires-in-loop-y-clause-places c =
    let a = c.args in taps_in a.k.dest a.image.sides.w a.area.x0 _ _ (fits (goal.at.keep-requires-in-loop-y-clause-places c).Start) c.find_taps.ensures

-- the row's span lies within the canvas, and far below the largest number
room : (c : In-loop-y) → let l = c.loop-y in let a = c.args in
    (l.y * a.size.w + a.area.x0 ≤ l.y * a.size.w + a.area.x1) × (l.y * a.size.w + a.area.x1 ≤ length l.px) × (l.y * a.size.w + a.area.x1 ≤ 16777216)
room c =
    let l = c.loop-y in
    let p = c.requires in
    let q = box_room l.invariant.0 c.loop-y-test.true in
    (q.0, q.1, omega (arith, row_in c.args.size.w 4096 l.y c.args.area.x1 (omega (arith, c.loop-y-test.true, p.canvas.2, p.inside.3)) p.inside.1, p.canvas.1))

pub scaled_row-requires-clause-clear : goal.scaled_row-requires-clause-clear
scaled_row-requires-clause-clear c =
    let a = c.args in
    let r = room (goal.at.scaled_row-requires-clause-clear c).In-loop-y in
    clear_to (c.clear_of-mid.ensures.clear (λ i. partial a.k (a.area.x0 + i)) (λ i b l p. search rules))
    (omega (arith, part_long c.loop-y.px _ _ r.0 r.1))

pub loop-y-preserved : goal.loop-y-preserved
loop-y-preserved c =
    let l = c.loop-y in
    let a = c.args in
    let s = (goal.at.loop-y-preserved c).Start in
    let even = c.keep.ensures in
    let odd = c.keep-in-loop-y.ensures in (
      box_row _ l.invariant.0 c.loop-y-test.true
          (λ i p h. line_pix a.image.px.now a.image.sides a.k (a.area.x1 - a.area.x0) a.area.x0 l.y _ _ _
          (taps_long a.k.dest a.image.sides.w a.area.x0 _ _ (fits s) c.find_taps.ensures) (tap_at a.k.dest a.image.sides.w a.area.x0 _ _ (fits s) c.find_taps.ensures)
          c.tap-f.ensures c.row_of.ensures c.row_of-in-loop-y.ensures even.1 odd.1 c.of-mix.ensures.colours i p (omega arith))
          c.scaled_row.ensures,
      rw even.0 even.1,
      rw odd.0 odd.1,
    )

pub returns : goal.returns
returns c = box_end c.loop-y.invariant.0 c.loop-y-test.false
