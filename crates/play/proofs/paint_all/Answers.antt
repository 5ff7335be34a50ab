-- `paint_all`: the walk in ascending priority whose step paints a layer.
use Rattle.std.proofs.Common.{Ok}
use Prim.Native.Nat.{ℕ, ◌/◌, ◌≤◌, ◌<◌}
use mathlib.Core.Path.{◌≡◌, refl, ap, ◌∙◌}
use mathlib.Core.List.{List}
use native.Mathlib.Omega.{arith}
use lib.ListN.{length, get_or, take}
use Rattle.std.proofs.lemmas.List.{get_or-take, length-take-le}
use Rattle.block.specs.Bytes.{block_at}
use Rattle.block.proofs.Laws.{block_is}
use Rattle.order.specs.Order.{listed}
use Rattle.layer.specs.Layer.{painting_in}
use Rattle.accept.specs.Tests.{answer}
use Rattle.accept.proofs.Laws.Tests.{passes_all}
use Rattle.accept.proofs.Laws.Sizes.{sized, sizes_too}
use Rattle.play.proofs.Walk.{turn_first, turn-block, turn_more, turn_last}
use Rattle.play.proofs.paint_all.Goals as goal
use Rattle.play.proofs.paint_all.Goals.{In-loop-n}

few : (w h n : ℕ) (table buf : List ℕ) (m la lb : ℕ) → answer w h n table m buf la lb ≡ Ok (length buf / 512) → length buf / 512 ≤ 256
few w h n table buf m la lb e = (sized w h n table buf (length buf / 512) (sizes_too w h n table buf m la lb (length buf / 512) e)).few

-- the numbers that are walked over
walked : (c : In-loop-n) → length (take (length c.args.show.rundown.now / 512) c.ascending-order.result) ≡ length c.args.show.rundown.now / 512
walked c = length-take-le _ _ (omega (arith, few _ _ _ _ _ _ _ _ c.requires))

-- a turn is left
more : (c : In-loop-n) → c.loop-n.n-index < length c.args.show.rundown.now / 512
more c = omega (arith, walked c, c.loop-n-test.true)

-- the block of a turn
listed_is : (c : In-loop-n) → let b = c.args.show.rundown.now in
    get_or (take (length b / 512) c.ascending-order.result) c.loop-n.n-index 0 ≡ get_or (listed b (length b / 512)) c.loop-n.n-index 0
listed_is c = get_or-take _ _ _ 0 (more c) ∙ ap (λ (x : List ℕ). get_or x c.loop-n.n-index 0) c.ascending-order.ensures

block_there : (c : In-loop-n) → get_or (take (length c.args.show.rundown.now / 512) c.ascending-order.result) c.loop-n.n-index 0 < length c.args.show.rundown.now / 512
block_there c =
    let a = c.args in
    let s = a.show in
    turn-block s.size.w s.size.h s.table.now a.pool.now s.rundown.now (length s.rundown.now / 512) a.px.now (length a.a.now) (length a.b.now) c.loop-n.invariant
    (passes_all s.size.w s.size.h (length a.px.now) s.table.now (length a.pool.now) s.rundown.now (length a.a.now) (length a.b.now) (length s.rundown.now / 512) c.requires)
    (few _ _ _ _ _ _ _ _ c.requires) (more c) (listed_is c)

pub loop-n-init : goal.loop-n-init
loop-n-init c =
    let a = c.args in
    turn_first a.show.size.w a.show.size.h a.show.table.now a.pool.now a.show.rundown.now (length a.show.rundown.now / 512) a.px.now (length a.a.now) (length a.b.now) a.a.now a.b.now refl refl

pub loop-n-preserved : goal.loop-n-preserved
loop-n-preserved c =
    let d = c.paint in
    let l = c.loop-n in
    let a = c.args in
    let s = a.show in
    let t = (goal.at.loop-n-preserved c).In-loop-n in
    let there : c.from-at.result < length s.rundown.now / 512 = rw c.from-at.ensures (block_there t) in
    let z = ap (λ (b : List ℕ). painting_in s.size.w s.size.h s.table.now a.pool.now (length l.a) (length l.b) b l.px) (block_is s.rundown.now _ there ∙ ap (block_at s.rundown.now) c.from-at.ensures) in
    turn_more s.size.w s.size.h s.table.now a.pool.now s.rundown.now (length s.rundown.now / 512) a.px.now (length a.a.now) (length a.b.now) l.invariant
    (passes_all s.size.w s.size.h (length a.px.now) s.table.now (length a.pool.now) s.rundown.now (length a.a.now) (length a.b.now) (length s.rundown.now / 512) c.requires)
    (few _ _ _ _ _ _ _ _ c.requires) (more t) (listed_is t) (d.ensures.canvas ∙ z) _ _ d.auto.first d.auto.second

pub returns : goal.returns
returns c =
    let l = c.loop-n in
    let a = c.args in
    let s = a.show in
    let f = few _ _ _ _ _ _ _ _ c.requires in
    record {
      canvas = turn_last s.size.w s.size.h s.table.now a.pool.now s.rundown.now (length s.rundown.now / 512) a.px.now (length a.a.now) (length a.b.now) l.invariant (omega (arith, c.loop-n-test.false, length-take-le (length s.rundown.now / 512) c.ascending-order.result (omega (arith, f))));
      kept = (l.invariant.first-long, l.invariant.second-long);
    }

pub slice_bounds-block-end : goal.slice_bounds-block-end
slice_bounds-block-end c = omega (arith, c.from-at.ensures, block_there (goal.at.slice_bounds-block-end c).In-loop-n)

pub shape_of-px : goal.shape_of-px
shape_of-px c = c.loop-n.invariant.long

pub shape_of-a : goal.shape_of-a
shape_of-a c = c.loop-n.invariant.first-long

pub shape_of-b : goal.shape_of-b
shape_of-b c = c.loop-n.invariant.second-long

pub slice_bounds-order-end : goal.slice_bounds-order-end
slice_bounds-order-end c = omega (arith, few _ _ _ _ _ _ _ _ c.requires)

pub slice_bounds-n-items-end : goal.slice_bounds-n-items-end
slice_bounds-n-items-end c = let f = few _ _ _ _ _ _ _ _ c.requires in omega (arith, length-take-le (length c.args.show.rundown.now / 512) c.ascending-order.result (omega (arith, f)))
