-- `stain_all`: the walk in ascending priority whose step is what a layer does to the stain.
use Prim.Native.Nat.{ℕ, ◌/◌, ◌≤◌, ◌<◌}
use mathlib.Core.Path.{◌≡◌, sym, ap, ◌∙◌}
use mathlib.Core.List.{List}
use native.Mathlib.Omega.{arith}
use lib.ListN.{length, get_or, take, length-replicate}
use Rattle.std.proofs.lemmas.List.{get_or-take, length-take-le}
use Rattle.canvas.specs.Canvas.{is_canvas}
use Rattle.accept.proofs.Laws.Sizes.{Sized, sized}
use Rattle.order.specs.Order.{listed}
use Rattle.order.proofs.Laws.Walk.{listed_below}
use Rattle.stain.proofs.Layers.{filled}
use Rattle.stain.proofs.Walk.{empty_shows, turn_first, turn_more, turn_last}
use Rattle.stain.proofs.stain_all.Goals as goal
use Rattle.stain.proofs.stain_all.Goals.{After-ascending-order, In-loop-n}

-- the map that is cleared is as long as the one that came
long : (c : After-ascending-order) → length c.fill.new.self ≡ length c.args.map.now
long c = ap length (c.fill.ensures.after (λ y e. e)) ∙ length-replicate _ _

-- what the tests have found out
fits : (c : After-ascending-order) → let s = c.args.show in
    Sized s.size.w s.size.h (length c.fill.new.self) s.rundown.now (length s.rundown.now / 512)
fits c =
    let a = c.args in
    let s = a.show in
    rw (long c) (sized s.size.w s.size.h (length a.map.now) s.table.now s.rundown.now (length s.rundown.now / 512) c.requires)

-- a turn is left
more : (c : In-loop-n) → length c.args.show.rundown.now / 512 ≤ 256 → c.loop-n.n-index < length c.args.show.rundown.now / 512
more c few = omega (arith, length-take-le (length c.args.show.rundown.now / 512) c.ascending-order.result (omega (arith, few)), c.loop-n-test.true)

-- the block of a turn
listed_is : (c : In-loop-n) → length c.args.show.rundown.now / 512 ≤ 256 → let b = c.args.show.rundown.now in
    get_or (take (length b / 512) c.ascending-order.result) c.loop-n.n-index 0 ≡ get_or (listed b (length b / 512)) c.loop-n.n-index 0
listed_is c few = get_or-take _ _ _ 0 (more c few) ∙ ap (λ (x : List ℕ). get_or x c.loop-n.n-index 0) c.ascending-order.ensures

pub loop-n-init : goal.loop-n-init
loop-n-init c =
    let a = c.args in
    let s = a.show in
    let f = c.fill in
    turn_first s.size.w s.size.h (length f.new.self) s.table.now s.rundown.now (length s.rundown.now / 512) a.s f.new.self
    (empty_shows (length f.new.self) a.map.now f.new.self (sym (long (goal.at.loop-n-init c).After-ascending-order)) (f.ensures.after (λ y e. e) ∙ filled 0 0 _))

pub stain_layer-requires : goal.stain_layer-requires
stain_layer-requires c =
    let l = c.loop-n in
    let s = c.args.show in
    let f = fits (goal.at.stain_layer-requires c).After-ascending-order in
    let t = (goal.at.stain_layer-requires c).In-loop-n in
    let b = listed_below s.rundown.now (length s.rundown.now / 512) f.few l.n-index (more t f.few) in
    (rw (c.from.ensures ∙ listed_is t f.few) b, ap (is_canvas s.size.w s.size.h) l.invariant.shows.long ∙ f.canvas_right)

pub loop-n-preserved : goal.loop-n-preserved
loop-n-preserved c =
    let l = c.loop-n in
    let a = c.args in
    let s = a.show in
    let few = (fits (goal.at.loop-n-preserved c).After-ascending-order).few in
    let t = (goal.at.loop-n-preserved c).In-loop-n in
    turn_more s.size.w s.size.h (length c.fill.new.self) s.table.now s.rundown.now (length s.rundown.now / 512) a.s l.invariant few (more t few)
    (c.from.ensures ∙ listed_is t few) c.stain_layer.ensures

pub shape_of-map : goal.shape_of-map
shape_of-map c = c.loop-n.invariant.shows.long ∙ long (goal.at.shape_of-map c).After-ascending-order

pub returns : goal.returns
returns c =
    let l = c.loop-n in
    let a = c.args in
    let s = a.show in
    let e = (goal.at.returns c).After-ascending-order in
    let few = (fits e).few in
    let walked = length-take-le (length s.rundown.now / 512) c.ascending-order.result (omega (arith, few)) in
    rw (long e)
    at (turn_last s.size.w s.size.h (length c.fill.new.self) s.table.now s.rundown.now (length s.rundown.now / 512) a.s l.invariant
    (omega (arith, walked, c.loop-n-test.false)) a.map.now (sym (long e)))

pub slice_bounds-order-end : goal.slice_bounds-order-end
slice_bounds-order-end c = omega (arith, (fits c).few)

pub slice_bounds-n-items-end : goal.slice_bounds-n-items-end
slice_bounds-n-items-end c = let few = (fits (goal.at.slice_bounds-n-items-end c).After-ascending-order).few in omega (arith, length-take-le (length c.args.show.rundown.now / 512) c.ascending-order.result (omega (arith, few)))
