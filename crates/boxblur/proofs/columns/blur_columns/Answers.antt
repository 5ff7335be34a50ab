use Prim.Native.Nat.{ℕ, ◌≤◌, ◌<◌, ◌+◌, ◌-◌, ◌*◌, min}
use mathlib.Core.Path.{◌≡◌, refl, sym, ◌∙◌}
use mathlib.Core.List.{List, ◌++◌}
use native.Mathlib.Omega.{arith}
use lib.ListN.{length, take, drop, length-take, length-drop}
use Rattle.std.proofs.Common.{length-append}
use Rattle.boxblur.specs.declared.Axis.TheVariants.{Columns}
use Rattle.boxblur.specs.Private.{new_byte, stripe}
use Rattle.boxblur.proofs.Pass.{Filled, columns_none, columns_more, pass_end}
use Rattle.boxblur.proofs.columns.blur_columns.Goals as goal
use Rattle.boxblur.proofs.columns.blur_columns.Goals.{After-min-n, After-blur_block}

zero_min : (w : ℕ) → min 0 w ≡ 0
zero_min w = omega arith

-- the part of the line that is lent
lent : (s : List (List ℕ)) (n : ℕ) → n ≤ 2048 → length s ≡ 2048 → length (take n s) ≡ n
lent s n h e = simp length-take (omega arith)

-- one more block
turn : (f : ℕ → ℕ → ℕ → ℕ) (w h x n : ℕ) (d z : List ℕ) → x < w → n ≡ min (w - x) 2048 → length d ≡ 3 * (w * h) → Filled f w h (min x w) d → z ≡ stripe f w x n h d →
    Filled f w h (min (x + 2048) w) z
turn f w h x n d z l e k p q =
    let here : min x w ≡ x = omega arith in
    let there : x + n ≡ min (x + 2048) w = omega arith in
    rw (sym there) (columns_more f w h x n d z (omega arith) k (rw here at p) q)

pub loop-x-init : goal.loop-x-init
loop-x-init c =
    let a = c.args in
    (refl, (refl, rw (zero_min a.pass.blur.w) (columns_none (new_byte Columns a.pass.src.now a.pass.blur) a.pass.blur.w a.pass.blur.h a.dst.now)))

part : (c : After-min-n) → length (take c.min-n.result c.loop-x.line) ≡ c.min-n.result
part c = lent _ _ (omega (arith, c.min-n.ensures)) c.loop-x.invariant.0

pub blur_block-requires : goal.blur_block-requires
blur_block-requires c =
    let l = c.loop-x in
    (l.invariant.1.0 ∙ c.requires, omega (arith, c.min-n.ensures, c.loop-x-test.true, part (goal.at.blur_block-requires c).After-min-n))

-- the line afterwards is as long as it was
kept : (s s' : List (List ℕ)) (n : ℕ) → n ≤ 2048 → length s ≡ 2048 → length s' ≡ length (take n s) → length (s' ++ drop n s) ≡ 2048
kept s s' n h e f = simp (length-append, length-drop) (omega (arith, f, lent s n h e))

-- a block more
more : (c : After-blur_block) → let a = c.args in let d = c.blur_block.new.dst in
    (length d ≡ length a.dst.now) × Filled (new_byte Columns a.pass.src.now a.pass.blur) a.pass.blur.w a.pass.blur.h (min (c.loop-x.x + 2048) a.pass.blur.w) d
more c =
    let a = c.args in
    let l = c.loop-x in
    let f = new_byte Columns a.pass.src.now a.pass.blur in
    let e = rw (lent l.line c.min-n.result (omega (arith, c.min-n.ensures)) l.invariant.0) at c.blur_block.ensures in
    (c.blur_block.auto.dst ∙ l.invariant.1.0, turn f a.pass.blur.w a.pass.blur.h l.x c.min-n.result l.dst c.blur_block.new.dst c.loop-x-test.true c.min-n.ensures (l.invariant.1.0 ∙ c.requires ∙ a.pass.fits.size) l.invariant.1.1 e)

pub loop-x-preserved : goal.loop-x-preserved
loop-x-preserved c =
    (kept c.loop-x.line c.blur_block.new.s c.min-n.result (omega (arith, c.min-n.ensures)) c.loop-x.invariant.0 c.blur_block.auto.s, more (goal.at.loop-x-preserved c).After-blur_block)

-- all columns
whole : (f : ℕ → ℕ → ℕ → ℕ) (w h x : ℕ) (d : List ℕ) → w ≤ x → Filled f w h (min x w) d → Filled f w h w d
whole f w h x d l p = let e : min x w ≡ w = omega arith in rw e at p

pub returns : goal.returns
returns c =
    let a = c.args in
    let l = c.loop-x in
    pass_end Columns a.pass.src.now a.pass.blur _ a.pass.fits l.dst (l.invariant.1.0 ∙ c.requires) (whole _ _ _ l.x l.dst c.loop-x-test.false l.invariant.1.1)

pub returns-2 : goal.returns-2
returns-2 c =
    let a = c.args in
    let m = more (goal.at.returns-2 c).After-blur_block in
    pass_end Columns a.pass.src.now a.pass.blur _ a.pass.fits c.blur_block.new.dst (m.0 ∙ c.requires) (whole _ _ _ (c.loop-x.x + 2048) c.blur_block.new.dst (omega arith) m.1)
