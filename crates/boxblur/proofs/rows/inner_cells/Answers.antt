-- `inner_cells`: four cells more with each turn.
use Prim.Native.Nat.{ℕ, ◌≤◌, ◌<◌, ◌+◌, ◌-◌, ◌%◌}
use mathlib.Core.Path.{◌≡◌, refl, ◌∙◌}
use native.Mathlib.Omega.{arith}
use Rattle.boxblur.proofs.Pass.{along_start, along-length, along-on, along-end}
use Rattle.boxblur.proofs.rows.inner_cells.Goals as goal

-- there is room for four
room : (x to : ℕ) → x < to → (to - x) % 4 ≡ 0 → x + 4 ≤ to
room x to h e = omega arith

pub four_cells-u-requires : goal.four_cells-u-requires
four_cells-u-requires c =
    let p = c.requires in
    let l = c.loop-x in
    let r = room _ _ c.loop-x-test.true l.invariant.0 in
    (along-length l.invariant.1 ∙ p.0, (l.invariant.1.sums, (p.1.1.0, (omega (arith, p.1.1.1.1.0, l.invariant.1.begun), omega (arith, r, p.1.1.1.1.1.0)))))

pub loop-x-preserved : goal.loop-x-preserved
loop-x-preserved c =
    let l = c.loop-x in
    let r = room _ _ c.loop-x-test.true l.invariant.0 in
    (omega (arith, l.invariant.0), along-on l.invariant.1 4 _ refl r c.four_cells-u.ensures)

pub loop-x-init : goal.loop-x-init
loop-x-init c = let p = c.requires in (p.1.1.1.1.1.1, along_start p.1.1.1.0 p.1.0)

pub shape_of-dst : goal.shape_of-dst
shape_of-dst c = along-length c.loop-x.invariant.1

pub returns : goal.returns
returns c = along-end c.loop-x.invariant.1 (λ l. omega (arith, c.loop-x-test.false))

-- where the last four end
last : (x to : ℕ) → x < to → (to - x) % 4 ≡ 0 → to - x ≤ 4 → x + 4 ≡ to
last x to h e k = omega arith

pub returns-2 : goal.returns-2
returns-2 c =
    let l = c.loop-x in
    let e = last _ _ c.loop-x-test.true l.invariant.0 (omega arith) in
    along-end (along-on l.invariant.1 4 _ e (omega arith) c.four_cells-u.ensures) (λ h. omega arith)

pub shape_of-dst-2 : goal.shape_of-dst-2
shape_of-dst-2 c = c.four_cells-u.auto.dst ∙ along-length c.loop-x.invariant.1
