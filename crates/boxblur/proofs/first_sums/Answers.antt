use Prim.Native.Nat.{ℕ, ◌≤◌, ◌<◌, ◌+◌, ◌*◌}
use mathlib.Core.Path.{◌≡◌, refl, ◌∙◌, ap}
use native.Mathlib.Omega.{arith}
use lib.ListN.{get_or}
use Rattle.boxblur.proofs.Sums.{part, parts, inside, parts_first, parts_more, part_all, part_bound}
use Rattle.boxblur.proofs.first_sums.Goals as goal

-- src/lib.rt:168:13
pub overflow_mul-n : goal.overflow_mul-n
overflow_mul-n c =
    omega (arith, c.requires.narrow)

-- src/lib.rt:168:13
pub overflow_add-n : goal.overflow_add-n
overflow_add-n c =
    omega (arith, c.requires.narrow)

-- src/lib.rt:169:41
pub overflow_add-r : goal.overflow_add-r
overflow_add-r c =
    omega (arith, c.requires.narrow)

-- src/lib.rt:169:40
pub overflow_cast-r : goal.overflow_cast-r
overflow_cast-r c =
    omega (arith, c.requires.narrow)

-- src/lib.rt:169:9
pub times_cell-s-requires : goal.times_cell-s-requires
times_cell-s-requires c =
    (omega (arith, c.requires.room), omega (arith, c.requires.narrow))

-- src/lib.rt:171:5
pub loop-j-init : goal.loop-j-init
loop-j-init c =
    let a = c.args in
    parts_first a.src.now a.start a.stride a.m a.r (a.r + 1) c.times_cell-s.result refl c.times_cell-s.ensures

-- src/lib.rt:172:42
pub hold-requires : goal.hold-requires
hold-requires c =
    omega (arith, c.requires.some, c.requires.narrow, c.loop-j-test.true)

-- src/lib.rt:172:42
pub overflow_mul-hold : goal.overflow_mul-hold
overflow_mul-hold c =
    omega (arith, inside _ _ _ _ _ _ c.requires c.hold.ensures.1)

-- src/lib.rt:172:34
pub overflow_add-start : goal.overflow_add-start
overflow_add-start c =
    omega (arith, inside _ _ _ _ _ _ c.requires c.hold.ensures.1)

-- src/lib.rt:172:13
pub add_cell-t-requires : goal.add_cell-t-requires
add_cell-t-requires c =
    let a = c.args in
    let j = c.loop-j.j in
    let e = c.loop-j.invariant in
    let n : j ≤ 65536 = omega (arith, c.requires.narrow, c.loop-j-test.true) in
    let b : (i : ℕ) → get_or a.src.now i 0 < 256 = λ i. omega (arith, c.shared_slice_known-1.given i) in
    let k : (ch : ℕ) → part a.src.now a.start a.stride a.m a.r ch j ≤ 16777216 = λ ch. omega (arith, part_bound a.src.now a.start a.stride a.m a.r b ch j) in
    (inside _ _ _ _ _ _ c.requires c.hold.ensures.1, (rw e (k 0), (rw e (k 1), rw e (k 2))))

-- src/lib.rt:171:5
pub loop-j-preserved : goal.loop-j-preserved
loop-j-preserved c =
    let a = c.args in
    let l = c.loop-j in
    parts_more a.src.now a.start a.stride a.m a.r l.j c.hold.result l.s c.add_cell-t.result l.invariant c.hold.ensures.0 c.add_cell-t.ensures

-- src/lib.rt:164:1
pub returns : goal.returns
returns c =
    let a = c.args in
    let l = c.loop-j in
    let j : l.j ≡ 2 * a.r + 1 = omega arith in
    l.invariant
    ∙ ap (parts a.src.now a.start a.stride a.m a.r) j
    ∙ part_all a.src.now a.start a.stride a.m a.r
