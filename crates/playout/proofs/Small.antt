-- Every number that is printed has at most three digits: the count of layers and the number of a block are at most 128.
use Rattle.std.proofs.Common.{Ok, Err}
use mathlib.Core.Path.{◌≡◌}
use Rattle.answer.specs.declared.Refusal.{Refusal}
use mathlib.Core.Bool.{Bool, true, false, cond}
use mathlib.Core.List.{List, [], ◌∷◌}
use Prim.Native.Nat.{ℕ, zero, suc, ◌+◌, ◌/◌, ◌≤◌}
use native.Mathlib.Omega.{arith}
use lib.ListN.{length}
use Rattle.answer.specs.declared.Cause.{Cause}
use Rattle.answer.specs.declared.Cause.TheVariants.{Canvas, Sources, Rundown, Priority, Source, Frame, Scratch}
use Rattle.block.specs.Bytes.{block_at}
use Rattle.block.specs.Fields.{priority}
use Rattle.block.specs.Verdict.{verdict}
use Rattle.rundown.specs.Tests.{taken, apart}
use Rattle.canvas.specs.Canvas.{is_canvas}
use Rattle.sources.specs.Table.{table_right, pool_right}
use Rattle.layer.specs.Layer.{source_there, frame_there, has_room}
use Rattle.accept.specs.Tests.{canvas_test, table_test, pool_test, rundown_right, rundown_test, source_test, frame_test, blocks_test, scratch_test, answer}
use Rattle.playout.specs.Printed.{table}
use Rattle.answer.specs.Answer.{returned, Answer, Verdict, refused}
use Rattle.answer.specs.Tests.{unless, each, at}

-- what stands beside a cause, or the count
abbrev beside : Answer → ℕ
beside a = (returned a).value

first : (a : Answer) (ts : List Answer) (n b : ℕ) → beside a ≤ b → beside (unless ts n) ≤ b → beside (unless (a ∷ ts) n) ≤ b
unfolding unless returned
first (Ok m) ts n b h r = r
first (Err why) ts n b h r = h

none : (n b : ℕ) → n ≤ b → beside (unless [] n) ≤ b
unfolding unless returned
none n b h = h

passes : (t : Bool) (c : Cause) (n b : ℕ) → n ≤ b → beside (cond t (Ok n) (refused c n)) ≤ b
unfolding returned
passes true c n b h = h
passes false c n b h = h

fails : (t : Bool) (c : Cause) (n b : ℕ) → n ≤ b → beside (cond t (refused c n) (Ok n)) ≤ b
unfolding returned
fails true c n b h = h
fails false c n b h = h

each_block : (t : ℕ → Answer) (n b : ℕ) → ((i : ℕ) → beside (t i) ≤ i) → n ≤ b → beside (each t n) ≤ b
unfolding each returned
each_block t zero b h l = omega arith
each_block t (suc n) b h l =
    first (each t n) (t n ∷ []) (n + 1) b (each_block t n b h (omega arith))
    (first (t n) [] (n + 1) b (omega (arith, h n)) (none (n + 1) b (omega arith)))

judged : (n : ℕ) (v : Verdict) → beside (at n v) ≤ n
unfolding at returned
judged n (Ok tt) = omega arith
judged n (Err c) = omega arith

block : (i : ℕ) (input : List ℕ) → beside (unless (at i (verdict (block_at input i)) ∷ source_test table i (block_at input i) ∷ frame_test 4 i (block_at input i) ∷ []) i) ≤ i
unfolding source_test frame_test
block i input =
    first _ _ i i (judged i (verdict (block_at input i)))
    (first _ _ i i (passes (source_there table (block_at input i)) Source i i (omega arith))
    (first _ [] i i (passes (frame_there 4 (block_at input i)) Frame i i (omega arith)) (none i i (omega arith))))

pub small : (input : List ℕ) → length input ≤ 65536 → beside (answer 4 2 8 table 3 input 24 24) ≤ 128
unfolding answer canvas_test table_test pool_test rundown_test blocks_test apart scratch_test
small input l =
    let n : length input / 512 ≤ 128 = omega arith in
    first _ _ _ 128 (passes (is_canvas 4 2 8) Canvas 0 128 (omega arith))
    (first _ _ _ 128 (passes (table_right table) Sources 0 128 (omega arith))
    (first _ _ _ 128 (passes (pool_right table 3) Sources 0 128 (omega arith))
    (first _ _ _ 128 (passes (rundown_right input) Rundown 0 128 (omega arith))
    (first _ _ _ 128 (each_block _ _ 128 (λ i. block i input) n)
    (first _ _ _ 128 (each_block _ _ 128 (λ i. fails (taken (priority (block_at input i)) i input) Priority i i (omega arith)) n)
    (first _ [] _ 128 (each_block _ _ 128 (λ i. passes (has_room 4 2 (block_at input i) 24 24) Scratch i i (omega arith)) n)
    (none _ 128 n)))))))

pub count_small : (input : List ℕ) (n : ℕ) → length input ≤ 65536 → answer 4 2 8 table 3 input 24 24 ≡ Ok n → n ≤ 128
unfolding returned
count_small input n l e = rw e at (small input l)

pub refusal_small : (input : List ℕ) (r : Refusal) → length input ≤ 65536 → answer 4 2 8 table 3 input 24 24 ≡ Err r → r.beside ≤ 128
unfolding returned
refusal_small input r l e = rw e at (small input l)
