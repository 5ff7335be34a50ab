-- What the tests by the sizes alone have found out, and that play asks all of it too.
use Rattle.std.proofs.Common.{Ok, Err}
use mathlib.Core.Path.{◌≡◌, refl, sym, ap, ◌∙◌}
use mathlib.Core.Bool.{true}
use mathlib.Core.List.{List, [], ◌∷◌}
use mathlib.Core.Logic.{⊎_elim}
use Prim.Native.Nat.{ℕ, ◌/◌, ◌≤◌, ◌<◌}
use native.Mathlib.Omega.{arith}
use lib.ListN.{length}
use Rattle.canvas.specs.Canvas.{is_canvas}
use Rattle.block.specs.Bytes.{block_at}
use Rattle.block.specs.Fields.{priority}
use Rattle.block.specs.Verdict.{verdict}
use Rattle.block.proofs.Laws.Tests.{cause_of}
use Rattle.answer.specs.declared.Cause.{Cause}
use Rattle.answer.specs.declared.Cause.TheVariants.{Canvas, Sources, Rundown, Priority, Source, Frame, Scratch}
use Rattle.answer.specs.Answer.{number, Verdict, refused, Answer}
use Rattle.rundown.specs.Tests.{apart, taken}
use Rattle.sources.specs.Table.{table_right, pool_right}
use Rattle.layer.specs.Layer.{source_there, frame_there}
use Rattle.accept.specs.Tests.{answer, sizes_answer, canvas_test, table_test, pool_test, rundown_right, rundown_test, source_test, frame_test, blocks_test, scratch_test}
use Rattle.accept.proofs.Laws.Tests.{differ_at}
use Rattle.accept.proofs.Table.{few_blocks}
use Rattle.answer.specs.Tests.{unless, at, first_of}
use Rattle.answer.proofs.Laws.{passes, joins, each_alone, counted, count_is, refused_later, chosen, other_cause, other_spared, each_other}

pub record Sized (w h n : ℕ) (buf : List ℕ) (count : ℕ) : Type 0 where
  pub is : count ≡ length buf / 512
  pub few : count ≤ 256
  pub canvas_right : is_canvas w h n ≡ true
  pub differ : (i j : ℕ) → i < j → j < count → priority (block_at buf i) ≡ priority (block_at buf j) → ⊥

module _ (w h n : ℕ) (table buf : List ℕ) where
  pub sized : (count : ℕ) → sizes_answer w h n table buf ≡ Ok count → Sized w h n buf count
  unfolding sizes_answer canvas_test rundown_test
  sized count e =
      let f = length buf / 512 in
      let dp = apart f buf in
      let bl = blocks_test w table f buf in
      let u = counted (canvas_test w h n) (table_test table ∷ rundown_test buf ∷ bl ∷ dp ∷ []) f count e in
      let v = counted (table_test table) (rundown_test buf ∷ bl ∷ dp ∷ []) f count u.1 in
      let x = counted (rundown_test buf) (bl ∷ dp ∷ []) f count v.1 in
      let y = counted bl (dp ∷ []) f count x.1 in
      let z = counted dp [] f count y.1 in
      let q : count ≡ f = count_is f count z.1 in
      record {
        is = q;
        few = rw q (few_blocks buf (chosen (rundown_right buf) Rundown 0 0 x.0.0 x.0.1));
        canvas_right = chosen (is_canvas w h n) Canvas 0 0 u.0.0 u.0.1;
        differ = λ i j l o. differ_at w h n table 0 buf 0 0 z.0.0 z.0.1 i j l (rw (← q) o);
      }

  -- where each of these tests passes, the sizes are accepted with the count of whole blocks
  all_pass : ((k : ℕ) × (canvas_test w h n ≡ Ok k)) → ((k : ℕ) × (table_test table ≡ Ok k)) → ((k : ℕ) × (rundown_test buf ≡ Ok k))
      → ((k : ℕ) × (blocks_test w table (length buf / 512) buf ≡ Ok k)) → ((k : ℕ) × (apart (length buf / 512) buf ≡ Ok k)) → sizes_answer w h n table buf ≡ Ok (length buf / 512)
  unfolding sizes_answer unless
  all_pass a b c d e = rw (a.1, b.1, c.1, d.1, e.1) refl

  -- where play accepts, the sizes do, with the same count
  pub sizes_too : (m la lb count : ℕ) → answer w h n table m buf la lb ≡ Ok count → sizes_answer w h n table buf ≡ Ok count
  unfolding answer
  sizes_too m la lb count e =
      let f = length buf / 512 in
      let sc = scratch_test w h la lb f buf in
      let dp = apart f buf in
      let bl = blocks_test w table f buf in
      let u = counted (canvas_test w h n) (table_test table ∷ pool_test table m ∷ rundown_test buf ∷ bl ∷ dp ∷ sc ∷ []) f count e in
      let v = counted (table_test table) (pool_test table m ∷ rundown_test buf ∷ bl ∷ dp ∷ sc ∷ []) f count u.1 in
      let v' = counted (pool_test table m) (rundown_test buf ∷ bl ∷ dp ∷ sc ∷ []) f count v.1 in
      let x = counted (rundown_test buf) (bl ∷ dp ∷ sc ∷ []) f count v'.1 in
      let y = counted bl (dp ∷ sc ∷ []) f count x.1 in
      let z = counted dp (sc ∷ []) f count y.1 in
      let t = counted sc [] f count z.1 in
      all_pass u.0 v.0 x.0 y.0 z.0 ∙ ap Ok (sym (count_is f count t.1))

  -- with a pool of the right length play asks for the scratch besides, and for nothing else
  pub then_scratch : (m la lb : ℕ) → pool_right table m ≡ true → answer w h n table m buf la lb ≡ first_of (sizes_answer w h n table buf) (scratch_test w h la lb (length buf / 512) buf)
  unfolding answer sizes_answer pool_test scratch_test
  then_scratch m la lb p =
      let f = length buf / 512 in
      let cv = canvas_test w h n in
      let tb = table_test table in
      let bl = blocks_test w table f buf in
      let dp = apart f buf in
      let sc = scratch_test w h la lb f buf in
      let rest = rundown_test buf ∷ bl ∷ dp ∷ sc ∷ [] in
      joins (cv ∷ tb ∷ []) (pool_test table m ∷ rest) f
      ∙ ap (first_of (unless (cv ∷ tb ∷ []) f)) (passes (pool_test table m) rest 0 f (rw p refl))
      ∙ sym (joins (cv ∷ tb ∷ []) rest f)
      ∙ joins (cv ∷ tb ∷ rundown_test buf ∷ bl ∷ dp ∷ []) (sc ∷ []) f
      ∙ ap (first_of (unless (cv ∷ tb ∷ rundown_test buf ∷ bl ∷ dp ∷ []) f)) (each_alone _ f)

-- ---- only the last test pleads scratch

abbrev cause_or : Cause → Answer → Cause
cause_or c (Ok n) = c
cause_or c (Err r) = r.cause

own_cause : (i k : ℕ) (b : List ℕ) → at i (verdict b) ≡ refused Scratch k → ⊥
unfolding at
own_cause i k b = go (verdict b) refl
  where
    go : (v : Verdict) → verdict b ≡ v → at i v ≡ refused Scratch k → ⊥
    go (Ok u) q e = let z : ◌≡◌ {A = ℕ} 0 1 = cc in omega arith
    go (Err c) q e = let z : c ≡ Scratch = ap (cause_or c) e in let n : number c ≡ 11 = ap number z in ⊎_elim (λ m. omega (arith, m.0, m.1)) (λ m. omega arith) (cause_of b c q)

not_scratch : (c : Cause) → number c < 11 → c ≡ Scratch → ⊥
not_scratch c l e = let z : number c ≡ 11 = ap number e in omega arith

module _ (w h n : ℕ) (table : List ℕ) (m : ℕ) (buf : List ℕ) where
  block_other : (k i : ℕ) → unless (at i (verdict (block_at buf i)) ∷ source_test table i (block_at buf i) ∷ frame_test w i (block_at buf i) ∷ []) i ≡ refused Scratch k → ⊥
  unfolding source_test frame_test unless
  block_other k i e =
      let b = block_at buf i in
      let x = refused_later (at i (verdict b)) (source_test table i b ∷ frame_test w i b ∷ []) i Scratch k (own_cause i k b) e in
      let y = refused_later (source_test table i b) (frame_test w i b ∷ []) i Scratch k (other_cause (source_there table b) Source Scratch i i k (not_scratch Source (omega arith))) x.1 in
      let z = refused_later (frame_test w i b) [] i Scratch k (other_cause (frame_there w b) Frame Scratch i i k (not_scratch Frame (omega arith))) y.1 in
      let f : Ok i ≡ refused Scratch k = z.1 in
      let o : ◌≡◌ {A = ℕ} 0 1 = cc in
      omega arith

  -- where play refuses for scratch, the sizes are accepted, on this canvas
  pub scratch_last : (la lb i : ℕ) → answer w h n table m buf la lb ≡ refused Scratch i → (is_canvas w h n ≡ true) × (sizes_answer w h n table buf ≡ Ok (length buf / 512))
  unfolding answer canvas_test table_test pool_test rundown_test blocks_test apart
  scratch_last la lb i e =
      let f = length buf / 512 in
      let sc = scratch_test w h la lb f buf in
      let dp = apart f buf in
      let bl = blocks_test w table f buf in
      let u = refused_later (canvas_test w h n) (table_test table ∷ pool_test table m ∷ rundown_test buf ∷ bl ∷ dp ∷ sc ∷ []) f Scratch i (other_cause (is_canvas w h n) Canvas Scratch 0 0 i (not_scratch Canvas (omega arith))) e in
      let v = refused_later (table_test table) (pool_test table m ∷ rundown_test buf ∷ bl ∷ dp ∷ sc ∷ []) f Scratch i (other_cause (table_right table) Sources Scratch 0 0 i (not_scratch Sources (omega arith))) u.1 in
      let v' = refused_later (pool_test table m) (rundown_test buf ∷ bl ∷ dp ∷ sc ∷ []) f Scratch i (other_cause (pool_right table m) Sources Scratch 0 0 i (not_scratch Sources (omega arith))) v.1 in
      let x = refused_later (rundown_test buf) (bl ∷ dp ∷ sc ∷ []) f Scratch i (other_cause (rundown_right buf) Rundown Scratch 0 0 i (not_scratch Rundown (omega arith))) v'.1 in
      let y = refused_later bl (dp ∷ sc ∷ []) f Scratch i (each_other _ Scratch i f (block_other i)) x.1 in
      let z = refused_later dp (sc ∷ []) f Scratch i (each_other _ Scratch i f (λ j. other_spared (taken (priority (block_at buf j)) j buf) Priority Scratch j j i (not_scratch Priority (omega arith)))) y.1 in
      (chosen (is_canvas w h n) Canvas 0 0 u.0.0 u.0.1, all_pass w h n table buf u.0 v.0 x.0 y.0 z.0)
