-- What the tests have found out where play answers with the number of layers.
use Rattle.answer.specs.Answer.{Answer, refused}
use Rattle.std.proofs.Common.{Ok, Err, Result, IsErr, IsErrAnd, ◌∙◌}
use Rattle.std.proofs.lemmas.Result.{err_from_is_err_and}
use mathlib.Core.Path.{◌≡◌, refl, ap}
use mathlib.Core.Bool.{true, cond}
use mathlib.Core.List.{List, [], ◌∷◌}
use Prim.Native.Nat.{ℕ, ◌/◌, ◌<◌}
use borrow.Author.Tests.{eqb-true}
use native.Mathlib.Omega.{arith}
use lib.ListN.{length}
use Rattle.canvas.specs.Canvas.{is_canvas}
use Rattle.block.specs.Bytes.{block_at}
use Rattle.block.specs.Fields.{priority}
use Rattle.block.specs.Verdict.{verdict}
use Rattle.answer.specs.declared.Cause.TheVariants.{Canvas, Sources, Priority, Source, Frame, Scratch}
use Rattle.rundown.specs.Tests.{apart, taken}
use Rattle.rundown.proofs.Laws.Held.{untaken}
use Rattle.sources.proofs.Pool.{right_sides}
use Rattle.sources.specs.Table.{sizes, total, sides_in, pool_right}
use Rattle.layer.specs.Layer.{has_room, source_there, frame_there, Accepted}
use Rattle.accept.specs.Tests.{answer, canvas_test, table_test, pool_test, rundown_test, blocks_test, source_test, frame_test, scratch_test, layers_of}
use Rattle.accept.specs.declared.Layers.{Layers}
use Rattle.answer.specs.declared.Refusal.{Refusal}
use Rattle.answer.specs.Tests.{unless, at}
use Rattle.answer.proofs.Laws.{counted, count_is, chosen, spared, judged, each_at}

pub record Passes (w h n : ℕ) (table : List ℕ) (m : ℕ) (buf : List ℕ) (la lb count : ℕ) : Type 0 where
  pub is : count ≡ length buf / 512
  pub canvas_right : is_canvas w h n ≡ true
  pub sides_right : sides_in table ≡ true
  pub pool_right_lem : m ≡ total (sizes table)
  pub accepted : (i : ℕ) → i < count → Accepted w table (block_at buf i)
  pub differ : (i j : ℕ) → i < j → j < count → priority (block_at buf i) ≡ priority (block_at buf j) → ⊥
  pub room : (i : ℕ) → i < count → has_room w h (block_at buf i) la lb ≡ true

module _ (w h n : ℕ) (table : List ℕ) (m : ℕ) (buf : List ℕ) (la lb : ℕ) where
  block_at_lem : (k : ℕ) → blocks_test w table (length buf / 512) buf ≡ Ok k → (i : ℕ) → i < length buf / 512 → Accepted w table (block_at buf i)
  unfolding blocks_test source_test frame_test
  block_at_lem k e i l =
      let b = block_at buf i in
      let x = each_at (λ n. unless (at n (verdict (block_at buf n)) ∷ source_test table n (block_at buf n) ∷ frame_test w n (block_at buf n) ∷ []) n) (length buf / 512) k e i l in
      let p = counted (at i (verdict b)) (source_test table i b ∷ frame_test w i b ∷ []) i x.0 x.1 in
      let q = counted (source_test table i b) (frame_test w i b ∷ []) i x.0 p.1 in
      let r = counted (frame_test w i b) [] i x.0 q.1 in
      record {
        passed = judged i p.0.0 (verdict b) p.0.1;
        source_listed = chosen (source_there table b) Source i i q.0.0 q.0.1;
        frame_fits = chosen (frame_there w b) Frame i i r.0.0 r.0.1;
      }

  pub differ_at : (k : ℕ) → apart (length buf / 512) buf ≡ Ok k → (i j : ℕ) → i < j → j < length buf / 512 → priority (block_at buf i) ≡ priority (block_at buf j) → ⊥
  unfolding apart
  differ_at k e i j l o =
      let x = each_at (λ n. cond (taken (priority (block_at buf n)) n buf) (refused Priority n) (Ok n)) (length buf / 512) k e j o in
      untaken (priority (block_at buf j)) j buf (spared _ Priority j j x.0 x.1) i l

  room_at : (k : ℕ) → scratch_test w h la lb (length buf / 512) buf ≡ Ok k → (i : ℕ) → i < length buf / 512 → has_room w h (block_at buf i) la lb ≡ true
  unfolding scratch_test
  room_at k e i l =
      let x = each_at (λ n. cond (has_room w h (block_at buf n) la lb) (Ok n) (refused Scratch n)) (length buf / 512) k e i l in
      chosen (has_room w h (block_at buf i) la lb) Scratch i i x.0 x.1

  sides_at : (k : ℕ) → table_test table ≡ Ok k → sides_in table ≡ true
  unfolding table_test
  sides_at k e = right_sides table (chosen _ Sources 0 0 k e)

  pool_at : (k : ℕ) → pool_test table m ≡ Ok k → m ≡ total (sizes table)
  unfolding pool_test pool_right
  pool_at k e = eqb-true m (total (sizes table)) (chosen _ Sources 0 0 k e)

  pub passes_all : (count : ℕ) → answer w h n table m buf la lb ≡ Ok count → Passes w h n table m buf la lb count
  unfolding answer canvas_test
  passes_all count e =
      let f = length buf / 512 in
      let sc = scratch_test w h la lb f buf in
      let dp = apart f buf in
      let bl = blocks_test w table f buf in
      let u = counted (canvas_test w h n) (table_test table ∷ pool_test table m ∷ rundown_test buf ∷ bl ∷ dp ∷ sc ∷ []) f count e in
      let v = counted (table_test table) (pool_test table m ∷ rundown_test buf ∷ bl ∷ dp ∷ sc ∷ []) f count u.1 in
      let v' = counted (pool_test table m) (rundown_test buf ∷ bl ∷ dp ∷ sc ∷ []) f count v.1 in
      let x = counted (rundown_test buf) (bl ∷ dp ∷ sc ∷ []) f count v'.1 in
      let y = counted bl (dp ∷ sc ∷ []) f count x.1 in
      let z = counted dp (sc ∷ []) f count y.1 in
      let t = counted sc [] f count z.1 in
      let q : count ≡ f = count_is f count t.1 in
      record {
        is = q;
        canvas_right = chosen (is_canvas w h n) Canvas 0 0 u.0.0 u.0.1;
        sides_right = sides_at v.0.0 v.0.1;
        pool_right_lem = pool_at v'.0.0 v'.0.1;
        accepted = λ i l. block_at_lem y.0.0 y.0.1 i (rw (← q) l);
        differ = λ i j l o. differ_at z.0.0 z.0.1 i j l (rw (← q) o);
        room = λ i l. room_at t.0.0 t.0.1 i (rw (← q) l);
      }

-- ---- the layers that are found

pub found : (a : Answer) (ps : List ℕ) (n : ℕ) → a ≡ Ok n → Ok (record { count = n; priorities = ps }) ≡ layers_of a ps
unfolding layers_of
found a ps n e = rw e refl

pub lost : (a : Answer) (ps : List ℕ) (r : Refusal) → a ≡ Err r → Err r ≡ layers_of a ps
unfolding layers_of
lost a ps r e = rw e refl

-- layers that are found are as many as the answer says, with the given priorities
pub found_as : (a : Answer) (ps : List ℕ) (l : Layers) → layers_of a ps ≡ Ok l → (a ≡ Ok l.count) × (l.priorities ≡ ps)
unfolding layers_of
found_as (Ok n) ps l e = (cc, cc)
found_as (Err r) ps l e = let z : ◌≡◌ {A = ℕ} 0 1 = cc in absurd (omega arith)

pub lost_as : (a : Answer) (ps : List ℕ) (r : Refusal) → layers_of a ps ≡ Err r → a ≡ Err r
unfolding layers_of
lost_as (Ok n) ps r e = let z : ◌≡◌ {A = ℕ} 0 1 = cc in absurd (omega arith)
lost_as (Err q) ps r e = cc

pub layers_by : (a b : Answer) (ps : List ℕ) → a ≡ b → layers_of a ps ≡ layers_of b ps
layers_by a b ps e = ap (λ (x : Answer). layers_of x ps) e

-- what the exit of a `?` returns
pub handed : (x : Result Layers Refusal) (r : Refusal) → IsErr x × IsErrAnd x (λ y. y ≡ r) → x ≡ Err r
handed x r h = let p = err_from_is_err_and x h.1 in p.1 ∙ ap Err p.2
