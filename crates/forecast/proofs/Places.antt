-- The loop over the layers: the boxes of those passed with zeros behind them, the most that one of them needs, and their cells together.
use Rattle.std.proofs.Common.{Ok}
use Prim.Native.Nat.{ℕ, suc, ◌+◌, ◌-◌, ◌*◌, ◌/◌, ◌≤◌, ◌<◌, max}
use mathlib.Core.Path.{◌≡◌, refl, sym, ap, ◌∙◌}
use mathlib.Core.Bool.{true}
use mathlib.Core.List.{List, ◌++◌, append_assoc}
use native.Mathlib.Numerals.{add-one}
use native.Mathlib.Omega.{arith}
use lib.IntN.{ℤ, pos}
use lib.ListN.{length, take, drop, length-append, length-replicate, replicate-append-replicate}
use lib.Seq.{take_at, drop_at}
use Rattle.canvas.specs.Canvas.{is_canvas}
use Rattle.block.specs.Bytes.{block_at}
use Rattle.forecast.specs.Forecast.{sides, cells_of, cells_sum, scratch_of, boxes_up_to, boxes_of, forecast_after}
use Rattle.forecast.proofs.Laws.Cells.{three_cells}
use Rattle.forecast.proofs.Laws.Boxes.{zeros, area_at, up_to_long, up_to_past}

drop_zeros : (k m : ℕ) → drop k (zeros (k + m)) ≡ zeros m
drop_zeros k m = ap (drop k) (sym (replicate-append-replicate k m (pos 0))) ∙ drop_at (zeros k) (zeros m) k (length-replicate k (pos 0))

-- what is known of n layers
pub record Turn (w h : ℕ) (table buf : List ℕ) (boxes : List ℤ) (scratch cells n : ℕ) : Type 0 where
  pub few : n ≤ 256
  pub stand : boxes ≡ boxes_up_to w h table buf n ++ zeros (1024 - 4 * n)
  pub most : scratch ≡ scratch_of w h buf n
  pub sum : cells ≡ cells_sum w h buf n

module _ (w h : ℕ) (table buf : List ℕ) where
  pub turn_first : Turn w h table buf (zeros 1024) 0 0 0
  unfolding boxes_up_to scratch_of cells_sum
  turn_first = record { few = omega arith; stand = refl; most = refl; sum = refl }

  pub turn_long : {boxes : List ℤ} {scratch cells n : ℕ} → Turn w h table buf boxes scratch cells n → length boxes ≡ 1024
  turn_long {n = n} t =
      ap length t.stand ∙ length-append (boxes_up_to w h table buf n) (zeros (1024 - 4 * n))
      ∙ omega (arith, up_to_long w h table buf n, length-replicate (1024 - 4 * n) (pos 0), t.few)

  -- the next box in its place
  placed : {boxes : List ℤ} (n : ℕ) → n < 256 → boxes ≡ boxes_up_to w h table buf n ++ zeros (1024 - 4 * n)
      → take (4 * n) boxes ++ (sides (area_at w h table buf n) ++ drop (4 * n + 4 - 4 * n) (drop (4 * n) boxes)) ≡ boxes_up_to w h table buf (suc n) ++ zeros (1024 - 4 * suc n)
  unfolding boxes_up_to
  placed {boxes} n l e =
      let u = boxes_up_to w h table buf n in
      let d : 4 * n + 4 - 4 * n ≡ 4 = omega arith in
      let m : 1024 - 4 * n ≡ 4 + (1024 - 4 * suc n) = omega arith in
      let z : drop (4 * n) boxes ≡ zeros (1024 - 4 * n) = ap (drop (4 * n)) e ∙ drop_at u (zeros (1024 - 4 * n)) (4 * n) (up_to_long w h table buf n) in
      let front : take (4 * n) boxes ≡ u = ap (take (4 * n)) e ∙ take_at u (zeros (1024 - 4 * n)) (4 * n) (up_to_long w h table buf n) in
      let rest : drop (4 * n + 4 - 4 * n) (drop (4 * n) boxes) ≡ zeros (1024 - 4 * suc n) =
      ap (λ (k : ℕ). drop k (drop (4 * n) boxes)) d ∙ ap (drop 4) (z ∙ ap zeros m) ∙ drop_zeros 4 (1024 - 4 * suc n) in
      rw (front, rest) (sym (append_assoc u (sides (area_at w h table buf n)) (zeros (1024 - 4 * suc n))))

  pub turn_more : is_canvas w h (w * h) ≡ true → {boxes : List ℤ} {scratch cells n : ℕ} {part : List ℤ} {made greatest : ℕ} → Turn w h table buf boxes scratch cells n → n < 256
      → part ≡ sides (area_at w h table buf n) → made ≡ cells_of w h (block_at buf n) → greatest ≡ max scratch (3 * made)
      → Turn w h table buf (take (4 * n) boxes ++ (part ++ drop (4 * n + 4 - 4 * n) (drop (4 * n) boxes))) greatest (cells + made) (n + 1)
  unfolding scratch_of cells_sum
  turn_more right {boxes} {scratch} {cells} {n} {part} {made} {greatest} t l p q g =
      rw (add-one n) (record {
        few = omega arith;
        stand = ap (λ (z : List ℤ). take (4 * n) boxes ++ (z ++ drop (4 * n + 4 - 4 * n) (drop (4 * n) boxes))) p ∙ placed n l t.stand;
        most = g ∙ rw (t.most, q, three_cells w h right (block_at buf n)) refl;
        sum = rw (t.sum, q) refl;
      })

  -- past the last layer
  pub turn_last : {boxes : List ℤ} {scratch cells n : ℕ} → Turn w h table buf boxes scratch cells n → length buf / 512 ≤ n
      → record { answer = Ok n; scratch = scratch; cells = cells; boxes = boxes } ≡ forecast_after (Ok n) w h table buf
  unfolding forecast_after boxes_of
  turn_last {n = n} t l =
      let m : 1024 - 4 * n ≡ 4 * (256 - n) = omega (arith, t.few) in
      let e : n + (256 - n) ≡ 256 = omega (arith, t.few) in
      rw (t.most, t.sum, t.stand, m, ← up_to_past w h table buf n (256 - n) l, e) refl
