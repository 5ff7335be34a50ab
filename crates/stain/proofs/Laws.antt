-- The map beside play: it is the stain of demand 3, and so a pixel whose byte is 0 is the same whatever the source shows.
use Rattle.answer.specs.Answer.{Answer}
use Rattle.std.proofs.Common.{Ok, Err}
use mathlib.Core.Path.{◌≡◌, refl, sym, ◌∙◌}
use mathlib.Core.Bool.{Bool, true, false, cond}
use mathlib.Core.List.{List}
use Prim.Native.Nat.{ℕ, ◌<◌}
use native.Mathlib.Omega.{arith}
use lib.ListN.{length, get_or}
use Rattle.canvas.proofs.Laws.Rows.{get_d-map_row}
use Rattle.sources.specs.Table.{OnlyAt}
use Rattle.taint.specs.Stain.{clean}
use Rattle.accept.specs.Tests.{answer, sizes_answer}
use Rattle.accept.proofs.Laws.Sizes.{sizes_too}
use Rattle.play.specs.Play.{final, stain_after, stain_of}
use Rattle.play.proofs.Laws.Whole.{demand_three}
use Rattle.stain.specs.Map.{map_of, map_after, stain_map}

-- where play accepts, whatever the pool's length m and the scratch
module _ (w h : ℕ) (table buf : List ℕ) (s : ℕ) (map : List ℕ) (m la lb n : ℕ) (accepted : answer w h (length map) table m buf la lb ≡ Ok n) where
  -- the same count of layers
  pub same_count : sizes_answer w h (length map) table buf ≡ Ok n
  same_count = sizes_too w h (length map) table buf m la lb n accepted

  -- the map is play's stain
  pub the_stain : stain_map w h table buf s map ≡ map_of (stain_of w h (length map) table m buf la lb s) map
  unfolding stain_map map_after stain_of
  the_stain = rw (same_count, accepted) refl

  -- its byte for pixel k
  pub the_byte : (k : ℕ) → k < length map → get_or (stain_map w h table buf s map) k 0 ≡ cond (stain_of w h (length map) table m buf la lb s k) 1 0
  unfolding map_of
  the_byte k l = rw the_stain (get_d-map_row (λ k old. cond (stain_of w h (length map) table m buf la lb s k) 1 0) map k l)

not_stained : (t : Bool) → ◌≡◌ {A = ℕ} (cond t 1 0) 0 → t ≡ false
not_stained true e = absurd (omega arith)
not_stained false e = refl

-- DEMAND 3 BY THE MAP: two plays whose pools differ at source s's words alone, accepted or refused, leave one pixel wherever the map's byte is 0
module _ (w h : ℕ) (table buf : List ℕ) (la lb : ℕ) (cv : List ℕ) (s : ℕ) (p q : List ℕ) (o : OnlyAt table s p q) (map : List ℕ) (long : length map ≡ length cv) where
  clean_at : (k : ℕ) → k < length cv → get_or (stain_map w h table buf s map) k 0 ≡ 0
      → (r : Answer) → answer w h (length cv) table (length p) buf la lb ≡ r → stain_of w h (length cv) table (length p) buf la lb s k ≡ false
  unfolding stain_of stain_after clean
  clean_at k l z (Err r) e = rw e refl
  clean_at k l z (Ok n) e =
      let e' : answer w h (length map) table (length p) buf la lb ≡ Ok n = rw long e in
      let l' : k < length map = rw long l in
      let b = not_stained (stain_of w h (length map) table (length p) buf la lb s k) (sym (the_byte w h table buf s map (length p) la lb n e' k l') ∙ z) in
      rw long at b

  pub same_outside_the_map : (k : ℕ) → k < length cv → get_or (stain_map w h table buf s map) k 0 ≡ 0
      → get_or (final w h table p buf la lb cv) k 0 ≡ get_or (final w h table q buf la lb cv) k 0
  same_outside_the_map k l z = (demand_three w h table buf la lb cv s p q o).outside_stain k l (clean_at k l z (answer w h (length cv) table (length p) buf la lb) refl)
