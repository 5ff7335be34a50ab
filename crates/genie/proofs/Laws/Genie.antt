-- The laws of `blit_genie`: it keeps the canvas's length, outside the clip nothing changes, a pixel depends on its own old value and the source alone, and the
-- source's top bytes do not matter.
use Prim.Native.Nat.{ℕ, zero, suc, ◌/◌, ◌%◌, ◌<◌}
use mathlib.Core.Path.{◌≡◌, refl, sym, ap, ◌∙◌}
use mathlib.Core.Bool.{Bool, true, false, cond, ◌&&◌}
use mathlib.Core.List.{List}
use lib.IntN.{pos}
use lib.Ieee.{le}
use lib.ListN.{length, get_or}
use Rattle.mathf.specs.Real as Real
use Rattle.color.proofs.Laws.{mix_pix_same}
use Rattle.geom.specs.declared.IRect.{IRect}
use Rattle.geom.specs.Geom.{canvas, intersect, holds, outer_pixels}
use Rattle.geom.proofs.Laws.{holds_intersect}
use Rattle.canvas.specs.Canvas.{painted_on, box_on}
use Rattle.canvas.proofs.Laws.Box.{boxed_alike}
use Rattle.canvas.proofs.Laws.Pixels as Pixels
use Rattle.sources.specs.declared.Sides.{Sides}
use Rattle.sources.specs.Source.{is_source, texel}
use Rattle.sources.proofs.Laws.{SameColors, texel_low}
use Rattle.scaled.specs.Scaled.{scaled_rule}
use Rattle.scaled.proofs.Laws as Scaled
use Rattle.genie.specs.declared.Flight.{Flight}
use Rattle.genie.specs.Genie.{strip_box, row_part, strip_of, column, coverage, genie_pix, full_of, genie_row, in_turn, genied, at_start}

-- ---- rules in turn, whatever they are

module _ (w h : ℕ) (R : ℕ → ℕ → ℕ → ℕ → ℕ) where
  turn_length : (n : ℕ) (cv : List ℕ) → length (in_turn w h R n cv) ≡ length cv
  unfolding in_turn
  turn_length zero cv = refl
  turn_length (suc n) cv = turn_length n (painted_on w h (R n) cv) ∙ Pixels.length_painted_on w h (R n) cv

  turn_outside : (k : ℕ) → ((n : ℕ) (cv : List ℕ) → k < length cv → get_or (painted_on w h (R n) cv) k 0 ≡ get_or cv k 0)
      → (n : ℕ) (cv : List ℕ) → k < length cv → get_or (in_turn w h R n cv) k 0 ≡ get_or cv k 0
  unfolding in_turn
  turn_outside k q zero cv l = refl
  turn_outside k q (suc n) cv l = turn_outside k q n (painted_on w h (R n) cv) (rw (Pixels.length_painted_on w h (R n) cv) l) ∙ q n cv l

  turn_agree : (n : ℕ) (cv dv : List ℕ) (k : ℕ) → length cv ≡ length dv → k < length cv → get_or cv k 0 ≡ get_or dv k 0
      → get_or (in_turn w h R n cv) k 0 ≡ get_or (in_turn w h R n dv) k 0
  unfolding in_turn
  turn_agree zero cv dv k m l e = e
  turn_agree (suc n) cv dv k m l e =
      turn_agree n (painted_on w h (R n) cv) (painted_on w h (R n) dv) k
      (Pixels.length_painted_on w h (R n) cv ∙ m ∙ sym (Pixels.length_painted_on w h (R n) dv))
      (rw (Pixels.length_painted_on w h (R n) cv) l) (Pixels.agree w h (R n) cv dv k m l e)

-- rules that agree one by one agree in turn
turn_same : (w h : ℕ) (R Q : ℕ → ℕ → ℕ → ℕ → ℕ) → ((n x y p : ℕ) → R n x y p ≡ Q n x y p) → (n : ℕ) (cv : List ℕ) → in_turn w h R n cv ≡ in_turn w h Q n cv
unfolding in_turn
turn_same w h R Q e zero cv = refl
turn_same w h R Q e (suc n) cv = ap (in_turn w h R n) (Pixels.same_rule w h (R n) (Q n) cv (e n)) ∙ turn_same w h R Q e n (painted_on w h (Q n) cv)

-- ---- the genie

-- a box under the clip holds no pixel outside it
not_held : (w h : ℕ) (clip r : IRect) (x y : ℕ) → holds (intersect clip (canvas w h)) (pos x) (pos y) ≡ false → holds (box_on w h clip r) (pos x) (pos y) ≡ false
unfolding box_on
not_held w h clip r x y out = holds_intersect r (intersect clip (canvas w h)) (pos x) (pos y) ∙ rw out (nothing (holds r (pos x) (pos y)))
  where
    nothing : (t : Bool) → t && false ≡ false
    nothing true = refl
    nothing false = refl

module _ (w h : ℕ) (clip : IRect) (src : List ℕ) (s : Sides) (g : Flight) where
  abbrev rows : ℕ → ℕ → ℕ → ℕ → ℕ
  rows = genie_row w h clip src s g

  abbrev copy : ℕ → ℕ → ℕ → ℕ
  copy = scaled_rule w h clip src s (at_start g)

  -- the three cases
  abbrev case : Bool → Bool → List ℕ → List ℕ
  case b t cv = cond b (painted_on w h copy cv) (cond t (in_turn w h rows s.h cv) cv)

  is : (cv : List ℕ) → genied w h clip src s g cv ≡ case (le g.t Real.zero) (is_source s (length src)) cv
  unfolding genied
  is cv = refl

  row_outside : (k : ℕ) → holds (intersect clip (canvas w h)) (pos (k % w)) (pos (k / w)) ≡ false
      → (n : ℕ) (cv : List ℕ) → k < length cv → get_or (painted_on w h (rows n) cv) k 0 ≡ get_or cv k 0
  unfolding genie_row
  row_outside k out n cv l =
      let box = strip_box (strip_of g (row_part n s.h)) in
      Pixels.outside w h (box_on w h clip box) _ cv k l (not_held w h clip box (k % w) (k / w) out)

  -- the canvas keeps its length
  pub same_length : (cv : List ℕ) → length (genied w h clip src s g cv) ≡ length cv
  same_length cv = ap length (is cv) ∙ go (le g.t Real.zero) (is_source s (length src))
    where
      go : (b t : Bool) → length (case b t cv) ≡ length cv
      go true t = Pixels.length_painted_on w h copy cv
      go false true = turn_length w h rows s.h cv
      go false false = refl

  -- outside the clip, cut to the canvas, nothing changes
  pub outside : (cv : List ℕ) (k : ℕ) → k < length cv → holds (intersect clip (canvas w h)) (pos (k % w)) (pos (k / w)) ≡ false
      → get_or (genied w h clip src s g cv) k 0 ≡ get_or cv k 0
  outside cv k l out = ap (λ (l : List ℕ). get_or l k 0) (is cv) ∙ go (le g.t Real.zero) (is_source s (length src))
    where
      go : (b t : Bool) → get_or (case b t cv) k 0 ≡ get_or cv k 0
      go true t = Scaled.outside w h clip src s (at_start g) cv k l (not_held w h clip (outer_pixels g.from) (k % w) (k / w) out)
      go false true = turn_outside w h rows k (row_outside k out) s.h cv l
      go false false = refl

  -- two canvases that agree at a pixel agree there afterwards
  pub agree : (cv dv : List ℕ) (k : ℕ) → length cv ≡ length dv → k < length cv → get_or cv k 0 ≡ get_or dv k 0
      → get_or (genied w h clip src s g cv) k 0 ≡ get_or (genied w h clip src s g dv) k 0
  agree cv dv k n l e =
      ap (λ (l : List ℕ). get_or l k 0) (is cv) ∙ go (le g.t Real.zero) (is_source s (length src)) ∙ sym (ap (λ (l : List ℕ). get_or l k 0) (is dv))
    where
      go : (b t : Bool) → get_or (case b t cv) k 0 ≡ get_or (case b t dv) k 0
      go true t = Pixels.agree w h copy cv dv k n l e
      go false true = turn_agree w h rows s.h cv dv k n l e
      go false false = e

-- from sources that differ in top bytes alone
module _ (w h : ℕ) (clip : IRect) (src src' : List ℕ) (c : SameColors src src') (s : Sides) (g : Flight) where
  same_row : (n x y p : ℕ) → genie_row w h clip src s g n x y p ≡ genie_row w h clip src' s g n x y p
  unfolding genie_row genie_pix
  same_row n x y p =
      let k = strip_of g (row_part n s.h) in
      let sx = column s.w k x in
      boxed_alike (box_on w h clip (strip_box k)) _ _ x y p
      (mix_pix_same p (texel src s sx n) p (texel src' s sx n) (coverage k (full_of g.alpha) x) refl (texel_low src src' c s sx n))

  pub same_colors : (cv : List ℕ) → genied w h clip src s g cv ≡ genied w h clip src' s g cv
  unfolding genied
  same_colors cv =
      rw (
        c.long,
        Pixels.same_rule w h _ _ cv (Scaled.same_rule src src' c s w h clip (at_start g)),
        turn_same w h _ _ same_row s.h cv,
      )
      refl
