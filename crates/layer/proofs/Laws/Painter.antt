-- The laws that demand 3 asks of a painter, for the layers of a rundown that the tests accept.
use Prim.Native.Nat.{ℕ, ◌<◌}
use mathlib.Core.Path.{◌≡◌, refl, sym, ◌∙◌, subst}
use mathlib.Core.Bool.{true}
use mathlib.Core.List.{List}
use lib.ListN.{length, get_or}
use Rattle.geom.specs.declared.IRect.{IRect}
use Rattle.canvas.specs.Canvas.{is_canvas}
use Rattle.std.specs.Prelude.{Option, Some}
use Rattle.block.specs.declared.Kind.{Kind}
use Rattle.block.specs.declared.Kind.TheVariants.{Glass, Straight}
use Rattle.block.specs.Fields as Fields
use Rattle.taint.specs.Stain as Stain
use Rattle.taint.specs.Stain.{inside}
use Rattle.taint.proofs.Laws.Agree.{Painter}
use Rattle.sources.specs.Table.{sizes, total, sides_in, pixels}
use Rattle.layer.specs.Layer.{kind_of, box_by, sort_by, layer_of, painting_by, painting, source_there, Accepted, style_of, glazed}
use Rattle.block.proofs.Laws.Kinds.{kind_number}
use Rattle.block.proofs.Laws.Tests.{passed}
use Rattle.layer.proofs.Laws.Tests.{blur_up, places}
use Rattle.sources.proofs.Pool.{source_sized}
use Rattle.layer.proofs.Laws.EachKind as Kinds
use Rattle.layer.proofs.Laws.Glass as GlassLaws

-- a canvas of w by h with n pixels; a table whose sides are in their range
module _ (w h n : ℕ) (C : is_canvas w h n ≡ true) (table : List ℕ) (S : sides_in table ≡ true) where
  abbrev paint : List ℕ → List ℕ → List ℕ → List ℕ
  paint pool b c = painting w h table pool b c

  -- a pool as long as the sizes say
  abbrev Fit : List ℕ → Type 0
  Fit pool = length pool ≡ total (sizes table)

  exact : (κ : Option Kind) (p q : List ℕ) → Fit q → (b : List ℕ) → Accepted w table b → κ ≡ kind_of (Fields.kind b) → (c d : List ℕ) → length c ≡ n → length d ≡ n → (t : ℕ)
      → sort_by κ w h b ≡ Stain.copy t true → pixels table p t ≡ pixels table q t → (k : ℕ) → k < n → inside w (box_by κ w h table b) k ≡ true
      → get_or (painting_by κ w h table p b c) k 0 ≡ get_or (painting_by κ w h table q b d) k 0
  unfolding source_there
  exact κ p q fq b ok κe c d lc ld t s z k l i =
      let x = Kinds.exact_kind w h table b κ t s in
      let u : kind_of (Fields.kind b) ≡ Some Straight = sym κe ∙ x.0 in
      let five = kind_number (Fields.kind b) Straight u in
      let r = places b five (passed b ok.passed).integers in
      let f = Kinds.copy_source w h table b κ t true s in
      let there = rw five at ok.source_listed in
      rw x.0
      (Kinds.exact_law w h table b p q c d x.1 (rw f z) (source_sized table q (Fields.source b) S fq there) r.0 r.1 (rw lc C) (lc ∙ sym ld) k (rw lc l) (rw (← x.0) i))

  glassy : (κ : Option Kind) (p q b : List ℕ) → Accepted w table b → κ ≡ kind_of (Fields.kind b) → (c d : List ℕ) → length c ≡ n → length d ≡ n → (win : IRect)
      → sort_by κ w h b ≡ Stain.glass win → ((j : ℕ) → j < n → inside w win j ≡ true → get_or c j 0 ≡ get_or d j 0) → (k : ℕ) → k < n → inside w (box_by κ w h table b) k ≡ true
      → get_or (painting_by κ w h table p b c) k 0 ≡ get_or (painting_by κ w h table q b d) k 0
  unfolding painting_by glazed box_by style_of
  glassy κ p q b ok κe c d lc ld win s e k l i =
      let x = Kinds.glass_kind w h table b κ win s in
      let u : kind_of (Fields.kind b) ≡ Some Glass = sym κe ∙ x.0 in
      let up = blur_up b (kind_number (Fields.kind b) Glass u) (passed b ok.passed).floats in
      let i' = rw x.0 at i in
      rw x.0
      (GlassLaws.agree w h (Fields.clip b) (Fields.rect b) (style_of b) (Fields.entries b) c d (rw lc C) (lc ∙ sym ld) up
      (λ j m v. e j (subst (λ (z : ℕ). j < z) lc m) (rw (← x.1) v)) k (rw lc l) i')

  pub painter : Painter w n (List ℕ) (List ℕ) (pixels table) (layer_of w h table) paint Fit (Accepted w table)
  unfolding painting layer_of
  painter = record {
    keeps = λ p b ok c e. Kinds.keeps w h table b (kind_of (Fields.kind b)) p c ∙ e;
    outside = λ p b ok c e k l o. Kinds.outside w h table b (kind_of (Fields.kind b)) p c k (rw e l) o;
    plain_law = λ p q b ok c d lc ld s k l a. Kinds.plain_law w h table b (kind_of (Fields.kind b)) p q c d s (lc ∙ sym ld) k (rw lc l) a;
    copy_law = λ p q b ok c d lc ld t x s z k l a. Kinds.copy_law w h table b (kind_of (Fields.kind b)) p q c d t x s z (lc ∙ sym ld) k (rw lc l) a;
    exact_law = λ p q fp fq b ok c d lc ld t s z k l i. exact (kind_of (Fields.kind b)) p q fq b ok refl c d lc ld t s z k l i;
    glass-law = λ p q b ok c d lc ld win s e k l i. glassy (kind_of (Fields.kind b)) p q b ok refl c d lc ld win s e k l i;
  }
