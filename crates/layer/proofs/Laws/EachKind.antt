-- The painters' laws, kind by kind.
use Prim.Native.Nat.{ℕ, ◌≤◌, ◌<◌}
use mathlib.Core.Path.{◌≡◌, refl, sym, ap, ◌∙◌, subst}
use mathlib.Core.Bool.{Bool, true, false, ◌&&◌}
use mathlib.Core.List.{List}
use lib.Dec.{T, eqb}
use lib.IntN.{nat_abs}
use lib.Ieee.{binary32, eq}
use lib.Ieee.Bits.{of_bits-fits}
use lib.ListN.{length, get_or}
use borrow.Author.Tests.{eqb-true}
use Rattle.mathf.specs.Real as Real
use Rattle.geom.specs.declared.IRect.{IRect}
use Rattle.canvas.specs.Canvas.{is_canvas}
use Rattle.canvas.proofs.Laws.Pixels as Pixels
use Rattle.fill.proofs.Laws as FillLaws
use Rattle.stroke.proofs.Laws as StrokeLaws
use Rattle.shadow.proofs.Laws as ShadowLaws
use Rattle.straight.proofs.Laws.Exact as StraightLaws
use Rattle.straight.proofs.Laws.TopByte as TopByte
use Rattle.scaled.proofs.Laws as ScaledLaws
use Rattle.genie.proofs.Laws.Genie as GenieLaws
use Rattle.frame.proofs.Laws as FrameLaws
use Rattle.glass.proofs.Laws as GlassLaws
use Rattle.block.specs.Bytes.{f32}
use Rattle.std.specs.Prelude.{Option, Some, None}
use Rattle.block.specs.declared.Kind.{Kind}
use Rattle.block.specs.declared.Kind.TheVariants.{Fill, Stroke, Shadow, Glass, Straight, Scaled, Genie, Frame}
use Rattle.block.specs.Fields as Fields
use Rattle.taint.specs.Stain as Stain
use Rattle.taint.specs.Stain.{inside}
use Rattle.sources.specs.Source.{is_source}
use Rattle.sources.specs.Table.{sides_of, pixels}
use Rattle.sources.proofs.Laws.{SameColors}
use Rattle.sources.proofs.Pool.{colors_too}
use Rattle.layer.specs.Layer.{kind_of, box_by, sort_by, is_exact, style_of, shadow_of, blit_of, stretch_of, flight_of, surface_of, window, painting_by, filled, stroked, shadowed, glazed, copied_onto, stretched, drawn, framed, painting, has_room, painting_in}
use Rattle.geom.proofs.Laws.{both_true}

-- ---- sorts

abbrev is_plain : Stain.Sort → Bool
is_plain Stain.plain = true
is_plain (Stain.copy t e) = false
is_plain (Stain.glass r) = false

abbrev is_glass : Stain.Sort → Bool
is_glass Stain.plain = false
is_glass (Stain.copy t e) = false
is_glass (Stain.glass r) = true

abbrev is_copy : Stain.Sort → Bool
is_copy Stain.plain = false
is_copy (Stain.copy t e) = true
is_copy (Stain.glass r) = false

-- the source that is copied, and whether it is exact
abbrev copied_from : Stain.Sort → ℕ
copied_from Stain.plain = 0
copied_from (Stain.copy t e) = t
copied_from (Stain.glass r) = 0

abbrev exactly : Stain.Sort → Bool
exactly Stain.plain = false
exactly (Stain.copy t e) = e
exactly (Stain.glass r) = false

abbrev window_of : IRect → Stain.Sort → IRect
window_of r Stain.plain = r
window_of r (Stain.copy t e) = r
window_of r (Stain.glass x) = x

unlike : {A : Type 0} (f : Stain.Sort → Bool) {s t : Stain.Sort} → s ≡ t → f s ≡ false → f t ≡ true → A
unlike f e p q = absurd (subst T (sym q ∙ sym (ap f e) ∙ p) tt)

module _ (w h : ℕ) (table : List ℕ) (b : List ℕ) where
  -- (1) the canvas keeps its length
  pub keeps : (κ : Option Kind) (pool c : List ℕ) → length (painting_by κ w h table pool b c) ≡ length c
  unfolding painting_by filled stroked shadowed glazed copied_onto stretched drawn framed
  keeps (Some Fill) pool c = Pixels.length_painted_on w h _ c
  keeps (Some Stroke) pool c = Pixels.length_painted_on w h _ c
  keeps (Some Shadow) pool c = Pixels.length_painted_on w h _ c
  keeps (Some Glass) pool c = GlassLaws.long w h _ _ _ _ c
  keeps (Some Straight) pool c = Pixels.length_painted_on w h _ c
  keeps (Some Scaled) pool c = Pixels.length_painted_on w h _ c
  keeps (Some Genie) pool c = GenieLaws.same_length w h _ _ _ _ c
  keeps (Some Frame) pool c = Pixels.length_painted_on w h _ c
  keeps None pool c = refl

  -- (2) no pixel outside the box changes
  pub outside : (κ : Option Kind) (pool c : List ℕ) (k : ℕ) → k < length c → inside w (box_by κ w h table b) k ≡ false → get_or (painting_by κ w h table pool b c) k 0 ≡ get_or c k 0
  unfolding painting_by filled stroked shadowed glazed copied_onto stretched drawn framed box_by shadow_of blit_of stretch_of
  outside (Some Fill) pool c k l o = FillLaws.outside w h (Fields.clip b) (Fields.rect b) (Fields.radius b) (Fields.paint_of b) c k l o
  outside (Some Stroke) pool c k l o = StrokeLaws.outside w h (Fields.clip b) (Fields.rect b) (Fields.radius b) (Fields.stroke_width b) (Fields.colour b) c k l o
  outside (Some Shadow) pool c k l o = ShadowLaws.outside w h (Fields.clip b) (Fields.rect b) (shadow_of b) c k l o
  outside (Some Glass) pool c k l o = GlassLaws.outside w h (Fields.clip b) (Fields.rect b) (style_of b) (Fields.entries b) c k l o
  outside (Some Straight) pool c k l o =
      let t = Fields.source b in
      StraightLaws.outside w h (Fields.clip b) (pixels table pool t) (sides_of table t) (blit_of b) c k l o
  outside (Some Scaled) pool c k l o =
      let t = Fields.source b in
      ScaledLaws.outside w h (Fields.clip b) (pixels table pool t) (sides_of table t) (stretch_of b) c k l o
  outside (Some Genie) pool c k l o =
      let t = Fields.source b in
      GenieLaws.outside w h (Fields.clip b) (pixels table pool t) (sides_of table t) (flight_of b) c k l o
  outside (Some Frame) pool c k l o = FrameLaws.outside w h (surface_of b) (Fields.tag b) (Fields.first_flag b) (Fields.second_flag b) c k l o
  outside None pool c k l o = refl

  -- (3) and (4): a pixel goes by its old value, and a copy's by its source
  pub same_source : (κ : Option Kind) (p q c d : List ℕ) → is_glass (sort_by κ w h b) ≡ false → pixels table p (Fields.source b) ≡ pixels table q (Fields.source b)
      → length c ≡ length d → (k : ℕ) → k < length c → get_or c k 0 ≡ get_or d k 0 → get_or (painting_by κ w h table p b c) k 0 ≡ get_or (painting_by κ w h table q b d) k 0
  unfolding painting_by filled stroked shadowed copied_onto stretched drawn framed sort_by
  same_source (Some Fill) p q c d n s e k l a = Pixels.agree w h _ c d k e l a
  same_source (Some Stroke) p q c d n s e k l a = Pixels.agree w h _ c d k e l a
  same_source (Some Shadow) p q c d n s e k l a = Pixels.agree w h _ c d k e l a
  same_source (Some Glass) p q c d n s e k l a = absurd (subst T n tt)
  same_source (Some Straight) p q c d n s e k l a = rw s (Pixels.agree w h _ c d k e l a)
  same_source (Some Scaled) p q c d n s e k l a = rw s (Pixels.agree w h _ c d k e l a)
  same_source (Some Genie) p q c d n s e k l a =
      let t = Fields.source b in
      rw s (GenieLaws.agree w h (Fields.clip b) (pixels table q t) (sides_of table t) (flight_of b) c d k e l a)
  same_source (Some Frame) p q c d n s e k l a = Pixels.agree w h _ c d k e l a
  same_source None p q c d n s e k l a = a

  pub plain_law : (κ : Option Kind) (p q c d : List ℕ) → sort_by κ w h b ≡ Stain.plain
      → length c ≡ length d → (k : ℕ) → k < length c → get_or c k 0 ≡ get_or d k 0 → get_or (painting_by κ w h table p b c) k 0 ≡ get_or (painting_by κ w h table q b d) k 0
  unfolding painting_by filled stroked shadowed framed sort_by
  plain_law (Some Fill) p q c d s e k l a = Pixels.agree w h _ c d k e l a
  plain_law (Some Stroke) p q c d s e k l a = Pixels.agree w h _ c d k e l a
  plain_law (Some Shadow) p q c d s e k l a = Pixels.agree w h _ c d k e l a
  plain_law (Some Glass) p q c d s e k l a = unlike is_plain s refl refl
  plain_law (Some Straight) p q c d s e k l a = unlike is_plain s refl refl
  plain_law (Some Scaled) p q c d s e k l a = unlike is_plain s refl refl
  plain_law (Some Genie) p q c d s e k l a = unlike is_plain s refl refl
  plain_law (Some Frame) p q c d s e k l a = Pixels.agree w h _ c d k e l a
  plain_law None p q c d s e k l a = a

  -- the source of a copy
  pub copy_source : (κ : Option Kind) (t : ℕ) (x : Bool) → sort_by κ w h b ≡ Stain.copy t x → Fields.source b ≡ t
  unfolding sort_by
  copy_source (Some Fill) t x s = unlike is_copy s refl refl
  copy_source (Some Stroke) t x s = unlike is_copy s refl refl
  copy_source (Some Shadow) t x s = unlike is_copy s refl refl
  copy_source (Some Glass) t x s = unlike is_copy s refl refl
  copy_source (Some Straight) t x s = ap copied_from s
  copy_source (Some Scaled) t x s = ap copied_from s
  copy_source (Some Genie) t x s = ap copied_from s
  copy_source (Some Frame) t x s = unlike is_copy s refl refl
  copy_source None t x s = unlike is_copy s refl refl

  pub copy_law : (κ : Option Kind) (p q c d : List ℕ) (t : ℕ) (x : Bool) → sort_by κ w h b ≡ Stain.copy t x → pixels table p t ≡ pixels table q t
      → length c ≡ length d → (k : ℕ) → k < length c → get_or c k 0 ≡ get_or d k 0 → get_or (painting_by κ w h table p b c) k 0 ≡ get_or (painting_by κ w h table q b d) k 0
  copy_law κ p q c d t x s z = same_source κ p q c d (ap is_glass s) (rw (copy_source κ t x s) z)

  -- (5) an exact copy is a straight one
  pub exact_kind : (κ : Option Kind) (t : ℕ) → sort_by κ w h b ≡ Stain.copy t true → (κ ≡ Some Straight) × (is_exact b ≡ true)
  unfolding sort_by
  exact_kind (Some Fill) t s = unlike exactly s refl refl
  exact_kind (Some Stroke) t s = unlike exactly s refl refl
  exact_kind (Some Shadow) t s = unlike exactly s refl refl
  exact_kind (Some Glass) t s = unlike exactly s refl refl
  exact_kind (Some Straight) t s = (refl, ap exactly s)
  exact_kind (Some Scaled) t s = unlike exactly s refl refl
  exact_kind (Some Genie) t s = unlike exactly s refl refl
  exact_kind (Some Frame) t s = unlike exactly s refl refl
  exact_kind None t s = unlike exactly s refl refl

  -- its radius is 0, its alpha 255, and it is not dimmed
  exact_is : is_exact b ≡ true → T (eq (Fields.radius b) Real.zero) × (Fields.alpha b ≡ 255) × (Fields.dim b ≡ 0)
  unfolding is_exact
  exact_is e =
      let s = both_true (eq (Fields.radius b) Real.zero) (eqb (Fields.alpha b) 255 && eqb (Fields.dim b) 0) e in
      let t = both_true (eqb (Fields.alpha b) 255) (eqb (Fields.dim b) 0) s.1 in
      (subst T (sym s.0) tt, eqb-true (Fields.alpha b) 255 t.0, eqb-true (Fields.dim b) 0 t.1)

  pub exact_law : (p q c d : List ℕ) → is_exact b ≡ true → pixels table p (Fields.source b) ≡ pixels table q (Fields.source b)
      → is_source (sides_of table (Fields.source b)) (length (pixels table q (Fields.source b))) ≡ true
      → nat_abs (Fields.x b) ≤ 16384 → nat_abs (Fields.y b) ≤ 16384 → is_canvas w h (length c) ≡ true → length c ≡ length d
      → (k : ℕ) → k < length c → inside w (box_by (Some Straight) w h table b) k ≡ true
      → get_or (painting_by (Some Straight) w h table p b c) k 0 ≡ get_or (painting_by (Some Straight) w h table q b d) k 0
  unfolding painting_by copied_onto box_by blit_of f32
  exact_law p q c d e s S X Y C n k l i =
      let t = Fields.source b in
      let x = exact_is e in
      rw s
      (StraightLaws.exact_agree w h (Fields.clip b) (pixels table q t) (sides_of table t) (blit_of b) c d k
      (record { source = S; left = X; top = Y; number = of_bits-fits binary32 _; square = x.0; full = x.1; bright = x.2 })
      C n l i)

  -- (6) glass
  pub glass_kind : (κ : Option Kind) (win : IRect) → sort_by κ w h b ≡ Stain.glass win → (κ ≡ Some Glass) × (window w h b ≡ win)
  unfolding sort_by
  glass_kind (Some Fill) r s = unlike is_glass s refl refl
  glass_kind (Some Stroke) r s = unlike is_glass s refl refl
  glass_kind (Some Shadow) r s = unlike is_glass s refl refl
  glass_kind (Some Glass) r s = (refl, ap (window_of r) s)
  glass_kind (Some Straight) r s = unlike is_glass s refl refl
  glass_kind (Some Scaled) r s = unlike is_glass s refl refl
  glass_kind (Some Genie) r s = unlike is_glass s refl refl
  glass_kind (Some Frame) r s = unlike is_glass s refl refl
  glass_kind None r s = unlike is_glass s refl refl

-- ---- pools that differ in top bytes alone: no kind of layer tells them apart
module _ (w h : ℕ) (table p q : List ℕ) (s : SameColors p q) (b : List ℕ) where
  -- the layer's source in either
  from : SameColors (pixels table p (Fields.source b)) (pixels table q (Fields.source b))
  from = colors_too table p q s (Fields.source b)

  by_kind : (κ : Option Kind) (c : List ℕ) → painting_by κ w h table p b c ≡ painting_by κ w h table q b c
  unfolding painting_by filled stroked shadowed glazed copied_onto stretched drawn framed
  by_kind (Some Fill) c = refl
  by_kind (Some Stroke) c = refl
  by_kind (Some Shadow) c = refl
  by_kind (Some Glass) c = refl
  by_kind (Some Straight) c =
      Pixels.same_rule w h _ _ c (TopByte.same_rule w h (Fields.clip b) (pixels table p (Fields.source b)) (pixels table q (Fields.source b)) from (sides_of table (Fields.source b)) (blit_of b))
  by_kind (Some Scaled) c =
      Pixels.same_rule w h _ _ c (ScaledLaws.same_rule (pixels table p (Fields.source b)) (pixels table q (Fields.source b)) from (sides_of table (Fields.source b)) w h (Fields.clip b) (stretch_of b))
  by_kind (Some Genie) c =
      GenieLaws.same_colors w h (Fields.clip b) (pixels table p (Fields.source b)) (pixels table q (Fields.source b)) from (sides_of table (Fields.source b)) (flight_of b) c
  by_kind (Some Frame) c = refl
  by_kind None c = refl

  pub same_colors : (c : List ℕ) → painting w h table p b c ≡ painting w h table q b c
  unfolding painting
  same_colors c = by_kind (kind_of (Fields.kind b)) c

-- ---- scratch: with slices that are long enough the layer is painted, and with others the canvas stays
module _ (w h : ℕ) (table pool : List ℕ) (la lb : ℕ) (b cv : List ℕ) where
  pub in_room : has_room w h b la lb ≡ true → painting_in w h table pool la lb b cv ≡ painting w h table pool b cv
  unfolding painting_in
  in_room e = rw e refl

  pub no_room : has_room w h b la lb ≡ false → painting_in w h table pool la lb b cv ≡ cv
  unfolding painting_in
  no_room e = rw e refl
