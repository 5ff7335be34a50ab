-- The kinds by their numbers, and a layer's canvas by its kind.
use Prim.Native.Nat.{ℕ}
use mathlib.Core.Path.{◌≡◌, refl, sym, ap, ◌∙◌}
use mathlib.Core.Bool.{false}
use mathlib.Core.List.{List}
use native.Mathlib.Omega.{arith}
use borrow.Author.Tests.{ne_eqb, le-leb}
use lib.Dec.{eqb}
use lib.ListN.{length}
use Rattle.backdrop.specs.Window.{need_of}
use Rattle.glass.specs.Glass as GlassSpec
use Rattle.std.specs.Prelude.{Option, Some, None}
use Rattle.block.specs.declared.Kind.{Kind}
use Rattle.block.specs.declared.Kind.TheVariants.{Fill, Stroke, Shadow, Glass, Straight, Scaled, Genie, Frame}
use Rattle.block.proofs.Laws.Kinds.{kind_number}
use Rattle.block.specs.Fields as Fields
use Rattle.layer.specs.Layer.{kind_of, painting_by, painting, need_by, needed, has_room, painting_in, glazed, style_of, first_after, second_used}
use Rattle.layer.specs.Private.{glazed_in, glazed_first, glazed_used}

-- only glass needs scratch
no_need : (κ : Option Kind) (w h : ℕ) (b : List ℕ) → (κ ≡ Some Glass → ⊥) → need_by κ w h b ≡ 0
unfolding need_by
no_need (Some Fill) w h b n = refl
no_need (Some Stroke) w h b n = refl
no_need (Some Shadow) w h b n = refl
no_need (Some Glass) w h b n = absurd (n refl)
no_need (Some Straight) w h b n = refl
no_need (Some Scaled) w h b n = refl
no_need (Some Genie) w h b n = refl
no_need (Some Frame) w h b n = refl
no_need None w h b n = refl

pub need_other : (κ : Option Kind) (w h : ℕ) (b : List ℕ) → kind_of (Fields.kind b) ≡ κ → (κ ≡ Some Glass → ⊥) → 0 ≡ needed w h b
unfolding needed
need_other κ w h b e n = sym (no_need (kind_of (Fields.kind b)) w h b (λ q. n (sym e ∙ q)))

pub need_none : (k w h : ℕ) (b : List ℕ) → k ≡ Fields.kind b → (k ≡ 4 → ⊥) → 0 ≡ needed w h b
need_none k w h b e n = need_other _ w h b refl (λ q. n (e ∙ kind_number _ Glass q))

pub need_glass : (w h : ℕ) (b : List ℕ) → Fields.kind b ≡ 4 → need_of w h (Fields.clip b) (Fields.rect b) (style_of b) (Fields.entries b) ≡ needed w h b
unfolding needed need_by kind_of
need_glass w h b e = rw e refl

-- no other number is a kind's
pub is_unknown : (k : ℕ) → (k ≡ 1 → ⊥) → (k ≡ 2 → ⊥) → (k ≡ 3 → ⊥) → (k ≡ 4 → ⊥) → (k ≡ 5 → ⊥) → (k ≡ 6 → ⊥) → (k ≡ 7 → ⊥) → (k ≡ 8 → ⊥) → kind_of k ≡ None
unfolding kind_of
is_unknown k a b c d e f g h = rw (ne_eqb k 1 a, ne_eqb k 2 b, ne_eqb k 3 c, ne_eqb k 4 d, ne_eqb k 5 e, ne_eqb k 6 f, ne_eqb k 7 g, ne_eqb k 8 h) refl

-- a kind that is not glass is painted with any scratch a and l, and leaves both slices alone
pub record Plain (κ : Option Kind) (w h : ℕ) (table pool b cv a l : List ℕ) : Type 0 where
  pub canvas : painting_by κ w h table pool b cv ≡ painting_in w h table pool (length a) (length l) b cv
  pub first : a ≡ first_after w h b cv a (length l)
  pub second : GlassSpec.Kept (second_used w h b (length cv) (length a) (length l)) l l

pub plain : (κ : Option Kind) (w h : ℕ) (table pool b cv a l : List ℕ) → kind_of (Fields.kind b) ≡ κ → (κ ≡ Some Glass → ⊥) → Plain κ w h table pool b cv a l
unfolding painting_in has_room needed painting first_after kind_of
plain κ w h table pool b cv a l e n =
    let z : need_by (kind_of (Fields.kind b)) w h b ≡ 0 = no_need (kind_of (Fields.kind b)) w h b (λ q. n (sym e ∙ q)) in
    let m : eqb (Fields.kind b) 4 ≡ false = ne_eqb (Fields.kind b) 4 (λ q. n (sym e ∙ ap kind_of q)) in
    record {
      canvas = rw (z, le-leb 0 (length a) (omega arith), le-leb 0 (length l) (omega arith), e) refl;
      first = rw m refl;
      second = record { long = refl; rest = refl };
    }

module _ (w h : ℕ) (table pool : List ℕ) (la lb : ℕ) (b cv : List ℕ) where
  -- glass, where it has room
  pub in_room : Fields.kind b ≡ 4 → glazed_in w h b la lb cv ≡ painting_in w h table pool la lb b cv
  unfolding painting_in has_room needed painting glazed_in glazed GlassSpec.glassed_in GlassSpec.has_room painting_by need_by kind_of
  in_room e = rw e refl

-- ---- scratch

module _ (w h : ℕ) (b : List ℕ) where
  pub first_glass : (cv a : List ℕ) (lb : ℕ) → Fields.kind b ≡ 4 → glazed_first w h b cv a lb ≡ first_after w h b cv a lb
  unfolding first_after glazed_first
  first_glass cv a lb e = rw e refl

  pub second_glass : (n la : ℕ) (l l' : List ℕ) → Fields.kind b ≡ 4 → GlassSpec.Kept (glazed_used w h b n la (length l)) l l' → GlassSpec.Kept (second_used w h b n la (length l)) l l'
  unfolding second_used glazed_used
  second_glass n la l l' e k = rw e k
