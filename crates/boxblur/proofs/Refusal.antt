-- The test of cause 14 as facts, and back.
use Rattle.std.proofs.Common.{Ok}
use mathlib.Core.Path.{◌≡◌, refl, sym, ◌∙◌}
use mathlib.Core.Bool.{Bool, true, false, ◌&&◌}
use Prim.Native.Nat.{ℕ, ◌+◌, ◌*◌, ◌/◌, ◌≤◌}
use borrow.Author.Tests.{leb-true, eqb-true, le-leb, eq-eqb}
use mathlib.Core.List.{List}
use lib.Dec.{leb, eqb}
use lib.ListN.{length}
use Rattle.geom.proofs.Laws.{both_true}
use Rattle.answer.specs.declared.Cause.TheVariants.{Pass}
use Rattle.answer.specs.Answer.{returned, refused as refusal}
use Rattle.boxblur.specs.declared.Axis.{Axis}
use Rattle.boxblur.specs.declared.Blur.{Blur}
use Rattle.boxblur.specs.Private.{Fits, pass_along}
use Rattle.boxblur.specs.Refuse.{is_side, suitable, passed, after}

pub record Suits (a b w h r : ℕ) : Type 0 where
  pub wide : 1 ≤ w
  pub narrow : w ≤ 4096
  pub tall : 1 ≤ h
  pub low : h ≤ 4096
  pub radius : 2 * r + 1 ≤ 65536
  pub src : a ≡ 3 * (w * h)
  pub dst : b ≡ 3 * (w * h)

pub is_false : (t : Bool) → (t ≡ true → ⊥) → t ≡ false
is_false true h = absurd (h refl)
is_false false h = refl

side_of : (n : ℕ) → is_side n ≡ true → (1 ≤ n) × (n ≤ 4096)
side_of n e = let b = both_true (leb 1 n) (leb n 4096) e in (leb-true 1 n b.0, leb-true n 4096 b.1)

module _ (a b w h r : ℕ) where
  pub suits_of : suitable a b w h r ≡ true → Suits a b w h r
  unfolding suitable
  suits_of e =
      let e₁ = both_true (is_side w) (is_side h && (leb (2 * r + 1) 65536 && (eqb a (3 * (w * h)) && eqb b (3 * (w * h))))) e in
      let e₂ = both_true (is_side h) (leb (2 * r + 1) 65536 && (eqb a (3 * (w * h)) && eqb b (3 * (w * h)))) e₁.1 in
      let e₃ = both_true (leb (2 * r + 1) 65536) (eqb a (3 * (w * h)) && eqb b (3 * (w * h))) e₂.1 in
      let e₄ = both_true (eqb a (3 * (w * h))) (eqb b (3 * (w * h))) e₃.1 in
      record {
        wide = (side_of w e₁.0).0;
        narrow = (side_of w e₁.0).1;
        tall = (side_of h e₂.0).0;
        low = (side_of h e₂.0).1;
        radius = leb-true (2 * r + 1) 65536 e₃.0;
        src = eqb-true a (3 * (w * h)) e₄.0;
        dst = eqb-true b (3 * (w * h)) e₄.1;
      }

  pub suits_not : (Suits a b w h r → ⊥) → false ≡ suitable a b w h r
  suits_not n = sym (is_false (suitable a b w h r) (λ e. n (suits_of e)))

  pub suits_yes : Suits a b w h r → true ≡ suitable a b w h r
  unfolding suitable
  suits_yes s =
      rw (le-leb 1 w s.wide, le-leb w 4096 s.narrow, le-leb 1 h s.tall, le-leb h 4096 s.low, le-leb (2 * r + 1) 65536 s.radius, eq-eqb a (3 * (w * h)) s.src, eq-eqb b (3 * (w * h)) s.dst)

-- a pass that is made, and one that is refused
module _ (new src dst : List ℕ) (w h r : ℕ) where
  pub made : suitable (length src) (length dst) w h r ≡ true → (returned (Ok 0) ≡ returned (passed src dst w h r)) × (new ≡ after new src dst w h r)
  unfolding passed after
  made e = rw e (refl, refl)

  pub refused : suitable (length src) (length dst) w h r ≡ false → (returned (refusal Pass 0) ≡ returned (passed src dst w h r)) × (dst ≡ after new src dst w h r)
  unfolding passed after
  refused e = rw e (refl, refl)

-- the blur of a pass that is made
module _ (blur : Blur) (w h r : ℕ) (e : (blur.w ≡ w) × ((blur.h ≡ h) × ((blur.r ≡ r) × (blur.inv ≡ 65536 / (2 * r + 1))))) where
  pub fits_of : {a b : ℕ} → Suits a b w h r → Fits blur a
  fits_of s =
      record {
        wide = rw e.0 s.wide;
        narrow = rw e.0 s.narrow;
        tall = rw e.1.0 s.tall;
        low = rw e.1.0 s.low;
        radius = rw e.1.1.0 s.radius;
        inverse = rw e.1.1.0 e.1.1.1;
        size = rw (e.0, e.1.0) s.src;
      }

  pub pass_done : (src dst : List ℕ) {axis way : Axis} {new : List ℕ} → axis ≡ way → suitable (length src) (length dst) w h r ≡ true → new ≡ pass_along way blur.w blur.h blur.r src →
      (returned (Ok 0) ≡ returned (passed src dst w h r)) × (new ≡ after (pass_along axis w h r src) src dst w h r)
  pass_done src dst {axis} {way} {new} q t p =
      let m = made (pass_along axis w h r src) src dst w h r t in
      (m.0, p ∙ (rw (← q, e.0, e.1.0, e.1.1.0) refl) ∙ m.1)
