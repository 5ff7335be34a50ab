-- The passes: none is refused, and each makes what the definition says.
use Prim.Native.Nat.{ℕ, ◌*◌, ◌≤◌}
use mathlib.Core.Path.{◌≡◌, sym, ap, ◌∙◌}
use mathlib.Core.Bool.{true, false}
use mathlib.Core.List.{List}
use native.Mathlib.Omega.{arith}
use lib.ListN.{length}
use lib.Ieee.{Float, le}
use Rattle.boxblur.specs.Box.{box_h, box_v, byte_h, byte_v}
use Rattle.boxblur.specs.Refuse.{after, after_h, after_v}
use Rattle.boxblur.proofs.Pass.{table_length}
use Rattle.boxblur.proofs.Refusal.{Suits, suits_yes, made}
use Rattle.backdrop.specs.Window.{three}
use Rattle.backdrop.specs.Picture.{point_four_five, radius_of, pass, blurred}

pub radius_most : (s : Float) → radius_of s ≤ 32767
unfolding radius_of
radius_most s = omega arith

pub length_pass : (w h r : ℕ) (lo : List ℕ) → length (pass w h r lo) ≡ 3 * (w * h)
unfolding pass
length_pass w h r lo = table_length (3 * (w * h)) (byte_v w h r (box_h w h r lo))

module _ (w h r : ℕ) (wide : 1 ≤ w) (narrow : w ≤ 4096) (tall : 1 ≤ h) (low : h ≤ 4096) (small : r ≤ 32767) where
  suits : {m n : ℕ} → m ≡ 3 * (w * h) → n ≡ 3 * (w * h) → Suits m n w h r
  suits p q = record { wide = wide; narrow = narrow; tall = tall; low = low; radius = omega arith; src = p; dst = q }

  -- a pass over slices of the right lengths is made
  once : (new src dst : List ℕ) {got : List ℕ} → length src ≡ 3 * (w * h) → length dst ≡ 3 * (w * h) → got ≡ after new src dst w h r → got ≡ new
  once new src dst p q e = e ∙ sym (made new src dst w h r (sym (suits_yes (length src) (length dst) w h r (suits p q)))).1

  pub pass_made : (a b : List ℕ) {b' a' : List ℕ} → length a ≡ 3 * (w * h) → length b ≡ 3 * (w * h) → b' ≡ after_h a b w h r → a' ≡ after_v b' a w h r → a' ≡ pass w h r a
  unfolding pass
  pass_made a b {b'} p q e f =
      let g : b' ≡ box_h w h r a = once (box_h w h r a) a b p q e in
      let n : length b' ≡ 3 * (w * h) = ap length g ∙ table_length (3 * (w * h)) (byte_h w h r a) in
      once (box_v w h r b') b' a n p f ∙ ap (box_v w h r) g

-- three passes, two, none
module _ (w h : ℕ) (s : Float) (lo : List ℕ) where
  pub blurred_3 : le point_four_five s ≡ true → le three s ≡ true → pass w h (radius_of s) (pass w h (radius_of s) (pass w h (radius_of s) lo)) ≡ blurred w h s lo
  unfolding blurred
  blurred_3 e f = rw (e, f)

  pub blurred_2 : le point_four_five s ≡ true → le three s ≡ false → pass w h (radius_of s) (pass w h (radius_of s) lo) ≡ blurred w h s lo
  unfolding blurred
  blurred_2 e f = rw (e, f)

  pub blurred_0 : le point_four_five s ≡ false → lo ≡ blurred w h s lo
  unfolding blurred
  blurred_0 e = rw e
