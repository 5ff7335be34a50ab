-- What the two tests tell, and what stands in the block then.
use Rattle.answer.specs.Tests.{unless}
use Rattle.answer.specs.declared.Refusal.{Refusal}
use Rattle.std.proofs.Common.{Ok, Err}
use Prim.Native.Nat.{ℕ, ◌*◌}
use mathlib.Core.Path.{◌≡◌, refl, sym, ◌∙◌}
use mathlib.Core.Bool.{true, false}
use mathlib.Core.List.{List}
use lib.Ieee.{Float, nan, inf, fin, of_bits, le, lt, eq, is_nan}
use Rattle.mathf.specs.Real as Real
use Rattle.canvas.specs.Canvas.{is_canvas}
use Rattle.block.specs.Ranges.{within, f64}
use Rattle.answer.specs.declared.Cause.TheVariants.{Canvas, Floats}
use Rattle.answer.proofs.Laws.{chosen, passes, refuses}
use Rattle.accept.specs.Tests.{canvas_test}
use Rattle.dearest.specs.Dearest.{dearest_need, dearest_block, blur_test, dearest_answer, block_after}
use Rattle.forecast.specs.Forecast.{leaves}

-- a number in the range is no NaN
pub no_nan : (blur : Float) → within Real.zero f64 blur ≡ true → is_nan blur ≡ false
unfolding within is_nan le lt eq of_bits
no_nan nan e = sym e
no_nan (inf s) e = refl
no_nan (fin s m x) e = refl

-- what the tests say where they pass
pub right : (w h n : ℕ) → canvas_test w h (w * h) ≡ Ok n → is_canvas w h (w * h) ≡ true
unfolding canvas_test
right w h n e = chosen _ Canvas 0 0 n e

pub in_range : (blur : Float) (n : ℕ) → blur_test blur ≡ Ok n → within Real.zero f64 blur ≡ true
unfolding blur_test
in_range blur n e = chosen _ Floats 0 0 n e

module _ (w h : ℕ) (blur : Float) where
  -- the first test refuses
  pub refused_size : (r : Refusal) → canvas_test w h (w * h) ≡ Err r → dearest_answer w h blur ≡ Err r
  unfolding dearest_answer
  refused_size r e = refuses _ _ r _ e

  -- the second one does
  pub refused_blur : (n : ℕ) (r : Refusal) → canvas_test w h (w * h) ≡ Ok n → blur_test blur ≡ Err r → dearest_answer w h blur ≡ Err r
  unfolding dearest_answer
  refused_blur n r e f = passes _ _ n _ e ∙ refuses _ _ r _ f

  -- both pass
  pub answers : is_canvas w h (w * h) ≡ true → within Real.zero f64 blur ≡ true → dearest_answer w h blur ≡ Ok (dearest_need w h blur)
  unfolding dearest_answer canvas_test blur_test unless
  answers p q = rw (p, q) refl

  pub accepted : (n m : ℕ) → canvas_test w h (w * h) ≡ Ok n → blur_test blur ≡ Ok m → dearest_answer w h blur ≡ Ok (dearest_need w h blur)
  accepted n m e f = answers (right w h n e) (in_range blur m f)

  -- and the bytes then
  pub block_shown : (old : List ℕ) → dearest_answer w h blur ≡ Ok (dearest_need w h blur) → dearest_block blur ≡ block_after w h blur old
  unfolding block_after leaves
  block_shown old e = rw e refl

  pub block_kept : (old : List ℕ) (r : Refusal) → dearest_answer w h blur ≡ Err r → old ≡ block_after w h blur old
  unfolding block_after leaves
  block_kept old r e = rw e refl
