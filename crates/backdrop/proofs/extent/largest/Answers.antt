-- `largest`: the greatest of the entries so far.
use Prim.Native.Nat.{ℕ, zero, suc, ◌≤◌, ◌<◌}
use mathlib.Core.Path.{◌≡◌, refl, sym, ap, ap₂, ◌∙◌}
use mathlib.Core.List.{List, [], ◌∷◌, ◌++◌}
use native.Mathlib.Numerals.{add-one}
use native.Mathlib.Omega.{arith}
use lib.ListN.{length, get_or-append}
use lib.Seq.{get_or-append_seam}
use lib.Ieee.{Float, nan}
use Rattle.std.proofs.Common.{rules}
use Rattle.std.proofs.lemmas.Fn.{fold_over, slice_gives, fronts}
use Rattle.std.proofs.lemmas.List.{length_push}
use Rattle.mathf.specs.Real as Real
use Rattle.backdrop.specs.Window.{largest}
use Rattle.backdrop.proofs.extent.largest.Goals as goal

front : (ys zs : List Float) (n : ℕ) → n ≤ length ys → largest (ys ++ zs) n ≡ largest ys n
unfolding largest
front ys zs zero h = refl
front ys zs (suc n) h =
    let l : n < length ys = omega arith in
    ap₂ Real.max (front ys zs n (omega arith)) (get_or-append ys zs nan n l)

more : (ys : List Float) (x : Float) {a b : Float} → a ≡ largest ys (length ys) → b ≡ Real.max a x → b ≡ largest (ys ++ x ∷ []) (length (ys ++ x ∷ []))
unfolding largest
more ys x p q =
    let n : length (ys ++ x ∷ []) ≡ suc (length ys) = length_push ys x ∙ add-one _ in
    q
    ∙ ap (λ (a : Float). Real.max a x) (p ∙ sym (front ys (x ∷ []) (length ys) (omega arith)))
    ∙ ap (Real.max (largest (ys ++ x ∷ []) (length ys))) (sym (get_or-append_seam ys x [] nan))
    ∙ ap (largest (ys ++ x ∷ [])) (sym n)

none : Real.zero ≡ largest [] 0
unfolding largest
none = refl

pub returns : goal.returns
returns c =
    fold_over fronts (λ y. y.now) _ (λ ys m. m ≡ largest ys (length ys)) _ (λ ys a x b f' j k. (more ys x.now j (search rules), refl))
    _ _ _ _ (slice_gives c.iter.result) none c.fold.ensures.ran
    ∙ ap₂ largest c.iter.ensures.rest (ap length c.iter.ensures.rest ∙ c.told-table)
