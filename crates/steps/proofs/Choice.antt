-- The block that a step paints: the number that the code chooses, and what it tells.
use Rattle.std.specs.Option.{ok_or}
use Rattle.answer.specs.declared.Cause.TheVariants.{Next}
use Rattle.answer.specs.Answer.{Answer}
use Rattle.std.proofs.Common.{Ok, Err, Option, None, Some}
use mathlib.Core.Path.{◌≡◌, refl, sym, ap, ◌∙◌}
use mathlib.Core.List.{List}
use Prim.Native.Nat.{ℕ, ◌-◌, ◌/◌, ◌≤◌, ◌<◌}
use native.Mathlib.Omega.{arith}
use lib.ListN.{length, get_or, take, drop}
use Rattle.order.specs.Order.{next_by, priority_at, next_of, priorities, gathered}
use Rattle.order.proofs.Laws.Listed.{gathered-long, gathered-front}
use Rattle.order.proofs.Laws.Next.{next_gathered, next-below}
use Rattle.accept.specs.Tests.{answer, layers_of}
use Rattle.accept.specs.declared.Layers.{Layers}
use Rattle.answer.specs.declared.Refusal.{Refusal}
use Rattle.accept.proofs.Laws.Tests.{passes_all, found_as, lost_as}
use Rattle.accept.proofs.Laws.Sizes.{sized, sizes_too}
use Rattle.steps.specs.Steps.{step, from, next, chosen_by, or_none, answer_by}
use Rattle.steps.specs.Private.{choice}

-- a number was chosen: the tests pass, and the block is the next one
pub record Chose (a : Answer) (buf : List ℕ) (last i : ℕ) : Type 0 where
  pub count : ℕ
  pub passes : a ≡ Ok count
  pub is_next : next buf count last ≡ Some i

module _ (buf : List ℕ) (last : ℕ) where
  found : (o : Option ℕ) (i : ℕ) → or_none o ≡ Ok i → o ≡ Some i
  unfolding or_none
  found None i e = let z : ◌≡◌ {A = ℕ} 0 1 = cc in absurd (omega arith)
  found (Some y) i e = let z : y ≡ i = cc in rw z refl

  pub chose : (a : Answer) (i : ℕ) → choice a buf last ≡ Ok i → Chose a buf last i
  unfolding choice
  chose (Ok count) i e = record { count = count; passes = refl; is_next = found (next buf count last) i e }
  chose (Err r) i e = let z : ◌≡◌ {A = ℕ} 0 1 = cc in absurd (omega arith)

  module _ {a : Answer} {i : ℕ} (t : Chose a buf last i) where
    -- it is one of the blocks
    pub chose-below : i < t.count
    unfolding next
    chose-below = next-below buf t.count (from last) i t.is_next

    pub chose-answer : answer_by (step last) a buf ≡ Ok (priority_at buf i)
    unfolding answer_by or_none
    chose-answer = rw (t.passes, t.is_next) refl

    pub chose-block : chosen_by (step last) a buf ≡ Some i
    unfolding chosen_by
    chose-block = rw t.passes t.is_next

  -- none was chosen: that is the answer, and nothing is painted
  pub refuses : (a : Answer) (r : Refusal) → choice a buf last ≡ Err r → (answer_by (step last) a buf ≡ Err r) × (chosen_by (step last) a buf ≡ None)
  unfolding choice answer_by chosen_by or_none
  refuses (Err s) r e = (e, refl)
  refuses (Ok count) r e = go (next buf count last) refl
    where
      go : (o : Option ℕ) → next buf count last ≡ o → (answer_by (step last) (Ok count) buf ≡ Err r) × (next buf count last ≡ None)
      go None q = (rw q (rw q at e), q)
      go (Some y) q = let f : ◌≡◌ {A = Answer} (Ok y) (Err r) = rw q at e in let z : ◌≡◌ {A = ℕ} 0 1 = cc in absurd (omega arith)

-- ---- what the code finds

module _ (w h n : ℕ) (table : List ℕ) (m : ℕ) (buf : List ℕ) (la lb last : ℕ) where
  pub refused_tests : (r : Refusal) → Err r ≡ layers_of (answer w h n table m buf la lb) (gathered buf (length buf / 512)) → choice (answer w h n table m buf la lb) buf last ≡ Err r
  unfolding choice
  refused_tests r e = rw (lost_as _ _ r (sym e)) refl

  -- t is what the tests tell
  module _ (t : Layers) (tells : Ok t ≡ layers_of (answer w h n table m buf la lb) (gathered buf (length buf / 512))) where
    passes : answer w h n table m buf la lb ≡ Ok t.count
    passes = (found_as _ _ t (sym tells)).0

    few : t.count ≤ 256
    few = (sized w h n table buf t.count (sizes_too w h n table buf m la lb t.count passes)).few

    gathers : t.priorities ≡ gathered buf (length buf / 512)
    gathers = (found_as _ _ t (sym tells)).1

    pub fits : t.count ≤ length t.priorities
    fits = omega (arith, few, ap length gathers, gathered-long buf (length buf / 512))

    -- the priorities that are lent
    lent : take t.count t.priorities ≡ priorities buf t.count
    lent =
        ap (λ (ps : List ℕ). take t.count ps) gathers
        ∙ gathered-front buf (length buf / 512) t.count (omega (arith, few, (passes_all w h n table m buf la lb t.count passes).is))

    pub choice_is : (o : Option ℕ) → (let ps = take t.count t.priorities in o ≡ next_by (λ j. get_or ps j 0) (length ps) (from last))
        → choice (answer w h n table m buf la lb) buf last ≡ or_none o
    unfolding choice next
    choice_is o e = rw (passes, (rw lent at e) ∙ next_gathered buf t.count (from last)) refl

-- std's word for it
pub none_is : (o : Option ℕ) → ok_or o (record { cause = Next; beside = 0 }) ≡ or_none o
unfolding or_none
none_is None = refl
none_is (Some y) = refl
