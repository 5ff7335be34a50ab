-- The forecast beside play: what it refuses play refuses alike; with its scratch lent play is not refused for scratch, and with a byte less it is.
use Rattle.answer.specs.Answer.{Answer, refused as refusal}
use Rattle.std.proofs.Common.{Ok, Err}
use Prim.Native.Nat.{ℕ, zero, suc, ◌-◌, ◌*◌, ◌/◌, ◌≤◌, ◌<◌, min}
use mathlib.Core.Path.{◌≡◌, refl, sym, ap, ◌∙◌}
use mathlib.Core.Logic.{◌⊎◌, ⊎_elim}
use mathlib.Core.Bool.{cond}
use mathlib.Core.List.{List}
use native.Mathlib.Decide.{dec_lt}
use native.Mathlib.Nat.{mul_comm}
use native.Mathlib.Omega.{arith}
use borrow.Author.Tests.{le-leb, lt-leb, eq-eqb}
use lib.ListN.{length}
use Rattle.canvas.proofs.Laws.Area.{canvas_is}
use Rattle.block.specs.Bytes.{block_at}
use Rattle.sources.specs.Table.{sizes, total, pool_right}
use Rattle.layer.specs.Layer.{needed, has_room}
use Rattle.answer.specs.declared.Cause.{Cause}
use Rattle.answer.specs.declared.Cause.TheVariants.{Scratch}
use Rattle.answer.specs.Tests.{first_of}
use Rattle.answer.proofs.Laws.{each_of, each_fails}
use Rattle.accept.specs.Tests.{answer, sizes_answer, scratch_test}
use Rattle.accept.proofs.Laws.Sizes.{sized, then_scratch, scratch_last}
use Rattle.forecast.specs.declared.Forecast.{Forecast}
use Rattle.forecast.specs.Forecast.{scratch_of, forecast_after, forecast_of}
use Rattle.forecast.proofs.Laws.Cells.{need_sum, three_sums, sum_most}

-- ---- the most that a block needs

module _ (w h : ℕ) (buf : List ℕ) where
  pub needs_most : (n i : ℕ) → i < n → needed w h (block_at buf i) ≤ scratch_of w h buf n
  unfolding scratch_of
  needs_most zero i l = absurd (omega arith)
  needs_most (suc n) i l = elim (dec_lt i n) [
    | yes m ↦ omega (arith, needs_most n i m)
    | no m ↦ let e : i ≡ n = omega arith in rw e (omega arith)
  ]

  -- block i is the first of n that needs more than `short`
  pub record FirstOver (n short i : ℕ) : Type 0 where
    pub within : i < n
    pub over : short < needed w h (block_at buf i)
    pub before : (j : ℕ) → j < i → needed w h (block_at buf j) ≤ short

  first_over : (n short : ℕ) → short < scratch_of w h buf n → (i : ℕ) × FirstOver n short i
  unfolding scratch_of
  first_over zero short l = absurd (omega arith)
  first_over (suc n) short l = elim (dec_lt short (scratch_of w h buf n)) [
    | yes m ↦ let x = first_over n short m in (x.0, record { within = omega (arith, x.1.within); over = x.1.over; before = x.1.before })
    | no m ↦ (n, record { within = omega arith; over = omega arith; before = λ j k. omega (arith, needs_most n j k) })
  ]

  -- two slices of one length
  alike : (n short i : ℕ) → FirstOver n (min short short) i → FirstOver n short i
  alike n short i f = record { within = f.within; over = omega (arith, f.over); before = λ j l. omega (arith, f.before j l) }

  -- ---- test 11

  abbrev test : ℕ → ℕ → ℕ → Answer
  test la lb n = cond (has_room w h (block_at buf n) la lb) (Ok n) (refusal Scratch n)

  roomy : (la lb i : ℕ) → needed w h (block_at buf i) ≤ la → needed w h (block_at buf i) ≤ lb → test la lb i ≡ Ok i
  unfolding has_room
  roomy la lb i p q = rw (le-leb (needed w h (block_at buf i)) la p, le-leb (needed w h (block_at buf i)) lb q) refl

  tight : (la lb i : ℕ) → min la lb < needed w h (block_at buf i) → test la lb i ≡ refusal Scratch i
  unfolding has_room
  tight la lb i l = elim (dec_lt la (needed w h (block_at buf i))) [
    | yes m ↦ rw (lt-leb (needed w h (block_at buf i)) la m) refl
    | no m ↦ rw (le-leb (needed w h (block_at buf i)) la (omega arith), lt-leb (needed w h (block_at buf i)) lb (omega arith)) refl
  ]

  enough : (la lb n : ℕ) → scratch_of w h buf n ≤ la → scratch_of w h buf n ≤ lb → scratch_test w h la lb n buf ≡ Ok n
  unfolding scratch_test
  enough la lb n p q = each_of (test la lb) n (λ i l. (i, roomy la lb i (omega (arith, needs_most n i l)) (omega (arith, needs_most n i l))))

  too_little : (la lb n i : ℕ) → FirstOver n (min la lb) i → scratch_test w h la lb n buf ≡ refusal Scratch i
  unfolding scratch_test
  too_little la lb n i f =
      each_fails (test la lb) Scratch i i n
      (each_of (test la lb) i (λ j l. (j, roomy la lb j (omega (arith, f.before j l)) (omega (arith, f.before j l)))))
      (tight la lb i f.over) f.within

-- ---- the forecast

module _ (w h : ℕ) (table buf : List ℕ) where
  pub answer_is : (forecast_of w h table buf).answer ≡ sizes_answer w h (w * h) table buf
  unfolding forecast_of forecast_after
  answer_is = go (sizes_answer w h (w * h) table buf)
    where
      go : (r : Answer) → (forecast_after r w h table buf).answer ≡ r
      go (Ok n) = refl
      go (Err r) = refl

  -- the forecast of a rundown that is accepted
  pub counted : (c : ℕ) → (forecast_of w h table buf).answer ≡ Ok c → forecast_of w h table buf ≡ forecast_after (Ok c) w h table buf
  unfolding forecast_of
  counted c e = ap (λ (r : Answer). forecast_after r w h table buf) (sym answer_is ∙ e)

  scratch_is : (c : ℕ) → (forecast_of w h table buf).answer ≡ Ok c → (forecast_of w h table buf).scratch ≡ scratch_of w h buf c
  unfolding forecast_after
  scratch_is c e = ap (λ (f : Forecast). f.scratch) (counted c e)

  -- play by the sizes, with a pool of the right length
  play_is : (la lb : ℕ) → answer w h (w * h) table (total (sizes table)) buf la lb ≡ first_of (forecast_of w h table buf).answer (scratch_test w h la lb (length buf / 512) buf)
  unfolding pool_right
  play_is la lb = then_scratch w h (w * h) table buf (total (sizes table)) la lb (eq-eqb (total (sizes table)) (total (sizes table)) refl) ∙ ap (λ (r : Answer). first_of r (scratch_test w h la lb (length buf / 512) buf)) (sym answer_is)

  module _ (la lb : ℕ) where
    abbrev least : ℕ
    least = (forecast_of w h table buf).scratch

    abbrev played : Answer
    played = answer w h (w * h) table (total (sizes table)) buf la lb

    -- the first block that needs more than the shorter slice
    abbrev Short : ℕ → ℕ → Type 0
    Short c i = FirstOver w h buf c (min la lb) i

    pub record Tied : Type 0 where
      -- what the forecast refuses play refuses, by the same cause
      pub refused : (c : Cause) (k : ℕ) → (forecast_of w h table buf).answer ≡ refusal c k → played ≡ refusal c k
      -- with so much scratch play gives the same count
      pub enough-lent : (c : ℕ) → (forecast_of w h table buf).answer ≡ Ok c → least ≤ la → least ≤ lb → played ≡ Ok c
      -- with less in a slice play refuses for the first block that needs more than the shorter one
      pub too-little-lent : (c : ℕ) → (forecast_of w h table buf).answer ≡ Ok c → (la < least) ⊎ (lb < least) → (i : ℕ) × (Short c i × (played ≡ refusal Scratch i))
      -- where play refuses for scratch, whatever the lengths of canvas and pool, the forecast counts the layers
      pub only-scratch : (n m i : ℕ) → answer w h n table m buf la lb ≡ refusal Scratch i → (forecast_of w h table buf).answer ≡ Ok (length buf / 512)

    is-count : (c : ℕ) → (forecast_of w h table buf).answer ≡ Ok c → c ≡ length buf / 512
    is-count c e = (sized w h (w * h) table buf c (sym answer_is ∙ e)).is

    on-refusal : (c : Cause) (k : ℕ) → (forecast_of w h table buf).answer ≡ refusal c k → played ≡ refusal c k
    unfolding first_of
    on-refusal c k e = play_is la lb ∙ rw e refl

    on-count : (c : ℕ) → (forecast_of w h table buf).answer ≡ Ok c → played ≡ scratch_test w h la lb c buf
    unfolding first_of
    on-count c e = play_is la lb ∙ rw (e, is-count c e) refl

    with-enough : (c : ℕ) → (forecast_of w h table buf).answer ≡ Ok c → least ≤ la → least ≤ lb → played ≡ Ok c
    with-enough c e p q = on-count c e ∙ enough w h buf la lb c (rw (scratch_is c e) at p) (rw (scratch_is c e) at q)

    with-less : (c : ℕ) → (forecast_of w h table buf).answer ≡ Ok c → min la lb < least → (i : ℕ) × (Short c i × (played ≡ refusal Scratch i))
    with-less c e l =
        let x = first_over w h buf c (min la lb) (rw (scratch_is c e) at l) in
        (x.0, (x.1, on-count c e ∙ too_little w h buf la lb c x.0 x.1))

    on_scratch : (n m i : ℕ) → answer w h n table m buf la lb ≡ refusal Scratch i → (forecast_of w h table buf).answer ≡ Ok (length buf / 512)
    on_scratch n m i e =
        let x = scratch_last w h n table m buf la lb i e in
        let z : n ≡ w * h = (canvas_is w h n x.0).size ∙ mul_comm h w in
        answer_is ∙ rw z at x.1

    -- THE FORECAST IS TIED TO PLAY
    pub tied : Tied
    tied = record {
      refused = on-refusal;
      enough-lent = with-enough;
      too-little-lent = λ c e o. with-less c e (⊎_elim (λ l. omega arith) (λ l. omega arith) o);
      only-scratch = on_scratch;
    }

  -- with one byte less in both slices play refuses for the first block that needs the most
  pub one_byte_less : (c : ℕ) → (forecast_of w h table buf).answer ≡ Ok c → 0 < (forecast_of w h table buf).scratch
      → let short = (forecast_of w h table buf).scratch - 1 in
      (i : ℕ) × (FirstOver w h buf c short i × (answer w h (w * h) table (total (sizes table)) buf short short ≡ refusal Scratch i))
  one_byte_less c e l =
      let short = (forecast_of w h table buf).scratch - 1 in
      let x = with-less short short c e (omega arith) in
      (x.0, (alike w h buf c short x.0 x.1.0, x.1.1))

  -- ---- the cells

  -- three bytes of scratch for each, over all layers
  pub cells_three : (c : ℕ) → (forecast_of w h table buf).answer ≡ Ok c → 3 * (forecast_of w h table buf).cells ≡ need_sum w h buf c
  unfolding forecast_after
  cells_three c e =
      let s = sized w h (w * h) table buf c (sym answer_is ∙ e) in
      ap (λ (f : Forecast). 3 * f.cells) (counted c e) ∙ three_sums w h s.canvas_right buf c

  -- they fit 33 bits, and no fewer: 256 panels over the largest canvas have 2 ^ 32
  pub cells_fit : (forecast_of w h table buf).cells ≤ 0x1_0000_0000
  unfolding forecast_of forecast_after
  cells_fit = go (sizes_answer w h (w * h) table buf) refl
    where
      go : (r : Answer) → sizes_answer w h (w * h) table buf ≡ r → (forecast_after r w h table buf).cells ≤ 0x1_0000_0000
      go (Err r) e = omega arith
      go (Ok n) e =
          let s = sized w h (w * h) table buf n e in
          omega (arith, s.few, sum_most w h s.canvas_right buf n)
