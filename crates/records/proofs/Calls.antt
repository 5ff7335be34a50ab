-- Calls of a closure, one more at a time, and how they end.
use Rattle.std.proofs.Common.{◌≡◌, ℕ, ◌+◌, ◌-◌, ◌^◌, List, [], ◌∷◌, ◌++◌, length, length-append, refl, sym, ap, ◌∙◌, arith, Option, Some, None, Result, Ok, Err, inl, inr, IsErr, IsErrAnd, IfOk, Bool}
use mathlib.Core.Path.{subst}
use denote.Ref.{MutBor}
use Rattle.std.specs.Fn.{Shared}
use Rattle.std.specs.List.{FoldsTo}
use Rattle.std.proofs.lemmas.Fn.{FoldsTo-push}
use Rattle.records.specs.declared.tally.Line.{Line}
use Rattle.records.specs.declared.tally.Replayed.{Replayed}
use Rattle.records.specs.Calls.{Gives, GivesAll}
use Rattle.records.specs.Record.{counted, all_counted}
use Rattle.records.proofs.Lines.{counted_next}

pub gives : {F S T : Type 0} (g : Shared F (MutBor S × Unit {0}) (T × (MutBor S × Unit {0}))) (f : F) (shown left : MutBor S) (r t : T) → r ≡ t → g.post f (shown, tt) (r, (left, tt))
    → Gives g f shown.now t left.now
gives {F} {S} {T} g f shown left r t e m = record {
  shown = shown;
  shows = refl;
  left = left;
  met = subst (λ (u : T). g.post f (shown, tt) (u, (left, tt))) e m;
  leaves = refl;
}

module _ {F S E : Type 0} (g : Shared F (MutBor S × Unit {0}) (Result (Option Replayed) E × (MutBor S × Unit {0}))) (f : F) (lines : List Line) (before : S) where
  -- n calls from `before` on replayed something, and each of these replays is counted
  pub record Replays (n : ℕ) (s : S) (now : List Line) : Type 0 where
    pub seen : List Replayed
    pub turns : length seen ≡ n
    pub each : FoldsTo (λ s r t. Gives g f s (Ok (Some r)) t) before seen s
    pub so_far : now ≡ all_counted lines seen

  abbrev pub Ends : Result Unit E → S → List Line → Type 0
  Ends result after now = (seen : List Replayed) × GivesAll g f before seen result after × (now ≡ all_counted lines seen)

  pub one_more : {n : ℕ} {now after : List Line} (shown left : MutBor S) (result : Result (Option Replayed) E) (o : Option Replayed) (r : Replayed)
      → Replays n shown.now now → result ≡ Ok o → o ≡ Some r → g.post f (shown, tt) (result, (left, tt)) → after ≡ counted now r.place r.same → Replays (n + 1) left.now after
  one_more shown left result o r p e q m a = record {
    seen = p.seen ++ (r ∷ []);
    turns = simp length-append (omega (arith, p.turns));
    each = FoldsTo-push _ _ _ _ _ _ p.each (gives g f shown left result (Ok (Some r)) (e ∙ ap Ok q) m);
    so_far = a ∙ ap (λ (ls : List Line). counted ls r.place r.same) p.so_far ∙ counted_next lines p.seen r;
  }

  pub at_none : {n : ℕ} {now : List Line} (shown left : MutBor S) (result : Result (Option Replayed) E) (o : Option Replayed)
      → Replays n shown.now now → result ≡ Ok o → o ≡ None → g.post f (shown, tt) (result, (left, tt)) → Ends (Ok tt) left.now now
  at_none shown left result o p e q m =
      (p.seen, record { last = shown.now; each = p.each; end = inl (gives g f shown left result (Ok None) (e ∙ ap Ok q) m) }, p.so_far)

  pub at_error : {n : ℕ} {now : List Line} (shown left : MutBor S) (result : Result (Option Replayed) E) (e : E) (handed : Result Unit E)
      → Replays n shown.now now → result ≡ Err e → g.post f (shown, tt) (result, (left, tt)) → IsErr handed → IsErrAnd handed (λ x. x ≡ e) → Ends handed left.now now
  at_error shown left result e (Ok v) p q m h k = absurd (cc)
  at_error shown left result e (Err x) p q m h k =
      (p.seen, record { last = shown.now; each = p.each; end = gives g f shown left result (Err x) (q ∙ ap Err (sym k)) m }, p.so_far)

  pub at_last_turn : {n : ℕ} {now : List Line} {s : S} → Replays n s now → n ≡ 2 ^ 64 - 1 → Ends (Ok tt) s now
  at_last_turn p e = (p.seen, record { last = _; each = p.each; end = inr (p.turns ∙ e, refl) }, p.so_far)

-- what is said of each call holds of the bytes that were lent
pub lent_as : {E F : Type 0} (g : Shared F (MutBor (List ℕ) × Unit {0}) (Bool × (MutBor (List ℕ) × Unit {0}))) (f : F) (r : Result Bool E) (n m : ℕ) (P : Bool → List ℕ → Type 0) → n ≡ m
    → IfOk r (λ b. (bytes : List ℕ) × (left : List ℕ) × (length bytes ≡ n) × Gives g f bytes b left)
    → ((shown left : MutBor (List ℕ)) (b : Bool) → g.post f (shown, tt) (b, (left, tt)) → P b shown.now) → IfOk r (λ b. (bytes : List ℕ) × (length bytes ≡ m) × P b bytes)
lent_as g f (Ok b) n m P e p says = (p.0, p.2 ∙ e, subst (λ (bytes : List ℕ). P b bytes) p.3.shows (says p.3.shown p.3.left b p.3.met))
lent_as g f (Err x) n m P e p says = tt
