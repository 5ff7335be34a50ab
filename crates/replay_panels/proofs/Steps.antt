-- One entry more of a panel's table, a channel, and a pass.
use Prim.Native.Nat.{ℕ, zero, suc, ◌+◌, ◌<◌}
use native.Mathlib.Omega.{arith}
use mathlib.Core.Path.{◌≡◌, refl, sym, ◌∙◌}
use mathlib.Core.List.{List}
use native.Mathlib.Nat.{add-zero, add-suc}
use mathlib.Core.List.{[], ◌∷◌}
use mathlib.Core.Path.{ap}
use lib.ListN.{get_or, set}
use lib.Ieee.{Float}
use denote.Ref.{Bor, MutBor}
use Rattle.std.specs.Fn.{Shared}
use Rattle.answer.specs.Answer.{Answer}
use Rattle.color.specs.Color.{from_pix}
use Rattle.color.specs.declared.Color.{Color}
use Rattle.records.specs.Record.{word}
use Rattle.replay_panels.specs.Layer.{channel, entry, entries}
use Rattle.replay_panels.specs.Private.{Passes}

pub entries_next : (rec : List ℕ) (i : ℕ) (t : List Float) (v : Float) → t ≡ entries rec i → v ≡ entry rec i → set t i v ≡ entries rec (i + 1)
unfolding entries
entries_next rec i t v e q = rw (add-suc, add-zero, e, q) refl

pub channel_at : (p k : ℕ) (c : Color) → c ≡ from_pix p → k < 3 → get_or (c.r ∷ c.g ∷ c.b ∷ []) k 0 ≡ channel p k
unfolding channel
channel_at p zero c e h = ap (λ (l : Color). l.r) e
channel_at p (suc zero) c e h = ap (λ (l : Color). l.g) e
channel_at p (suc (suc zero)) c e h = ap (λ (l : Color). l.b) e
channel_at p (suc (suc (suc k))) c e h = absurd (omega arith)

module _ {F : Type 0} (g : Shared F (Bor (List ℕ) × (MutBor (List ℕ) × (ℕ × (ℕ × (ℕ × Unit {0}))))) (Answer × (MutBor (List ℕ) × Unit {0}))) (f : F) (rec : List ℕ) where
  -- a call with the record's words
  pub passes : (shown : Bor (List ℕ)) (lent left : MutBor (List ℕ)) (w h r : ℕ) (answer : Answer) (src : List ℕ) → shown.now ≡ src → w ≡ word rec 1 → h ≡ word rec 2 → r ≡ word rec 7
      → g.post f (shown, (lent, (w, (h, (r, tt))))) (answer, (left, tt)) → Passes g f rec src lent.now left.now
  passes shown lent left w h r answer src s e i o m = record {
    shown = shown;
    shows = s;
    lent = lent;
    lends = refl;
    answer = answer;
    left = left;
    met = rw (e, i, o) at m;
    leaves = refl;
  }

  -- what the pass leaves, where each call of it leaves what the rule says
  pub left_by : (rule : List ℕ → List ℕ → List ℕ) {src before after : List ℕ} (p : Passes g f rec src before after) → p.left.now ≡ rule p.shown.now p.lent.now → after ≡ rule src before
  left_by rule p e = sym p.leaves ∙ e ∙ ap (λ (s : List ℕ). rule s p.lent.now) p.shows ∙ ap (rule _) p.lends
