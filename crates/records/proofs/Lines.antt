-- The lines by their places, and one replay more.
use Rattle.std.proofs.Common.{◌≡◌, ℕ, zero, suc, ◌<◌, ◌≤◌, Bool, List, [], ◌∷◌, ◌++◌, ◌+◌, add-one, length, get_or, set, refl, sym, ap, ◌∙◌, append_assoc, arith, Option, Result, Ok, Err, OnOk}
use mathlib.Core.Path.{subst}
use Rattle.std.specs.Io.KnownBytes.{Appends}
use Rattle.std.proofs.KnownBytes.{Appends-trans}
use Rattle.std.specs.Prelude.{codes, decimal}
use Rattle.records.specs.declared.tally.Counts.{Counts}
use Rattle.records.specs.declared.tally.Line.{Line}
use Rattle.records.specs.declared.tally.Replayed.{Replayed}
use Rattle.records.specs.Record.{with_one, told, counted, all_counted, line, lines}

pub counted_in : (ls : List Line) (k : ℕ) (same : Bool) (d : Line) → k < length ls
    → set ls k (record { name = (get_or ls k d).name; counts = with_one (get_or ls k d).counts same }) ≡ counted ls k same
unfolding counted
counted_in [] k same d h = absurd (omega arith)
counted_in (l ∷ ls) zero same d h = refl
counted_in (l ∷ ls) (suc k) same d h = ap (λ (rest : List Line). l ∷ rest) (counted_in ls k same d (omega arith))

pub counted_past : (ls : List Line) (k : ℕ) (same : Bool) → length ls ≤ k → ls ≡ counted ls k same
unfolding counted
counted_past [] k same h = refl
counted_past (l ∷ ls) zero same h = absurd (omega arith)
counted_past (l ∷ ls) (suc k) same h = ap (λ (rest : List Line). l ∷ rest) (counted_past ls k same (omega arith))

-- what is said of a count with the line's end, as it is written
abbrev written : Counts → List ℕ
written c = decimal c.cases ++ (codes " cases, " ++ (decimal c.differ ++ codes " differ\n"))

written_is : (c : Counts) → written c ≡ told c ++ codes "\n"
written_is c =
    sym (append_assoc (decimal c.cases) (codes " cases, " ++ (decimal c.differ ++ codes " differ")) (codes "\n")
    ∙ ap (λ (s : List ℕ). decimal c.cases ++ s) (append_assoc (codes " cases, ") (decimal c.differ ++ codes " differ") (codes "\n")
    ∙ ap (λ (s : List ℕ). codes " cases, " ++ s) (append_assoc (decimal c.differ) (codes " differ") (codes "\n"))))

pub line_in : (ls : List Line) (k : ℕ) (d : Line) → k < length ls → (get_or ls k d).name.now ++ written (get_or ls k d).counts ≡ line ls k
unfolding line
line_in [] k d h = absurd (omega arith)
line_in (l ∷ ls) zero d h = ap (λ (s : List ℕ). l.name.now ++ s) (written_is l.counts)
line_in (l ∷ ls) (suc k) d h = line_in ls k d (omega arith)

pub line_past : (ls : List Line) (k : ℕ) → length ls ≤ k → line ls k ≡ []
unfolding line
line_past [] k h = refl
line_past (l ∷ ls) zero h = absurd (omega arith)
line_past (l ∷ ls) (suc k) h = line_past ls k (omega arith)

-- one replay more
pub counted_next : (ls : List Line) (seen : List Replayed) (r : Replayed) → counted (all_counted ls seen) r.place r.same ≡ all_counted ls (seen ++ (r ∷ []))
unfolding all_counted
counted_next ls [] r = refl
counted_next ls (x ∷ seen) r = counted_next (counted ls x.place x.same) seen r

-- a line's name, and behind it what is said of its counts
pub said : {T E : Type 0} (r : Result T E) (x y z : Option (List ℕ)) (ls : List Line) (k : ℕ) (d : Line) → k < length ls
    → Appends x y (get_or ls k d).name.now → OnOk r (Appends y z (written (get_or ls k d).counts)) → OnOk r (Appends x z (line ls k))
said (Ok v) x y z ls k d h p q = subst (λ (s : List ℕ). Appends x z s) (line_in ls k d h) (Appends-trans x y z _ _ p q)
said (Err e) x y z ls k d h p q = tt

-- a line more
pub lines_next : (ls : List Line) (k : ℕ) (x y z : Option (List ℕ)) → Appends x y (lines ls k) → Appends y z (line ls k) → Appends x z (lines ls (k + 1))
unfolding lines
lines_next ls k x y z p q = rw add-one (Appends-trans x y z _ _ p q)
