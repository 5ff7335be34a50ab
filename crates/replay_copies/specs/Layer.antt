-- A recorded copy: which words it takes.
use Rattle.std.specs.Prelude.{Bool, cond, List, ℕ, min, eqb, replicate, take}
use Rattle.canvas.specs.Rows.{map_row}
use Rattle.canvas.specs.Canvas.{painted_on}
use Rattle.geom.specs.declared.Pt.{Pt}
use Rattle.sources.specs.declared.Sides.{Sides}
use Rattle.straight.specs.declared.Blit.{Blit}
use Rattle.scaled.specs.declared.Stretch.{Stretch}
use Rattle.genie.specs.declared.Flight.{Flight}
use Rattle.straight.specs.Straight.{straight_rule}
use Rattle.scaled.specs.Scaled.{scaled_rule}
use Rattle.genie.specs.Genie.{genied}
use Rattle.replay_copies.specs.declared.Way.{Way}
use Rattle.replay_copies.specs.declared.Way.TheVariants.{Straight, Scaled, Genie}
use Rattle.records.specs.Record.{word, real, whole, clip, rect, pixel, recorded}

-- the source's sides, and each copy's own numbers
unfoldable pub sides : List ℕ → Sides
sides rec = record { w = word rec 12; h = word rec 13 }

unfoldable pub blit : List ℕ → Blit
blit rec = record { x = whole rec 7; y = whole rec 8; r = real rec 11; alpha = word rec 14; dim = word rec 15 }

unfoldable pub stretch : List ℕ → Stretch
stretch rec = record { dest = rect rec; r = real rec 11; alpha = real rec 14 }

unfoldable pub target : List ℕ → Pt
target rec = record { x = real rec 15; y = real rec 16 }

unfoldable pub flight : List ℕ → Flight
flight rec = record { from = rect rec; target = target rec; t = real rec 17; alpha = real rec 14 }

-- what each copy of the source src makes of the canvas px
unfoldable pub straight : List ℕ → List ℕ → List ℕ → List ℕ
straight rec src px =
    let w = word rec 1 in
    let h = word rec 2 in
    painted_on w h (straight_rule w h (clip rec) src (sides rec) (blit rec)) px

unfoldable pub scaled : List ℕ → List ℕ → List ℕ → List ℕ
scaled rec src px =
    let w = word rec 1 in
    let h = word rec 2 in
    painted_on w h (scaled_rule w h (clip rec) src (sides rec) (stretch rec)) px

unfoldable pub genie_copy : List ℕ → List ℕ → List ℕ → List ℕ
genie_copy rec src px = genied (word rec 1) (word rec 2) (clip rec) src (sides rec) (flight rec) px

-- by the copy's number: 0 straight, 1 scaled, else genie
abbrev pub way : ℕ → Way
way number = cond (eqb number 0) Straight (cond (eqb number 1) Scaled Genie)

-- what the copy makes of the canvas px
unfoldable pub copied : List ℕ → List ℕ → List ℕ → List ℕ
copied rec src px = cond (eqb (word rec 0) 0) (straight rec src px) (cond (eqb (word rec 0) 1) (scaled rec src px) (genie_copy rec src px))

-- 64 pixels: the first is the word `first`, and they grow by the word `step`
unfoldable pub pixels : List ℕ → ℕ → ℕ → List ℕ
pixels rec first step = map_row (λ i p. pixel (word rec first) (word rec step) i) (replicate 64 0)

-- how many of them are the source's
unfoldable pub source_len : List ℕ → ℕ
source_len rec = min (word rec 18) 64

-- the copy makes of the canvas of 64 pixels what the Rust made of it
unfoldable pub replayed : List ℕ → Bool
replayed rec = recorded rec (copied rec (take (source_len rec) (pixels rec 19 20)) (pixels rec 21 22)) 64
