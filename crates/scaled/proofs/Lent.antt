-- A row of a source that is lent: it lies in the source, is as long as the source is wide, and its pixels are the source's.
use Prim.Native.Nat.{ℕ, ◌+◌, ◌-◌, ◌≤◌, ◌<◌}
use mathlib.Core.Path.{◌≡◌, ap, ◌∙◌}
use mathlib.Core.Bool.{true}
use mathlib.Core.List.{List}
use native.Mathlib.Omega.{arith}
use lib.ListN.{length, take, drop, get_or}
use Rattle.canvas.proofs.Laws.Spans.{part_long}
use Rattle.sources.specs.declared.Sides.{Sides}
use Rattle.sources.specs.Source.{row_start, texel, is_source, start_of}
use Rattle.scaled.specs.Private.{LentRow}
use Rattle.sources.proofs.Laws.{source_is, row_room, start_is, lent_texel}

module _ (src : List ℕ) (s : Sides) (sy : ℕ) (i : is_source s (length src) ≡ true) (h : sy < s.h) {from : ℕ} (e : from ≡ start_of s sy) where
  pub lent_room : from + s.w ≤ length src
  lent_room = let I = source_is s (length src) i in omega (arith, start_is sy I h e, row_room sy I h)

  pub lent_row : LentRow src s sy (take ((from + s.w) - from) (drop from src))
  lent_row =
      let at : from ≡ row_start s sy = start_is sy (source_is s (length src) i) h e in
      let here : from ≡ row_start s sy + 0 = omega arith in
      record {
        long = part_long src from (from + s.w) (omega arith) lent_room ∙ omega arith;
        is = λ x l.
            let same : 0 + x ≡ x = omega arith in
            ap (λ (m : ℕ). get_or (take ((from + s.w) - m) (drop m src)) x 0) here
            ∙ lent_texel src s 0 sy (from + s.w) x (omega arith)
            ∙ ap (λ (m : ℕ). texel src s m sy) same;
      }
