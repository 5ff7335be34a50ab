-- What private contracts cite.
use Rattle.std.specs.Prelude.{ℕ, List}
use Rattle.glass.specs.Glass.{glassed_in, picture_in, scratch_used}
use Rattle.block.specs.Fields as Fields
use Rattle.layer.specs.Layer.{style_of}

-- glass, with scratch slices of la and lb bytes
unfoldable pub glazed_in : (w h : ℕ) (b : List ℕ) (la lb : ℕ) (cv : List ℕ) → List ℕ
glazed_in w h b la lb cv = glassed_in w h (Fields.clip b) (Fields.rect b) (style_of b) (Fields.entries b) la lb cv

-- what the first slice, a, holds then, and how many bytes of the second are used
unfoldable pub glazed_first : (w h : ℕ) (b cv a : List ℕ) (lb : ℕ) → List ℕ
glazed_first w h b cv a lb = picture_in w h (Fields.clip b) (Fields.rect b) (style_of b) (Fields.entries b) cv a lb

unfoldable pub glazed_used : (w h : ℕ) (b : List ℕ) (n la lb : ℕ) → ℕ
glazed_used w h b n la lb = scratch_used w h (Fields.clip b) (Fields.rect b) (style_of b) (Fields.entries b) n la lb
