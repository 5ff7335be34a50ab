-- What only private contracts of `genie` cite.
use Rattle.std.specs.Prelude.{ℕ, List, length, get_or, Float}
use Rattle.color.specs.Color.{mix_pix}
use Rattle.genie.specs.declared.Strip.{Strip}
use Rattle.genie.specs.Genie.{column, coverage}

-- `genie_pix` from a row of the source that is lent
unfoldable pub row_pix : List ℕ → Strip → Float → ℕ → ℕ → ℕ
row_pix row k full x p = mix_pix p (get_or row (column (length row) k x) 0) (coverage k full x)
