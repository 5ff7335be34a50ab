-- The library's version as one number.
use Rattle.std.specs.Prelude.{ℕ, ◌+◌, ◌*◌}

-- 65536 × major + 256 × minor + patch: version 0.7.0
abbrev pub version : ℕ
version = 65536 * 0 + 256 * 7 + 0
