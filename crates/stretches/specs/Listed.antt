-- One stretch of a list, tested. 02: CR 9.
use Rattle.std.specs.Prelude.{Bool, not, ◌&&◌, ℕ, ◌+◌, ltb, leb}

-- it does not lie from place p on and up to len
abbrev pub outside : ℕ → ℕ → ℕ → ℕ → Bool
outside p len first count = not (leb p first && (ltb 0 count && leb (first + count) len))
