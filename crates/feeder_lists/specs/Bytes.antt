-- Samples in bytes, for any unit u.
use Rattle.std.specs.Prelude.{List, ℕ}
use Rattle.rules.specs.Sample.{sample_of, list_from}

-- the first n samples of bytes b
abbrev pub units : ℕ → ℕ → List ℕ → List ℕ
units u n b = list_from (sample_of u b) 0 n
