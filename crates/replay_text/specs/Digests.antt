-- One number for many. crates/replay/data/README.md: digest.
use Rattle.std.specs.Prelude.{List, [], ◌∷◌, ℕ, ◌+◌, ◌*◌, ◌%◌}

abbrev pub prime : ℕ
prime = 4294967291

-- (digest × 257 + number + 1) mod 4,294,967,291, as the README beside the lists says
abbrev pub digest_with : ℕ → ℕ → ℕ
digest_with digest n = (digest * 257 + n + 1) % prime

unfoldable pub digest_of : ℕ → List ℕ → ℕ
digest_of digest [] = digest
digest_of digest (n ∷ l) = digest_of (digest_with digest n) l
