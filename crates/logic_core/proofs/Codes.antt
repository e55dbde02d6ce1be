-- What a refused append says at the boundary.
use mathlib.Core.Path.{◌≡◌, ap, ◌∙◌}
use mathlib.Core.List.{List}
use Prim.Native.Nat.{ℕ, ◌+◌}
use native.Mathlib.Nat.{add-zero}
use lib.ListN.{set}
use lib.Seq.{set-get_or}
use Rattle.capture.specs.Numbers.{len_at, len_in}
use Rattle.append.specs.Append.{refusal_of, taken_of}
use Rattle.append.proofs.Answer.{taken_none}
use Rattle.codes.specs.Record.{capture_in, len_number}
use Rattle.logic_core.specs.Asked.{AppendsOut}

module _ (bytes samples : List ℕ) (levels : ℕ → List ℕ) (samples' : List ℕ) (levels' : ℕ → List ℕ) where
  -- where a row refuses, len stays, and so it may be left unwritten
  len_stays : (numbers : List ℕ) → (refusal_of (capture_in numbers) samples levels bytes ≡ 0 → ⊥) → len_number ((capture_in numbers).len + taken_of (capture_in numbers) samples levels bytes) numbers ≡ numbers
  len_stays numbers h =
      ap (λ (k : ℕ). set numbers len_at (len_in numbers + k)) (taken_none (capture_in numbers) bytes samples levels h)
      ∙ ap (λ (k : ℕ). set numbers len_at k) (add-zero (len_in numbers))
      ∙ set-get_or numbers len_at 0

  -- a refused append leaves the record's numbers; that memory stays is append's own theorem
  pub append_refused : (code : ℕ) (numbers numbers' : List ℕ) → AppendsOut (capture_in numbers) bytes samples levels code numbers numbers' samples' levels' → (code ≡ 0 → ⊥) → numbers' ≡ numbers
  append_refused code numbers numbers' e h = e.numbers_are ∙ len_stays numbers (λ z. h (e.code_is ∙ z))
