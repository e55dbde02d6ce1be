-- The first numbers of an output, cut down to the grant: one turn more, and what that makes of samples that were copied.
use Prim.Native.Nat.{ℕ, zero, suc, ◌+◌, ◌≤◌, ◌<◌}
use mathlib.Core.Path.{◌≡◌, refl, sym, ap, ap₂, ◌∙◌}
use mathlib.Core.List.{List, [], ◌∷◌, ◌++◌, map, map-append, append_assoc}
use native.Mathlib.Numerals.{add-one}
use native.Mathlib.Omega.{arith}
use lib.Bits.{bit_and}
use lib.ListN.{length, get_or, take, drop, set, length-take, length-map}
use lib.Seq.{take-suc, drop-cons, set_at, get_or_at, take_at, drop_at}
use Rattle.rules.specs.Sample.{list_from, cut_lines}
use Rattle.rules.specs.Reading.{copied_to}
use Rattle.capture.proofs.Calls.{length_from}
use Rattle.mill.specs.Reader.{cut_first}

-- with grant the mask of granted lines
module _ (grant : ℕ) where
  abbrev granted : ℕ → ℕ
  granted x = bit_and x grant

  cut_length : (n : ℕ) (output : List ℕ) → n ≤ length output → length (map granted (take n output)) ≡ n
  cut_length n output h = length-map (take n output) granted ∙ length-take n output ∙ omega arith

  pub cut_none : (output : List ℕ) → output ≡ cut_first grant 0 output
  unfolding cut_first
  cut_none output = refl

  -- the next number, which no turn has reached
  cut_next : (i : ℕ) (output : List ℕ) → i < length output → get_or (cut_first grant i output) i 0 ≡ get_or output i 0
  unfolding cut_first
  cut_next i output h =
      ap (λ (l : List ℕ). get_or (map granted (take i output) ++ l) i 0) (drop-cons output i 0 h)
      ∙ get_or_at (map granted (take i output)) (get_or output i 0) (drop (suc i) output) 0 i (cut_length i output (omega arith))

  -- one turn more
  pub cut_turn : (i : ℕ) (output now : List ℕ) → i < length output → now ≡ cut_first grant i output → set now i (bit_and (get_or now i 0) grant) ≡ cut_first grant (i + 1) output
  unfolding cut_first
  cut_turn i output now h e =
      ap₂ (λ (l : List ℕ) (v : ℕ). set l i (granted v)) (e ∙ ap (λ (l : List ℕ). map granted (take i output) ++ l) (drop-cons output i 0 h)) (ap (λ (l : List ℕ). get_or l i 0) e ∙ cut_next i output h)
      ∙ set_at (map granted (take i output)) (get_or output i 0) (drop (suc i) output) (granted (get_or output i 0)) i (cut_length i output (omega arith))
      ∙ sym (append_assoc (map granted (take i output)) (granted (get_or output i 0) ∷ []) (drop (suc i) output))
      ∙ ap (λ (l : List ℕ). l ++ drop (suc i) output) (sym (map-append granted (take i output) (get_or output i 0 ∷ [])) ∙ ap (map granted) (sym (take-suc output i 0 h)))
      ∙ ap (λ (k : ℕ). cut_first grant k output) (sym (add-one i))

  -- samples that were copied, cut down
  cut_from : (s : ℕ → ℕ) (p n : ℕ) → map granted (list_from s p n) ≡ list_from (λ i. granted (s i)) p n
  unfolding list_from
  cut_from s p zero = refl
  cut_from s p (suc n) = ap (λ (l : List ℕ). granted (s p) ∷ l) (cut_from s (p + 1) n)

  pub cut_over : (s : ℕ → ℕ) (p n : ℕ) (output : List ℕ) → cut_first grant n (copied_to s p n output) ≡ copied_to (cut_lines grant s) p n output
  unfolding cut_first copied_to
  cut_over s p n output =
      ap₂ (λ (a b : List ℕ). map granted a ++ b) (take_at (list_from s p n) (drop n output) n (length_from s p n)) (drop_at (list_from s p n) (drop n output) n (length_from s p n))
      ∙ ap (λ (l : List ℕ). l ++ drop n output) (cut_from s p n)
