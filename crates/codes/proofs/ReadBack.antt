-- What is written behind pointers reads back, whatever stood there before: a store as five numbers, which start writes, the len that append writes, an encoder's numbers, and refusals.
use mathlib.Core.Path.{◌≡◌, refl, ap, subst⁻¹}
use mathlib.Core.Bool.{Bool, cond}
use mathlib.Core.List.{List, [], ◌∷◌}
use Rattle.std.specs.Prelude.{Option, None, Some}
use Prim.Native.Nat.{ℕ, zero, suc, ◌<◌}
use native.Mathlib.Omega.{arith}
use borrow.Author.Tests.{ne_eqb}
use lib.IntN.{ℤ}
use lib.ListN.{length}
use lib.Seq.{sets}
use Rattle.rules.specs.Answer.{refused, given}
use Rattle.rules.specs.Sample.{list_from}
use Rattle.rules.specs.Refusal.{Store}
use Rattle.rules.specs.Encoder.{Turns}
use Rattle.rules.proofs.SampleBytes.{list_whole}
use Rattle.capture.specs.Record.{store_of}
use Rattle.capture.specs.Numbers.{marked_at, marked_in, mark_place_in}
use Rattle.codes.specs.Code.{none_code, perhaps, perhaps_in}
use Rattle.codes.specs.Turned.{position_number, step_numbers, turns_in}
use Rattle.codes.specs.Record.{capture_in, mark_numbers, store_numbers, len_number}

-- the mark, and whether there is one; where there is none, its number means nothing
mark_back : (unit capacity len a b : ℕ) (m : Option ℕ) → store_of (capture_in (sets (unit ∷ capacity ∷ len ∷ a ∷ b ∷ []) marked_at (mark_numbers m))) ≡ record { unit = unit; capacity = capacity; len = len; mark = m }
mark_back unit capacity len a b None = refl
mark_back unit capacity len a b (Some k) = refl

module _ (old : List ℕ) (size : length old ≡ 5) where
  pub store_back : (st : Store) → store_of (capture_in (store_numbers st old)) ≡ st
  unfolding list_from
  store_back st = subst⁻¹ (λ (l : List ℕ). store_of (capture_in (store_numbers st l)) ≡ st) (list_whole 5 old size) (mark_back st.unit st.capacity st.len (marked_in old) (mark_place_in old) st.mark)

  -- append writes len alone
  pub len_back : (n : ℕ) → capture_in (len_number n old) ≡ record { unitsize = (capture_in old).unitsize; capacity = (capture_in old).capacity; len = n; trigger = (capture_in old).trigger }
  unfolding list_from
  len_back n = subst⁻¹ (λ (l : List ℕ). capture_in (len_number n l) ≡ record { unitsize = (capture_in l).unitsize; capacity = (capture_in l).capacity; len = n; trigger = (capture_in l).trigger }) (list_whole 5 old size) refl

-- ---- an encoder's position and counts
pub turns_back : (t : Turns) (place : ℤ) (old : List ℕ) → length old ≡ 3 → turns_in (position_number t place) (step_numbers t old) ≡ t
unfolding list_from
turns_back t place old size = subst⁻¹ (λ (l : List ℕ). turns_in (position_number t place) (step_numbers t l) ≡ t) (list_whole 3 old size) refl

-- ---- an answer that may be none: what is found, with what stands behind the pointers, and none, whatever stands there
pub found_back : {A : Type 0} (a : A) → perhaps_in (perhaps (given (Some a))).code a ≡ given (Some a)
found_back a = refl

pub none_back : {A : Type 0} (old : A) → perhaps_in (perhaps {A = A} (given None)).code old ≡ given None
none_back old = refl

-- a refusal's number is neither 0 nor that of none
pub refusal_back : {A : Type 0} (n : ℕ) (a : A) → n < none_code → (n ≡ 0 → ⊥) → perhaps_in n a ≡ refused n
refusal_back zero a few some-row = absurd (some-row refl)
refusal_back (suc n) a few some-row = ap (λ (b : Bool). cond b (given None) (refused (suc n))) (ne_eqb (suc n) none_code (λ e. omega (arith, few, e)))
