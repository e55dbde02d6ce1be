-- A number written to bytes and held against bytes, one byte after the other.
use mathlib.Core.Path.{◌≡◌, sym, ap, ap₂, ◌∙◌}
use mathlib.Core.Bool.{Bool, true, false, ◌&&◌}
use mathlib.Core.List.{List, [], ◌∷◌, ◌++◌, append-nil}
use Prim.Native.Nat.{ℕ, suc, ◌+◌, ◌-◌, ◌/◌, ◌%◌, ◌≤◌, ◌<◌}
use native.Mathlib.Omega.{arith}
use lib.Dec.{eqb}
use lib.ListN.{length, get_or, set, take, drop, drop_of_length-le}
use lib.Seq.{take-suc-set, append_snoc, take_all, drop-cons}
use borrow.Author.Tests.{eq-eqb, ne_eqb}
use Rattle.rules.specs.SampleBytes.{sample_bytes}
use Rattle.rules.specs.Block.{same_bytes}

bytes_on : (n i left : ℕ) → i < n → sample_bytes (n - i) left ≡ left % 256 ∷ sample_bytes (n - (i + 1)) (left / 256)
unfolding sample_bytes
bytes_on n i left h = ap (λ (k : ℕ). sample_bytes k left) less
  where
    less : n - i ≡ suc (n - (i + 1))
    less = omega (arith, h)

none_left : (n i left : ℕ) → n ≤ i → sample_bytes (n - i) left ≡ []
unfolding sample_bytes
none_left n i left h = ap (λ (k : ℕ). sample_bytes k left) none
  where
    none : n - i ≡ 0
    none = omega (arith, h)

all_left : (n left : ℕ) → sample_bytes (n - 0) left ≡ sample_bytes n left
all_left n left = ap (λ (k : ℕ). sample_bytes k left) all
  where
    all : n - 0 ≡ n
    all = omega arith

-- ---- written: i bytes stand, and the rest of the number would follow
pub record Writing (n value : ℕ) (part : List ℕ) (left i : ℕ) : Type 0 where
  pub stands : take i part ++ sample_bytes (n - i) left ≡ sample_bytes n value

pub writing_starts : (n value : ℕ) (part : List ℕ) → Writing n value part value 0
writing_starts n value part = record { stands = all_left n value }

pub writing_on : {n value left i : ℕ} {part : List ℕ} → Writing n value part left i → i < n → length part ≡ n → Writing n value (set part i (left % 256)) (left / 256) (i + 1)
writing_on {n} {value} {left} {i} {part} w h e = record {
  stands =
      ap (λ (l : List ℕ). l ++ sample_bytes (n - (i + 1)) (left / 256)) (ap (λ (k : ℕ). take k (set part i (left % 256))) one ∙ take-suc-set part i (left % 256) (omega (arith, h, e)))
      ∙ append_snoc (take i part) (left % 256) (sample_bytes (n - (i + 1)) (left / 256))
      ∙ ap (λ (l : List ℕ). take i part ++ l) (sym (bytes_on n i left h))
      ∙ w.stands;
}
  where
    one : i + 1 ≡ suc i
    one = omega arith

pub writing_ends : {n value left i : ℕ} {part : List ℕ} → Writing n value part left i → n ≤ i → length part ≡ n → part ≡ sample_bytes n value
writing_ends {n} {value} {left} {i} {part} w h e =
    sym (take_all i part (omega (arith, h, e)))
    ∙ sym (append-nil (take i part))
    ∙ ap (λ (l : List ℕ). take i part ++ l) (sym (none_left n i left h))
    ∙ w.stands

-- ---- held against bytes: the first i are the number's
pub record Holding (value : ℕ) (part : List ℕ) (left i : ℕ) : Type 0 where
  pub same : same_bytes part (sample_bytes (length part) value) ≡ same_bytes (drop i part) (sample_bytes (length part - i) left)

pub holding_starts : (value : ℕ) (part : List ℕ) → Holding value part value 0
holding_starts value part = record { same = ap (same_bytes part) (sym (all_left (length part) value)) }

module _ {value left i : ℕ} {part : List ℕ} (w : Holding value part left i) (h : i < length part) where
  next : same_bytes part (sample_bytes (length part) value) ≡ (eqb (get_or part i 0) (left % 256) && same_bytes (drop (suc i) part) (sample_bytes (length part - (i + 1)) (left / 256)))
  unfolding same_bytes
  next = w.same ∙ ap₂ same_bytes (drop-cons part i 0 h) (bytes_on (length part) i left h)

  pub holding_on : get_or part i 0 ≡ left % 256 → Holding value part (left / 256) (i + 1)
  holding_on e = record {
    same =
        next
        ∙ ap (λ (b : Bool). b && same_bytes (drop (suc i) part) (sample_bytes (length part - (i + 1)) (left / 256))) (eq-eqb (get_or part i 0) (left % 256) e)
        ∙ ap (λ (k : ℕ). same_bytes (drop k part) (sample_bytes (length part - (i + 1)) (left / 256))) one;
  }
    where
      one : suc i ≡ i + 1
      one = omega arith

  pub holding_fails : (get_or part i 0 ≡ left % 256 → ⊥) → false ≡ same_bytes part (sample_bytes (length part) value)
  holding_fails f =
      sym (next ∙ ap (λ (b : Bool). b && same_bytes (drop (suc i) part) (sample_bytes (length part - (i + 1)) (left / 256))) (ne_eqb (get_or part i 0) (left % 256) f))

pub holding_ends : {value left i : ℕ} {part : List ℕ} → Holding value part left i → length part ≤ i → true ≡ same_bytes part (sample_bytes (length part) value)
unfolding same_bytes
holding_ends {value} {left} {i} {part} w h = sym (w.same ∙ ap₂ same_bytes (drop_of_length-le part h) (none_left (length part) i left h))
