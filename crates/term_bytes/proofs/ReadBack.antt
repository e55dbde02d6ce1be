-- Terms that are written as bytes read back as those terms, and every list of terms has bytes.
use mathlib.Core.Path.{◌≡◌, refl, ap₂}
use mathlib.Core.List.{List, [], ◌∷◌}
use Prim.Native.Nat.{ℕ, zero, suc, ◌<◌}
use native.Mathlib.Omega.{arith}
use Rattle.rules.specs.SampleBytes.{Bytes}
use Rattle.terms.specs.declared.Condition.{Condition}
use Rattle.terms.specs.declared.Condition.TheVariants.{Rising, Falling, Edge, High, Low}
use Rattle.terms.specs.declared.TriggerTerm.{TriggerTerm}
use Rattle.term_bytes.specs.Bytes.{term_in, terms_in, condition_number, term_bytes}

term_back : (line : ℕ) (c : Condition) → term_in line (condition_number c) ≡ record { channel = line; condition = c }
term_back line Rising = refl
term_back line Falling = refl
term_back line Edge = refl
term_back line High = refl
term_back line Low = refl

pub terms_back : (ts : List TriggerTerm) → terms_in (term_bytes ts) ≡ ts
unfolding terms_in term_bytes
terms_back [] = refl
terms_back (t ∷ ts) = ap₂ (λ (x : TriggerTerm) (xs : List TriggerTerm). x ∷ xs) (term_back t.channel t.condition) (terms_back ts)

-- a line is a byte, as it is in a record of a term; so is the number of a condition
pub Lines : List TriggerTerm → Type 0
Lines [] = Unit {0}
Lines (t ∷ ts) = (t.channel < 256) × Lines ts

condition_small : (c : Condition) → condition_number c < 256
condition_small Rising = omega arith
condition_small Falling = omega arith
condition_small Edge = omega arith
condition_small High = omega arith
condition_small Low = omega arith

pub terms_are : (ts : List TriggerTerm) → Lines ts → Bytes (term_bytes ts)
unfolding term_bytes Lines
terms_are [] h k = omega arith
terms_are (t ∷ ts) h zero = h.0
terms_are (t ∷ ts) h (suc zero) = condition_small t.condition
terms_are (t ∷ ts) h (suc (suc k)) = terms_are ts h.1 k
