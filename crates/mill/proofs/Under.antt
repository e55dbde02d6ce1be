-- A mill's call in front of a service's: where none of the mill's rows refuses, the service's own rows decide.
use Prim.Native.Nat.{ℕ}
use mathlib.Core.Path.{◌≡◌, refl, sym, ◌∙◌}
use mathlib.Core.Bool.{Bool, true, false, cond}
use mathlib.Core.List.{List, ◌++◌}
use Rattle.std.specs.Prelude.{Err}
use native.Mathlib.Omega.{arith}
use lib.IntN.{ℤ}
use Rattle.rules.specs.Answer.{refused, unless}
use Rattle.rules.specs.Refusal.{Row, first_of, store_rows}
use Rattle.rules.specs.Mill.{before_first}
use Rattle.answer.specs.declared.Refusal.{Refusal}
use Rattle.answer.specs.Answered.{number}
use Rattle.answer.proofs.Answered.{number_least, stops}
use Rattle.node.specs.declared.Memory.{Memory}
use Rattle.capture.specs.declared.Capture.{Capture}
use Rattle.capture.specs.declared.stored.Stored.{Stored}
use Rattle.capture.specs.Record.{store_of, lent_in}
use Rattle.capture.proofs.Answer.{stopped}
use Rattle.capture.proofs.Opened.{rows_open}
use Rattle.mill.specs.Reader.{origin_in, mill_rows, mill_refusal, Passed, Passes}

-- ---- rows
-- 12, 13 and 13, by whether each holds; `rest` is what comes after them
abbrev pub three : Bool → Bool → Bool → ℕ → ℕ
three c d e rest = cond c 12 (cond d 13 (cond e 13 rest))

three_passed : (c d e : Bool) → three c d e 0 ≡ 0 → (c ≡ false) × (d ≡ false) × (e ≡ false)
three_passed true d e h = absurd (omega arith)
three_passed false true e h = absurd (omega arith)
three_passed false false true h = absurd (omega arith)
three_passed false false false h = (refl, refl, refl)

-- ---- a row refuses, whatever rows the service has after it
module _ (c : Capture) (m : Memory) (outside : Bool) (p q : ℤ) (r : Refusal) (e : Passes c m outside p q (Err r)) (rest : List Row) where
  pub under_shut : number r ≡ mill_refusal c m outside p q rest
  under_shut = e ∙ sym (stopped (store_rows (store_of c) (lent_in m) (mill_rows (store_of c) outside p q)) rest (λ z. omega (arith, number_least r)))

  pub under_refused : {B : Type 0} (b : B) → refused (number r) ≡ unless (mill_refusal c m outside p q rest) b
  under_refused b = stops r _ b under_shut

-- ---- none refuses
module _ {c : Capture} {m : Memory} {outside : Bool} {p q : ℤ} {s : Stored} (k : Passed c m outside p q s) where
  abbrev o : ℕ
  o = origin_in c

  left : (outside ≡ false) × (before_first o p ≡ false) × (before_first o q ≡ false)
  left = three_passed outside (before_first o p) (before_first o q) (sym (rows_open k.opened (mill_rows (store_of c) outside p q)) ∙ k.passes)

  -- the service's own rows decide
  pub under_open : (rest : List Row) → mill_refusal c m outside p q rest ≡ first_of rest
  under_open rest = rows_open k.opened (mill_rows (store_of c) outside p q ++ rest) ∙ (λ i. three (left.0 i) (left.1 i) (left.2 i) (first_of rest))
