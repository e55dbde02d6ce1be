-- What is opened is the capture's own: the rows that are left, and what samples promises of it.
use Prim.Native.Nat.{ℕ, ◌≤◌, ◌<◌}
use mathlib.Core.Path.{◌≡◌, sym, ◌∙◌}
use mathlib.Core.List.{List, [], ◌∷◌}
use lib.ListN.{length}
use borrow.Author.Tests.{lt-ltb, le-ltb}
use native.Mathlib.Omega.{arith}
use Rattle.std.specs.Prelude.{Ok, Err}
use Rattle.rules.specs.Sample.{sample_of}
use Rattle.rules.specs.Reading.{copied_to}
use Rattle.rules.specs.Refusal.{Row, first_of, store_rows, copied, copy_row}
use Rattle.rules.proofs.Refusal.{rows_left}
use Rattle.answer.specs.declared.Refusal.{Refusal}
use Rattle.answer.specs.declared.Refusal.TheVariants.{Output}
use Rattle.answer.specs.Answered.{number}
use Rattle.answer.proofs.Answered.{number_least}
use Rattle.node.specs.Lent.{levels_of}
use Rattle.node.specs.declared.Memory.{Memory}
use Rattle.capture.specs.declared.Capture.{Capture}
use Rattle.capture.specs.declared.stored.Stored.{Stored}
use Rattle.capture.specs.Record.{store_of, lent_in}
use Rattle.capture.specs.Calls.{Copies}
use Rattle.capture.specs.Stored.{sample_in, Opened, Opens}
use Rattle.capture.proofs.Answer.{rows_refuse}
use Rattle.capture.proofs.Calls.{copies_refused, copies_done}

-- row 1 or 2 refuses whatever rows come after
pub rows_shut : (c : Capture) (m : Memory) (r : Refusal) → Opens c m (Err r) → (rest : List Row) → number r ≡ first_of (store_rows (store_of c) (lent_in m) rest)
rows_shut c m r e rest = rows_refuse (store_of c) (lent_in m) rest e (λ z. omega (arith, number_least r))

-- and samples copies nothing
pub copies_shut : (c : Capture) (m : Memory) (r : Refusal) → Opens c m (Err r) → (start count : ℕ) (output : List ℕ) → Copies (store_of c) m.samples.now (levels_of m.levels) start count output (Err r) output
copies_shut c m r e start count output = copies_refused (store_of c) m.samples.now (levels_of m.levels) start count output r (rows_shut c m r e (copy_row c.len start count (length output) ∷ []))

module _ {c : Capture} {m : Memory} {s : Stored} (o : Opened c m s) where
  -- the rows after 1 and 2 decide
  pub rows_open : (rest : List Row) → first_of (store_rows (store_of c) (lent_in m) rest) ≡ first_of rest
  rows_open rest = rows_left (store_of c) (lent_in m) o.passes rest

  -- the samples are the capture's
  pub sample_is : (i : ℕ) → sample_in s i ≡ sample_of c.unitsize m.samples.now i
  sample_is i = λ j. sample_of (o.unit_is j) (o.memory_is j).samples.now i

  module _ (start count : ℕ) (output : List ℕ) where
    pub copies_short : length output < copied s.len start count → Copies (store_of c) m.samples.now (levels_of m.levels) start count output (Err Output) output
    copies_short h =
        copies_refused (store_of c) m.samples.now (levels_of m.levels) start count output Output
        (sym (rows_open (copy_row c.len start count (length output) ∷ []) ∙ simp (lt-ltb _ _ (rw o.len_is at h))))

    pub copies_all : copied s.len start count ≤ length output → (k : ℕ) → k ≡ copied s.len start count → (output' : List ℕ) → output' ≡ copied_to (sample_in s) start k output
        → Copies (store_of c) m.samples.now (levels_of m.levels) start count output (Ok k) output'
    copies_all h k e output' d =
        copies_done (store_of c) m.samples.now (levels_of m.levels) start count output
        (rows_open (copy_row c.len start count (length output) ∷ []) ∙ simp (le-ltb _ _ (rw o.len_is at h)))
        k (rw o.len_is at e) output' (d ∙ (λ j. copied_to (sample_of (o.unit_is j) (o.memory_is j).samples.now) start k output))
