-- What was read, by the equations of a reading: refused, or a new store.
use mathlib.Core.Path.{◌≡◌, refl, sym, ap, ap₂, ◌∙◌, subst}
use mathlib.Core.Bool.{Bool, true, false, cond, not, ◌||◌, false≢true}
use mathlib.Core.List.{List}
use mathlib.Core.Logic.{◌↔◌}
use Prim.Native.Nat.{ℕ, zero, suc, ◌<◌}
use native.Mathlib.Omega.{arith}
use lib.Dec.{ltb}
use Rattle.rules.specs.SampleBytes.{Bytes}
use Rattle.rules.specs.Answer.{Answer, refused, given, unless, unrefused}
use Rattle.rules.specs.Refusal.{Store, lent_short}
use Rattle.rules.specs.Shelf.{Heading, HasFile, heading_in, bytes_in, file_test}
use Rattle.rules.specs.ShelfCalls.{capacity_wrong, store_in, read_refusal, read_answer, read_count}
use Rattle.rules.proofs.ShelfHead.{heading_headed}
use Rattle.rules.proofs.Shelf.{has_file, passed, bytes_in_length}
use Rattle.store.specs.Stored.{Stored}
use Rattle.capture.proofs.Answer.{unless_given}
use Rattle.shelf_read.proofs.Tested.{LetIn, let_in}
use Rattle.claim_captures.specs.Words.{Memory, levels}
use Rattle.claim_shelf.proofs.Written.{lent_in}
use Rattle.claim_shelf.proofs.NewStore.{nothing_stored, New}

pub record WasRead (capacity : ℕ) (file : List ℕ) (m : Memory) (answer : Answer Store) (m' : Memory) : Type 0 where
  pub answer_is : answer ≡ read_answer capacity (lent_in m) file
  pub memory : Stored (heading_in file).unit 0 (read_count capacity (lent_in m) file) (bytes_in file) m.samples (levels m) m'.samples (levels m')

-- ---- the number of a refusal
unfoldable pub number_in : {A : Type 0} → Answer A → ℕ
number_in (refused n) = n
number_in (given x) = 0

pub number_unless : {A : Type 0} (n : ℕ) (x : A) → number_in (unless n x) ≡ n
unfolding number_in
number_unless zero x = refl
number_unless (suc n) x = refl

-- a number above 15 is not that of the last row
pub not_last : (b : Bool) {k : ℕ} → 15 < k → cond b 15 0 ≡ k → ⊥
not_last true h e = omega (arith, h, e)
not_last false h e = omega (arith, h, e)

pub sixteen : {capacity : ℕ} {file : List ℕ} {m : Memory} {answer : Answer Store} {m' : Memory} → Bytes file → capacity_wrong capacity ≡ false → WasRead capacity file m answer m'
    → (answer ≡ refused 16) ↔ (HasFile file → ⊥)
unfolding number_in
sixteen {capacity} {file} {m} {answer} b right r = go (file_test file) refl
  where
    others : Bool
    others = ltb capacity (heading_in file).len || lent_short (store_in capacity (heading_in file)) (lent_in m)

    rows : (t : Bool) → file_test file ≡ t → read_refusal capacity (lent_in m) file ≡ cond (not t) 16 (cond others 15 0)
    rows t e = ap₂ (λ (x y : Bool). cond x 1 (cond (not y) 16 (cond others 15 0))) right e

    number_is : number_in answer ≡ read_refusal capacity (lent_in m) file
    number_is = ap number_in r.answer_is ∙ number_unless (read_refusal capacity (lent_in m) file) (store_in capacity (heading_in file))

    go : (t : Bool) → file_test file ≡ t → (answer ≡ refused 16) ↔ (HasFile file → ⊥)
    go true e = (λ a. absurd (not_last others (omega arith) (sym (rows true e) ∙ sym number_is ∙ ap number_in a)), λ none. absurd (none ((has_file file b).0 e)))
    go false e = (λ a h. false≢true (sym e ∙ (has_file file b).1 h), λ none. r.answer_is ∙ ap (λ (n : ℕ). unless n (store_in capacity (heading_in file))) (rows false e))

-- where a row refuses, nothing is written
pub refused_leaves : {capacity : ℕ} {file : List ℕ} {m : Memory} {n : ℕ} {m' : Memory} → WasRead capacity file m (refused (suc n)) m' → m' ≡ m
unfolding number_in
refused_leaves {capacity} {file} {m} {n} r = nothing_stored r.memory (ap (λ (k : ℕ). unrefused k (heading_in file).len) (sym number_is))
  where
    number_is : suc n ≡ read_refusal capacity (lent_in m) file
    number_is = ap number_in r.answer_is ∙ number_unless (read_refusal capacity (lent_in m) file) (store_in capacity (heading_in file))

-- ---- a record was given
module _ {capacity : ℕ} {file : List ℕ} {m : Memory} {st : Store} {m' : Memory} (r : WasRead capacity file m (given st) m') where
  abbrev h : Heading
  h = heading_in file

  given_is : (read_refusal capacity (lent_in m) file ≡ 0) × (store_in capacity h ≡ st)
  given_is = unless_given (store_in capacity h) (read_refusal capacity (lent_in m) file) st (sym r.answer_is)

  pub entered : LetIn capacity (lent_in m) file
  entered = let_in capacity (lent_in m) file given_is.0

  pub store_is : st ≡ store_in capacity h
  store_is = sym given_is.1

  pub new_store : New capacity h (bytes_in file) m m'
  new_store =
      let p = passed file entered.passed in
      record {
        headed = heading_headed file p.0;
        capacity_least = entered.capacity_least;
        capacity_most = entered.capacity_most;
        len_most = entered.len_most;
        enough = entered.enough;
        bytes_size = bytes_in_length file p.1;
        stored = subst (λ (k : ℕ). Stored h.unit 0 k (bytes_in file) m.samples (levels m) m'.samples (levels m')) (ap (λ (k : ℕ). unrefused k h.len) given_is.0) r.memory;
      }
