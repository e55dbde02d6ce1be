-- What was salvaged, by the equations of a salvaging: refused, or a new store and its stretches.
use mathlib.Core.Path.{◌≡◌, refl, sym, ap, ap₂, ◌∙◌, subst, subst⁻¹}
use mathlib.Core.Bool.{Bool, true, false, cond, not, ◌||◌, false≢true}
use mathlib.Core.List.{List}
use mathlib.Core.Logic.{◌↔◌}
use Prim.Native.Nat.{ℕ, zero, suc, ◌<◌}
use native.Mathlib.Nat.{zero-add}
use native.Mathlib.Omega.{arith}
use lib.Dec.{ltb}
use lib.ListN.{length, take, drop}
use lib.Seq.{drop_at, length-take-le}
use borrow.Author.Tests.{ltb-false, not-false}
use Rattle.rules.specs.Sample.{sample_of}
use Rattle.rules.specs.SampleBytes.{Bytes}
use Rattle.rules.specs.Answer.{Answer, refused, given, unless, unrefused}
use Rattle.rules.specs.Refusal.{Store}
use Rattle.rules.specs.Shelf.{Heading, Begins, heading_in, head_test}
use Rattle.rules.specs.ShelfCalls.{capacity_wrong, store_in, store_short, written_to}
use Rattle.rules.specs.Stretches.{Stretch, covers, apart, pairs_of, pairs_in, places_of}
use Rattle.rules.specs.Salvage as rule
use Rattle.rules.proofs.Refusal.{row_passed, neither}
use Rattle.rules.proofs.Sample.{list_at}
use Rattle.rules.proofs.ShelfHead.{heading_headed}
use Rattle.rules.proofs.Shelf.{begins}
use Rattle.rules.proofs.Stretches.{pairs_length, pairs_back}
use Rattle.rules.proofs.Salvage.{salvaged_length, salvaged_sample, salvaged_are, unknown_in_lem, list_apart, replaced_are}
use Rattle.store.specs.Stored.{Stored}
use Rattle.capture.specs.declared.Capture.{Capture}
use Rattle.capture.specs.Record.{store_of}
use Rattle.capture.proofs.Answer.{unless_given}
use Rattle.shelf_read.proofs.Tested.{capacity_right}
use Rattle.shelf_salvage.proofs.Opening.{LetIn, parts, listed}
use Rattle.claim_captures.specs.Words.{Memory, levels, at}
use Rattle.claim_captures.specs.Claim.{Held}
use Rattle.claim_shelf.specs.Files.{run_in}
use Rattle.claim_shelf.proofs.Written.{lent_in}
use Rattle.claim_shelf.proofs.NewStore.{nothing_stored, New, stored_bytes, stored_sample, new_held}
use Rattle.claim_shelf.proofs.Taken.{number_in, number_unless, not_last}
use Rattle.claim_shelf.proofs.Files.{run_length, bytes_words}
use Rattle.claim_salvage.specs.Files.{told_in, Reported}

pub record WasSalvaged (capacity : ℕ) (file : List ℕ) (m : Memory) (list : List ℕ) (answer : Answer rule.Salvaged) (m' : Memory) (list' : List ℕ) : Type 0 where
  pub answer_is : answer ≡ rule.salvage_answer capacity (lent_in m) (length list) file
  pub memory : Stored (heading_in file).unit 0 (rule.salvage_count capacity (lent_in m) (length list) file) (rule.salvaged_bytes file) m.samples (levels m) m'.samples (levels m')
  pub list_is : list' ≡ rule.salvage_list capacity (lent_in m) list file

module _ {capacity : ℕ} {file : List ℕ} {m : Memory} {list : List ℕ} {answer : Answer rule.Salvaged} {m' : Memory} {list' : List ℕ} (r : WasSalvaged capacity file m list answer m' list') where
  abbrev refusal : ℕ
  refusal = rule.salvage_refusal capacity (lent_in m) (length list) file

  -- the last row, and the number by the others
  abbrev lacking : Bool
  lacking = store_short capacity (lent_in m) (heading_in file) || ltb (length list) (rule.list_need file)

  rows : {right head : Bool} → capacity_wrong capacity ≡ right → head_test file ≡ head → refusal ≡ cond right 1 (cond (not head) 17 (cond lacking 15 0))
  rows c h = ap₂ (λ (x y : Bool). cond x 1 (cond (not y) 17 (cond lacking 15 0))) c h

  number_is : number_in answer ≡ refusal
  number_is = ap number_in r.answer_is ∙ number_unless refusal (rule.salvaged_of capacity file)

  -- 17
  pub seventeen_is : capacity_wrong capacity ≡ false → head_test file ≡ false → answer ≡ refused 17
  seventeen_is c h = r.answer_is ∙ ap (λ (n : ℕ). unless n (rule.salvaged_of capacity file)) (rows c h)

  pub seventeen : Bytes file → capacity_wrong capacity ≡ false → (answer ≡ refused 17) ↔ (Begins file → ⊥)
  unfolding number_in
  seventeen b right = go (head_test file) refl
    where
      go : (t : Bool) → head_test file ≡ t → (answer ≡ refused 17) ↔ (Begins file → ⊥)
      go true e = (λ a. absurd (not_last lacking (omega arith) (sym (rows right e) ∙ sym number_is ∙ ap number_in a)), λ none. absurd (none ((begins file b).0 e)))
      go false e = (λ a h. false≢true (sym e ∙ (begins file b).1 h), λ none. seventeen_is right e)

  -- where it is not 15, the number is that of the first two rows
  pub first_rows : (answer ≡ refused 15 → ⊥) → refusal ≡ cond (capacity_wrong capacity) 1 (cond (not (head_test file)) 17 0)
  first_rows other = go (capacity_wrong capacity) (head_test file) lacking refl
    where
      first : Bool → Bool → Bool → ℕ
      first c h l = cond c 1 (cond (not h) 17 (cond l 15 0))

      go : (c h l : Bool) → refusal ≡ first c h l → first c h l ≡ first c h false
      go true h l e = refl
      go false false l e = refl
      go false true true e = absurd (other (r.answer_is ∙ ap (λ (n : ℕ). unless n (rule.salvaged_of capacity file)) e))
      go false true false e = refl

  pub not_lacking : capacity_wrong capacity ≡ false → head_test file ≡ true → (answer ≡ refused 15 → ⊥) → answer ≡ given (rule.salvaged_of capacity file)
  not_lacking c h other =
      r.answer_is ∙ ap (λ (n : ℕ). unless n (rule.salvaged_of capacity file)) (first_rows other ∙ ap₂ (λ (x y : Bool). cond x 1 (cond (not y) 17 0)) c h)

-- ---- refused
row_refused : {A : Type 0} (n refusal : ℕ) (x : A) → refused n ≡ unless refusal x → (k : ℕ) → unrefused refusal k ≡ 0
row_refused n zero x e k = let z : ◌≡◌ {A = ℕ} 0 1 = cc in absurd (omega arith)
row_refused n (suc r) x e k = refl

pub nothing_left : {capacity : ℕ} {file : List ℕ} {m : Memory} {list : List ℕ} {n : ℕ} {m' : Memory} {list' : List ℕ} → WasSalvaged capacity file m list (refused n) m' list' → (m' ≡ m) × (list' ≡ list)
nothing_left {capacity} {file} {m} {list} {n} r = (
  nothing_stored r.memory (none (heading_in file).len),
  r.list_is ∙ ap (λ (k : ℕ). written_to k (pairs_of (rule.stretches_of file)) list) (none (rule.list_need file)),
)
  where
    none : (k : ℕ) → unrefused (rule.salvage_refusal capacity (lent_in m) (length list) file) k ≡ 0
    none = row_refused n (rule.salvage_refusal capacity (lent_in m) (length list) file) (rule.salvaged_of capacity file) r.answer_is

-- ---- something was salvaged
module _ {capacity : ℕ} {file : List ℕ} {m : Memory} {list : List ℕ} {s : rule.Salvaged} {m' : Memory} {list' : List ℕ} (r : WasSalvaged capacity file m list (given s) m' list') where
  abbrev h : Heading
  h = heading_in file

  abbrev all : rule.Salvaged
  all = rule.salvaged_of capacity file

  given_is : (rule.salvage_refusal capacity (lent_in m) (length list) file ≡ 0) × (all ≡ s)
  given_is = unless_given all (rule.salvage_refusal capacity (lent_in m) (length list) file) s (sym r.answer_is)

  pub salvaged_is : s ≡ all
  salvaged_is = sym given_is.1

  let_in_both : LetIn capacity (lent_in m) file × (ltb (length list) (rule.list_need file) ≡ false)
  let_in_both =
      let short = store_short capacity (lent_in m) h in
      let last = ltb (length list) (rule.list_need file) in
      let t1 = (row_passed 1 (cond (not (head_test file)) 17 (cond (short || last) 15 0)) (capacity_wrong capacity) (omega arith)).0 given_is.0 in
      let t2 = (row_passed 17 (cond (short || last) 15 0) (not (head_test file)) (omega arith)).0 t1.1 in
      let t3 = (neither short last).0 ((row_passed 15 0 (short || last) (omega arith)).0 t2.1).0 in
      (record { right = t1.0; head = not-false (head_test file) t2.0; enough = t3.0 }, t3.1)

  pub entered : LetIn capacity (lent_in m) file
  entered = let_in_both.0

  pub new_store : New capacity h (rule.salvaged_bytes file) m m'
  new_store =
      let c = capacity_right capacity entered.right in
      let p = parts capacity file m.samples (levels m) entered in
      record {
        headed = heading_headed file entered.head;
        capacity_least = c.0;
        capacity_most = c.1;
        len_most = p.0;
        enough = p.1;
        bytes_size = salvaged_length file (heading_headed file entered.head).unit_size;
        stored = subst (λ (k : ℕ). Stored h.unit 0 k (rule.salvaged_bytes file) m.samples (levels m) m'.samples (levels m')) (ap (λ (k : ℕ). unrefused k h.len) given_is.0) r.memory;
      }

  pub list_written : list' ≡ written_to (rule.list_need file) (pairs_of (rule.stretches_of file)) list
  list_written = r.list_is ∙ ap (λ (k : ℕ). written_to (unrefused k (rule.list_need file)) (pairs_of (rule.stretches_of file)) list) given_is.0

  told_is : told_in all list' ≡ rule.stretches_of file
  told_is =
      ap pairs_in (listed file list {found = record { stretches = length (rule.stretches_of file); replaced = rule.replaced_in file }} list' (let_in_both.1, refl, refl, list_written))
      ∙ pairs_back (rule.stretches_of file)

  -- a sample of the store, by the file's salvaged bytes
  pub sample_is : (i : ℕ) → i < h.len → sample_of h.unit m'.samples i ≡ sample_of h.unit (rule.salvaged_bytes file) i
  sample_is i l = stored_sample new_store i l

  pub reported : Reported capacity file list s m' list'
  reported = subst (λ (x : rule.Salvaged). Reported capacity file list x m' list') given_is.1 (record {
    store_is = refl;
    samples_are = λ i l. sample_is i l ∙ salvaged_sample file (heading_headed file entered.head).unit_size i l;
    held = held;
    unknown_are = λ i l. ap (λ (ss : List Stretch). covers ss i) told_is ∙ unknown_in_lem file i l;
    in_order = subst⁻¹ (λ (ss : List Stretch). apart 0 h.len ss ≡ true) told_is (list_apart file);
    stretches_are = ap length told_is;
    replaced_are = ap places_of told_is ∙ replaced_are file;
    room = ltb-false (length list) (rule.list_need file) let_in_both.1;
    behind = ap (drop (rule.list_need file)) list_written ∙ drop_at (take (rule.list_need file) (pairs_of (rule.stretches_of file))) (drop (rule.list_need file) list) (rule.list_need file) front_size;
  })
    where
      st : Store
      st = store_in capacity (heading_in file)

      front_size : length (take (rule.list_need file) (pairs_of (rule.stretches_of file))) ≡ rule.list_need file
      front_size = length-take-le (rule.list_need file) (pairs_of (rule.stretches_of file)) (omega (arith, pairs_length (rule.stretches_of file)))

      run_at : (i : ℕ) → i < (heading_in file).len → sample_of (heading_in file).unit (rule.salvaged_bytes file) i ≡ at (run_in st m') i
      run_at i l = sym (sample_is i l) ∙ ap (sample_of (heading_in file).unit m'.samples) (sym (zero-add i)) ∙ sym (list_at (sample_of (heading_in file).unit m'.samples) 0 (heading_in file).len i l)

      held : Bytes file → (c : Capture) → store_of c ≡ st → Held (run_in st m') (heading_in file).mark c m'
      held b c c-is = new_held new_store (run_in st m') (run_length st m') run_at
          (bytes_words st m' (subst⁻¹ Bytes (stored_bytes new_store) (salvaged_are file b))) c c-is
