-- What salvaging promises holds of any calls that say what writing, reading and salvaging say.
use mathlib.Core.Path.{◌≡◌, refl, sym, ap, ap₂, ◌∙◌, subst, subst⁻¹}
use mathlib.Core.Bool.{Bool, true, false, cond, not, ◌||◌}
use mathlib.Core.List.{List, [], ◌∷◌}
use Prim.Native.Nat.{ℕ, ◌*◌, ◌/◌, ◌<◌}
use native.Mathlib.Nat.{mul-le-mul_right}
use native.Mathlib.Omega.{arith}
use lib.Dec.{ltb, eqb}
use lib.ListN.{length, get_or, set, take}
use lib.Seq.{get_or-take}
use borrow.Author.Tests.{le-ltb, ne_eqb}
use Rattle.rules.specs.Sample.{sample_of}
use Rattle.rules.specs.SampleBytes.{Bytes}
use Rattle.rules.specs.Answer.{Answer, refused, given, unless, seen}
use Rattle.rules.specs.Refusal.{Store, most_samples}
use Rattle.rules.specs.Block.{block_size}
use Rattle.rules.specs.Shelf.{Heading, heading_of, file_len, heading_in, head_test, file_test}
use Rattle.rules.specs.ShelfCalls.{capacity_wrong, store_in, store_short, read_refusal, written_to}
use Rattle.rules.specs.Stretches.{Stretch, places_of, pairs_of}
use Rattle.rules.specs.Salvage as rule
use Rattle.rules.proofs.Sample.{sample_take}
use Rattle.rules.proofs.ShelfHead.{heading_headed}
use Rattle.rules.proofs.Shelf.{passed, file_bytes, file_length}
use Rattle.rules.proofs.Stretches.{stretches_places}
use Rattle.rules.proofs.Salvage.{heads_agree, headings_agree, known_agree, samples_agree}
use Rattle.rules.proofs.SalvageRead.{all_known, read_whole, all_salvaged, changed_agrees, head_changed, block_changed}
use Rattle.capture.proofs.Answer.{seen_unless}
use Rattle.store.specs.Stored.{Stored}
use Rattle.claim_captures.specs.Words.{Memory, levels}
use Rattle.claim_shelf.specs.Files.{StoredBytes}
use Rattle.claim_shelf.proofs.Written.{lent_in, Wrote, written_filled, given_length, file_in}
use Rattle.claim_shelf.proofs.NewStore as new
use Rattle.claim_shelf.proofs.Taken as taken
use Rattle.claim_shelf.proofs.Files.{said, holds, test}
use Rattle.claim_salvage.specs.Files.{unknown, sample_in, Agreed, Survives, OneLost, AsRead, Salvages}
use Rattle.claim_salvage.proofs.Salvaged.{WasSalvaged, seventeen_is, seventeen, first_rows, not_lacking, nothing_left, salvaged_is, entered, new_store, list_written, sample_is, reported}

-- ---- two files that agree outside the damage
module _ {damaged : ℕ → Bool} {f g : List ℕ} (a : rule.AgreeOutside damaged f g) {capacity : ℕ}
    {m₁ : Memory} {list₁ : List ℕ} {answer₁ : Answer rule.Salvaged} {m₁' : Memory} {list₁' : List ℕ} (one : WasSalvaged capacity f m₁ list₁ answer₁ m₁' list₁') (not₁ : answer₁ ≡ refused 15 → ⊥)
    {m₂ : Memory} {list₂ : List ℕ} {answer₂ : Answer rule.Salvaged} {m₂' : Memory} {list₂' : List ℕ} (two : WasSalvaged capacity g m₂ list₂ answer₂ m₂' list₂') (not₂ : answer₂ ≡ refused 15 → ⊥) where
  abbrev part : rule.Salvaged → Store
  part s = s.store

  by_store : {file : List ℕ} {m : Memory} {list : List ℕ} {answer : Answer rule.Salvaged} {m' : Memory} {list' : List ℕ} → WasSalvaged capacity file m list answer m' list' → (answer ≡ refused 15 → ⊥)
      → seen part answer ≡ unless (cond (capacity_wrong capacity) 1 (cond (not (head_test file)) 17 0)) (store_in capacity (heading_in file))
  by_store {file} {m} {list} w other =
      ap (seen part) w.answer_is
      ∙ seen_unless part (rule.salvaged_of capacity file) (rule.salvage_refusal capacity (lent_in m) (length list) file)
      ∙ ap (λ (k : ℕ). unless k (store_in capacity (heading_in file))) (first_rows w other)

  records : seen part answer₁ ≡ seen part answer₂
  records =
      by_store one not₁
      ∙ ap₂ (λ (b : Bool) (h : Heading). unless (cond (capacity_wrong capacity) 1 (cond (not b) 17 0)) (store_in capacity h)) (heads_agree a) (headings_agree a)
      ∙ sym (by_store two not₂)

  pub agreed : Agreed damaged answer₁ m₁' list₁' answer₂ m₂' list₂'
  agreed = record { records = records; outside = outside }
    where
      outside : (s₁ s₂ : rule.Salvaged) → answer₁ ≡ given s₁ → answer₂ ≡ given s₂ → (i : ℕ) → i < s₁.store.len → damaged (rule.block_of_sample (heading_of s₁.store) i) ≡ false
          → (sample_in s₁ m₁' i ≡ sample_in s₂ m₂' i) × (unknown s₁ list₁' i ≡ unknown s₂ list₂' i)
      outside s₁ s₂ e₁ e₂ i l d =
          let x = subst (λ (y : Answer rule.Salvaged). WasSalvaged capacity f m₁ list₁ y m₁' list₁') e₁ one in
          let y = subst (λ (y : Answer rule.Salvaged). WasSalvaged capacity g m₂ list₂ y m₂' list₂') e₂ two in
          let r₁ = reported x in
          let r₂ = reported y in
          let same = headings_agree a in
          let here : i < (heading_in f).len = subst (λ (st : Store). i < st.len) r₁.store_is l in
          let there : i < (heading_in g).len = subst (λ (h : Heading). i < h.len) same here in
          let out : damaged (rule.block_of_sample (heading_in f) i) ≡ false = subst (λ (st : Store). damaged (rule.block_of_sample (heading_of st) i) ≡ false) r₁.store_is d in (
            ap (λ (st : Store). sample_of st.unit m₁'.samples i) r₁.store_is
                ∙ sample_is x i here
                ∙ samples_agree a (heading_headed f (entered x).head).unit_size i here out
                ∙ ap (λ (h : Heading). sample_of h.unit (rule.salvaged_bytes g) i) same
                ∙ sym (sample_is y i there)
                ∙ sym (ap (λ (st : Store). sample_of st.unit m₂'.samples i) r₂.store_is),
            r₁.unknown_are i l ∙ ap not (known_agree a i out) ∙ sym (r₂.unknown_are i (subst⁻¹ (λ (st : Store). i < st.len) r₂.store_is there)),
          )

-- ---- the file of a capture
module _ {st : Store} {m : Memory} {output : List ℕ} {n : ℕ} {output' : List ℕ} (w : Wrote st m output (given n) output') where
  abbrev file : List ℕ
  file = take n output'

  passes : head_test file ≡ true
  passes = (passed file (test w)).0

  -- damaged in some blocks, or as it is
  module _ {damaged : ℕ → Bool} {g : List ℕ} (a : rule.AgreeOutside damaged g file)
      {capacity : ℕ} {m₂ : Memory} {list : List ℕ} {answer : Answer rule.Salvaged} {m₂' : Memory} {list' : List ℕ} (right : capacity_wrong capacity ≡ false) (v : WasSalvaged capacity g m₂ list answer m₂' list') (other : answer ≡ refused 15 → ⊥) where
    says : heading_in g ≡ heading_of st
    says = headings_agree a ∙ said w

    answered : answer ≡ given (rule.salvaged_of capacity g)
    answered = not_lacking v right (heads_agree a ∙ passes) other

    given_now : WasSalvaged capacity g m₂ list (given (rule.salvaged_of capacity g)) m₂' list'
    given_now = subst (λ (x : Answer rule.Salvaged). WasSalvaged capacity g m₂ list x m₂' list') answered v

    inside_g : (i : ℕ) → i < st.len → i < (heading_in g).len
    inside_g i l = subst⁻¹ (λ (h : Heading). i < h.len) says l

    pub survived : Survives damaged capacity st m answer m₂' list'
    survived = record { salvaged = rule.salvaged_of capacity g; answer_is = answered; store_is = ap (store_in capacity) says; outside = outside }
      where
        outside : (i : ℕ) → i < st.len → damaged (rule.block_of_sample (heading_of st) i) ≡ false
            → (sample_in (rule.salvaged_of capacity g) m₂' i ≡ sample_of st.unit m.samples i) × (unknown (rule.salvaged_of capacity g) list' i ≡ false)
        outside i l d =
            let out : damaged (rule.block_of_sample (heading_in g) i) ≡ false = subst⁻¹ (λ (h : Heading). damaged (rule.block_of_sample h i) ≡ false) says d in
            let whole : i < (heading_in file).len = subst⁻¹ (λ (h : Heading). i < h.len) (said w) l in (
              sample_is given_now i (inside_g i l)
                  ∙ samples_agree a (heading_headed g (entered given_now).head).unit_size i (inside_g i l) out
                  ∙ ap₂ (λ (h : Heading) (b : List ℕ). sample_of h.unit b i) says (all_salvaged file (test w) ∙ holds w)
                  ∙ sample_take st.unit m.samples (st.len * st.unit) i (mul-le-mul_right st.unit l),
              (reported given_now).unknown_are i (inside_g i l) ∙ ap not (known_agree a i out ∙ all_known file (test w) i whole),
            )

  -- with one byte changed
  module _ (b : StoredBytes st m) (place byte : ℕ) (inside : place < n) (small : byte < 256) (differs : byte ≡ get_or output' place 0 → ⊥)
      {capacity : ℕ} {m₂ : Memory} {list : List ℕ} {answer : Answer rule.Salvaged} {m₂' : Memory} {list' : List ℕ} (right : capacity_wrong capacity ≡ false) (v : WasSalvaged capacity (set (take n output') place byte) m₂ list answer m₂' list') where
    inside_file : place < length file
    inside_file = omega (arith, inside, ap length (file_in w), file_length (written_filled w), given_length w)

    are_bytes : Bytes file
    are_bytes = subst⁻¹ Bytes (file_in w) (file_bytes (written_filled w) b)

    another : byte ≡ get_or file place 0 → ⊥
    another e = differs (e ∙ get_or-take n output' place 0 inside)

    pub lost : (place / block_size ≡ 0 → answer ≡ refused 17) × ((place / block_size ≡ 0 → ⊥) → (answer ≡ refused 15 → ⊥) → OneLost (place / block_size) capacity st answer list')
    lost = (λ z. seventeen_is v right (head_changed file are_bytes (test w) place byte inside_file small another z), elsewhere)
      where
        elsewhere : (place / block_size ≡ 0 → ⊥) → (answer ≡ refused 15 → ⊥) → OneLost (place / block_size) capacity st answer list'
        elsewhere z other =
            let a = changed_agrees file place byte inside_file z in
            record {
              salvaged = rule.salvaged_of capacity (set (take n output') place byte);
              answer_is = answered a right v other;
              store_is = ap (store_in capacity) (says a right v other);
              lost = λ i l.
                  (reported (given_now a right v other)).unknown_are i (inside_g a right v other i l)
                  ∙ ap not (block_changed file are_bytes (test w) place byte inside_file small another z i (subst⁻¹ (λ (h : Heading). i < h.len) (said w) l))
                  ∙ twice (eqb (rule.block_of_sample (heading_in file) i) (place / block_size))
                  ∙ ap (λ (h : Heading). eqb (rule.block_of_sample h i) (place / block_size)) (said w);
            }
          where
            twice : (t : Bool) → not (not t) ≡ t
            twice true = refl
            twice false = refl

-- ---- beside reading
no_stretch : (l : List Stretch) → length l ≡ 0 → l ≡ []
no_stretch [] e = refl
no_stretch (s ∷ l) e = absurd (omega (arith, e))

module _ {capacity : ℕ} {file : List ℕ} {m : Memory} {answer : Answer Store} {m₁' : Memory} (r : taken.WasRead capacity file m answer m₁')
    {list : List ℕ} {answer₂ : Answer rule.Salvaged} {m₂' : Memory} {list' : List ℕ} (v : WasSalvaged capacity file m list answer₂ m₂' list') where
  abbrev h : Heading
  h = heading_in file

  read_of : (st : Store) → answer ≡ given st → taken.WasRead capacity file m (given st) m₁'
  read_of st e = subst (λ (x : Answer Store). taken.WasRead capacity file m x m₁') e r

  whole_of : (st : Store) → answer ≡ given st → (head_test file ≡ true) × (rule.stretches_of file ≡ []) × (length file ≡ file_len h)
  whole_of st e = (read_whole file).0 (taken.entered (read_of st e)).passed

  -- nothing is unknown: what is said of the stretches
  none_told : rule.stretches_of file ≡ [] → rule.salvaged_of capacity file ≡ record { store = store_in capacity h; stretches = 0; replaced = 0 }
  unfolding rule.stretches_of rule.replaced_in places_of
  none_told e = λ i. record { store = store_in capacity h; stretches = ap length e i; replaced = (sym (stretches_places (rule.is_known file) 0 h.len) ∙ ap places_of e) i }

  -- the rows that a reading passes
  open_rows : (st : Store) → answer ≡ given st → (capacity_wrong capacity ≡ false) × (store_short capacity (lent_in m) h ≡ false)
  open_rows st e =
      let t = taken.entered (read_of st e) in (
        ap₂ ◌||◌ (ne_eqb capacity 0 (λ z. omega (arith, z, t.capacity_least))) (le-ltb most_samples capacity t.capacity_most),
        ap₂ ◌||◌ (le-ltb capacity h.len t.len_most) t.enough,
      )

  nothing_lacks : (st : Store) → answer ≡ given st → rule.salvage_refusal capacity (lent_in m) (length list) file ≡ 0
  nothing_lacks st e =
      let t = open_rows st e in
      let p = whole_of st e in
      rw (t.0, p.0, t.1, ap (λ (l : List Stretch). ltb (length list) (2 * length l)) p.1, le-ltb (length list) 0 (omega arith))

  there : (st : Store) → answer ≡ given st → (answer₂ ≡ given (record { store = st; stretches = 0; replaced = 0 })) × (length file ≡ file_len (heading_of st))
  there st e =
      let p = whole_of st e in
      let st-is = taken.store_is (read_of st e) in (
        v.answer_is
            ∙ ap₂ (λ (k : ℕ) (x : rule.Salvaged). unless k x) (nothing_lacks st e) (none_told p.1)
            ∙ ap (λ (x : Store). given (record { store = x; stretches = 0; replaced = 0 })) (sym st-is),
        p.2 ∙ ap (λ (x : Store). file_len (heading_of x)) (sym st-is),
      )

  back : (st : Store) → (answer₂ ≡ given (record { store = st; stretches = 0; replaced = 0 })) × (length file ≡ file_len (heading_of st)) → answer ≡ given st
  back st (e, size) =
      let x = subst (λ (y : Answer rule.Salvaged). WasSalvaged capacity file m list y m₂' list') e v in
      let all-is : record { store = st; stretches = 0; replaced = 0 } ≡ rule.salvaged_of capacity file = salvaged_is x in
      let st-is : st ≡ store_in capacity h = ap (λ (s : rule.Salvaged). s.store) all-is in
      let none = no_stretch (rule.stretches_of file) (sym (ap (λ (s : rule.Salvaged). s.stretches) all-is)) in
      let is_read : file_test file ≡ true = (read_whole file).1 ((entered x).head, none, size ∙ ap (λ (y : Store). file_len (heading_of y)) st-is) in
      let no_row : read_refusal capacity (lent_in m) file ≡ 0 = rw ((entered x).right, is_read, (entered x).enough) in
      r.answer_is ∙ ap (λ (k : ℕ). unless k (store_in capacity h)) no_row ∙ ap given (sym st-is)

  pub as_read : AsRead file answer m₁' list answer₂ m₂' list'
  as_read = record { exactly = λ st. (there st, back st); same = same }
    where
      same : (st : Store) → answer ≡ given st → (m₁' ≡ m₂') × (list' ≡ list)
      same st e =
          let x = subst (λ (y : Answer rule.Salvaged). WasSalvaged capacity file m list y m₂' list') (there st e).0 v in
          let p = whole_of st e in (
            new.stored_same m (taken.new_store (read_of st e)).stored (subst (λ (b : List ℕ). Stored h.unit 0 h.len b m.samples (levels m) m₂'.samples (levels m₂')) (all_salvaged file (taken.entered (read_of st e)).passed) (new_store x).stored),
            list_written x ∙ ap (λ (l : List Stretch). written_to (2 * length l) (pairs_of l) list) p.1,
          )

-- ---- all of it
module _ {Write : Store → Memory → List ℕ → Answer ℕ → List ℕ → Type 0} {Read : ℕ → List ℕ → Memory → Answer Store → Memory → Type 0} {Salvage : ℕ → List ℕ → Memory → List ℕ → Answer rule.Salvaged → Memory → List ℕ → Type 0}
    (wrote : (st : Store) (m : Memory) (output : List ℕ) (answer : Answer ℕ) (output' : List ℕ) → Write st m output answer output' → Wrote st m output answer output')
    (was_read : (capacity : ℕ) (file : List ℕ) (m : Memory) (answer : Answer Store) (m' : Memory) → Read capacity file m answer m' → taken.WasRead capacity file m answer m')
    (was_salvaged : (capacity : ℕ) (file : List ℕ) (m : Memory) (list : List ℕ) (answer : Answer rule.Salvaged) (m' : Memory) (list' : List ℕ) → Salvage capacity file m list answer m' list' → WasSalvaged capacity file m list answer m' list')
    (may_salvage : (capacity : ℕ) (file : List ℕ) (m : Memory) (list : List ℕ) → (answer : Answer rule.Salvaged) × (m' : Memory) × (list' : List ℕ) × Salvage capacity file m list answer m' list') where
  pub salvages : Salvages Write Read Salvage
  salvages = record {
    refuses_others = λ capacity file m list a m' list' b right v. seventeen (was_salvaged capacity file m list a m' list' v) b right;
    refused_leaves = λ capacity file m list n m' list' v. nothing_left (was_salvaged capacity file m list (refused n) m' list' v);
    reports = λ capacity file m list s m' list' v. reported (was_salvaged capacity file m list (given s) m' list' v);
    agree = λ damaged f g a capacity m₁ l₁ a₁ m₁' l₁' one not₁ m₂ l₂ a₂ m₂' l₂' two not₂.
        agreed a (was_salvaged capacity f m₁ l₁ a₁ m₁' l₁' one) not₁ (was_salvaged capacity g m₂ l₂ a₂ m₂' l₂' two) not₂;
    survives = λ st m o n o' b w damaged file a capacity m₂ list x m₂' list' right v other.
        survived (wrote st m o (given n) o' w) a right (was_salvaged capacity file m₂ list x m₂' list' v) other;
    changed = λ st m o n o' b w place byte inside small differs capacity m₂ list x m₂' list' right v.
        lost (wrote st m o (given n) o' w) b place byte inside small differs right (was_salvaged capacity (set (take n o') place byte) m₂ list x m₂' list' v);
    as_read = λ capacity file m a m₁' r list x m₂' list' v. as_read (was_read capacity file m a m₁' r) (was_salvaged capacity file m list x m₂' list' v);
    may_salvage = may_salvage;
  }
