-- Searches in what was salvaged: the stretches that salvaging told are accepted, and every capture that has the good blocks is a filling of them.
use mathlib.Core.Path.{◌≡◌, refl, sym, ap, ap₂, ◌∙◌, subst, subst⁻¹}
use mathlib.Core.Bool.{Bool, true, false, cond, not, ◌&&◌, ◌||◌}
use mathlib.Core.List.{List, [], ◌∷◌}
use Rattle.std.specs.Prelude.{Option, None, Some}
use Prim.Native.Nat.{ℕ, ◌-◌, ◌*◌, ◌%◌, ◌^◌, ◌≤◌, ◌<◌}
use native.Mathlib.Nat.{mod-lt, div-add-mod', mul-le-mul_right, suc-mul, zero-lt-suc}
use native.Mathlib.Decide.{dec_lt}
use native.Mathlib.Omega.{arith}
use lib.Dec.{eqb}
use lib.ListN.{length, take, length-take}
use borrow.Author.Tests.{not-false, lt-ltb}
use Rattle.rules.specs.Answer.{Answer, given, unless}
use Rattle.rules.specs.Sample.{sample_of}
use Rattle.rules.specs.SampleBytes.{Bytes}
use Rattle.rules.specs.Refusal.{Store}
use Rattle.rules.specs.Search.{changed}
use Rattle.rules.specs.Block.{payload_most}
use Rattle.rules.specs.Shelf.{heading_of, bytes_for, heading_in}
use Rattle.rules.specs.ShelfCalls.{capacity_wrong, store_in}
use Rattle.rules.specs.Stretches.{apart, covers, pairs_in}
use Rattle.rules.specs.Salvage.{block_of_byte, is_known, AgreeOutside, Salvaged}
use Rattle.rules.specs.Unknown.{Sureness, certain, possible, Filling, Nearest, Change, list_wrong, unknown_search}
use Rattle.rules.proofs.Refusal.{sound}
use Rattle.rules.proofs.Unknown.{list_passes}
use Rattle.capture.specs.declared.Capture.{Capture}
use Rattle.capture.specs.Record.{store_of, lent_of}
use Rattle.claim_captures.specs.Words.{Memory, levels, at}
use Rattle.claim_captures.specs.Claim.{Held}
use Rattle.claim_shelf.specs.Files.{run_in, StoredBytes}
use Rattle.claim_shelf.proofs.Files.{run_at, run_length, bytes_words}
use Rattle.claim_salvage.specs.Files.{Reported, Survives, Salvages}
use Rattle.claim_unknown.specs.Searches.{Answers, Searches, bad_in, Across, SalvagedSearched, Made, MadeAlike}
use Rattle.claim_unknown.specs.Searches.Made.{stored, was_read, was_salvaged}

-- each stretch takes two numbers
pairs_fit : (l : List ℕ) → 2 * length (pairs_in l) ≤ length l
unfolding pairs_in
pairs_fit [] = omega arith
pairs_fit (a ∷ []) = omega arith
pairs_fit (a ∷ b ∷ l) = omega (arith, pairs_fit l)

-- the numbers that were told pass row 18
told_right : (len n : ℕ) (list : List ℕ) → length (pairs_in (take (2 * n) list)) ≡ n → apart 0 len (pairs_in (take (2 * n) list)) ≡ true → list_wrong len (take (2 * n) list) ≡ false
told_right len n list e h = (list_passes len (take (2 * n) list)).1 (record { even = two; in_order = h })
  where
    size : length (take (2 * n) list) ≡ 2 * n
    size = omega (arith, pairs_fit (take (2 * n) list), e, length-take (2 * n) list)

    two : length (take (2 * n) list) % 2 ≡ 0
    two = omega (arith, size, div-add-mod' (length (take (2 * n) list)) 2, mod-lt (length (take (2 * n) list)) (zero-lt-suc 1))

-- the place right behind is the first that is asked
found_next : (P : ℕ → Type 0) (len i : ℕ) → 1 ≤ i → i < len → P i → (a : Option ℕ) → Nearest false P len (i - 1) a → a ≡ Some i
unfolding Nearest
found_next P len i l m p None h = absurd (h i (omega (arith, l), m) p)
found_next P len i l m p (Some j) h = go (dec_lt i j)
  where
    go : Dec (i < j) → Some j ≡ Some i
    go (yes x) = absurd (h.2 i (omega (arith, l), m) x p)
    go (no x) = ap (λ (k : ℕ). Some k) (omega (arith, x, h.0.0, l))

module _ {C : Type 0} (record_of : C → Capture) (Looks : ℕ → C → Memory → C → Memory → Type 0) (Ask : Sureness → Bool → C → Memory → List ℕ → ℕ → ℕ → Answer (Option ℕ) → Type 0)
    (promised : Searches record_of Looks Ask)
    (Write : Store → Memory → List ℕ → Answer ℕ → List ℕ → Type 0) (Read : ℕ → List ℕ → Memory → Answer Store → Memory → Type 0)
    (Salvage : ℕ → List ℕ → Memory → List ℕ → Answer Salvaged → Memory → List ℕ → Type 0) (salvages : Salvages Write Read Salvage)
    (capacity : ℕ) (file : List ℕ) (m : Memory) (list : List ℕ) (s : Salvaged) (m' : Memory) (list' : List ℕ)
    (right : capacity_wrong capacity ≡ false) (bytes : Bytes file) (salvaged : Salvage capacity file m list (given s) m' list') (c : C) (c-is : store_of (record_of c) ≡ s.store) where
  reported : Reported capacity file list s m' list'
  reported = salvages.reports capacity file m list s m' list' salvaged

  abbrev stretches : List ℕ
  stretches = take (2 * s.stretches) list'

  abbrev run : List ℕ
  run = run_in s.store m'

  answers : Answers record_of Looks Ask run c m'
  answers = promised.answers run s.store.mark c m' (reported.held bytes (record_of c) c-is)

  len_is : length run ≡ s.store.len
  len_is = run_length s.store m'

  passed : list_wrong (length run) stretches ≡ false
  passed = told_right (length run) s.stretches list' reported.stretches_are (subst⁻¹ (λ (n : ℕ). apart 0 n (pairs_in stretches) ≡ true) len_is reported.in_order)

  accepted : (sure : Sureness) (back : Bool) (mask from : ℕ) (answer : Answer (Option ℕ)) → Ask sure back c m' stretches mask from answer → (found : Option ℕ) × (answer ≡ given found)
  accepted sure back mask from answer a = (
    unknown_search sure back (record_of c).unitsize (at run) (length run) (pairs_in stretches) mask from,
    answers.is sure back stretches mask from answer a
        ∙ ap (λ (b : Bool). unless (cond b 18 0) (unknown_search sure back (record_of c).unitsize (at run) (length run) (pairs_in stretches) mask from)) passed,
  )

  -- ---- a capture that has the good blocks
  module _ (st : Store) (m₀ : Memory) (output : List ℕ) (n : ℕ) (output' : List ℕ) (stored : StoredBytes st m₀) (wrote : Write st m₀ output (given n) output') (agrees : AgreeOutside (bad_in file) file (take n output')) where
    survives : Survives (bad_in file) capacity st m₀ (given s) m' list'
    survives = salvages.survives st m₀ output n output' stored wrote (bad_in file) file agrees capacity m list (given s) m' list' right salvaged (λ e. let z : ◌≡◌ {A = ℕ} 0 1 = cc in omega arith)

    -- it is the one that was salvaged
    same : s ≡ survives.salvaged
    same = let e = survives.answer_is in cc

    store_is : s.store ≡ store_in capacity (heading_of st)
    store_is = ap (λ (x : Salvaged). x.store) same ∙ survives.store_is

    unit_is : (record_of c).unitsize ≡ st.unit
    unit_is = ap (λ (x : Store). x.unit) (c-is ∙ store_is)

    length_is : length run ≡ st.len
    length_is = len_is ∙ ap (λ (x : Store). x.len) store_is

    -- a known place is in a good block
    good : (i : ℕ) → i < length run → covers (pairs_in stretches) i ≡ false → bad_in file (block_of_byte (i * st.unit)) ≡ false
    good i l e =
        ap (λ (u : ℕ). bad_in file (block_of_byte (i * u))) (ap (λ (x : Store). x.unit) (sym store_is ∙ reported.store_is))
        ∙ ap₂ (λ (a b : Bool). not (eqb (block_of_byte (i * (heading_in file).unit)) 0 || (a && b))) (lt-ltb (payload_most * (block_of_byte (i * (heading_in file).unit) - 1)) (bytes_for (heading_in file)) called)
        (not-false (is_known file i) (sym (reported.unknown_are i (omega (arith, l, len_is))) ∙ e))
        ∙ either (eqb (block_of_byte (i * (heading_in file).unit)) 0)
      where
        either : (a : Bool) → not (a || true) ≡ false
        either true = refl
        either false = refl

        stored_place : i < (heading_in file).len
        stored_place = omega (arith, l, len_is, ap (λ (x : Store). x.len) reported.store_is)

        -- block 0 calls for the block of a stored sample
        called : payload_most * (block_of_byte (i * (heading_in file).unit) - 1) < bytes_for (heading_in file)
        called =
            omega (arith, div-add-mod' (i * (heading_in file).unit) payload_most, mul-le-mul_right (heading_in file).unit stored_place, suc-mul i (heading_in file).unit, unit_some)
          where
            unit_some : 1 ≤ (heading_in file).unit
            unit_some = omega (arith, (sound (store_of (record_of c)) (lent_of m'.samples (levels m')) (reported.held bytes (record_of c) c-is).passes).unit_size.least, ap (λ (x : Store). x.unit) (c-is ∙ reported.store_is))

    filling : Filling (record_of c).unitsize (length run) (covers (pairs_in stretches)) (at run) (at (run_in st m₀))
    filling = record {
      known = λ i l e.
          run_at st m₀ i (omega (arith, l, length_is))
          ∙ sym (survives.outside i (omega (arith, l, length_is)) (good i l e)).0
          ∙ ap (λ (x : Salvaged). sample_of x.store.unit m'.samples i) (sym same)
          ∙ sym (run_at s.store m' i (omega (arith, l, len_is)));
      small = λ i l e. subst⁻¹ (λ (u : ℕ). at (run_in st m₀) i < 256 ^ u) unit_is (bytes_words st m₀ stored i (omega (arith, l, length_is, run_length st m₀)));
    }

    certains : (back : Bool) (mask from i : ℕ) → Ask certain back c m' stretches mask from (given (Some i)) → changed (at (run_in st m₀)) mask i ≡ true
    unfolding Nearest
    certains back mask from i a = (answers.meant certain back stretches mask from (Some i) a).1 (at (run_in st m₀)) filling

    possibles : (mask i : ℕ) → 1 ≤ i → i < st.len → changed (at (run_in st m₀)) mask i ≡ true → (answer : Answer (Option ℕ)) → Ask possible false c m' stretches mask (i - 1) answer → answer ≡ given (Some i)
    possibles mask i l k h answer a =
        let g = accepted possible false mask (i - 1) answer a in
        g.1 ∙ ap given (found_next (Change possible (record_of c).unitsize (length run) (covers (pairs_in stretches)) (at run) mask) (length run) i l (omega (arith, k, length_is)) (at (run_in st m₀), filling, h) g.0
        (answers.meant possible false stretches mask (i - 1) g.0 (subst (Ask possible false c m' stretches mask (i - 1)) g.1 a)))

  pub across : Across record_of Looks Ask Write file s c m' stretches
  across = record { accepted = accepted; certains = certains; possibles = possibles }

pub salvaged_searched : {C : Type 0} (record_of : C → Capture) (Looks : ℕ → C → Memory → C → Memory → Type 0) (Ask : Sureness → Bool → C → Memory → List ℕ → ℕ → ℕ → Answer (Option ℕ) → Type 0)
    → Searches record_of Looks Ask
    → (Write : Store → Memory → List ℕ → Answer ℕ → List ℕ → Type 0) (Read : ℕ → List ℕ → Memory → Answer Store → Memory → Type 0)
    (Salvage : ℕ → List ℕ → Memory → List ℕ → Answer Salvaged → Memory → List ℕ → Type 0) → Salvages Write Read Salvage → SalvagedSearched record_of Looks Ask Write Salvage
salvaged_searched record_of Looks Ask promised Write Read Salvage salvages capacity file m list s m' list' right bytes salvaged c c-is =
    across record_of Looks Ask promised Write Read Salvage salvages capacity file m list s m' list' right bytes salvaged c c-is

-- ---- captures however they were made
module _ {C : Type 0} (record_of : C → Capture) (Looks : ℕ → C → Memory → C → Memory → Type 0) (Ask : Sureness → Bool → C → Memory → List ℕ → ℕ → ℕ → Answer (Option ℕ) → Type 0)
    (promised : Searches record_of Looks Ask)
    (Stored : List ℕ → Option ℕ → C → Memory → Type 0) (stored_held : (run : List ℕ) (mark : Option ℕ) (c : C) (m : Memory) → Stored run mark c m → Held run mark (record_of c) m)
    (Write : Store → Memory → List ℕ → Answer ℕ → List ℕ → Type 0) (Read : ℕ → List ℕ → Memory → Answer Store → Memory → Type 0)
    (Salvage : ℕ → List ℕ → Memory → List ℕ → Answer Salvaged → Memory → List ℕ → Type 0) (salvages : Salvages Write Read Salvage) where
  -- what was read is what salvaging the file would leave
  read_held : {capacity : ℕ} {file : List ℕ} {m : Memory} {st : Store} {m' : Memory} {c : C} → Bytes file → Read capacity file m (given st) m' → store_of (record_of c) ≡ st → Held (run_in st m') st.mark (record_of c) m'
  read_held {capacity} {file} {m} {st} {m'} {c} b r c-is =
      let w = salvages.may_salvage capacity file m [] in
      let x = salvages.as_read capacity file m (given st) m' r [] w.0 w.1 w.2 w.3 in
      let all : Salvaged = record { store = st; stretches = 0; replaced = 0 } in
      subst⁻¹ (λ (n : Memory). Held (run_in st n) st.mark (record_of c) n) (x.same st refl).0
      ((salvages.reports capacity file m [] all w.1 w.2 (subst (λ (a : Answer Salvaged). Salvage capacity file m [] a w.1 w.2) ((x.exactly st).0 refl).0 w.3)).held b (record_of c) c-is)

  made_held : {run : List ℕ} {mark : Option ℕ} {c : C} {m : Memory} → Made record_of Looks Ask Stored Read Salvage run mark c m → Held run mark (record_of c) m
  made_held {run} {mark} {c} {m} (stored s) = stored_held run mark c m s
  made_held {c = c} (was_read b r e) = read_held {c = c} b r e
  made_held {c = c} (was_salvaged {capacity} {file} {m} {list} {s} {m'} {list'} b r e) = (salvages.reports capacity file m list s m' list' r).held b (record_of c) e

  pub made_alike : MadeAlike record_of Looks Ask Stored Read Salvage
  made_alike run₁ mark₁ c₁ m₁ run₂ mark₂ c₂ m₂ one two unit = promised.alike run₁ mark₁ c₁ m₁ run₂ mark₂ c₂ m₂ (made_held one) (made_held two) unit
