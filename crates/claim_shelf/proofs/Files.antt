-- What shelf files promise holds of any calls that say what writing and reading say.
use mathlib.Core.Path.{◌≡◌, sym, ap, ap₂, ◌∙◌, subst, subst⁻¹}
use mathlib.Core.Bool.{Bool, true, false, cond}
use mathlib.Core.List.{List, [], ◌∷◌, ◌++◌}
use Prim.Native.Nat.{ℕ, ◌*◌, ◌≤◌, ◌<◌}
use native.Mathlib.Nat.{zero-add, mul-le-mul_right}
use native.Mathlib.Decide.{ℕ_discrete}
use native.Mathlib.Omega.{arith}
use lib.ListN.{length, get_or, set, take, drop}
use lib.Seq.{take_all, get_or-take, get_or-set_same, get_or-set_other}
use borrow.Author.Tests.{le-ltb}
use Rattle.rules.specs.Sample.{sample_of}
use Rattle.rules.specs.SampleBytes.{Bytes}
use Rattle.rules.specs.Answer.{Answer, refused, given, unless, unrefused}
use Rattle.rules.specs.Refusal.{Store}
use Rattle.rules.specs.Shelf.{Heading, Filed, heading_of, filed_of, file_of, file_len, HasFile, heading_in, bytes_in, filed_in, file_test}
use Rattle.rules.specs.ShelfCalls.{output_row, write_refusal, written_to, capacity_wrong, store_in, read_refusal}
use Rattle.rules.proofs.Sample.{list_length, list_at, sample_take, sample_lt}
use Rattle.rules.proofs.Refusal.{rows_rest}
use Rattle.rules.proofs.Shelf.{passed, file_passes, filed_back, file_bytes, file_length, file_again, filed_has, never_passes}
use Rattle.claim_captures.specs.Words.{Memory, at, OfUnit}
use Rattle.claim_captures.specs.Claim.{Held}
use Rattle.claim_shelf.specs.Files.{run_in, StoredBytes, Enough, Same, Files}
use Rattle.claim_shelf.proofs.Written.{lent_in, Wrote, given_length, written_filled, file_in, same_file}
use Rattle.claim_shelf.proofs.NewStore.{passes, stored_bytes, new_held}
use Rattle.claim_shelf.proofs.Taken.{WasRead, sixteen, refused_leaves, entered, store_is, new_store}

-- ---- the samples that a store holds
module _ (st : Store) (m : Memory) where
  pub run_at : (i : ℕ) → i < st.len → at (run_in st m) i ≡ sample_of st.unit m.samples i
  run_at i l = list_at (sample_of st.unit m.samples) 0 st.len i l ∙ ap (sample_of st.unit m.samples) (zero-add i)

  pub run_length : length (run_in st m) ≡ st.len
  run_length = list_length (sample_of st.unit m.samples) 0 st.len

  pub taken_at : (i : ℕ) → i < st.len → sample_of st.unit (take (st.len * st.unit) m.samples) i ≡ at (run_in st m) i
  taken_at i l = sample_take st.unit m.samples (st.len * st.unit) i (mul-le-mul_right st.unit l) ∙ sym (run_at i l)

  -- bytes make samples of the unit
  pub bytes_words : StoredBytes st m → OfUnit st.unit (at (run_in st m)) (length (run_in st m))
  bytes_words b i l =
      let k : i < st.len = omega (arith, l, run_length) in
      omega (arith, taken_at i k, sample_lt st.unit (take (st.len * st.unit) m.samples) i b)

-- ---- written, then read
module _ {st : Store} {m : Memory} {output : List ℕ} {n : ℕ} {output' : List ℕ} (w : Wrote st m output (given n) output') where
  abbrev c : Filed
  c = filed_of st m.samples

  abbrev file : List ℕ
  file = take n output'

  pub said : heading_in file ≡ heading_of st
  said = ap heading_in (file_in w) ∙ ap (λ (x : Filed). x.heading) (filed_back (written_filled w))

  pub holds : bytes_in file ≡ c.bytes
  holds = ap bytes_in (file_in w) ∙ ap (λ (x : Filed). x.bytes) (filed_back (written_filled w))

  pub test : file_test file ≡ true
  test = ap file_test (file_in w) ∙ file_passes (written_filled w)

  module _ {capacity : ℕ} {m₂ : Memory} {answer : Answer Store} {m₂' : Memory} (e : Enough capacity st m₂) (r : WasRead capacity file m₂ answer m₂') where
    no_row : read_refusal capacity (lent_in m₂) file ≡ 0
    no_row = rw (e.right, test, said, le-ltb capacity st.len e.holds, e.lent)

    answered : answer ≡ given (store_in capacity (heading_of st))
    answered = r.answer_is ∙ ap₂ (λ (k : ℕ) (h : Heading). unless k (store_in capacity h)) no_row said

    sampled : (i : ℕ) → i < (heading_in file).len → sample_of (heading_in file).unit (bytes_in file) i ≡ at (run_in st m) i
    sampled i l =
        ap₂ (λ (h : Heading) (b : List ℕ). sample_of h.unit b i) said holds ∙ taken_at st m i (subst (λ (h : Heading). i < h.len) said l)

    pub read_same : OfUnit st.unit (at (run_in st m)) (length (run_in st m)) → Same capacity st m answer m₂'
    read_same words = record {
      answer_is = answered;
      held = λ d d-is.
          subst (λ (h : Heading). Held (run_in st m) h.mark d m₂') said
          (new_held (new_store (subst (λ (a : Answer Store). WasRead capacity file m₂ a m₂') answered r)) (run_in st m) (run_length st m ∙ sym (ap (λ (h : Heading). h.len) said)) sampled (subst⁻¹ (λ (h : Heading). OfUnit h.unit (at (run_in st m)) (length (run_in st m))) said words) d (d-is ∙ ap (store_in capacity) (sym said)));
    }

-- ---- read, then written
module _ {capacity : ℕ} {file : List ℕ} {m : Memory} {st : Store} {m' : Memory} (b : Bytes file) (r : WasRead capacity file m (given st) m') where
  abbrev h : Heading
  h = heading_in file

  filed_is : filed_of st m'.samples ≡ filed_in file
  filed_is = ap (λ (x : Store). filed_of x m'.samples) (store_is r) ∙ (λ i. record { heading = h; bytes = stored_bytes (new_store r) i })

  file_is : file_of (filed_of st m'.samples) ≡ file
  file_is = ap file_of filed_is ∙ file_again file b (entered r).passed

  len_is : file_len (heading_of st) ≡ length file
  len_is = ap (λ (x : Store). file_len (heading_of x)) (store_is r) ∙ sym (passed file (entered r).passed).1

  module _ {output : List ℕ} {answer : Answer ℕ} {output' : List ℕ} (room : length file ≤ length output) (w : Wrote st m' output answer output') where
    unrefused_is : write_refusal st (lent_in m') (length output) ≡ 0
    unrefused_is =
        ap (λ (x : Store). write_refusal x (lent_in m') (length output)) (store_is r)
        ∙ rows_rest (store_in capacity h) (lent_in m') (passes (new_store r)).0 (passes (new_store r)).1 (output_row (store_in capacity h) (length output) ∷ [])
        ∙ ap (λ (t : Bool). cond t 15 0) (le-ltb (length output) (file_len h) (omega (arith, room, (passed file (entered r).passed).1)))

    pub written_again : (answer ≡ given (length file)) × (output' ≡ file ++ drop (length file) output)
    written_again = (
      w.answer_is ∙ ap₂ (λ (k n : ℕ). unless k n) unrefused_is len_is,
      w.output_is
          ∙ ap₂ (λ (k : ℕ) (f : List ℕ). written_to k f output) (ap₂ (λ (k n : ℕ). unrefused k n) unrefused_is len_is) file_is
          ∙ ap (λ (l : List ℕ). l ++ drop (length file) output) (take_all (length file) file (omega arith)),
    )

-- ---- one changed byte
pub bytes_set : (l : List ℕ) (i x : ℕ) → Bytes l → i < length l → x < 256 → Bytes (set l i x)
bytes_set l i x b h s k = go (ℕ_discrete k i)
  where
    go : Dec (k ≡ i) → get_or (set l i x) k 0 < 256
    go (yes e) = subst⁻¹ (λ (v : ℕ). v < 256) (ap (λ (j : ℕ). get_or (set l i x) j 0) e ∙ get_or-set_same l i x 0 h) s
    go (no e) = subst⁻¹ (λ (v : ℕ). v < 256) (get_or-set_other l i k x 0 e) (b k)

module _ {st : Store} {m : Memory} {output : List ℕ} {n : ℕ} {output' : List ℕ} (b : StoredBytes st m) (w : Wrote st m output (given n) output')
    (place byte : ℕ) (inside : place < n) (small : byte < 256) (other : byte ≡ get_or output' place 0 → ⊥) where
  abbrev written : List ℕ
  written = file_of (filed_of st m.samples)

  written_length : length written ≡ n
  written_length = file_length (written_filled w) ∙ given_length w

  differs : byte ≡ get_or written place 0 → ⊥
  differs e = other (e ∙ ap (λ (l : List ℕ). get_or l place 0) (sym (file_in w)) ∙ get_or-take n output' place 0 inside)

  none_has : HasFile (set written place byte) → ⊥
  none_has = never_passes written (filed_has (filed_of st m.samples) (record { filled = written_filled w; bytes = b })) place byte (omega (arith, inside, written_length)) small differs

  pub changed_answer : {capacity : ℕ} {m₂ : Memory} {answer : Answer Store} {m₂' : Memory} → capacity_wrong capacity ≡ false → WasRead capacity (set (take n output') place byte) m₂ answer m₂'
      → (answer ≡ refused 16) × (m₂' ≡ m₂)
  changed_answer {capacity} {m₂} {answer} {m₂'} right r = (is_sixteen, refused_leaves (subst (λ (a : Answer Store). WasRead capacity (set (take n output') place byte) m₂ a m₂') is_sixteen r))
    where
      same : set (take n output') place byte ≡ set written place byte
      same = ap (λ (l : List ℕ). set l place byte) (file_in w)

      are_bytes : Bytes (set (take n output') place byte)
      are_bytes = subst⁻¹ Bytes same (bytes_set written place byte (file_bytes (written_filled w) b) (omega (arith, inside, written_length)) small)

      is_sixteen : answer ≡ refused 16
      is_sixteen = (sixteen are_bytes right r).1 (λ has. none_has (subst HasFile same has))

-- ---- all of it
module _ {Write : Store → Memory → List ℕ → Answer ℕ → List ℕ → Type 0} {Read : ℕ → List ℕ → Memory → Answer Store → Memory → Type 0}
    (wrote : (st : Store) (m : Memory) (output : List ℕ) (answer : Answer ℕ) (output' : List ℕ) → Write st m output answer output' → Wrote st m output answer output')
    (was_read : (capacity : ℕ) (file : List ℕ) (m : Memory) (answer : Answer Store) (m' : Memory) → Read capacity file m answer m' → WasRead capacity file m answer m')
    (may_write : (st : Store) (m : Memory) (output : List ℕ) → (answer : Answer ℕ) × (output' : List ℕ) × Write st m output answer output')
    (may_read : (capacity : ℕ) (file : List ℕ) (m : Memory) → (answer : Answer Store) × (m' : Memory) × Read capacity file m answer m') where
  pub files : Files Write Read
  files = record {
    refuses_others = λ capacity file m a m' b right r. sixteen b right (was_read capacity file m a m' r);
    one_file = λ st₁ m₁ o₁ n₁ o₁' st₂ m₂ o₂ n₂ o₂' one two. same_file (wrote st₁ m₁ o₁ (given n₁) o₁' one) (wrote st₂ m₂ o₂ (given n₂) o₂' two);
    reads_back = λ st m o n o' b w capacity m₂ a m₂' e r.
        let x = wrote st m o (given n) o' w in
        read_same x e (was_read capacity (take n o') m₂ a m₂' r) (bytes_words st m b);
    writes_back = λ capacity file m st m' b r o a o' room w. written_again b (was_read capacity file m (given st) m' r) room (wrote st m' o a o' w);
    changed_refused = λ st m o n o' b w place byte inside small other capacity m₂ a m₂' right r.
        changed_answer b (wrote st m o (given n) o' w) place byte inside small other right (was_read capacity (set (take n o') place byte) m₂ a m₂' r);
    may_write = may_write;
    may_read = may_read;
  }
