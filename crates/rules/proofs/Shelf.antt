-- Files and captures: which files some capture has, that writing and reading undo each other, and that one changed byte never passes. 02: CR 7.
use mathlib.Core.Path.{◌≡◌, sym, ap, ap₂, ◌∙◌, subst, subst⁻¹}
use mathlib.Core.Bool.{true, false, ◌&&◌}
use mathlib.Core.List.{List, ◌++◌}
use mathlib.Core.Logic.{◌↔◌}
use Prim.Native.Nat.{ℕ, zero, suc, ◌+◌, ◌*◌, ◌/◌, ◌%◌, ◌≤◌, ◌<◌, max}
use native.Mathlib.Nat.{div-add-mod', mod-lt, mul-le-mul_right, le_trans}
use native.Mathlib.Omega.{arith}
use lib.Dec.{eqb}
use lib.ListN.{length, get_or, set, take, drop, length-append, length-drop, length-replicate, length-set, take-append-drop}
use lib.Seq.{take_at, drop_at, length-take-le, drop-drop, drop-set-add, take-set-lt, get_or-take, get_or-drop}
use borrow.Author.Tests.{eqb-true, eq-eqb, le-ltb, ne_eqb}
use Rattle.rules.specs.SampleBytes.{Bytes}
use Rattle.rules.specs.Refusal.{Store, most_samples, store_wrong, samples_need}
use Rattle.rules.specs.Block.{block_size, zeros, block_of}
use Rattle.rules.specs.Shelf.{Heading, Filed, heading_of, filed_of, head_bytes, blocks_for, blocks_of, file_of, bytes_for, file_len, HasFile, Begins, heading_in, payloads, bytes_in, filed_in, head_test, good_blocks, file_test}
use Rattle.rules.specs.ShelfCalls.{store_in}
use Rattle.rules.proofs.SampleBytes.{bytes_append, take_are, drop_are}
use Rattle.rules.proofs.Refusal.{neither, unit_right, ranged, mark_right}
use Rattle.rules.proofs.Block.{both, Sealed, made_sealed, block_length}
use Rattle.rules.proofs.Changed.{changed_fails}
use Rattle.rules.proofs.ShelfBlocks.{blocks_hold, blocks_length, blocks_good, blocks_back, blocks_again, blocks_sealed, payloads_length, payloads_bytes, block_bytes, blocks_bytes, zeros_bytes}
use Rattle.rules.proofs.ShelfHead.{Headed, head_length, head_bytes_lem, heading_back, head_made, Says, head_says}

-- ---- captures, as far as they are filed
-- its numbers are in range, and there are as many bytes as they say
pub record Filled (c : Filed) : Type 0 where
  pub heading : Headed c.heading
  pub fills : length c.bytes ≡ bytes_for c.heading

pub record Fileable (c : Filed) : Type 0 where
  pub filled : Filled c
  pub bytes : Bytes c.bytes

-- ---- the file of a capture
-- its length, whatever its bytes are
sized_length : (c : Filed) → length c.bytes ≡ bytes_for c.heading → length (file_of c) ≡ file_len c.heading
unfolding file_of
sized_length c fills =
    length-append (block_of 0 (head_bytes c.heading)) (blocks_of (blocks_for (length c.bytes)) 1 c.bytes)
    ∙ omega (
      arith,
      block_length 0 (head_bytes c.heading) (omega (arith, head_length c.heading)),
      blocks_length (blocks_for (length c.bytes)) 1 c.bytes,
      ap (λ (n : ℕ). block_size * blocks_for n) fills,
    )

module _ {c : Filed} (r : Filled c) where
  abbrev head : List ℕ
  head = block_of 0 (head_bytes c.heading)

  abbrev k : ℕ
  k = blocks_for (length c.bytes)

  head_size_lem : length head ≡ block_size
  head_size_lem = block_length 0 (head_bytes c.heading) (omega (arith, head_length c.heading))

  pub file_length : length (file_of c) ≡ file_len c.heading
  file_length = sized_length c r.fills

  says : heading_in (file_of c) ≡ c.heading
  unfolding file_of
  says = heading_back c.heading (blocks_of k 1 c.bytes) r.heading

  past_head : drop block_size (file_of c) ≡ blocks_of k 1 c.bytes
  unfolding file_of
  past_head = drop_at head (blocks_of k 1 c.bytes) block_size head_size_lem

  sizes : bytes_for (heading_in (file_of c)) ≡ length c.bytes
  sizes = ap bytes_for says ∙ sym r.fills

  head_passes : head_test (file_of c) ≡ true
  unfolding file_of
  head_passes = head_made c.heading (blocks_of k 1 c.bytes) r.heading

  -- it passes
  pub file_passes : file_test (file_of c) ≡ true
  unfolding file_test
  file_passes =
      (both _ _).1 (
        head_passes,
        (both _ _).1 (
          eq-eqb _ _ (file_length ∙ ap file_len (sym says)),
          ap₂ (λ (n : ℕ) (l : List ℕ). good_blocks (blocks_for n) 1 n l) sizes past_head ∙ blocks_good k 1 c.bytes,
        ),
      )

  -- and what it holds is the capture: "Writing and reading undo each other"
  pub filed_back : filed_in (file_of c) ≡ c
  unfolding bytes_in
  filed_back = λ i. record { heading = says i; bytes = holds i }
    where
      holds : bytes_in (file_of c) ≡ c.bytes
      holds = ap₂ (λ (n : ℕ) (l : List ℕ). take n (payloads (blocks_for n) l)) sizes past_head ∙ blocks_back k 1 c.bytes (blocks_hold (length c.bytes))

  pub file_bytes : Bytes c.bytes → Bytes (file_of c)
  unfolding file_of
  file_bytes b = bytes_append head (blocks_of k 1 c.bytes) (block_bytes 0 (head_bytes c.heading) (head_bytes_lem c.heading r.heading)) (blocks_bytes k 1 c.bytes b)

  file_head : take block_size (file_of c) ≡ head
  unfolding file_of
  file_head = take_at head (blocks_of k 1 c.bytes) block_size head_size_lem

  -- each of its blocks has its check right
  file_sealed : (i : ℕ) → block_size * i < length (file_of c) → Sealed (take block_size (drop (block_size * i) (file_of c)))
  unfolding file_of
  file_sealed zero h = subst⁻¹ Sealed (take_at head (blocks_of k 1 c.bytes) block_size head_size_lem) (made_sealed 0 (head_bytes c.heading) (omega (arith, head_length c.heading)))
  file_sealed (suc i) h = subst⁻¹ (λ (l : List ℕ). Sealed (take block_size l)) past (blocks_sealed k 1 c.bytes i (omega (arith, h, size)))
    where
      size : length (head ++ blocks_of k 1 c.bytes) ≡ block_size + block_size * k
      size = length-append head (blocks_of k 1 c.bytes) ∙ ap₂ ◌+◌ head_size_lem (blocks_length k 1 c.bytes)

      next : block_size * suc i ≡ block_size + block_size * i
      next = omega arith

      past : drop (block_size * suc i) (head ++ blocks_of k 1 c.bytes) ≡ drop (block_size * i) (blocks_of k 1 c.bytes)
      past =
          ap (λ (j : ℕ). drop j (head ++ blocks_of k 1 c.bytes)) next
          ∙ sym (drop-drop (block_size * i) block_size (head ++ blocks_of k 1 c.bytes))
          ∙ ap (drop (block_size * i)) (drop_at head (blocks_of k 1 c.bytes) block_size head_size_lem)

-- "each capture has one file", and each file one capture
pub one_capture : {c d : Filed} → Filled c → Filled d → file_of c ≡ file_of d → c ≡ d
one_capture r s e = sym (filed_back r) ∙ ap filed_in e ∙ filed_back s

-- ---- a file that passes
-- its bytes, by its length alone
pub bytes_in_length : (f : List ℕ) → length f ≡ file_len (heading_in f) → length (bytes_in f) ≡ bytes_for (heading_in f)
unfolding bytes_in
bytes_in_length f e =
    length-take-le (bytes_for (heading_in f)) (payloads (blocks_for (bytes_for (heading_in f))) (drop block_size f))
    (omega (arith, payloads_length (blocks_for (bytes_for (heading_in f))) (drop block_size f) (simp length-drop (omega (arith, e))), blocks_hold (bytes_for (heading_in f))))

pub passed : (f : List ℕ) → file_test f ≡ true → (head_test f ≡ true) × (length f ≡ file_len (heading_in f)) × (good_blocks (blocks_for (bytes_for (heading_in f))) 1 (bytes_for (heading_in f)) (drop block_size f) ≡ true)
unfolding file_test
passed f e =
    let n = bytes_for (heading_in f) in
    let t = (both (head_test f) (eqb (length f) (file_len (heading_in f)) && good_blocks (blocks_for n) 1 n (drop block_size f))).0 e in
    let u = (both (eqb (length f) (file_len (heading_in f))) (good_blocks (blocks_for n) 1 n (drop block_size f))).0 t.1 in
    (t.0, eqb-true (length f) (file_len (heading_in f)) u.0, u.1)

module _ (f : List ℕ) (b : Bytes f) (e : file_test f ≡ true) where
  abbrev n : ℕ
  n = bytes_for (heading_in f)

  told : (head_test f ≡ true) × (length f ≡ file_len (heading_in f)) × (good_blocks (blocks_for n) 1 n (drop block_size f) ≡ true)
  told = passed f e

  said : Says f
  said = head_says f b told.0

  rest_size : length (drop block_size f) ≡ block_size * blocks_for n
  rest_size = simp length-drop (omega (arith, told.1))

  -- it holds a capture,
  pub holds_capture : Fileable (filed_in f)
  unfolding bytes_in
  holds_capture = record {
    filled = record { heading = said.heading; fills = bytes_in_length f told.1 };
    bytes = take_are n (payloads (blocks_for n) (drop block_size f)) (payloads_bytes (blocks_for n) (drop block_size f) (drop_are block_size f b));
  }

  -- whose file it is
  pub file_again : file_of (filed_in f) ≡ f
  unfolding file_of bytes_in
  file_again =
      ap₂ (λ (x y : List ℕ). x ++ y) (sym said.block)
      (ap (λ (m : ℕ). blocks_of (blocks_for m) 1 (take n (payloads (blocks_for n) (drop block_size f)))) (bytes_in_length f told.1)
      ∙ sym (blocks_again (blocks_for n) 1 n (drop block_size f) rest_size told.2))
      ∙ take-append-drop block_size f

-- ---- stores, and what is filed of them
module _ (st : Store) where
  pub store_headed : store_wrong st ≡ false → Headed (heading_of st)
  store_headed e =
      let r = ranged st e in
      record { unit_size = r.unit_size; len_most = omega (arith, r.len_most, r.capacity_most); mark_inside = (mark_right st.mark st.len).1 r.mark_inside }

  -- the file of a store, whatever its bytes are
  pub store_file_length : (samples : List ℕ) → store_wrong st ≡ false → st.len * st.unit ≤ length samples → length (file_of (filed_of st samples)) ≡ file_len (heading_of st)
  store_file_length samples e h = sized_length (filed_of st samples) (length-take-le (st.len * st.unit) samples h)

  pub store_filled : (samples : List ℕ) → store_wrong st ≡ false → st.len * st.unit ≤ length samples → Filled (filed_of st samples)
  store_filled samples e h = record { heading = store_headed e; fills = length-take-le (st.len * st.unit) samples h }

-- the new store passes row 1
pub headed_store : (capacity : ℕ) (h : Heading) → Headed h → 1 ≤ capacity → capacity ≤ most_samples → h.len ≤ capacity → store_wrong (store_in capacity h) ≡ false
headed_store capacity h r least most room =
    (neither _ _).1 (
      (neither _ _).1 (
        (neither _ _).1 (
          (neither _ _).1 (
            (unit_right h.unit).1 r.unit_size,
            ne_eqb capacity 0 (λ e. omega (arith, e, least)),
          ),
          le-ltb most_samples capacity most,
        ),
        le-ltb capacity h.len room,
      ),
      r.mark_inside,
    )

-- what is filed, as a store and sample memory: some capture has its file
pub filed_has : (c : Filed) → Fileable c → HasFile (file_of c)
filed_has c q = record {
  store = store_in capacity h;
  samples = c.bytes ++ zeros h.unit;
  ranged = headed_store capacity h q.filled.heading (omega arith) (omega (arith, q.filled.heading.len_most)) (omega arith);
  lent = enough;
  bytes = bytes_append c.bytes (zeros h.unit) q.bytes (zeros_bytes h.unit);
  file_is = ap file_of (λ i. record { heading = h; bytes = take_at c.bytes (zeros h.unit) (h.len * h.unit) q.filled.fills i });
}
  where
    h : Heading
    h = c.heading

    -- a store of no samples has room for one all the same
    capacity : ℕ
    capacity = max 1 c.heading.len

    enough : samples_need (store_in capacity h) ≤ length (c.bytes ++ zeros h.unit)
    enough =
        le_trans (mul-le-mul_right {n = h.len + 1} h.unit (omega arith))
        (omega (arith, length-append c.bytes (zeros h.unit), q.filled.fills, length-replicate h.unit zero))

-- a capture that has a file, as far as it is filed
pub capture_fileable : {f : List ℕ} (h : HasFile f) → Fileable (filed_of h.store h.samples)
capture_fileable h = record {
  filled = store_filled h.store h.samples h.ranged (le_trans (mul-le-mul_right h.store.unit (ranged h.store h.ranged).len_most) h.lent);
  bytes = take_are (h.store.len * h.store.unit) h.samples h.bytes;
}

-- Statement 1: the test passes a file exactly when some capture has it.
pub has_file : (f : List ℕ) → Bytes f → (file_test f ≡ true) ↔ HasFile f
has_file f b = (λ e. subst HasFile (file_again f b e) (filed_has (filed_in f) (holds_capture f b e)), λ h. subst (λ (l : List ℕ). file_test l ≡ true) h.file_is (file_passes (capture_fileable h).filled))

-- and the test of block 0 passes exactly the 512 bytes that some capture's file begins with
pub begins : (f : List ℕ) → Bytes f → (head_test f ≡ true) ↔ Begins f
begins f b = (there, back)
  where
    there : head_test f ≡ true → Begins f
    there e = record { file = file_of c; has = filed_has c r; room = s.room; same = first ∙ sym s.block }
      where
        s : Says f
        s = head_says f b e

        c : Filed
        c = record { heading = heading_in f; bytes = zeros (bytes_for (heading_in f)) }

        r : Fileable c
        r = record { filled = record { heading = s.heading; fills = length-replicate (bytes_for (heading_in f)) zero }; bytes = zeros_bytes (bytes_for (heading_in f)) }

        first : take block_size (file_of c) ≡ block_of 0 (head_bytes (heading_in f))
        first = file_head r.filled

    back : Begins f → head_test f ≡ true
    back s =
        subst (λ (l : List ℕ). head_test l ≡ true) (ap (λ (l : List ℕ). l ++ drop block_size f) front ∙ take-append-drop block_size f)
        (head_made (heading_of s.has.store) (drop block_size f) (store_headed s.has.store s.has.ranged))
      where
        front : block_of 0 (head_bytes (heading_of s.has.store)) ≡ take block_size f
        front = sym (file_head (capture_fileable s.has).filled) ∙ ap (take block_size) s.has.file_is ∙ s.same

-- ---- one changed byte
has_sealed : {f : List ℕ} (h : HasFile f) (i : ℕ) → block_size * i < length f → Sealed (take block_size (drop (block_size * i) f))
has_sealed h i l = subst (λ (x : List ℕ). Sealed (take block_size (drop (block_size * i) x))) h.file_is (file_sealed (capture_fileable h).filled i (rw h.file_is l))

-- Statement 4: "one changed byte in a file never passes": no capture has the changed file.
pub never_passes : (f : List ℕ) → HasFile f → (p x : ℕ) → p < length f → x < 256 → (x ≡ get_or f p 0 → ⊥) → HasFile (set f p x) → ⊥
never_passes f h p x inside small other still =
    changed_fails b q x b_size (mod-lt p (omega arith)) (subst⁻¹ (λ (v : ℕ). v < 256) b_at (f_bytes p)) small (λ e. other (e ∙ b_at))
    (has_sealed h i low)
    (subst Sealed changed (has_sealed still i (rw (length-set f p x) low)))
  where
    i : ℕ
    i = p / block_size

    q : ℕ
    q = p % block_size

    b : List ℕ
    b = take block_size (drop (block_size * i) f)

    place : p ≡ block_size * i + q
    place = omega (arith, div-add-mod' p block_size)

    low : block_size * i < length f
    low = omega (arith, inside, place)

    f_bytes : Bytes f
    f_bytes = subst Bytes h.file_is (file_bytes (capture_fileable h).filled (capture_fileable h).bytes)

    f_length : length f ≡ file_len (heading_of h.store)
    f_length = ap length (sym h.file_is) ∙ file_length (capture_fileable h).filled

    changed : take block_size (drop (block_size * i) (set f p x)) ≡ set b q x
    changed =
        ap (λ (j : ℕ). take block_size (drop (block_size * i) (set f j x))) place
        ∙ ap (take block_size) (drop-set-add (block_size * i) f q x)
        ∙ take-set-lt block_size (drop (block_size * i) f) q x (mod-lt p (omega arith))

    b_at : get_or b q 0 ≡ get_or f p 0
    b_at = get_or-take block_size (drop (block_size * i) f) q 0 (mod-lt p (omega arith)) ∙ get_or-drop (block_size * i) f q 0 ∙ ap (λ (j : ℕ). get_or f j 0) (sym place)

    b_size : length b ≡ block_size
    b_size = length-take-le block_size (drop (block_size * i) f) (simp length-drop (omega (arith, low, f_length)))
