-- Salvaging: a place is known by its own block alone, files that agree in blocks agree in their samples, and what is read is salvaged whole. 02: CR 8.
use mathlib.Core.Path.{◌≡◌, refl, sym, ap, ap₂, ◌∙◌, subst, subst⁻¹}
use mathlib.Core.Bool.{Bool, true, false, cond, not, ◌&&◌}
use mathlib.Core.List.{List, [], ◌∷◌, ◌++◌}
use mathlib.Core.Logic.{◌⊎◌, inl, inr}
use Rattle.std.specs.Prelude.{None, Some}
use Prim.Native.Nat.{ℕ, zero, suc, ◌+◌, ◌-◌, ◌*◌, ◌/◌, ◌%◌, ◌≤◌, ◌<◌}
use native.Mathlib.Nat.{div-add-mod', mod-lt, add-zero, mul-le-mul_right}
use native.Mathlib.Decide.{dec_lt}
use native.Mathlib.Omega.{arith}
use lib.Dec.{leb, eqb}
use lib.ListN.{length, get_or, take, drop, length-take, length-drop, get_or-append, get_or-eq_default}
use lib.Seq.{length-take-le, take-take, take_all, get_or-take, get_or-drop, get_or-append-add, ext_get_or}
use borrow.Author.Tests.{eqb-true, ne_eqb, le-leb}
use Rattle.rules.specs.Sample.{UnitSize, little, sample_of, list_from}
use Rattle.rules.specs.SampleBytes.{Bytes}
use Rattle.rules.specs.Block.{block_size, payload_at, payload_most, zeros, same_bytes, field, good_block}
use Rattle.rules.specs.Shelf.{Heading, head_size, blocks_for, bytes_for, heading_in, payloads, bytes_in, heading_wrong, mark_bytes_right, head_test}
use Rattle.rules.specs.Stretches.{Stretch, joined, stretches_in, covers, apart, places_of}
use Rattle.rules.specs.Salvage.{AgreeOutside, block_in, due_count, good_in, good_at, block_of_byte, block_of_sample, is_known, salvaged_byte, salvaged_bytes, stretches_of, replaced_in, list_need}
use Rattle.rules.proofs.Sample.{unit_cases, list_length, list_at, little_same}
use Rattle.rules.proofs.SampleBytes.{take_are, drop_are}
use Rattle.rules.proofs.Block.{both}
use Rattle.rules.proofs.ShelfBlocks.{payloads_bytes, blocks_hold}
use Rattle.rules.proofs.Stretches.{among_yes, among_behind, in_stretch, stretches_apart, stretches_places, all_unknown}

-- ---- "wholly within": a sample's bytes are in one block, as 500 is even
two_bytes : (i j : ℕ) → j < 2 → (i * 2 + j) / payload_most ≡ i * 2 / payload_most
two_bytes i j h =
    omega (arith, h, div-add-mod' (i * 2 + j) payload_most, mod-lt (i * 2 + j) {m = payload_most} (omega arith), div-add-mod' (i * 2) payload_most, mod-lt (i * 2) {m = payload_most} (omega arith))

pub in_one : {u : ℕ} → UnitSize u → (i j : ℕ) → j < u → block_of_byte (i * u + j) ≡ block_of_byte (i * u)
in_one {u} r i j = go (unit_cases r)
  where
    go : (u ≡ 1) ⊎ (u ≡ 2) → j < u → block_of_byte (i * u + j) ≡ block_of_byte (i * u)
    go (inl e) h = ap block_of_byte None
      where
        None : i * u + j ≡ i * u
        None = omega (arith, e, h)
    go (inr e) h =
        ap (λ (v : ℕ). block_of_byte (i * v + j)) e
        ∙ ap (λ (q : ℕ). q + 1) (two_bytes i j (subst (λ (v : ℕ). j < v) e h))
        ∙ ap (λ (v : ℕ). block_of_byte (i * v)) (sym e)

-- ---- a byte of the samples, in its block
pub payload_at_lem : (k : ℕ) (blocks : List ℕ) (j : ℕ) → j < payload_most * k → block_size * (j / payload_most) + block_size ≤ length blocks
    → get_or (payloads k blocks) j 0 ≡ get_or blocks (block_size * (j / payload_most) + (payload_at + j % payload_most)) 0
unfolding payloads
payload_at_lem zero blocks j h r = absurd (omega arith)
payload_at_lem (suc k) blocks j h r = go (dec_lt j payload_most) (payload_at_lem k (drop block_size blocks) (j - payload_most))
  where
    first : List ℕ
    first = take payload_most (drop payload_at blocks)

    rest : List ℕ
    rest = payloads k (drop block_size blocks)

    full : length first ≡ payload_most
    full = length-take-le payload_most (drop payload_at blocks) (simp length-drop (omega (arith, r)))

    go : Dec (j < payload_most)
        → (j - payload_most < payload_most * k → block_size * ((j - payload_most) / payload_most) + block_size ≤ length (drop block_size blocks)
        → get_or rest (j - payload_most) 0 ≡ get_or (drop block_size blocks) (block_size * ((j - payload_most) / payload_most) + (payload_at + (j - payload_most) % payload_most)) 0)
        → get_or (first ++ rest) j 0 ≡ get_or blocks (block_size * (j / payload_most) + (payload_at + j % payload_most)) 0
    go (yes l) ih =
        get_or-append first rest 0 j (omega (arith, full, l))
        ∙ get_or-take payload_most (drop payload_at blocks) j 0 l
        ∙ get_or-drop payload_at blocks j 0
        ∙ ap (λ (i : ℕ). get_or blocks i 0) at
      where
        at : payload_at + j ≡ block_size * (j / payload_most) + (payload_at + j % payload_most)
        at = omega (arith, l, div-add-mod' j payload_most, mod-lt j {m = payload_most} (omega arith))
    go (no l) ih =
        ap (λ (i : ℕ). get_or (first ++ rest) i 0) behind
        ∙ get_or-append-add first rest (j - payload_most) 0
        ∙ ih (omega (arith, h, l)) (simp length-drop (omega (arith, r, next)))
        ∙ get_or-drop block_size blocks (block_size * ((j - payload_most) / payload_most) + (payload_at + (j - payload_most) % payload_most)) 0
        ∙ ap (λ (i : ℕ). get_or blocks i 0) at
      where
        behind : j ≡ length first + (j - payload_most)
        behind = omega (arith, l, full)

        next : (j / payload_most ≡ (j - payload_most) / payload_most + 1) × (j % payload_most ≡ (j - payload_most) % payload_most)
        next = (
          omega (arith, l, div-add-mod' j payload_most, mod-lt j {m = payload_most} (omega arith), div-add-mod' (j - payload_most) payload_most, mod-lt (j - payload_most) {m = payload_most} (omega arith)),
          omega (arith, l, div-add-mod' j payload_most, mod-lt j {m = payload_most} (omega arith), div-add-mod' (j - payload_most) payload_most, mod-lt (j - payload_most) {m = payload_most} (omega arith)),
        )

        at : block_size + (block_size * ((j - payload_most) / payload_most) + (payload_at + (j - payload_most) % payload_most)) ≡ block_size * (j / payload_most) + (payload_at + j % payload_most)
        at = omega (arith, next.0, next.1)

-- a block that is wholly there
pub there_room : (k : ℕ) (file : List ℕ) → length (block_in k file) ≡ block_size → block_size * k + block_size ≤ length file
there_room k file e = omega (arith, sym (length-take block_size (drop (block_size * k) file)) ∙ e, length-drop (block_size * k) file)

pub good_there : (n k : ℕ) (block : List ℕ) → good_in n k block ≡ true → (length block ≡ block_size) × (good_block k (due_count n k) block ≡ true)
unfolding good_in
good_there n k block e = let t = (both (eqb (length block) block_size) (good_block k (due_count n k) block)).0 e in (eqb-true (length block) block_size t.0, t.1)

-- byte j of the samples, where its block is wholly there
pub byte_there : (file : List ℕ) (j : ℕ) → j < bytes_for (heading_in file) → block_size * block_of_byte j + block_size ≤ length file
    → get_or (bytes_in file) j 0 ≡ get_or file (block_size * block_of_byte j + (payload_at + j % payload_most)) 0
unfolding bytes_in
byte_there file j h room =
    get_or-take n (payloads (blocks_for n) (drop block_size file)) j 0 h
    ∙ payload_at_lem (blocks_for n) (drop block_size file) j (omega (arith, h, blocks_hold n)) (simp length-drop (omega (arith, room)))
    ∙ get_or-drop block_size file (block_size * (j / payload_most) + (payload_at + j % payload_most)) 0
    ∙ ap (λ (i : ℕ). get_or file i 0) at
  where
    n : ℕ
    n = bytes_for (heading_in file)

    at : block_size + (block_size * (j / payload_most) + (payload_at + j % payload_most)) ≡ block_size * (j / payload_most + 1) + (payload_at + j % payload_most)
    at = omega arith

-- and by its block alone
abbrev byte_of : ℕ → ℕ → List ℕ → ℕ
byte_of n j block = cond (good_in n (block_of_byte j) block) (get_or block (payload_at + j % payload_most) 0) 0

byte_by_block : (file : List ℕ) (j : ℕ) → j < bytes_for (heading_in file) → salvaged_byte file j ≡ byte_of (bytes_for (heading_in file)) j (block_in (block_of_byte j) file)
byte_by_block file j h = go (good_at file k) refl
  where
    k : ℕ
    k = block_of_byte j

    go : (g : Bool) → good_at file k ≡ g → cond g (get_or (bytes_in file) j 0) 0 ≡ cond g (get_or (block_in k file) (payload_at + j % payload_most) 0) 0
    go true e =
        byte_there file j h (there_room k file (good_there (bytes_for (heading_in file)) k (block_in k file) e).0)
        ∙ sym (get_or-drop (block_size * k) file (payload_at + j % payload_most) 0)
        ∙ sym (get_or-take block_size (drop (block_size * k) file) (payload_at + j % payload_most) 0 (omega (arith, mod-lt j {m = payload_most} (omega arith))))
    go false e = refl

-- ---- the samples
little_zeros : (u : ℕ) (l : List ℕ) (k : ℕ) → ((j : ℕ) → j < u → get_or l (k + j) 0 ≡ 0) → little u l k ≡ 0
little_zeros zero l k h = refl
little_zeros (suc u) l k h = omega (
  arith,
  ap (λ (i : ℕ). get_or l i 0) (sym (add-zero k)) ∙ h 0 (omega arith),
  little_zeros u l (k + 1) (λ j b. ap (λ (i : ℕ). get_or l i 0) (next j) ∙ h (suc j) (omega arith)),
)
  where
    next : (j : ℕ) → k + 1 + j ≡ k + suc j
    next j = omega arith

module _ (file : List ℕ) (r : UnitSize (heading_in file).unit) where
  abbrev h : Heading
  h = heading_in file

  abbrev u : ℕ
  u = h.unit

  pub inside : (i j : ℕ) → i < h.len → j < u → i * u + j < h.len * u
  inside i j l b = omega (arith, b, mul-le-mul_right u l)

  pub salvaged_length : length (salvaged_bytes file) ≡ bytes_for h
  unfolding salvaged_bytes
  salvaged_length = list_length (salvaged_byte file) 0 (bytes_for h)

  byte_at : (i j : ℕ) → i < h.len → j < u → get_or (salvaged_bytes file) (i * u + j) 0 ≡ cond (is_known file i) (get_or (bytes_in file) (i * u + j) 0) 0
  unfolding salvaged_bytes
  byte_at i j l b =
      list_at (salvaged_byte file) 0 (bytes_for h) (i * u + j) (inside i j l b)
      ∙ ap (salvaged_byte file) from_0
      ∙ ap (λ (k : ℕ). cond (good_at file k) (get_or (bytes_in file) (i * u + j) 0) 0) (in_one r i j b)
    where
      from_0 : 0 + (i * u + j) ≡ i * u + j
      from_0 = omega arith

  -- "Samples wholly within good blocks land at their own places. The others are stored as zero"
  pub salvaged_sample : (i : ℕ) → i < h.len → sample_of u (salvaged_bytes file) i ≡ cond (is_known file i) (sample_of u (bytes_in file) i) 0
  unfolding sample_of
  salvaged_sample i l = go (is_known file i) (λ j b. byte_at i j l b)
    where
      go : (k : Bool) → ((j : ℕ) → j < u → get_or (salvaged_bytes file) (i * u + j) 0 ≡ cond k (get_or (bytes_in file) (i * u + j) 0) 0)
          → little u (salvaged_bytes file) (i * u) ≡ cond k (little u (bytes_in file) (i * u)) 0
      go true e = little_same u (salvaged_bytes file) (bytes_in file) (i * u) (i * u) e
      go false e = little_zeros u (salvaged_bytes file) (i * u) e

-- they are bytes where the file's are
pub salvaged_are : (file : List ℕ) → Bytes file → Bytes (salvaged_bytes file)
unfolding salvaged_bytes bytes_in
salvaged_are file b k = go (dec_lt k n)
  where
    n : ℕ
    n = (heading_in file).len * (heading_in file).unit

    one : (g : Bool) (v : ℕ) → v < 256 → cond g v 0 < 256
    one true v h = h
    one false v h = omega arith

    go : Dec (k < n) → get_or (list_from (salvaged_byte file) 0 n) k 0 < 256
    go (yes l) = subst⁻¹ (λ (v : ℕ). v < 256) (list_at (salvaged_byte file) 0 n k l) (one (good_at file (block_of_byte (0 + k))) (get_or (bytes_in file) (0 + k) 0) (take_are n (payloads (blocks_for n) (drop block_size file)) (payloads_bytes (blocks_for n) (drop block_size file) (drop_are block_size file b)) (0 + k)))
    go (no l) = subst⁻¹ (λ (v : ℕ). v < 256) (get_or-eq_default (list_from (salvaged_byte file) 0 n) 0 (omega (arith, l, list_length (salvaged_byte file) 0 n))) (omega arith)

-- ---- which places the stretches have
module _ (file : List ℕ) where
  -- Statement 1: a place below len is unknown exactly when it lies in a stretch,
  pub unknown_in_lem : (i : ℕ) → i < (heading_in file).len → covers (stretches_of file) i ≡ not (is_known file i)
  unfolding stretches_of
  unknown_in_lem i l = in_stretch (is_known file) 0 (heading_in file).len i ∙ ap (λ (b : Bool). b && not (is_known file i)) (among_yes 0 (heading_in file).len i (omega arith) (omega (arith, l)))

  pub past_in : (i : ℕ) → (heading_in file).len ≤ i → covers (stretches_of file) i ≡ false
  unfolding stretches_of
  past_in i l = in_stretch (is_known file) 0 (heading_in file).len i ∙ ap (λ (b : Bool). b && not (is_known file i)) (among_behind 0 (heading_in file).len i (omega (arith, l)))

  -- and the list is rising, none touches the next, none is empty or reaches past len
  pub list_apart : apart 0 (heading_in file).len (stretches_of file) ≡ true
  unfolding stretches_of
  list_apart = subst (λ (k : ℕ). apart 0 k (stretches_of file) ≡ true) from_0 (stretches_apart (is_known file) 0 (heading_in file).len)
    where
      from_0 : 0 + (heading_in file).len ≡ (heading_in file).len
      from_0 = omega arith

  -- the samples replaced are all places of the stretches
  pub replaced_are : places_of (stretches_of file) ≡ replaced_in file
  unfolding stretches_of replaced_in
  replaced_are = stretches_places (is_known file) 0 (heading_in file).len

  -- Bad blocks side by side are one stretch, which ends with the samples and takes two numbers: with block 0 alone, all of them.
  module _ (alone : length file ≡ block_size) (some_samples : 0 < (heading_in file).len) where
    nothing_known : (i : ℕ) → is_known file i ≡ false
    unfolding good_in
    nothing_known i = ap (λ (b : Bool). b && good_block k (due_count (bytes_for (heading_in file)) k) (block_in k file)) (ne_eqb (length (block_in k file)) block_size (λ e. omega (arith, there_room k file e, alone)))
      where
        k : ℕ
        k = i * (heading_in file).unit / payload_most + 1

    pub one_stretch : stretches_of file ≡ record { first = 0; count = (heading_in file).len } ∷ []
    unfolding stretches_of stretches_in joined
    one_stretch = ap (stretches_in (is_known file) 0) (sym (add-zero (heading_in file).len)) ∙ all_unknown (is_known file) 0 0 (heading_in file).len some_samples (λ i l. nothing_known (0 + i))

    pub two_numbers : list_need file ≡ 2
    two_numbers = ap (λ (ss : List Stretch). 2 * length ss) one_stretch

-- ---- two files
-- block 0 is looked at through its 512 bytes alone
module _ (f : List ℕ) where
  front_at : (i : ℕ) → i < block_size → get_or (take block_size f) i 0 ≡ get_or f i 0
  front_at i h = get_or-take block_size f i 0 h

  front_little : (k : ℕ) → k + 8 ≤ block_size → little 8 (take block_size f) k ≡ little 8 f k
  front_little k h = little_same 8 (take block_size f) f k k (λ i l. front_at (k + i) (omega (arith, h, l)))

  pub heading_front : heading_in (take block_size f) ≡ heading_in f
  unfolding heading_in
  heading_front = λ i. record {
    unit = front_at 12 (omega arith) i;
    mark = cond (eqb (front_at 13 (omega arith) i) 0) None (Some (front_little 22 (omega arith) i));
    len = front_little 14 (omega arith) i;
  }

  front_field : (a e : ℕ) → e ≤ block_size → field a e (take block_size f) ≡ field a e f
  front_field a e h = ext_get_or 0 (field a e (take block_size f)) (field a e f) sizes at
    where
      sizes : length (field a e (take block_size f)) ≡ length (field a e f)
      sizes = simp (length-take, length-drop) (omega (arith, h))

      at : (i : ℕ) → i < length (field a e (take block_size f)) → get_or (field a e (take block_size f)) i 0 ≡ get_or (field a e f) i 0
      at i l =
          get_or-take (e - a) (drop a (take block_size f)) i 0 (inner i l)
          ∙ get_or-drop a (take block_size f) i 0
          ∙ front_at (a + i) (omega (arith, h, inner i l))
          ∙ sym (get_or-drop a f i 0)
          ∙ sym (get_or-take (e - a) (drop a f) i 0 (inner i l))
        where
          inner : (i : ℕ) → i < length (field a e (take block_size f)) → i < e - a
          inner i l = omega (arith, l, length-take (e - a) (drop a (take block_size f)))

  pub head_front : head_test (take block_size f) ≡ head_test f
  unfolding head_test
  head_front =
      ap₂ ◌&&◌ (leb_front (dec_lt (length f) block_size))
      (ap₂ ◌&&◌ (ap (good_block 0 head_size) (take-take block_size block_size f (omega arith)))
      (ap₂ ◌&&◌ marks (ap (λ (x : Heading). not (heading_wrong x)) heading_front)))
    where
      leb_front : Dec (length f < block_size) → leb block_size (length (take block_size f)) ≡ leb block_size (length f)
      leb_front (yes l) = ap (λ (x : List ℕ). leb block_size (length x)) (take_all block_size f (omega (arith, l)))
      leb_front (no l) = le-leb block_size (length (take block_size f)) (omega (arith, length-take-le block_size f (omega (arith, l)))) ∙ sym (le-leb block_size (length f) (omega (arith, l)))

      marks : mark_bytes_right (take block_size f) ≡ mark_bytes_right f
      marks = λ i. cond (eqb (front_at 13 (omega arith) i) 0) (same_bytes (front_field 22 30 (omega arith) i) (zeros 8)) (eqb (front_at 13 (omega arith) i) 1)

module _ {damaged : ℕ → Bool} {f g : List ℕ} (agree : AgreeOutside damaged f g) where
  pub heads_agree : head_test f ≡ head_test g
  heads_agree = sym (head_front f) ∙ ap head_test (agree.blocks 0 agree.head) ∙ head_front g

  pub headings_agree : heading_in f ≡ heading_in g
  headings_agree = sym (heading_front f) ∙ ap heading_in (agree.blocks 0 agree.head) ∙ heading_front g

  -- Statement 2: outside the damage both know the same,
  good_agree : (k : ℕ) → damaged k ≡ false → good_at f k ≡ good_at g k
  good_agree k e = ap₂ (λ (h : Heading) (b : List ℕ). good_in (bytes_for h) k b) headings_agree (agree.blocks k e)

  pub known_agree : (i : ℕ) → damaged (block_of_sample (heading_in f) i) ≡ false → is_known f i ≡ is_known g i
  known_agree i e = good_agree (block_of_sample (heading_in f) i) e ∙ ap (λ (h : Heading). good_at g (block_of_sample h i)) headings_agree

  bytes_agree : (j : ℕ) → j < bytes_for (heading_in f) → damaged (block_of_byte j) ≡ false → salvaged_byte f j ≡ salvaged_byte g j
  bytes_agree j l e =
      byte_by_block f j l
      ∙ ap₂ (λ (h : Heading) (b : List ℕ). byte_of (bytes_for h) j b) headings_agree (agree.blocks (block_of_byte j) e)
      ∙ sym (byte_by_block g j (subst (λ (h : Heading). j < bytes_for h) headings_agree l))

  -- and store the same
  pub samples_agree : UnitSize (heading_in f).unit → (i : ℕ) → i < (heading_in f).len → damaged (block_of_sample (heading_in f) i) ≡ false
      → sample_of (heading_in f).unit (salvaged_bytes f) i ≡ sample_of (heading_in f).unit (salvaged_bytes g) i
  unfolding sample_of salvaged_bytes
  samples_agree r i l e = little_same u (salvaged_bytes f) (salvaged_bytes g) (i * u) (i * u) same
    where
      u : ℕ
      u = (heading_in f).unit

      n : ℕ
      n = (heading_in f).len * (heading_in f).unit

      same : (j : ℕ) → j < u → get_or (salvaged_bytes f) (i * u + j) 0 ≡ get_or (salvaged_bytes g) (i * u + j) 0
      same j b =
          list_at (salvaged_byte f) 0 n (i * u + j) here
          ∙ bytes_agree (0 + (i * u + j)) (omega (arith, here)) (subst⁻¹ (λ (k : ℕ). damaged k ≡ false) (ap block_of_byte from_0 ∙ in_one r i j b) e)
          ∙ sym (list_at (salvaged_byte g) 0 n (i * u + j) here)
          ∙ ap (λ (h : Heading). get_or (list_from (salvaged_byte g) 0 (bytes_for h)) (i * u + j) 0) headings_agree
        where
          here : i * u + j < n
          here = inside f r i j l b

          from_0 : 0 + (i * u + j) ≡ i * u + j
          from_0 = omega arith
