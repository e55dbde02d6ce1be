-- Salvaging and reading: a file is read exactly when nothing of it is unknown and its length is exact; one changed byte is one block lost. 02: CR 8.
use mathlib.Core.Path.{◌≡◌, refl, sym, ap, ap₂, ◌∙◌, subst, subst⁻¹}
use mathlib.Core.Bool.{Bool, true, false, cond, not, ◌&&◌}
use mathlib.Core.List.{List, []}
use mathlib.Core.Logic.{◌↔◌, ◌⊎◌, inl, inr}
use Prim.Native.Nat.{ℕ, zero, suc, ◌+◌, ◌-◌, ◌*◌, ◌/◌, ◌%◌, ◌≤◌, ◌<◌, min}
use native.Mathlib.Nat.{div-add-mod', mod-lt, add-zero, mul-one, lt_of_mul-lt-mul_right}
use native.Mathlib.Decide.{dec_lt, ℕ_discrete}
use native.Mathlib.Omega.{arith}
use lib.Dec.{leb, eqb}
use lib.ListN.{length, get_or, set, take, drop, length-drop}
use lib.Seq.{length-take-le, drop-drop, get_or-take, get_or-drop, drop-set-lt, drop-set-add, take-set-le, take-set-lt}
use borrow.Author.Tests.{eqb-true, eqb-false, eq-eqb, ne_eqb}
use Rattle.rules.specs.Sample.{UnitSize}
use Rattle.rules.specs.SampleBytes.{sample_bytes, Bytes}
use Rattle.rules.specs.Block.{block_size, payload_at, payload_most, check_of, zeros, same_bytes, field, good_block}
use Rattle.rules.specs.Shelf.{Heading, head_size, blocks_for, bytes_for, file_len, heading_in, bytes_in, heading_wrong, mark_bytes_right, head_test, good_blocks, file_test}
use Rattle.rules.specs.Stretches.{stretches_in}
use Rattle.rules.specs.Salvage.{AgreeOutside, block_in, due_count, good_in, good_at, block_of_byte, block_of_sample, is_known, salvaged_byte, salvaged_bytes, stretches_of}
use Rattle.rules.proofs.Sample.{unit_cases, list_same}
use Rattle.rules.proofs.SampleBytes.{list_whole}
use Rattle.rules.proofs.Block.{both, four, same_is, Sealed}
use Rattle.rules.proofs.Changed.{changed_fails}
use Rattle.rules.proofs.ShelfBlocks.{blocks_hold, block_begins}
use Rattle.rules.proofs.ShelfHead.{heading_headed}
use Rattle.rules.proofs.Shelf.{passed, bytes_in_length}
use Rattle.rules.proofs.Stretches.{none_unknown}
use Rattle.rules.proofs.Salvage.{inside, good_there, headings_agree, known_agree}

-- ---- files that some capture has
-- every block that a good file has is good, one by one
goods_each : (m number n : ℕ) (blocks : List ℕ) → (good_blocks m number n blocks ≡ true) ↔ ((i : ℕ) → i < m → good_block (number + i) (min payload_most (n - payload_most * i)) (take block_size (drop (block_size * i) blocks)) ≡ true)
unfolding good_blocks
goods_each zero number n blocks = (λ e i l. absurd (omega arith), λ h. refl)
goods_each (suc m) number n blocks = (there (goods_each m (number + 1) (n - payload_most) (drop block_size blocks)).0, back (goods_each m (number + 1) (n - payload_most) (drop block_size blocks)).1)
  where
    Good : ℕ → Type 0
    Good i = good_block (number + i) (min payload_most (n - payload_most * i)) (take block_size (drop (block_size * i) blocks)) ≡ true

    Next : ℕ → Type 0
    Next i = good_block (number + 1 + i) (min payload_most (n - payload_most - payload_most * i)) (take block_size (drop (block_size * i) (drop block_size blocks))) ≡ true

    first : good_block number (min payload_most n) (take block_size blocks) ≡ good_block (number + 0) (min payload_most (n - payload_most * 0)) (take block_size (drop (block_size * 0) blocks))
    first = ap₂ (λ (k c : ℕ). good_block k (min payload_most c) (take block_size blocks)) (sym (add-zero number)) all
      where
        all : n ≡ n - 0
        all = omega arith

    next : (i : ℕ) → good_block (number + 1 + i) (min payload_most (n - payload_most - payload_most * i)) (take block_size (drop (block_size * i) (drop block_size blocks)))
        ≡ good_block (number + suc i) (min payload_most (n - payload_most * suc i)) (take block_size (drop (block_size * suc i) blocks))
    next i = λ t. good_block (numbers t) (min payload_most (left t)) (take block_size ((drop-drop (block_size * i) block_size blocks ∙ ap (λ (k : ℕ). drop k blocks) places) t))
      where
        numbers : number + 1 + i ≡ number + suc i
        numbers = omega arith

        left : n - payload_most - payload_most * i ≡ n - payload_most * suc i
        left = omega arith

        places : block_size + block_size * i ≡ block_size * suc i
        places = omega arith

    there : (good_blocks m (number + 1) (n - payload_most) (drop block_size blocks) ≡ true → (i : ℕ) → i < m → Next i)
        → (good_block number (min payload_most n) (take block_size blocks) && good_blocks m (number + 1) (n - payload_most) (drop block_size blocks)) ≡ true → (i : ℕ) → i < suc m → Good i
    there ih e zero l = sym first ∙ ((both _ _).0 e).0
    there ih e (suc i) l = sym (next i) ∙ ih ((both (good_block number (min payload_most n) (take block_size blocks)) (good_blocks m (number + 1) (n - payload_most) (drop block_size blocks))).0 e).1 i (omega arith)

    back : (((i : ℕ) → i < m → Next i) → good_blocks m (number + 1) (n - payload_most) (drop block_size blocks) ≡ true)
        → ((i : ℕ) → i < suc m → Good i) → (good_block number (min payload_most n) (take block_size blocks) && good_blocks m (number + 1) (n - payload_most) (drop block_size blocks)) ≡ true
    back ih h = (both _ _).1 (first ∙ h 0 (omega arith), ih (λ i l. next i ∙ h (suc i) (omega arith)))

module _ (file : List ℕ) (r : UnitSize (heading_in file).unit) (size : length file ≡ file_len (heading_in file)) where
  abbrev hd : Heading
  hd = heading_in file

  abbrev n : ℕ
  n = bytes_for hd

  -- the block behind i others, as it is tested
  this_block : (i : ℕ) → i < blocks_for n → good_block (1 + i) (min payload_most (n - payload_most * i)) (take block_size (drop (block_size * i) (drop block_size file))) ≡ good_at file (i + 1)
  unfolding good_in
  this_block i l =
      (λ t. good_block (numbers t) (min payload_most (n - payload_most * behind t)) (take block_size ((drop-drop (block_size * i) block_size file ∙ ap (λ (k : ℕ). drop k file) places) t)))
      ∙ ap (λ (b : Bool). b && good_block (i + 1) (due_count n (i + 1)) (block_in (i + 1) file)) (sym (eq-eqb (length (block_in (i + 1) file)) block_size there))
    where
      numbers : 1 + i ≡ i + 1
      numbers = omega arith

      behind : i ≡ i + 1 - 1
      behind = omega arith

      places : block_size + block_size * i ≡ block_size * (i + 1)
      places = omega arith

      there : length (block_in (i + 1) file) ≡ block_size
      there = length-take-le block_size (drop (block_size * (i + 1)) file) (simp length-drop (omega (arith, size, l)))

  -- the first sample of a block
  begins_at : {u : ℕ} → UnitSize u → (i : ℕ) → (p : ℕ) × (p * u ≡ i * payload_most)
  begins_at {u} x i = go (unit_cases x)
    where
      go : (u ≡ 1) ⊎ (u ≡ 2) → (p : ℕ) × (p * u ≡ i * payload_most)
      go (inl e) = (i * payload_most, ap (λ (v : ℕ). i * payload_most * v) e ∙ mul-one (i * payload_most))
      go (inr e) = (i * 250, ap (λ (v : ℕ). i * 250 * v) e ∙ halves)
        where
          halves : i * 250 * 2 ≡ i * payload_most
          halves = omega arith

  first_in : (i : ℕ) → block_of_byte (i * payload_most) ≡ i + 1
  first_in i = omega (arith, div-add-mod' (i * payload_most) payload_most, mod-lt (i * payload_most) {m = payload_most} (omega arith))

  known_goods : ((i : ℕ) → i < hd.len → is_known file i ≡ true) → good_blocks (blocks_for n) 1 n (drop block_size file) ≡ true
  known_goods h = (goods_each (blocks_for n) 1 n (drop block_size file)).1 (λ i l. this_block i l ∙ ap (good_at file) (sym (home i)) ∙ h (begins_at r i).0 (early i l))
    where
      home : (i : ℕ) → block_of_sample hd (begins_at r i).0 ≡ i + 1
      home i = ap block_of_byte (begins_at r i).1 ∙ first_in i

      early : (i : ℕ) → i < blocks_for n → (begins_at r i).0 < hd.len
      early i l = lt_of_mul-lt-mul_right hd.unit {m = (begins_at r i).0} {n = hd.len} (omega (arith, (begins_at r i).1, block_begins n i l))

-- each block of a file that is read is good
whole_good : (file : List ℕ) → file_test file ≡ true → (i : ℕ) → i < blocks_for (bytes_for (heading_in file)) → good_at file (i + 1) ≡ true
whole_good file e i l =
    let n = bytes_for (heading_in file) in
    let t = passed file e in
    sym (this_block file ((heading_headed file t.0).unit_size) t.1 i l) ∙ (goods_each (blocks_for n) 1 n (drop block_size file)).0 t.2 i l

-- so every place of it is known
pub all_known : (file : List ℕ) → file_test file ≡ true → (i : ℕ) → i < (heading_in file).len → is_known file i ≡ true
all_known file e i l = whole_good file e (i * (heading_in file).unit / payload_most) (omega (arith, first, blocks_hold (bytes_for (heading_in file)), div-add-mod' (i * (heading_in file).unit) payload_most))
  where
    first : i * (heading_in file).unit < bytes_for (heading_in file)
    first = let r = (heading_headed file (passed file e).0).unit_size in omega (arith, inside file r i 0 l r.least)

-- Statement 4: a file that is read has the exact length, and no place of it is unknown
pub read_whole : (file : List ℕ) → (file_test file ≡ true) ↔ ((head_test file ≡ true) × (stretches_of file ≡ []) × (length file ≡ file_len (heading_in file)))
unfolding file_test stretches_of
read_whole file = (there, back)
  where
    Told : Type 0
    Told = (head_test file ≡ true) × (stretches_in (is_known file) 0 (heading_in file).len ≡ []) × (length file ≡ file_len (heading_in file))

    none : (stretches_in (is_known file) 0 (heading_in file).len ≡ []) ↔ ((i : ℕ) → i < (heading_in file).len → is_known file i ≡ true)
    none = (
      λ e i l. ap (is_known file) (from_0 i) ∙ (none_unknown (is_known file) 0 (heading_in file).len).0 e i l,
      λ h. (none_unknown (is_known file) 0 (heading_in file).len).1 (λ i l. ap (is_known file) (sym (from_0 i)) ∙ h i l),
    )
      where
        from_0 : (i : ℕ) → i ≡ 0 + i
        from_0 i = omega arith

    there : file_test file ≡ true → Told
    there e = let t = passed file e in (t.0, none.1 (all_known file e), t.1)

    back : Told → file_test file ≡ true
    back t = (both _ _).1 (t.0, (both _ _).1 (eq-eqb _ _ t.2, known_goods file ((heading_headed file t.0).unit_size) t.2 (none.0 t.1)))

-- and what is salvaged of it is what is read
pub all_salvaged : (file : List ℕ) → file_test file ≡ true → salvaged_bytes file ≡ bytes_in file
unfolding salvaged_bytes
all_salvaged file e =
    list_same (salvaged_byte file) (λ (j : ℕ). get_or (bytes_in file) j 0) 0 0 (bytes_for (heading_in file)) (λ j l. ap (λ (b : Bool). cond b (get_or (bytes_in file) (0 + j) 0) 0) (good (0 + j) (omega (arith, l))))
    ∙ sym (list_whole (bytes_for (heading_in file)) (bytes_in file) (bytes_in_length file t.2))
  where
    t : (head_test file ≡ true) × (stretches_of file ≡ []) × (length file ≡ file_len (heading_in file))
    t = (read_whole file).0 e

    good : (j : ℕ) → j < bytes_for (heading_in file) → good_at file (block_of_byte j) ≡ true
    good j l = whole_good file e (j / payload_most) (omega (arith, l, blocks_hold (bytes_for (heading_in file)), div-add-mod' j payload_most))

-- ---- one changed byte
-- a good block has its check right
good_sealed : (number count : ℕ) (b : List ℕ) → good_block number count b ≡ true → Sealed b
unfolding good_block
good_sealed number count b e =
    let t = (both (same_bytes (field 2 4 b) (sample_bytes 2 count)) _).0 e in
    let u = four (same_bytes (field 4 8 b) (sample_bytes 4 number)) (same_bytes (field 8 payload_at b) (zeros 4)) (same_bytes (field (payload_at + count) block_size b) (zeros (payload_most - count))) (same_bytes (field 0 2 b) (sample_bytes 2 (check_of (drop 2 b)))) t.1 in
    same_is (field 0 2 b) (sample_bytes 2 (check_of (drop 2 b))) u.3

module _ (f : List ℕ) (p x : ℕ) (inside_file : p < length f) where
  abbrev changed : ℕ
  changed = p / block_size

  place : p ≡ block_size * changed + p % block_size
  place = omega (arith, div-add-mod' p block_size)

  -- the others stay
  other_blocks : (k : ℕ) → eqb k changed ≡ false → block_in k (set f p x) ≡ block_in k f
  other_blocks k e = go (dec_lt k changed)
    where
      go : Dec (k < changed) → block_in k (set f p x) ≡ block_in k f
      go (yes l) =
          ap (λ (j : ℕ). take block_size (drop (block_size * k) (set f j x))) cut
          ∙ ap (take block_size) (drop-set-add (block_size * k) f (p - block_size * k) x)
          ∙ take-set-le block_size (drop (block_size * k) f) (p - block_size * k) x (omega (arith, l, place))
        where
          cut : p ≡ block_size * k + (p - block_size * k)
          cut = omega (arith, l, place)
      go (no l) = ap (take block_size) (drop-set-lt (block_size * k) f p x (omega (arith, l, place, eqb-false k changed e, mod-lt p {m = block_size} (omega arith))))

  pub changed_agrees : (changed ≡ 0 → ⊥) → AgreeOutside (λ k. eqb k changed) (set f p x) f
  changed_agrees h = record { head = ne_eqb 0 changed (λ z. h (sym z)); blocks = other_blocks }

  this_changed : block_in changed (set f p x) ≡ set (block_in changed f) (p % block_size) x
  this_changed =
      ap (λ (j : ℕ). take block_size (drop (block_size * changed) (set f j x))) place
      ∙ ap (take block_size) (drop-set-add (block_size * changed) f (p % block_size) x)
      ∙ take-set-lt block_size (drop (block_size * changed) f) (p % block_size) x (mod-lt p (omega arith))

  -- a block that is right no longer is
  module _ (bytes : Bytes f) (small : x < 256) (other : x ≡ get_or f p 0 → ⊥) (right : Sealed (block_in changed f)) (whole : length (block_in changed f) ≡ block_size) where
    no_check : Sealed (block_in changed (set f p x)) → ⊥
    no_check s =
        changed_fails (block_in changed f) (p % block_size) x whole (mod-lt p (omega arith)) (subst⁻¹ (λ (v : ℕ). v < 256) at (bytes p)) small (λ e. other (e ∙ at)) right
        (subst Sealed this_changed s)
      where
        at : get_or (block_in changed f) (p % block_size) 0 ≡ get_or f p 0
        at = get_or-take block_size (drop (block_size * changed) f) (p % block_size) 0 (mod-lt p (omega arith)) ∙ get_or-drop (block_size * changed) f (p % block_size) 0 ∙ ap (λ (j : ℕ). get_or f j 0) (sym place)

    block_fails : (n : ℕ) → good_in n changed (block_in changed (set f p x)) ≡ false
    block_fails n = go (good_in n changed (block_in changed (set f p x))) refl
      where
        go : (b : Bool) → good_in n changed (block_in changed (set f p x)) ≡ b → b ≡ false
        go true e = absurd (no_check (good_sealed changed (due_count n changed) (block_in changed (set f p x)) (good_there n changed (block_in changed (set f p x)) e).1))
        go false e = refl

    head_fails : changed ≡ 0 → head_test (set f p x) ≡ false
    unfolding head_test
    head_fails z = go (head_test (set f p x)) refl
      where
        go : (b : Bool) → head_test (set f p x) ≡ b → b ≡ false
        go true e = absurd (no_check (subst⁻¹ (λ (k : ℕ). Sealed (block_in k (set f p x))) z (good_sealed 0 head_size (take block_size (set f p x))
            (four (leb block_size (length (set f p x))) (good_block 0 head_size (take block_size (set f p x))) (mark_bytes_right (set f p x)) (not (heading_wrong (heading_in (set f p x)))) e).1)))
        go false e = refl

-- Statement 3: of a file that is read, one changed byte
module _ (f : List ℕ) (bytes : Bytes f) (read : file_test f ≡ true) (p x : ℕ) (inside_file : p < length f) (small : x < 256) (other : x ≡ get_or f p 0 → ⊥) where
  abbrev told : (head_test f ≡ true) × (stretches_of f ≡ []) × (length f ≡ file_len (heading_in f))
  told = (read_whole f).0 read

  low : block_size * (p / block_size) + block_size ≤ length f
  low = omega (arith, told.2, inside_file, div-add-mod' p block_size)

  there : length (block_in (p / block_size) f) ≡ block_size
  there = length-take-le block_size (drop (block_size * (p / block_size)) f) (simp length-drop (omega (arith, low)))

  sealed : Sealed (block_in (p / block_size) f)
  unfolding head_test
  sealed = go (ℕ_discrete (p / block_size) 0)
    where
      go : Dec (p / block_size ≡ 0) → Sealed (block_in (p / block_size) f)
      go (yes z) = subst⁻¹ (λ (k : ℕ). Sealed (block_in k f)) z (good_sealed 0 head_size (take block_size f) (four (leb block_size (length f)) (good_block 0 head_size (take block_size f)) (mark_bytes_right f) (not (heading_wrong (heading_in f))) told.0).1)
      go (no z) = good_sealed (p / block_size) (due_count (bytes_for (heading_in f)) (p / block_size)) (block_in (p / block_size) f) (good_there (bytes_for (heading_in f)) (p / block_size) (block_in (p / block_size) f) good).1
        where
          k : ℕ
          k = p / block_size - 1

          before : k + 1 ≡ p / block_size
          before = omega (arith, z)

          good : good_at f (p / block_size) ≡ true
          good = subst (λ (i : ℕ). good_at f i ≡ true) before (whole_good f read k (omega (arith, low, told.2, z)))

  -- in block 0 is refused,
  pub head_changed : p / block_size ≡ 0 → head_test (set f p x) ≡ false
  head_changed z = head_fails f p x inside_file bytes small other sealed there z

  -- and in another exactly that block's samples become unknown
  pub block_changed : (p / block_size ≡ 0 → ⊥) → (i : ℕ) → i < (heading_in f).len → is_known (set f p x) i ≡ not (eqb (block_of_sample (heading_in f) i) (p / block_size))
  block_changed z i l = go (eqb (block_of_sample (heading_in f) i) (p / block_size)) refl
    where
      agree : AgreeOutside (λ k. eqb k (p / block_size)) (set f p x) f
      agree = changed_agrees f p x inside_file z

      home : block_of_sample (heading_in (set f p x)) i ≡ block_of_sample (heading_in f) i
      home = ap (λ (h : Heading). block_of_sample h i) (headings_agree agree)

      go : (b : Bool) → eqb (block_of_sample (heading_in f) i) (p / block_size) ≡ b → is_known (set f p x) i ≡ not b
      go true e =
          ap (λ (k : ℕ). good_in (bytes_for (heading_in (set f p x))) k (block_in k (set f p x))) (home ∙ eqb-true _ _ e)
          ∙ block_fails f p x inside_file bytes small other sealed there (bytes_for (heading_in (set f p x)))
      go false e = known_agree agree i (ap (λ (k : ℕ). eqb k (p / block_size)) home ∙ e) ∙ all_known f read i l
