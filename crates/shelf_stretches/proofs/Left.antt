-- How many stretches the blocks that are left can have: no two touch, so that there are half as many.
use mathlib.Core.Path.{◌≡◌, refl, sym, ap, ap₂, ◌∙◌}
use mathlib.Core.Bool.{Bool, true, false, cond, false≢true}
use mathlib.Core.List.{List, [], ◌∷◌, ◌++◌}
use Prim.Native.Nat.{ℕ, zero, suc, ◌+◌, ◌-◌, ◌*◌, ◌/◌, ◌%◌, ◌^◌, ◌≤◌, ◌<◌, min}
use native.Mathlib.Nat.{add_assoc, div-add-mod', mod-lt}
use native.Mathlib.Decide.{dec_lt, ℕ_discrete}
use native.Mathlib.Omega.{arith}
use lib.Dec.{eqb}
use lib.ListN.{length, length-append}
use borrow.Author.Tests.{eq-eqb, ne_eqb}
use Rattle.rules.specs.Sample.{UnitSize}
use Rattle.rules.specs.Shelf.{blocks_for, bytes_for, heading_in, head_test}
use Rattle.rules.specs.Stretches.{Stretch, joined, stretches_in}
use Rattle.rules.specs.Salvage.{good_at, is_known, stretches_of, list_need}
use Rattle.rules.proofs.ShelfHead.{heading_headed}
use Rattle.rules.proofs.Stretches.{joined_twice, all_known, all_unknown}
use Rattle.shelf_stretches.specs.declared.Found.{Found}
use Rattle.shelf_stretches.specs.declared.Run.{Run}
use Rattle.shelf_stretches.specs.Measured.{Measured}
use Rattle.shelf_stretches.specs.Told.{most_numbers, Tallied}
use Rattle.shelf_stretches.proofs.Surveying.{opened}
use Rattle.shelf_stretches.proofs.Blocks.{per_block, many, begins, begins_is, next_is, per_some, places_known, ends_at, Loop, blocks_file}

-- ---- one more stretch in front
joined_one : (a c : ℕ) (ss : List Stretch) → length (joined a c ss) ≤ 1 + length ss
unfolding joined
joined_one a c [] = omega arith
joined_one a c (s ∷ ss) = go (eqb (a + c) s.first)
  where
    go : (b : Bool) → length (cond b (record { first = a; count = c + s.count } ∷ ss) (record { first = a; count = c } ∷ s ∷ ss)) ≤ 1 + length (s ∷ ss)
    go true = omega arith
    go false = omega arith

-- is none more where it touches the next
joined_none : (a c d : ℕ) (ss : List Stretch) → length (joined a c (joined (a + c) d ss)) ≡ length (joined (a + c) d ss)
unfolding joined
joined_none a c d ss = ap length (joined_twice a c d ss) ∙ same ss
  where
    by : (b : Bool) (s : Stretch) (ss : List Stretch) → length (cond b (record { first = a; count = c + d + s.count } ∷ ss) (record { first = a; count = c + d } ∷ s ∷ ss))
        ≡ length (cond b (record { first = a + c; count = d + s.count } ∷ ss) (record { first = a + c; count = d } ∷ s ∷ ss))
    by true s ss = refl
    by false s ss = refl

    same : (ss : List Stretch) → length (joined a (c + d) ss) ≡ length (joined (a + c) d ss)
    same [] = refl
    same (s ∷ ss) = by (eqb (a + (c + d)) s.first) s ss ∙ ap (λ (k : ℕ). length (cond (eqb k s.first) (record { first = a + c; count = d + s.count } ∷ ss) (record { first = a + c; count = d } ∷ s ∷ ss))) (sym (add_assoc a c d))

module _ (file : List ℕ) (r : UnitSize (heading_in file).unit) where
  abbrev len : ℕ
  len = (heading_in file).len

  abbrev k : ℕ
  k = blocks_for (bytes_for (heading_in file))

  abbrev per : ℕ
  per = per_block (heading_in file).unit

  -- the stretches from block i + 1 on
  abbrev rest_at : ℕ → List Stretch
  rest_at i = stretches_in (is_known file) (min (i * per) len) (len - min (i * per) len)

  module _ {i : ℕ} (h : i < k) where
    abbrev m : ℕ
    m = many file r h

    here : rest_at i ≡ stretches_in (is_known file) (i * per) (m + (len - min ((i + 1) * per) len))
    here = ap₂ (stretches_in (is_known file)) (begins_is file r h) left
      where
        left : len - min (i * per) len ≡ many file r h + (len - min ((i + 1) * per) len)
        left = omega (arith, begins_is file r h, next_is file r h, begins file r h)

    next : (rest : ℕ) → stretches_in (is_known file) (i * per + m) rest ≡ stretches_in (is_known file) (min ((i + 1) * per) len) rest
    next rest = ap (λ (p : ℕ). stretches_in (is_known file) p rest) (next_is file r h)

    good_rest : good_at file (i + 1) ≡ true → rest_at i ≡ rest_at (i + 1)
    good_rest g = here ∙ all_known (is_known file) (len - min ((i + 1) * per) len) (i * per) m (λ q l. places_known file r h q l ∙ g) ∙ next (len - min ((i + 1) * per) len)

    bad_rest : good_at file (i + 1) ≡ false → rest_at i ≡ joined (i * per) m (rest_at (i + 1))
    bad_rest g =
        here
        ∙ all_unknown (is_known file) (len - min ((i + 1) * per) len) (i * per) m (omega (arith, begins file r h, per_some file r h)) (λ q l. places_known file r h q l ∙ g)
        ∙ ap (joined (i * per) m) (next (len - min ((i + 1) * per) len))

  none_left : {i : ℕ} → k ≤ i → rest_at i ≡ []
  unfolding stretches_in
  none_left {i} h = ap₂ (stretches_in (is_known file)) (ends_at file r h) none
    where
      none : len - min (i * per) len ≡ 0
      none = omega (arith, ends_at file r h)

  pub few_left : (left i : ℕ) → i + left ≡ k → (2 * length (rest_at i) ≤ left + 1) × (i < k → good_at file (i + 1) ≡ true → 2 * length (rest_at i) ≤ left)
  few_left zero i e = (omega (arith, ap length (none_left (last e))), λ h g. absurd (omega (arith, h, e)))
    where
      last : i + zero ≡ k → k ≤ i
      last q = omega (arith, q)
  few_left (suc left) i e = go (good_at file (i + 1)) refl (few_left left (i + 1) (omega (arith, e)))
    where
      inside : i < k
      inside = omega (arith, e)

      go : (b : Bool) → good_at file (i + 1) ≡ b → (2 * length (rest_at (i + 1)) ≤ left + 1) × (i + 1 < k → good_at file (i + 1 + 1) ≡ true → 2 * length (rest_at (i + 1)) ≤ left)
          → (2 * length (rest_at i) ≤ suc left + 1) × (i < k → good_at file (i + 1) ≡ true → 2 * length (rest_at i) ≤ suc left)
      go true g ih = let same = ap length (good_rest inside g) in (omega (arith, same, ih.0), λ h q. omega (arith, same, ih.0))
      go false g ih = (bad (dec_lt (i + 1) k) (good_at file (i + 1 + 1)) refl, λ h q. absurd (false≢true (sym g ∙ q)))
        where
          front : length (rest_at i) ≡ length (joined (i * per) (many file r inside) (rest_at (i + 1)))
          front = ap length (bad_rest inside g)

          -- the first of two is told with the second
          both_bad : (l : i + 1 < k) → good_at file (i + 1 + 1) ≡ false → length (rest_at i) ≡ length (rest_at (i + 1))
          both_bad l q =
              front
              ∙ ap (λ (ss : List Stretch). length (joined (i * per) (many file r inside) ss)) second
              ∙ joined_none (i * per) (many file r inside) (many file r l) (rest_at (i + 1 + 1))
              ∙ sym (ap length second)
            where
              touches : (i + 1) * per ≡ i * per + many file r inside
              touches = sym (next_is file r inside ∙ begins_is file r l)

              second : rest_at (i + 1) ≡ joined (i * per + many file r inside) (many file r l) (rest_at (i + 1 + 1))
              second = bad_rest l q ∙ ap (λ (a : ℕ). joined a (many file r l) (rest_at (i + 1 + 1))) touches

          bad : Dec (i + 1 < k) → (b : Bool) → good_at file (i + 1 + 1) ≡ b → 2 * length (rest_at i) ≤ suc left + 1
          bad (no l) b q = omega (arith, front, joined_one (i * per) (many file r inside) (rest_at (i + 1)), ap length (none_left (done l)), e)
            where
              done : (i + 1 < k → ⊥) → k ≤ i + 1
              done z = omega (arith, z)
          bad (yes l) true q = omega (arith, front, joined_one (i * per) (many file r inside) (rest_at (i + 1)), ih.1 l q)
          bad (yes l) false q = omega (arith, both_bad l q, ih.0)

-- ---- in a turn of the loop
opened_few : (p count : ℕ) (ss : List Stretch) → length (opened p count ss) ≤ min 1 count + length ss
opened_few p count ss = go (ℕ_discrete count 0)
  where
    go : Dec (count ≡ 0) → length (opened p count ss) ≤ min 1 count + length ss
    go (yes z) = omega (arith, ap (λ (b : Bool). length (cond b ss (joined (p - count) count ss))) (eq-eqb count 0 z))
    go (no z) = omega (arith, z, ap (λ (b : Bool). length (cond b ss (joined (p - count) count ss))) (ne_eqb count 0 z), joined_one (p - count) count ss)

pub enough : {file : List ℕ} {n len per : ℕ} → Measured file n len per → {list₀ : List ℕ} {i : ℕ} {run : Run} {list : List ℕ} → Loop file list₀ i run list → i < blocks_for n
    → {most room : ℕ} → most ≡ most_numbers run (blocks_for n - i) → most ≤ room → (0 < room) × (list_need file ≤ room) × (length list ≡ length list₀)
unfolding stretches_of
enough {file} {n} t {list₀} {i} {run} s h {most} {room} most-is fits = (
  omega (arith, h, most-is, fits, halves),
  omega (arith, most-is, fits, halves, all, length-append s.survey.done rest, s.survey.stretches_are, opened_few (min (i * per_block (heading_in file).unit) (heading_in file).len) run.count (rest_at file t.unit_size i), left.0),
  s.size,
)
  where
    rest : List Stretch
    rest = opened (min (i * per_block (heading_in file).unit) (heading_in file).len) run.count (rest_at file t.unit_size i)

    all : length (stretches_in (is_known file) 0 (heading_in file).len) ≡ length (s.survey.done ++ opened (min (i * per_block (heading_in file).unit) (heading_in file).len) run.count (rest_at file t.unit_size i))
    all = ap length s.survey.rest

    left_blocks : i + (blocks_for n - i) ≡ blocks_for (bytes_for (heading_in file))
    left_blocks = omega (arith, h, ap blocks_for t.bytes)

    left : (2 * length (rest_at file t.unit_size i) ≤ blocks_for n - i + 1) × (i < blocks_for (bytes_for (heading_in file)) → good_at file (i + 1) ≡ true → 2 * length (rest_at file t.unit_size i) ≤ blocks_for n - i)
    left = few_left file t.unit_size (blocks_for n - i) i left_blocks

    halves : (blocks_for n - i + 1 ≡ (blocks_for n - i + 1) / 2 * 2 + (blocks_for n - i + 1) % 2) × ((blocks_for n - i + 1) % 2 < 2)
    halves = (sym (div-add-mod' (blocks_for n - i + 1) 2), mod-lt (blocks_for n - i + 1) {m = 2} (omega arith))

-- a count leaves no 64 bits
pub counted_few : (file : List ℕ) → head_test file ≡ true → {found : Found} → Tallied file found → found.stretches < 2 ^ 32
unfolding stretches_of
counted_few file e t =
    let r = (heading_headed file e).unit_size in
    omega (arith, t.stretches_are, (few_left file r (blocks_for (bytes_for (heading_in file))) 0 (omega arith)).0, blocks_file file e, ap length first)
  where
    first : rest_at file (heading_headed file e).unit_size 0 ≡ stretches_in (is_known file) 0 (heading_in file).len
    first = ap₂ (stretches_in (is_known file)) begin all
      where
        begin : min (0 * per_block (heading_in file).unit) (heading_in file).len ≡ 0
        begin = omega arith

        all : (heading_in file).len - min (0 * per_block (heading_in file).unit) (heading_in file).len ≡ (heading_in file).len
        all = omega arith
