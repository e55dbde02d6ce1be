-- A file is tested, and then the rows of a reading, in order.
use mathlib.Core.Path.{◌≡◌, sym, ap, ap₂, ◌∙◌}
use mathlib.Core.Bool.{Bool, true, false, cond, not}
use mathlib.Core.List.{List, [], ◌∷◌}
use Prim.Native.Nat.{ℕ, ◌+◌, ◌*◌, ◌^◌, ◌≤◌, ◌<◌}
use native.Mathlib.Nat.{mul-le-mul}
use native.Mathlib.Omega.{arith}
use lib.Dec.{ltb, eqb}
use lib.ListN.{length, drop}
use borrow.Author.Tests.{eqb-false, eq-eqb, ltb-false, not-false}
use Rattle.rules.specs.Block.{block_size}
use Rattle.rules.specs.Refusal.{Lent, most_samples, lent_short, first_of}
use Rattle.rules.specs.Shelf.{Heading, blocks_for, bytes_for, file_len, heading_in, head_test, good_blocks, file_test}
use Rattle.rules.specs.ShelfCalls.{capacity_wrong, store_in, store_short, read_refusal}
use Rattle.rules.proofs.Refusal.{row_passed, neither}
use Rattle.shelf_read.specs.Read.{room_refusal}
use Rattle.rules.proofs.ShelfHead.{heading_headed}

-- ---- the tests of a file
module _ (file : List ℕ) (head : true ≡ head_test file) {n : ℕ} (n-is : n ≡ bytes_for (heading_in file)) where
  pub bytes_few : n < 2 ^ 32
  bytes_few =
      let h = heading_headed file (sym head) in
      omega (arith, n-is, mul-le-mul {n₁ = (heading_in file).len} {m₁ = (heading_in file).unit} {n₂ = most_samples} {m₂ = 2} h.len_most h.unit_size.most)

  pub by_blocks : length file ≡ block_size * (1 + blocks_for n) → {r : Bool} {l : List ℕ} → l ≡ drop block_size file → r ≡ good_blocks (blocks_for n) 1 n l → r ≡ file_test file
  unfolding file_test
  by_blocks s {r} {l} l-is t =
      rw (← head, eq-eqb (length file) (file_len (heading_in file)) (s ∙ ap (λ (m : ℕ). block_size * (1 + blocks_for m)) n-is))
      (t ∙ ap₂ (λ (m : ℕ) (b : List ℕ). good_blocks (blocks_for m) 1 m b) n-is l-is)

-- ---- the rows of a file: 1, that of the file, and 15
pub capacity_right : (capacity : ℕ) → capacity_wrong capacity ≡ false → (1 ≤ capacity) × (capacity ≤ most_samples)
capacity_right capacity e =
    let t = (neither (eqb capacity 0) (ltb most_samples capacity)).0 e in
    (omega (arith, eqb-false capacity 0 t.0), ltb-false most_samples capacity t.1)

abbrev pub file_rows : ℕ → Bool → Bool → Bool → ℕ
file_rows number wrong good short = first_of (record { number = 1; holds = wrong } ∷ record { number = number; holds = not good } ∷ record { number = 15; holds = short } ∷ [])

module _ (number : ℕ) (wrong good short : Bool) where
  -- what no row refuses
  pub none_refuses : 0 < number → file_rows number wrong good short ≡ 0 → (wrong ≡ false) × (good ≡ true) × (short ≡ false)
  none_refuses h e =
      let t1 = (row_passed 1 (cond (not good) number (cond short 15 0)) wrong (omega arith)).0 e in
      let t2 = (row_passed number (cond short 15 0) (not good) h).0 t1.1 in
      let t3 = (row_passed 15 0 short (omega arith)).0 t2.1 in
      (t1.0, not-false good t2.0, t3.0)

-- ---- those of a reading
module _ (capacity : ℕ) (lent : Lent) (file : List ℕ) where
  abbrev h : Heading
  h = heading_in file

  -- what no row refuses
  pub record LetIn : Type 0 where
    pub capacity_least : 1 ≤ capacity
    pub capacity_most : capacity ≤ most_samples
    pub passed : file_test file ≡ true
    pub len_most : h.len ≤ capacity
    pub enough : lent_short (store_in capacity h) lent ≡ false

  pub let_in : read_refusal capacity lent file ≡ 0 → LetIn
  let_in e =
      let t = none_refuses 16 (capacity_wrong capacity) (file_test file) (store_short capacity lent h) (omega arith) e in
      let u = (neither (ltb capacity h.len) (lent_short (store_in capacity h) lent)).0 t.2 in
      let c = capacity_right capacity t.0 in
      record { capacity_least = c.0; capacity_most = c.1; passed = t.1; len_most = ltb-false capacity h.len u.0; enough = u.1 }

  -- past the first two rows the last decides
  pub last_row : capacity_wrong capacity ≡ false → file_test file ≡ true → room_refusal capacity lent h ≡ read_refusal capacity lent file
  last_row e f = rw (e, f)
