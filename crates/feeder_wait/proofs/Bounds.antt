-- What the tests of a recorder that waits come to.
use mathlib.Core.Path.{◌≡◌, refl}
use mathlib.Core.Bool.{false, ◌||◌}
use mathlib.Core.List.{List}
use Rattle.std.specs.Prelude.{None}
use Prim.Native.Nat.{ℕ, ◌*◌, ◌≤◌, ◌<◌}
use native.Mathlib.Omega.{arith}
use lib.Bits.{bit_or}
use lib.Dec.{eqb, ltb}
use borrow.Author.Tests.{ne_eqb, le-ltb}
use Rattle.rules.specs.Refusal.{Store, Lent, most_samples, unit_wrong, store_wrong, lent_short}
use Rattle.rules.proofs.Bits.{or_zero_left, or_zero_right}
use Rattle.rules.proofs.Refusal.{neither}
use Rattle.capture.specs.Numbers.{unit_in, capacity_in, len_in, marked_in, mark_place_in}
use Rattle.feeder.proofs.Rows.{store_passed}
use Rattle.feeder_numbers.specs.Numbers.{limit_in, pre_in, waits_in, kept_in}
use Rattle.feeder_wait.specs.Wait.{Waiting}

-- a store with nothing in it
abbrev empty : ℕ → ℕ → Store
empty unit capacity = record { unit = unit; capacity = capacity; len = 0; mark = None }

not_wrong : (unit capacity : ℕ) → unit_wrong unit ≡ false → 0 < capacity → capacity ≤ most_samples → store_wrong (empty unit capacity) ≡ false
not_wrong unit capacity known some-slots most =
    (neither (unit_wrong unit || eqb capacity 0 || ltb most_samples capacity || ltb capacity 0) false).1 (
      (neither (unit_wrong unit || eqb capacity 0 || ltb most_samples capacity) (ltb capacity 0)).1 (
        (neither (unit_wrong unit || eqb capacity 0) (ltb most_samples capacity)).1 (
          (neither (unit_wrong unit) (eqb capacity 0)).1 (known, ne_eqb capacity 0 (λ e. omega arith)),
          le-ltb most_samples capacity most,
        ),
        le-ltb capacity 0 (omega arith),
      ),
      refl,
    )

module _ (r : List ℕ) where
  -- its store, with nothing in it
  abbrev pub empty_of : Store
  empty_of = empty (unit_in r) (capacity_in r)

  module _ (unit : unit_wrong (unit_in r) ≡ false) (most : capacity_in r ≤ most_samples) (pre_most : pre_in r < capacity_in r) where
    right : store_wrong empty_of ≡ false
    right = not_wrong (unit_in r) (capacity_in r) unit (omega arith) most

    module _ (lent : Lent) (ring : ℕ) where
      pub waiting_is : waits_in r ≡ 1 → bit_or (bit_or (len_in r) (marked_in r)) (mark_place_in r) ≡ 0 → limit_in r ≤ capacity_in r → kept_in r ≤ pre_in r → lent_short empty_of lent ≡ false → pre_in r * unit_in r ≤ ring → Waiting r lent ring
      waiting_is waits zero limit kept enough slots = record {
        waits = waits;
        len = or_zero_left (len_in r) (marked_in r) first;
        unmarked = or_zero_right (len_in r) (marked_in r) first;
        mark = or_zero_right (bit_or (len_in r) (marked_in r)) (mark_place_in r) zero;
        store = (store_passed empty_of lent right enough).0;
        limit_most = limit;
        pre_most = pre_most;
        kept_most = kept;
        slots = slots;
      }
        where
          first : bit_or (len_in r) (marked_in r) ≡ 0
          first = or_zero_left (bit_or (len_in r) (marked_in r)) (mark_place_in r) zero
