-- Laws of a part of memory that starts at place base: its nodes and samples by their places, and the ranges that lie in it.
use Prim.Native.Nat.{ℕ, zero, suc, ◌+◌, ◌-◌, ◌*◌, ◌≤◌, ◌<◌}
use mathlib.Core.Path.{◌≡◌, refl, ap, ap₂, ◌∙◌}
use mathlib.Core.List.{List}
use native.Mathlib.Nat.{le_trans, mul-le-mul_right, le-mul_of_pos_right}
use native.Mathlib.Omega.{arith}
use lib.Bits.{bit_or, bit_xor}
use lib.ListN.{take, drop}
use Rattle.rules.specs.Sample.{UnitSize, sample_of}
use Rattle.rules.specs.Node.{toggles_of, differs, count_of, cap_count, node_of}
use Rattle.rules.proofs.Sample.{sample_part}
use Rattle.range.specs.Part.{RangeIn, part_sample}

-- ---- nodes
module _ (s : ℕ → ℕ) (base : ℕ) where
  here : (a n : ℕ) → base ≤ a → a - base + suc n ≡ a + suc n - base
  here a n h = omega arith

  before : (a n : ℕ) → base ≤ a → a - base + suc n - 1 ≡ a + suc n - 1 - base
  before a n h = omega arith

  shift_toggles : (a n : ℕ) → base ≤ a → toggles_of s (a - base) n ≡ toggles_of (λ i. s (i - base)) a n
  unfolding toggles_of
  shift_toggles a zero h = refl
  shift_toggles a (suc n) h = ap₂ bit_or (shift_toggles a n h) (ap₂ (λ (x y : ℕ). bit_xor (s x) (s y)) (here a n h) (before a n h))

  shift_count : (a n : ℕ) → base ≤ a → count_of s (a - base) n ≡ count_of (λ i. s (i - base)) a n
  unfolding count_of
  shift_count a zero h = refl
  shift_count a (suc n) h = ap₂ (λ (x y : ℕ). x + y) (shift_count a n h) (ap₂ (λ (x y : ℕ). differs (s x) (s y)) (here a n h) (before a n h))

  pub shift_node : (a b : ℕ) → base ≤ a → a < b → node_of s (a - base) (b - base) ≡ node_of (λ i. s (i - base)) a b
  unfolding node_of
  shift_node a b h k = λ x. record {
    first = s (a - base);
    last = s (last x);
    toggles = (ap (toggles_of s (a - base)) inside ∙ shift_toggles a (b - 1 - a) h) x;
    count = ap cap_count (ap (count_of s (a - base)) inside ∙ shift_count a (b - 1 - a) h) x;
  }
    where
      last : b - base - 1 ≡ b - 1 - base
      last = omega arith

      inside : b - base - 1 - (a - base) ≡ b - 1 - a
      inside = omega arith

-- ---- samples
-- the samples of the part from base to stop are those of the memory
pub part_sample_lem : (u : ℕ) (s : List ℕ) (base stop i : ℕ) → base ≤ i → i < stop → part_sample u (take (stop * u - base * u) (drop (base * u) s)) base i ≡ sample_of u s i
part_sample_lem u s base stop i a b = sample_part u s base (stop * u - base * u) (i - base) (omega (arith, ends)) ∙ ap (sample_of u s) back
  where
    ends : (suc (i - base) + base) * u ≤ stop * u
    ends = mul-le-mul_right u inside
      where
        inside : suc (i - base) + base ≤ stop
        inside = omega arith

    back : base + (i - base) ≡ i
    back = omega arith

-- ---- room
-- its places are numbers that memory has
pub range_places : {u a b n : ℕ} → RangeIn u a b n → b ≤ n
range_places {u} {a} {b} {n} h = le_trans (le-mul_of_pos_right b h.unit_size.least) h.room

-- a range whose places lie between base and n, in a part that has the samples up to n
pub range_in_lem : (unit base n part a b : ℕ) → UnitSize unit → n * unit ≤ base * unit + part → base ≤ a → a < b → b ≤ n → RangeIn unit (a - base) (b - base) part
range_in_lem unit base n part a b size samples from some upto = record {
  unit_size = size;
  some = omega arith;
  room = omega (arith, mul-le-mul_right {m = base + (b - base)} {n = n} unit (omega arith));
}
