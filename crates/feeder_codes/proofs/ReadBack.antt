-- What the boundary writes of a recorder reads back as that recorder: the fresh one of a start, and the one that a push leaves, over any numbers and memory.
use mathlib.Core.Path.{◌≡◌, refl, sym}
use mathlib.Core.Bool.{Bool, true, false, cond}
use mathlib.Core.List.{List}
use Prim.Native.Nat.{ℕ, ◌<◌}
use Rattle.std.specs.Prelude.{None, Some}
use native.Mathlib.Nat.{mod-lt}
use native.Mathlib.Omega.{arith}
use lib.Dec.{eqb}
use lib.ListN.{length, take, get_or}
use lib.Seq.{length-sets, get_or-take}
use Rattle.capture.specs.Record.{mark_in}
use Rattle.rules.specs.SampleBytes.{Bytes}
use Rattle.rules.specs.Selection.{Settings, Reply, refused, going_on, complete}
use Rattle.rules.specs.Refusal.{Lent, Recorder, start_refusal}
use Rattle.rules.proofs.Start.{start_passed}
use Rattle.rules.specs.Start.{begun}
use Rattle.capture.specs.Numbers.{unit_at, capacity_at, len_at, marked_at, mark_at}
use Rattle.feeder.specs.Record.{recorder_of}
use Rattle.feeder_numbers.specs.Numbers.{known_in, previous_sample_in, mask_in, feeder_from, recorder_numbers}
use Rattle.feeder_numbers.proofs.ReadBack.{Follows, recorder_back, pushed_back}
use Rattle.rules.specs.Push.{left_of}
use Rattle.codes.specs.Record.{capture_in}
use Rattle.feeder_codes.specs.Recorder.{begun_numbers, numbers_after}
use Rattle.feeder_codes.proofs.Narrow.{NarrowSample, some_narrow, armed_narrow}
use Rattle.feeder_codes.proofs.Leaves.{push_leaves}

-- ---- start
pub start_back : (st : Settings) (lent : Lent) (ring : ℕ) (old : List ℕ) → length old ≡ 17 → start_refusal st lent ring ≡ 0 → recorder_of (feeder_from (begun_numbers (begun st) old)) ≡ (begun st).recorder
start_back st lent ring old size e = recorder_back (begun st).recorder old size (record {
  masks = armed_narrow st.terms ((start_passed st lent ring).0 e).lines;
  previous = λ v d. let z : ◌≡◌ {A = ℕ} 0 1 = cc in absurd (omega arith);
})

pub begun_size : (r : Recorder) (old : List ℕ) → length (recorder_numbers r old) ≡ length old
begun_size r old = simp length-sets

-- ---- push
module _ (numbers : List ℕ) where
  -- the recorder that the numbers hold
  abbrev held : Recorder
  held = recorder_of (feeder_from numbers)

  -- its previous sample is cut to 16 lines
  pub held_narrow : NarrowSample held.previous
  held_narrow = go (eqb (known_in numbers) 0)
    where
      go : (b : Bool) → NarrowSample (cond b None (Some (mask_in (previous_sample_in numbers))))
      go true v e = let z : ◌≡◌ {A = ℕ} 0 1 = cc in absurd (omega arith)
      go false v e = some_narrow (mask_in (previous_sample_in numbers)) (mod-lt (previous_sample_in numbers) (omega arith)) v e

  -- the first five numbers are the store's
  pub store_first : capture_in (take 5 numbers) ≡ (feeder_from numbers).capture
  store_first = λ i. record {
    unitsize = at unit_at (omega arith) i;
    capacity = at capacity_at (omega arith) i;
    len = at len_at (omega arith) i;
    trigger = mark_in (at marked_at (omega arith) i) (at mark_at (omega arith) i);
  }
    where
      at : (k : ℕ) → k < 5 → get_or (take 5 numbers) k 0 ≡ get_or numbers k 0
      at k h = get_or-take 5 numbers k 0 h

  pub after_size : (x : Reply) (r : Recorder) → length (numbers_after x r numbers) ≡ length numbers
  after_size (refused n) r = refl
  after_size going_on r = simp length-sets
  after_size complete r = simp length-sets

  module _ (size : length numbers ≡ 17) where
    after : (x : Reply) (r : Recorder) → Follows held r → ((n : ℕ) → x ≡ refused n → r ≡ held) → recorder_of (feeder_from (numbers_after x r numbers)) ≡ r
    after (refused n) r f s = sym (s n refl)
    after going_on r f s = pushed_back r numbers size f
    after complete r f s = pushed_back r numbers size f

    pub push_back : (lent : Lent) (samples ring bytes : List ℕ) → Bytes bytes
        → recorder_of (feeder_from (numbers_after (left_of held lent samples ring bytes).reply (left_of held lent samples ring bytes).recorder numbers)) ≡ (left_of held lent samples ring bytes).recorder
    push_back lent samples ring bytes h =
        let l = push_leaves held held_narrow samples ring lent bytes h in
        after (left_of held lent samples ring bytes).reply (left_of held lent samples ring bytes).recorder l.follows l.stays
