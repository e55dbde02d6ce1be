-- A recorder that is written as 17 numbers reads back as that recorder, whatever they held before: what start writes, and what each push does.
-- Masks and samples are cut to 16 lines where they are read, so they must be no wider.
use mathlib.Core.Path.{◌≡◌, refl, sym, ap, ◌∙◌, subst, subst⁻¹}
use mathlib.Core.Bool.{Bool, true, false, cond}
use mathlib.Core.List.{List}
use mathlib.Core.Logic.{◌⊎◌, inl, inr}
use Rattle.std.specs.Prelude.{Option, None, Some}
use Prim.Native.Nat.{ℕ, ◌<◌}
use native.Mathlib.Nat.{mod-eq_of_lt}
use lib.Dec.{eqb}
use lib.ListN.{length, get_or}
use Rattle.rules.specs.Sample.{list_from}
use Rattle.rules.specs.Trigger.{Armed, unarmed, waiting, Masks}
use Rattle.rules.specs.Refusal.{Recorder, mark_flag, mark_place}
use Rattle.rules.proofs.SampleBytes.{list_whole}
use Rattle.capture.specs.Record.{mark_in}
use Rattle.terms.specs.declared.Masks as code
use Rattle.feeder.specs.Record.{armed_as, recorder_of}
use Rattle.feeder_numbers.specs.Numbers.{waits_in, mask_in, masks_in, lines_in, armed_in, previous_in, feeder_from, waits_number, masks_of, pushed_numbers, recorder_numbers}

-- ---- what a record of the code holds: masks and samples of 16 lines
pub record NarrowMasks (m : Masks) : Type 0 where
  pub high : m.high < 65536
  pub low : m.low < 65536
  pub rising : m.rising < 65536
  pub falling : m.falling < 65536
  pub edge : m.edge < 65536

pub record Narrow (r : Recorder) : Type 0 where
  pub masks : (m : Masks) → r.armed ≡ waiting m → NarrowMasks m
  pub previous : (v : ℕ) → r.previous ≡ Some v → v < 65536

-- ---- each part
mask_back : (v : ℕ) → v < 65536 → mask_in v ≡ v
mask_back v h = mod-eq_of_lt h

mark_back : (m : Option ℕ) → mark_in (mark_flag m) (mark_place m) ≡ m
mark_back None = refl
mark_back (Some k) = refl

previous_back : (p : Option ℕ) → ((v : ℕ) → p ≡ Some v → v < 65536) → previous_in (mark_flag p) (mark_place p) ≡ p
previous_back None h = refl
previous_back (Some v) h = ap Some (mask_back v (h v refl))

-- the masks of a recorder that waits; of one that does not, those numbers mean nothing
armed_back : (a : Armed) → ((m : Masks) → a ≡ waiting m → NarrowMasks m)
    → armed_as (armed_in (waits_number a) (masks_in (masks_of a).high (masks_of a).low (masks_of a).rising (masks_of a).falling (masks_of a).edge)) ≡ a
armed_back unarmed h = refl
armed_back (waiting m) h =
    let n = h m refl in
    λ i. waiting (record { high = mask_back m.high n.high i; low = mask_back m.low n.low i; rising = mask_back m.rising n.rising i; falling = mask_back m.falling n.falling i; edge = mask_back m.edge n.edge i })

-- where a push still waits, it waits for what the numbers had
armed_stays : (waits : ℕ) (masks : code.Masks) (a : Armed) → (a ≡ unarmed) ⊎ (a ≡ armed_as (armed_in waits masks)) → armed_as (armed_in (waits_number a) masks) ≡ a
armed_stays waits masks a (inl e) = ap (λ (x : Armed). armed_as (armed_in (waits_number x) masks)) e ∙ sym e
armed_stays waits masks a (inr e) = go (eqb waits 0) e
  where
    go : (b : Bool) → a ≡ armed_as (cond b None (Some masks)) → armed_as (armed_in (waits_number a) masks) ≡ a
    go true d = ap (λ (x : Armed). armed_as (armed_in (waits_number x) masks)) d ∙ sym d
    go false d = ap (λ (x : Armed). armed_as (armed_in (waits_number x) masks)) d ∙ sym d

-- what a push does to a recorder c at most: unit, capacity, limit and pre stay, and it waits for what it waited for, or no more
pub record Follows (c r : Recorder) : Type 0 where
  pub unit : r.store.unit ≡ c.store.unit
  pub capacity : r.store.capacity ≡ c.store.capacity
  pub limit : r.limit ≡ c.limit
  pub pre : r.pre ≡ c.pre
  pub armed : (r.armed ≡ unarmed) ⊎ (r.armed ≡ c.armed)
  pub previous : (v : ℕ) → r.previous ≡ Some v → v < 65536

-- ---- the record
module _ (r : Recorder) (old : List ℕ) (size : length old ≡ 17) where
  -- what start writes
  pub recorder_back : Narrow r → recorder_of (feeder_from (recorder_numbers r old)) ≡ r
  unfolding list_from
  recorder_back n = subst⁻¹ (λ (l : List ℕ). recorder_of (feeder_from (recorder_numbers r l)) ≡ r) (list_whole 17 old size) (λ i. record {
    store = record { unit = r.store.unit; capacity = r.store.capacity; len = r.store.len; mark = mark_back r.store.mark i };
    limit = r.limit;
    pre = r.pre;
    armed = armed_back r.armed n.masks i;
    previous = previous_back r.previous n.previous i;
    place = r.place;
    kept = r.kept;
  })

  -- what a push writes, over the numbers of the recorder that it was given
  pub pushed_back : Follows (recorder_of (feeder_from old)) r → recorder_of (feeder_from (pushed_numbers r old)) ≡ r
  unfolding list_from
  pushed_back p =
      let q : Follows (recorder_of (feeder_from (list_from (λ i. get_or old i 0) 0 17))) r = subst (λ (l : List ℕ). Follows (recorder_of (feeder_from l)) r) (list_whole 17 old size) p in
      subst⁻¹ (λ (l : List ℕ). recorder_of (feeder_from (pushed_numbers r l)) ≡ r) (list_whole 17 old size) (λ i. record {
        store = record { unit = sym q.unit i; capacity = sym q.capacity i; len = r.store.len; mark = mark_back r.store.mark i };
        limit = sym q.limit i;
        pre = sym q.pre i;
        armed = armed_stays (waits_in old) (lines_in old) r.armed q.armed i;
        previous = previous_back r.previous q.previous i;
        place = r.place;
        kept = r.kept;
      })
