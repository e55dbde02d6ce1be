-- Lists of appends exist: start may give a store whenever 1 and 2 do not refuse, and on any record, memory and bytes there is something that append may answer and leave.
use mathlib.Core.Path.{◌≡◌, refl, sym, ap}
use mathlib.Core.Logic.{inl, inr}
use mathlib.Core.List.{List, [], ◌∷◌}
use Prim.Native.Nat.{ℕ, ◌+◌, ◌*◌}
use native.Mathlib.Omega.{arith}
use lib.Seq.{paste}
use Rattle.std.specs.Prelude.{None, Result, Ok, Err}
use Rattle.rules.specs.Sample.{unit_of, sample_of, sample_count}
use Rattle.rules.specs.Refusal.{fresh, room_row}
use Rattle.rules.specs.Answer.{unless}
use Rattle.answer.specs.declared.Refusal.{Refusal}
use Rattle.answer.specs.declared.Refusal.TheVariants.{Full}
use Rattle.answer.specs.Answered.{told_of}
use Rattle.answer.specs.Answered as answered
use Rattle.answer.proofs.Answered.{number_least, stops, goes}
use Rattle.claim_alike.proofs.Rows.{Told}
use Rattle.rebuild.specs.Rebuild.{level_after}
use Rattle.capture.specs.Record.{store_of, lent_of}
use Rattle.capture.specs.declared.Capture.{Capture}
use Rattle.append.specs.Append.{record_of, grown, refusal_of, taken_of}
use Rattle.append.proofs.Answer.{taken_none}
use Rattle.claim_captures.specs.Words.{Memory, levels}
use Rattle.claim_captures.proofs.Rows.{store_told}
use Rattle.claim_captures.proofs.Answers.{anywhere, somewhere, four_levels}
use Rattle.claim_appends.specs.Claim.{MayAppend, Appending, Existence}
use Rattle.claim_appends.specs.Claim.Appending.{stop, step}

-- ---- one append
module _ (c : Capture) (m : Memory) (bytes : List ℕ) where
  abbrev number : ℕ
  number = refusal_of c m.samples (levels m) bytes

  abbrev n : ℕ
  n = taken_of c m.samples (levels m) bytes

  -- nothing refuses, or the number is its row's
  pub append_told : Told number
  unfolding refusal_of
  append_told = store_told (store_of c) (lent_of m.samples (levels m)) (room_row (store_of c) (sample_count c.unitsize bytes) ∷ []) ((Full, refl), tt)

  -- the refusal of its row, or the record with the samples
  told : (v : Result Capture Refusal) × (told_of v ≡ unless number (grown c n)) × (answered.refusal_of v ≡ number) × (record_of c v ≡ grown c n)
  told = go append_told
    where
      go : Told number → (v : Result Capture Refusal) × (told_of v ≡ unless number (grown c n)) × (answered.refusal_of v ≡ number) × (record_of c v ≡ grown c n)
      go (inl z) = (Ok (grown c n), goes number (grown c n) (grown c n) z refl, sym z, refl)
      go (inr r) = (Err r.0, stops r.0 number (grown c n) r.1, r.1, λ i. record { unitsize = c.unitsize; capacity = c.capacity; len = same i; trigger = c.trigger })
        where
          same : c.len ≡ c.len + n
          same = omega (arith, taken_none c bytes m.samples (levels m) (λ z. omega (arith, number_least r.0, r.1, z)))

  abbrev samples : List ℕ
  samples = paste m.samples (c.len * c.unitsize) bytes (n * c.unitsize)

  abbrev level : ℕ → List ℕ
  level l = level_after (sample_of c.unitsize samples) (levels m l) c.len n l

  abbrev after : Memory
  after = record { samples = samples; l1 = level 1; l2 = level 2; l3 = level 3; l4 = level 4 }

  may_append : MayAppend c m bytes told.0 after
  may_append = (
    ([], ([], ([], ([], ([], ([], tt)))))),
    somewhere,
    anywhere,
    record { answer_is = told.1; number_is = told.2; record_is = told.3; memory = record { samples_are = refl; levels_are = four_levels level } },
  )

-- ---- a list
record Appends (c : Capture) (m : Memory) (appends : List (List ℕ)) : Type 0 where
  numbers : List ℕ
  capture : Capture
  memory : Memory
  are : Appending c m appends numbers capture memory

appends_for : (appends : List (List ℕ)) (c : Capture) (m : Memory) → Appends c m appends
appends_for [] c m = record { numbers = []; capture = c; memory = m; are = stop }
appends_for (b ∷ bs) c m =
    let rest = appends_for bs (record_of c (told c m b).0) (after c m b) in
    record { numbers = answered.refusal_of (told c m b).0 ∷ rest.numbers; capture = rest.capture; memory = rest.memory; are = step (may_append c m b) rest.are }

pub existence : Existence
existence channels capacity m ok appends are = record {
  filling = record {
    channels = channels;
    capacity = capacity;
    before = m;
    fresh = empty;
    started = (([], tt), somewhere, sym (ap (λ (n : ℕ). unless n (fresh channels capacity)) ok));
    appends = appends;
    are_bytes = are;
    numbers = done.numbers;
    capture = done.capture;
    memory = done.memory;
    appended = done.are;
  };
  channels_are = refl;
  capacity_is = refl;
  before_is = refl;
  appends_are = refl;
}
  where
    empty : Capture
    empty = record { unitsize = unit_of channels; capacity = capacity; len = 0; trigger = None }

    done : Appends empty m appends
    done = appends_for appends empty m
