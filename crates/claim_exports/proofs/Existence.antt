-- Recordings and filled stores exist: on any numbers, memory and bytes there is something that each export may give and leave.
use mathlib.Core.Path.{refl, subst⁻¹}
use mathlib.Core.List.{List, [], ◌∷◌}
use Prim.Native.Nat.{ℕ, ◌+◌, ◌*◌, ◌-◌}
use lib.Seq.{paste}
use Rattle.rules.specs.Sample.{sample_of}
use Rattle.rules.specs.Answer.{unless}
use Rattle.rules.specs.Refusal.{fresh}
use Rattle.rules.specs.Push.{Left}
use Rattle.rules.specs.Start.{begun}
use Rattle.rebuild.specs.Rebuild.{level_after}
use Rattle.capture.specs.declared.Capture.{Capture}
use Rattle.append.specs.Append.{refusal_of, taken_of}
use Rattle.feeder_numbers.specs.Numbers.{feeder_from}
use Rattle.codes.specs.Code.{plain, Out}
use Rattle.codes.specs.Record.{capture_in, store_numbers, len_number, flag_number}
use Rattle.feeder_codes.specs.Recorder.{begun_numbers, cut_number, reply_code, numbers_after}
use Rattle.logic_core.specs.Recorder.{left_for}
use Rattle.claim_captures.specs.Words.{levels}
use Rattle.claim_captures.specs.Words as words
use Rattle.claim_captures.proofs.Answers.{anywhere, somewhere, four_levels}
use Rattle.claim_exports.specs.Claim.{Memory, settings, MayPush, Pushing, Existence}
use Rattle.claim_exports.specs.Claim.Pushing.{stop, step}
use Rattle.claim_exports.specs.Filled.{MayAppend, Appending}
use Rattle.claim_exports.specs.Filled as filled
use Rattle.claim_exports.specs.Filled.Appending.{stop as appends-stop, step as appends-step}
use Rattle.claim_exports.proofs.Answers.{nowhere}

-- ---- one push
module _ (numbers : List ℕ) (m : Memory) (bytes : List ℕ) where
  abbrev left : Left
  left = left_for (feeder_from numbers) bytes m.store.samples (levels m.store) m.ring

  abbrev pushed : List ℕ
  pushed = numbers_after left.reply left.recorder numbers

  abbrev level : ℕ → List ℕ
  level l = level_after (sample_of (feeder_from numbers).capture.unitsize left.samples) (levels m.store l) (feeder_from numbers).capture.len (left.recorder.store.len - (feeder_from numbers).capture.len) l

  abbrev after : Memory
  after = record { store = record { samples = left.samples; l1 = level 1; l2 = level 2; l3 = level 3; l4 = level 4 }; ring = left.ring }

  may_push : MayPush numbers m bytes (reply_code left.reply) pushed after
  may_push = (
    ([], ([], ([], ([], ([], ([], ([], ([], tt)))))))),
    anywhere,
    somewhere,
    anywhere,
    anywhere,
    record { code_is = refl; numbers_are = refl; samples_are = refl; ring_is = refl; levels_are = four_levels level },
  )

record Pushes (numbers : List ℕ) (m : Memory) (pushes : List (List ℕ)) : Type 0 where
  codes : List ℕ
  last : List ℕ
  memory : Memory
  are : Pushing numbers m pushes codes last memory

pushes_for : (pushes : List (List ℕ)) (numbers : List ℕ) (m : Memory) → Pushes numbers m pushes
pushes_for [] numbers m = record { codes = []; last = numbers; memory = m; are = stop }
pushes_for (b ∷ bs) numbers m =
    let rest = pushes_for bs (pushed numbers m b) (after numbers m b) in
    record { codes = reply_code (left numbers m b).reply ∷ rest.codes; last = rest.last; memory = rest.memory; are = step (may_push numbers m b) rest.are }

pub existence : Existence
existence g m ok blank size pushes are = record {
  recording = record {
    setup = g;
    before = m;
    blank = blank;
    seventeen = size;
    cut = 0;
    fresh = first;
    was_cut = flag_number (begun (settings g)).was_cut;
    started = (
      ([], ([], ([], ([], ([], ([], tt)))))),
      anywhere,
      somewhere,
      anywhere,
      anywhere,
      nowhere,
      subst⁻¹ (λ (n : ℕ). Out begun_numbers (plain (unless n (begun (settings g)))) 0 blank first × Out cut_number (plain (unless n (begun (settings g)))) 0 0 (flag_number (begun (settings g)).was_cut)) ok
          (record { code_is = refl; value_is = refl }, record { code_is = refl; value_is = refl }),
    );
    pushes = pushes;
    are_bytes = are;
    codes = done.codes;
    numbers = done.last;
    memory = done.memory;
    pushed = done.are;
  };
  setup_is = refl;
  before_is = refl;
  blank_is = refl;
  pushes_are = refl;
}
  where
    first : List ℕ
    first = begun_numbers (begun (settings g)) blank

    done : Pushes first m pushes
    done = pushes_for pushes first m

-- ---- one append
module _ (numbers : List ℕ) (m : words.Memory) (bytes : List ℕ) where
  abbrev c : Capture
  c = capture_in numbers

  abbrev n : ℕ
  n = taken_of c m.samples (levels m) bytes

  abbrev grown : List ℕ
  grown = len_number (c.len + n) numbers

  abbrev samples : List ℕ
  samples = paste m.samples (c.len * c.unitsize) bytes (n * c.unitsize)

  abbrev raised : ℕ → List ℕ
  raised l = level_after (sample_of c.unitsize samples) (levels m l) c.len n l

  abbrev behind : words.Memory
  behind = record { samples = samples; l1 = raised 1; l2 = raised 2; l3 = raised 3; l4 = raised 4 }

  may_append : MayAppend numbers m bytes (refusal_of c m.samples (levels m) bytes) grown behind
  may_append = (
    ([], ([], ([], ([], ([], ([], ([], tt))))))),
    anywhere,
    somewhere,
    anywhere,
    record { code_is = refl; numbers_are = refl; memory = record { samples_are = refl; levels_are = four_levels raised } },
  )

record Appends (numbers : List ℕ) (m : words.Memory) (appends : List (List ℕ)) : Type 0 where
  codes : List ℕ
  last : List ℕ
  memory : words.Memory
  are : Appending numbers m appends codes last memory

appends_for : (appends : List (List ℕ)) (numbers : List ℕ) (m : words.Memory) → Appends numbers m appends
appends_for [] numbers m = record { codes = []; last = numbers; memory = m; are = appends-stop }
appends_for (b ∷ bs) numbers m =
    let rest = appends_for bs (grown numbers m b) (behind numbers m b) in
    record { codes = refusal_of (capture_in numbers) m.samples (levels m) b ∷ rest.codes; last = rest.last; memory = rest.memory; are = appends-step (may_append numbers m b) rest.are }

pub filled_existence : filled.Existence
filled_existence channels capacity m ok blank size appends are = record {
  filling = record {
    channels = channels;
    capacity = capacity;
    before = m;
    blank = blank;
    five = size;
    fresh = first;
    started = (
      ([], ([], ([], tt))),
      somewhere,
      anywhere,
      subst⁻¹ (λ (n : ℕ). Out store_numbers (plain (unless n (fresh channels capacity))) 0 blank first) ok (record { code_is = refl; value_is = refl }),
    );
    appends = appends;
    are_bytes = are;
    codes = done.codes;
    numbers = done.last;
    memory = done.memory;
    appended = done.are;
  };
  channels_are = refl;
  capacity_is = refl;
  before_is = refl;
  blank_is = refl;
  appends_are = refl;
}
  where
    first : List ℕ
    first = store_numbers (fresh channels capacity) blank

    done : Appends first m appends
    done = appends_for appends first m
