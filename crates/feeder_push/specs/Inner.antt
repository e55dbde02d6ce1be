-- What the inner functions promise.
use Rattle.std.specs.Prelude.{◌≡◌, List, ℕ, ◌+◌, ◌-◌, Option, None, Some, Result}
use Rattle.rules.specs.Trigger.{unarmed}
use Rattle.rules.specs.Selection.{Reply, refused, reply_of}
use Rattle.rules.specs.Refusal.{Recorder}
use Rattle.rules.specs.Ring.{ring_bytes}
use Rattle.rules.specs.Push.{Left, with_len, waited_for}
use Rattle.feeder_lists.specs.Push.{store_bytes}
use Rattle.answer.specs.declared.Refusal.{Refusal}
use Rattle.store.specs.Stored.{LevelsAfter}
use Rattle.feeder.specs.declared.Feeder.{Feeder}
use Rattle.feeder.specs.Record.{recorder_of}
use Rattle.feeder_scan.specs.Scan.{samples_in}
use Rattle.feeder_scan.specs.declared.samples.Samples.{Samples}
use Rattle.feeder_push.specs.declared.Pushed.{Pushed}
use Rattle.feeder_push.specs.Push.{reply_as, feeder_in}

-- an answer of f, with the memory that is left
abbrev pub left_in : Feeder → Result Pushed Refusal → List ℕ → List ℕ → Left
left_in f answer samples ring = record { reply = reply_as answer; recorder = recorder_of (feeder_in f answer); samples = samples; ring = ring }

-- ---- to the store
-- the answer of c, an unarmed recorder, once samples went to its store, and the record that is left
abbrev pub reply_for : Recorder → Option ℕ → Reply
reply_for c None = refused 8
reply_for c (Some k) = reply_of unarmed c.limit (c.store.len + k)

abbrev pub recorder_for : Recorder → Recorder → Option ℕ → Recorder
recorder_for back c None = back
recorder_for back c (Some k) = with_len c (c.store.len + k)

-- where samples had no room, the record is whichever it was before
pub record Answers (c : Recorder) (taken : Option ℕ) (answer : Result Pushed Refusal) : Type 0 where
  pub reply_is : reply_as answer ≡ reply_for c taken
  pub recorder_is : (back : Feeder) → recorder_of (feeder_in back answer) ≡ recorder_for (recorder_of back) c taken

-- n samples, x their bytes, went to the store of c as far as the limit has room, or had no room and `back` is left; whatever the ring holds
pub record Stores (back : Feeder) (c : Recorder) (n : ℕ) (x samples : List ℕ) (levels : ℕ → List ℕ) (answer : Result Pushed Refusal) (samples' : List ℕ) (levels' : ℕ → List ℕ) : Type 0 where
  pub left_is : (ring : List ℕ) → left_in back answer samples' ring ≡ store_bytes (recorder_of back) c samples ring n x
  pub levels_are : LevelsAfter c.store.unit c.store.len ((feeder_in back answer).capture.len - c.store.len) samples' levels levels'

-- ---- to the ring
-- the record, and the ring
pub record Waits (c : Recorder) (p : Samples) (ring : List ℕ) (r : Feeder) (ring' : List ℕ) : Type 0 where
  pub recorder_is : recorder_of r ≡ waited_for c (samples_in p)
  pub ring_is : ring' ≡ ring_bytes p.unitsize c.pre ring c.place p.n p.bytes.now
