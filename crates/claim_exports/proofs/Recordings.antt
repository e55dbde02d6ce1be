-- A recording made through the exports is one of the calls: the numbers read back as the record that each call returned. So its numbers and memory hold its run.
use mathlib.Core.Path.{◌≡◌, refl, sym, ap, ap₂, ◌∙◌, subst⁻¹}
use mathlib.Core.List.{List, [], ◌∷◌, map}
use Prim.Native.Nat.{ℕ, zero, suc, ◌-◌}
use native.Mathlib.Nat.{suc-ne-zero}
use lib.ListN.{length}
use Rattle.rebuild.specs.Rebuild.{level_after}
use Rattle.rules.specs.Sample.{sample_of}
use Rattle.rules.specs.Answer.{given, unless}
use Rattle.rules.specs.Selection.{Reply, refused, going_on, complete}
use Rattle.rules.specs.Selection as selected
use Rattle.rules.specs.SampleBytes.{Bytes}
use Rattle.rules.specs.Refusal.{Lent, Recorder, start_refusal}
use Rattle.rules.specs.Push.{Left}
use Rattle.rules.specs.Start.{Begun, begun}
use Rattle.capture.specs.declared.Capture.{Capture}
use Rattle.feeder.specs.declared.Feeder.{Feeder}
use Rattle.feeder.specs.Record.{recorder_of}
use Rattle.feeder_push.specs.declared.Pushed.{Pushed}
use Rattle.std.specs.Prelude.{Result}
use Rattle.answer.specs.declared.Refusal.{Refusal}
use Rattle.feeder_push.specs.Push.{reply_as, feeder_in}
use Rattle.feeder_numbers.specs.Numbers.{feeder_from}
use Rattle.term_bytes.specs.Bytes.{terms_in}
use Rattle.codes.specs.Code.{plain, Out}
use Rattle.codes.specs.Record.{capture_in}
use Rattle.feeder_codes.specs.Recorder.{wish_in, begun_numbers, reply_code}
use Rattle.feeder_codes.proofs.ReadBack.{start_back, begun_size, store_first, after_size, push_back}
use Rattle.logic_core.specs.Recorder.{left_for, PushesOut}
use Rattle.claim_captures.specs.Words.{levels, AreBytes}
use Rattle.claim_captures.specs.Claim.{Held}
use Rattle.claim_captures.proofs.Answers.{anywhere, somewhere}
use Rattle.claim_recording.specs.Claim as calls
use Rattle.claim_recording.specs.Claim.Pushing.{stop as called-stop, step as called-step}
use Rattle.claim_recording.proofs.Existence.{pushed_for}
use Rattle.claim_recording.proofs.Selection.{selection}
use Rattle.claim_exports.specs.Claim.{Memory, Given, settings, MayStart, MayPush, Pushing, Recording, ruled, run, mark, asked, code_of}
use Rattle.claim_exports.specs.Claim.Pushing.{stop, step}

abbrev lent : Memory → calls.Memory
lent m = record { store = m.store; ring = m.ring }

abbrev given_as : Given → calls.Given
given_as g = record { channels = g.channels; capacity = g.capacity; limit = g.limit; terms = terms_in g.terms; wish = wish_in g.seconds g.wish; rate = g.rate }

abbrev lengths : Memory → Lent
lengths m = calls.lengths m.store

-- ---- start
-- code 0: no row refuses, and the numbers are the fresh recorder's
code_zero : (n : ℕ) (b : Begun) (old new : List ℕ) → Out begun_numbers (plain (unless n b)) 0 old new → (n ≡ 0) × (new ≡ begun_numbers b old)
code_zero zero b old new out = (refl, out.value_is)
code_zero (suc n) b old new out = absurd (suc-ne-zero n (sym out.code_is))

module _ (g : Given) (m : Memory) (blank : List ℕ) (size : length blank ≡ 17) (cut : ℕ) (fresh : List ℕ) (was_cut : ℕ) (may : MayStart g m blank cut 0 fresh was_cut) where
  started : (start_refusal (settings g) (lengths m) (length m.ring) ≡ 0) × (fresh ≡ begun_numbers (begun (settings g)) blank)
  started = code_zero (start_refusal (settings g) (lengths m) (length m.ring)) (begun (settings g)) blank fresh may.6.0

  fresh_is : recorder_of (feeder_from fresh) ≡ (begun (settings g)).recorder
  fresh_is = ap (λ (l : List ℕ). recorder_of (feeder_from l)) started.1 ∙ start_back (settings g) (lengths m) (length m.ring) blank size started.0

  fresh_size : length fresh ≡ 17
  fresh_size = ap length started.1 ∙ begun_size (begun (settings g)).recorder blank ∙ size

-- ---- one push
module _ (numbers : List ℕ) (size : length numbers ≡ 17) (m : Memory) (bytes : List ℕ) (are : Bytes bytes) (code : ℕ) (numbers' : List ℕ) (m' : Memory) (may : MayPush numbers m bytes code numbers' m') where
  out : PushesOut (feeder_from numbers) bytes m.store.samples (levels m.store) m.ring code numbers numbers' m'.store.samples (levels m'.store) m'.ring
  out = may.5

  abbrev left : Left
  left = left_for (feeder_from numbers) bytes m.store.samples (levels m.store) m.ring

  -- the record that the call under it returns is what the numbers read
  reads : recorder_of (feeder_from numbers') ≡ left.recorder
  reads = ap (λ (l : List ℕ). recorder_of (feeder_from l)) out.numbers_are ∙ push_back numbers size (lengths m) m.store.samples m.ring bytes are

  -- its answer
  told : (v : Result Pushed Refusal) × (reply_as v ≡ left.reply) × (feeder_in (feeder_from numbers) v ≡ feeder_from numbers')
  told = pushed_for (feeder_from numbers) (feeder_from numbers') (lengths m) m.store.samples m.ring bytes reads

  pushed_size : length numbers' ≡ 17
  pushed_size = ap length out.numbers_are ∙ after_size numbers left.reply left.recorder ∙ size

  len_is : left.recorder.store.len ≡ (feeder_in (feeder_from numbers) told.0).capture.len
  len_is = ap (λ (r : Recorder). r.store.len) (sym reads) ∙ ap (λ (f : Feeder). f.capture.len) (sym told.2)

  may_push : calls.MayPush (feeder_from numbers) (lent m) bytes told.0 (lent m')
  may_push = (
    ([], ([], ([], ([], ([], ([], ([], tt))))))),
    somewhere,
    anywhere,
    anywhere,
    record {
      left_is = λ i. record { reply = told.1 i; recorder = (ap recorder_of told.2 ∙ reads) i; samples = out.samples_are i; ring = out.ring_is i };
      levels_are = λ l a b. out.levels_are l a b ∙ ap (λ (n : ℕ). level_after (sample_of (feeder_from numbers).capture.unitsize m'.store.samples) (levels m.store l) (feeder_from numbers).capture.len (n - (feeder_from numbers).capture.len) l) len_is;
    },
  )

  code_told : code ≡ reply_code (reply_as told.0)
  code_told = out.code_is ∙ ap reply_code (sym told.1)

-- ---- a list
record Told (numbers : List ℕ) (m : Memory) (pushes : List (List ℕ)) (codes numbers'' : List ℕ) (m'' : Memory) : Type 0 where
  replies : List Reply
  pushed : calls.Pushing (feeder_from numbers) (lent m) pushes replies (feeder_from numbers'') (lent m'')
  codes_are : codes ≡ map reply_code replies

all_told : (numbers : List ℕ) → length numbers ≡ 17 → {m : Memory} {pushes : List (List ℕ)} {codes numbers'' : List ℕ} {m'' : Memory} → AreBytes pushes → Pushing numbers m pushes codes numbers'' m'' → Told numbers m pushes codes numbers'' m''
all_told numbers size are stop = record { replies = []; pushed = called-stop; codes_are = refl }
all_told numbers size {m = m} are (step {bytes = bytes} {code = code} {numbers' = numbers'} {m' = m'} {pushes = pushes} {numbers'' = numbers''} {m'' = m''} may rest) =
    let v = told numbers size m bytes are.0 code numbers' m' may in
    let more = all_told numbers' (pushed_size numbers size m bytes are.0 code numbers' m' may) are.1 rest in
    record {
      replies = reply_as v.0 ∷ more.replies;
      pushed = called-step (may_push numbers size m bytes are.0 code numbers' m' may) (subst⁻¹ (λ (f : Feeder). calls.Pushing f (lent m') pushes more.replies (feeder_from numbers'') (lent m'')) v.2 more.pushed);
      codes_are = ap₂ (λ (n : ℕ) (ns : List ℕ). n ∷ ns) (code_told numbers size m bytes are.0 code numbers' m' may) more.codes_are;
    }

-- ---- the recording of the calls
module _ (r : Recording) where
  done : Told r.fresh r.before r.pushes r.codes r.numbers r.memory
  done = all_told r.fresh (fresh_size r.setup r.before r.blank r.seventeen r.cut r.fresh r.was_cut r.started) r.are_bytes r.pushed

  abbrev recorded : calls.Recording
  recorded = record {
    setup = given_as r.setup;
    before = lent r.before;
    fresh = feeder_from r.fresh;
    was_cut = (begun (settings r.setup)).was_cut;
    started =
        ap (λ (c : Recorder). given (record { recorder = c; was_cut = (begun (settings r.setup)).was_cut })) (fresh_is r.setup r.before r.blank r.seventeen r.cut r.fresh r.was_cut r.started)
        ∙ sym (ap (λ (n : ℕ). unless n (begun (settings r.setup))) (started r.setup r.before r.blank r.seventeen r.cut r.fresh r.was_cut r.started).0);
    pushes = r.pushes;
    are_bytes = r.are_bytes;
    replies = done.replies;
    feeder = feeder_from r.numbers;
    memory = lent r.memory;
    pushed = done.pushed;
  }

  -- its first five numbers hold the run
  pub recording_held : Held (run r) (mark r) (capture_in (asked r)) r.memory.store
  recording_held = subst⁻¹ (λ (c : Capture). Held (run r) (mark r) c r.memory.store) (store_first r.numbers) (selection recorded).held

  code_same : (x : Reply) → reply_code x ≡ code_of x
  code_same (refused n) = refl
  code_same going_on = refl
  code_same complete = refl

  codes_same : (xs : List Reply) → map reply_code xs ≡ map code_of xs
  codes_same [] = refl
  codes_same (x ∷ xs) = ap₂ (λ (n : ℕ) (ns : List ℕ). n ∷ ns) (code_same x) (codes_same xs)

  pub recording_codes : r.codes ≡ map code_of (selected.replies_of (ruled r) r.pushes)
  recording_codes = done.codes_are ∙ codes_same done.replies ∙ ap (map code_of) (selection recorded).replies_are
