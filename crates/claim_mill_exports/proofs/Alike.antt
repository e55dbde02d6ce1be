-- Two captures that hold a run each tell a mill the same through the exports where the runs are the same in length, mark and granted lines: what the calls answer is the same then.
use mathlib.Core.Path.{refl, ap}
use mathlib.Core.List.{List}
use Rattle.std.specs.Prelude.{Option}
use Prim.Native.Nat.{ℕ}
use lib.IntN.{ℤ}
use Rattle.rules.specs.Node.{Lines}
use Rattle.rules.specs.Walk.{Counted}
use Rattle.rules.specs.Encoder.{Turns}
use Rattle.rules.specs.Mill.{MillBurst}
use Rattle.rules.specs.Answer.{Answer}
use Rattle.pixel.specs.declared.View.{View}
use Rattle.codes.specs.Record.{capture_in}
use Rattle.claim_captures.specs.Words.{Memory, Same}
use Rattle.claim_captures.specs.Claim.{Held}
use Rattle.claim_captures.proofs.Alike.{agreed, same_seen, given_same}
use Rattle.claim_mill.specs.Claim as calls
use Rattle.claim_mill.proofs.Alike.{captures_show}
use Rattle.claim_exports.specs.Questions.{got, copies, turned, drawn}
use Rattle.claim_exports.specs.Claim.{asked}
use Rattle.claim_exports.proofs.Recordings.{recording_held}
use Rattle.claim_mill_exports.specs.Claim.{bounded, summed_by, found, bursted, MillAnswers, MillAlike, MillLearns}
use Rattle.claim_mill_exports.proofs.Answers.{mill_exports_answer}

module _ (grant : ℕ) {run₁ : List ℕ} {mark₁ : Option ℕ} (n₁ : List ℕ) (m₁ : Memory) {run₂ : List ℕ} {mark₂ : Option ℕ} (n₂ : List ℕ) (m₂ : Memory)
    (one : Held run₁ mark₁ (capture_in n₁) m₁) (two : Held run₂ mark₂ (capture_in n₂) m₂) (same : Same grant run₁ mark₁ run₂ mark₂) where
  abbrev a₁ : MillAnswers grant run₁ mark₁ n₁ m₁
  a₁ = mill_exports_answer n₁ m₁ one grant

  abbrev a₂ : MillAnswers grant run₂ mark₂ n₂ m₂
  a₂ = mill_exports_answer n₂ m₂ two grant

  -- the answers of the calls
  abbrev c₁ : calls.MillAnswers grant run₁ mark₁ (capture_in n₁) m₁
  c₁ = (captures_show grant run₁ mark₁ (capture_in n₁) m₁ run₂ mark₂ (capture_in n₂) m₂ one two).0

  abbrev c₂ : calls.MillAnswers grant run₂ mark₂ (capture_in n₂) m₂
  c₂ = (captures_show grant run₁ mark₁ (capture_in n₁) m₁ run₂ mark₂ (capture_in n₂) m₂ one two).1

  abbrev look : calls.MillAlike grant (capture_in n₁) m₁ (capture_in n₂) m₂
  look = (captures_show grant run₁ mark₁ (capture_in n₁) m₁ run₂ mark₂ (capture_in n₂) m₂ one two).2 same

  pub mill_exports_alike : MillAlike grant n₁ m₁ n₂ m₂
  mill_exports_alike = record {
    extents = λ first end marked. agreed (λ x. x) (a₁.extent_is first end marked) (a₂.extent_is first end marked) (ap bounded (given_same _ _ (same_seen (λ x. x) c₁.extent_is c₂.extent_is look.extents)));
    gets = λ p value. agreed (λ x. x) (a₁.get_is p value) (a₂.get_is p value) (ap (λ (x : Answer ℕ). got x value) (same_seen (λ x. x) (c₁.get_is p) (c₂.get_is p) (look.gets p)));
    samples = λ p n output old.
        agreed (λ x. x) (a₁.samples_are p n output old) (a₂.samples_are p n output old)
        (ap (λ (x : Answer (List ℕ)). copies x output old) (same_seen (λ x. x) (c₁.samples_are p n output) (c₂.samples_are p n output) (look.samples p n output output refl)));
    summaries = λ a b node size.
        agreed (λ x. x) (a₁.summary_is a b node size) (a₂.summary_is a b node size)
        (ap (λ (x : Answer (Option Lines)). summed_by x node) (same_seen (λ x. x) (c₁.summary_is a b) (c₂.summary_is a b) (look.summaries a b)));
    nexts = λ mask p old read.
        agreed (λ x. x) (a₁.next_is mask p old read) (a₂.next_is mask p old read)
        (ap (λ (x : Answer (Counted ℤ)). found x old read) (same_seen (λ x. x) (c₁.next_is mask p) (c₂.next_is mask p) (look.nexts mask p)));
    previouses = λ mask p old read.
        agreed (λ x. x) (a₁.previous_is mask p old read) (a₂.previous_is mask p old read)
        (ap (λ (x : Answer (Counted ℤ)). found x old read) (same_seen (λ x. x) (c₁.previous_is mask p) (c₂.previous_is mask p) (look.previouses mask p)));
    bursts = λ mask p gap tolerance budget first last jumps size read.
        agreed (λ x. x) (a₁.burst_is mask p gap tolerance budget first last jumps size read) (a₂.burst_is mask p gap tolerance budget first last jumps size read)
        (ap (λ (x : Answer (Counted MillBurst)). bursted x first last jumps read) (same_seen (λ x. x) (c₁.burst_is mask p gap tolerance budget) (c₂.burst_is mask p gap tolerance budget) (look.bursts mask p gap tolerance budget)));
    encoders = λ a b position counts size.
        agreed (λ x. x) (a₁.encoder_is a b position counts size) (a₂.encoder_is a b position counts size)
        (ap (λ (x : Answer Turns). turned x position counts) (same_seen (λ x. x) (c₁.encoder_is a b) (c₂.encoder_is a b) (look.encoders a b)));
    pixels = λ start spp width output.
        let view : View = record { start = start; spp = spp } in
        agreed (λ x. x) (a₁.render_is start spp width output) (a₂.render_is start spp width output)
        (ap (λ (x : Answer (List ℕ)). drawn x width output) (same_seen (λ x. x) (c₁.render_is view width output) (c₂.render_is view width output) (look.pixels view width output output refl)));
  }

pub mill_learns : MillLearns
mill_learns grant one two = (
  mill_exports_answer (asked one) one.memory.store (recording_held one) grant,
  mill_exports_answer (asked two) two.memory.store (recording_held two) grant,
  mill_exports_alike grant (asked one) one.memory.store (asked two) two.memory.store (recording_held one) (recording_held two),
)
