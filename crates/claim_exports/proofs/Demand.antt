-- Demand 3 over the exports: a recording's numbers and memory hold its run, so its answers are 01's, and two look alike exactly when their runs are the same to the viewer. So its densities add up, and its encoders replay.
use Rattle.claim_captures.proofs.Turns.{replayed, reversed}
use Rattle.claim_exports.specs.Questions.{SaysTurns}
use Rattle.claim_exports.specs.Claim.{Recording, Selects, asked, run, Demand3, DensitiesAdd, EncodersReplay, EncodersReverse}
use Rattle.claim_exports.proofs.Answers.{exports_answer}
use Rattle.claim_exports.proofs.Alike.{exports_alike, additive}
use Rattle.claim_exports.proofs.Turns.{exports_replay}
use Rattle.claim_exports.proofs.Recordings.{recording_held, recording_codes}

selects : (r : Recording) → Selects r
selects r = record {
  len_is = (recording_held r).len_is;
  mark_is = (recording_held r).mark_is;
  codes_are = recording_codes r;
}

pub demand3 : Demand3
demand3 one two v = (
  selects one,
  selects two,
  exports_answer (asked one) one.memory.store (recording_held one),
  exports_answer (asked two) two.memory.store (recording_held two),
  exports_alike (asked one) one.memory.store (asked two) two.memory.store (recording_held one) (recording_held two) v,
)

pub densities_add : DensitiesAdd
densities_add r = additive (asked r) r.memory.store (recording_held r)

pub encoders_replay : EncodersReplay
encoders_replay r = replayed (run r) (SaysTurns (asked r) r.memory.store) (exports_replay (asked r) r.memory.store (recording_held r))

pub encoders_reverse : EncodersReverse
encoders_reverse one two =
    reversed (run one) (SaysTurns (asked one) one.memory.store) (run two) (SaysTurns (asked two) two.memory.store) (exports_replay (asked one) one.memory.store (recording_held one)) (exports_replay (asked two) two.memory.store (recording_held two))
