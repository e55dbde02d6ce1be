-- What lc_mill_encoder puts behind its pointers reads back as 02's replay of the run, so 02's claims of it hold.
use mathlib.Core.List.{List}
use Rattle.std.specs.Prelude.{Option}
use Prim.Native.Nat.{ℕ}
use lib.ListN.{length}
use Rattle.rules.specs.Encoder.{encoder}
use Rattle.rules.specs.Refusal.{first_of}
use Rattle.rules.specs.Mill.{mill_encoder_rows}
use Rattle.codes.specs.Record.{capture_in}
use Rattle.claim_captures.specs.Words.{Memory, at}
use Rattle.claim_captures.specs.Claim.{Held}
use Rattle.claim_captures.proofs.Turns.{Replays, replayed, reversed}
use Rattle.claim_exports.specs.Claim.{run, asked}
use Rattle.claim_exports.proofs.Turns.{read_as}
use Rattle.claim_exports.proofs.Recordings.{recording_held}
use Rattle.claim_mill_exports.specs.Claim.{SaysTurns, EncodersReplay, EncodersReverse}
use Rattle.claim_mill_exports.proofs.Answers.{mill_exports_answer}

mill_exports_replay : {run : List ℕ} {mark : Option ℕ} (grant : ℕ) (numbers : List ℕ) (m : Memory) → Held run mark (capture_in numbers) m → Replays run (SaysTurns grant numbers m)
mill_exports_replay {run} grant numbers m h a b t s = read_as (first_of (mill_encoder_rows grant a b)) (encoder (at run) (length run) a b) t ((mill_exports_answer numbers m h grant).encoder_is a b) s

pub encoders_replay : EncodersReplay
encoders_replay grant r = replayed (run r) (SaysTurns grant (asked r) r.memory.store) (mill_exports_replay grant (asked r) r.memory.store (recording_held r))

pub encoders_reverse : EncodersReverse
encoders_reverse grant₁ grant₂ one two =
    reversed (run one) (SaysTurns grant₁ (asked one) one.memory.store) (run two) (SaysTurns grant₂ (asked two) two.memory.store) (mill_exports_replay grant₁ (asked one) one.memory.store (recording_held one)) (mill_exports_replay grant₂ (asked two) two.memory.store (recording_held two))
