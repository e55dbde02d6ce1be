-- What a mill is told of an encoder is 02's replay of the run, so 02's claims of it hold.
use mathlib.Core.Path.{sym, ◌∙◌}
use mathlib.Core.List.{List}
use Rattle.std.specs.Prelude.{Option}
use Prim.Native.Nat.{ℕ}
use Rattle.rules.specs.Refusal.{first_of}
use Rattle.rules.specs.Mill.{mill_encoder_rows}
use Rattle.capture.specs.declared.Capture.{Capture}
use Rattle.capture.proofs.Answer.{unless_given}
use Rattle.claim_captures.specs.Words.{Memory}
use Rattle.claim_captures.specs.Claim.{Held}
use Rattle.claim_captures.proofs.Turns.{Replays, replayed, reversed}
use Rattle.claim_recording.specs.Claim.{store, run}
use Rattle.claim_recording.proofs.Selection.{selection}
use Rattle.claim_mill.specs.Claim.{SaysTurns, EncodersReplay, EncodersReverse}
use Rattle.claim_mill.proofs.Answers.{mill_answers}

mill_replays : {run : List ℕ} {mark : Option ℕ} (grant : ℕ) (c : Capture) (m : Memory) → Held run mark c m → Replays run (SaysTurns grant c m)
mill_replays grant c m h a b t s = sym (unless_given _ (first_of (mill_encoder_rows grant a b)) t (sym (((mill_answers c m h grant).encoder_is a b).is s.0 s.1) ∙ s.2)).1

pub encoders_replay : EncodersReplay
encoders_replay grant r = replayed (run r) (SaysTurns grant (store r) r.memory.store) (mill_replays grant (store r) r.memory.store (selection r).held)

pub encoders_reverse : EncodersReverse
encoders_reverse grant₁ grant₂ one two =
    reversed (run one) (SaysTurns grant₁ (store one) one.memory.store) (run two) (SaysTurns grant₂ (store two) two.memory.store) (mill_replays grant₁ (store one) one.memory.store (selection one).held) (mill_replays grant₂ (store two) two.memory.store (selection two).held)
