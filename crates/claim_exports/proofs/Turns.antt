-- What lc_encoder puts behind its pointers reads back as 02's replay of the run, so 02's claims of it hold.
use mathlib.Core.Path.{◌≡◌, refl, sym, ap, ◌∙◌}
use mathlib.Core.List.{List, [], ◌∷◌}
use Rattle.std.specs.Prelude.{Option}
use Prim.Native.Nat.{ℕ, zero, suc}
use native.Mathlib.Nat.{suc-ne-zero}
use lib.IntN.{ℤ}
use lib.ListN.{length}
use Rattle.rules.specs.Encoder.{Turns, encoder, pair_row}
use Rattle.rules.specs.Refusal.{first_of, top_line}
use Rattle.rules.specs.Answer.{unless}
use Rattle.codes.specs.Record.{capture_in}
use Rattle.codes.specs.Turned.{turns_in}
use Rattle.claim_captures.specs.Words.{Memory, at, Answered}
use Rattle.claim_captures.specs.Claim.{Held}
use Rattle.claim_captures.proofs.Turns.{Replays}
use Rattle.claim_exports.specs.Questions.{Turned, turned, ReadsAs, SaysTurns}
use Rattle.claim_exports.proofs.Answers.{exports_answer}

-- code 0 is an answer
turned_back : (n : ℕ) (t : Turns) (position : ℤ) (counts : List ℕ) → (turned (unless n t) position counts).code ≡ 0
    → turns_in (turned (unless n t) position counts).position (turned (unless n t) position counts).counts ≡ t
turned_back zero t position counts e = refl
turned_back (suc n) t position counts e = absurd (suc-ne-zero n e)

-- and no other
pub read_as : {may : ℤ → List ℕ → Turned → Type 0} (n : ℕ) (x t : Turns)
    → ((position : ℤ) (counts : List ℕ) → length counts ≡ 3 → Answered (may position counts) (λ v. v) (turned (unless n x) position counts))
    → ReadsAs may t → t ≡ x
read_as n x t is s =
    let told = (is s.position s.counts s.size).is s.answer s.allowed in
    sym s.reads ∙ ap (λ (v : Turned). turns_in v.position v.counts) told ∙ turned_back n x s.position s.counts (sym (ap (λ (v : Turned). v.code) told) ∙ s.yes)

pub exports_replay : {run : List ℕ} {mark : Option ℕ} (numbers : List ℕ) (m : Memory) → Held run mark (capture_in numbers) m → Replays run (SaysTurns numbers m)
exports_replay {run} numbers m h a b t s = read_as (first_of (pair_row top_line a b ∷ [])) (encoder (at run) (length run) a b) t ((exports_answer numbers m h).encoder_is a b) s
