-- Whatever the call answers is 02's replay of the run, so 02's claims of it hold.
use mathlib.Core.Path.{◌≡◌, sym, ap, ◌∙◌, subst}
use mathlib.Core.List.{List, [], ◌∷◌}
use Prim.Native.Nat.{ℕ}
use Rattle.std.specs.Prelude.{Option}
use lib.ListN.{length}
use Rattle.rules.specs.Encoder.{Turns, encoder, opposite, pair_row}
use Rattle.rules.specs.Refusal.{first_of, top_line}
use Rattle.rules.proofs.Encoder.{Balanced, steps, position_is, counts_are, cut_turns}
use Rattle.rules.proofs.Home.{Home, reverse_turns, trials_home}
use Rattle.capture.specs.declared.Capture.{Capture}
use Rattle.capture.proofs.Answer.{unless_given}
use Rattle.claim_captures.specs.Words.{Memory, at}
use Rattle.claim_captures.specs.Turns.{Replayed, Reversed}
use Rattle.claim_captures.specs.Claim.{Held, SaysTurns, EncodersReplay, EncodersReverse}
use Rattle.claim_captures.proofs.Answers.{answers}

-- every answer is the rule's
abbrev pub Replays : List ℕ → (ℕ → ℕ → Turns → Type 0) → Type 0
Replays run says = (a b : ℕ) (t : Turns) → says a b t → t ≡ encoder (at run) (length run) a b

pub replayed : (run : List ℕ) (says : ℕ → ℕ → Turns → Type 0) → Replays run says → Replayed run says
replayed run says is = record {
  position = λ a b t s. subst (λ (u : Turns). Balanced u) (sym (is a b t s)) (position_is (at run) (length run) a b);
  counts = λ a b t s. ap steps (is a b t s) ∙ counts_are (at run) (length run) a b;
  parts = λ a b t s first rest r e. cut_turns (at run) (length run) a b first rest r e ∙ sym (is a b t s);
  home = λ n turn e a b t s.
      let h = subst (λ (u : Turns). Home u) (sym (is a b t s ∙ ap (λ (l : List ℕ). encoder (at l) (length l) a b) e)) (trials_home turn n a b) in
      (h.position, h.steps);
}

pub reversed : (run₁ : List ℕ) (says₁ : ℕ → ℕ → Turns → Type 0) (run₂ : List ℕ) (says₂ : ℕ → ℕ → Turns → Type 0) → Replays run₁ says₁ → Replays run₂ says₂ → Reversed run₁ says₁ run₂ says₂
reversed run₁ says₁ run₂ says₂ is₁ is₂ e a b t u s₁ s₂ =
    is₂ a b u s₂
    ∙ ap (λ (l : List ℕ). encoder (at l) (length l) a b) e
    ∙ reverse_turns run₁ a b
    ∙ ap opposite (sym (is₁ a b t s₁))

-- of a capture that holds a run
pub capture_replays : {run : List ℕ} {mark : Option ℕ} (c : Capture) (m : Memory) → Held run mark c m → Replays run (SaysTurns c m)
capture_replays c m h a b t s = sym (unless_given _ (first_of (pair_row top_line a b ∷ [])) t (sym (((answers c m h).encoder_is a b).is s.0 s.1) ∙ s.2)).1

pub encoders_replay : EncodersReplay
encoders_replay run mark c m h = replayed run (SaysTurns c m) (capture_replays c m h)

pub encoders_reverse : EncodersReverse
encoders_reverse run₁ mark₁ c₁ m₁ run₂ mark₂ c₂ m₂ one two = reversed run₁ (SaysTurns c₁ m₁) run₂ (SaysTurns c₂ m₂) (capture_replays c₁ m₁ one) (capture_replays c₂ m₂ two)
