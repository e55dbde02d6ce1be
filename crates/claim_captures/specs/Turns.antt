-- What 02 says of an encoder's answers, whatever asks for them: `says a b t` is that t may be answered for lines a and b. 02: CR 6.
use Rattle.std.specs.Prelude.{◌≡◌, List, ◌∷◌, reverse, ℕ, ◌+◌, pos, ◌-ℤ◌, length}
use Rattle.rules.specs.Cutting.{Rising, cut_end, parts_by}
use Rattle.rules.specs.Encoder.{Turns, no_turns, add_turns, encoder_in, pair_changes, opposite, trials}
use Rattle.claim_captures.specs.Words.{at}

-- of one run
pub record Replayed (run : List ℕ) (says : ℕ → ℕ → Turns → Type 0) : Type 0 where
  -- "Position is forward minus backward,"
  pub position : (a b : ℕ) (t : Turns) → says a b t → t.position ≡ pos t.forward -ℤ pos t.backward
  -- "and the three counts add up to the places at which A or B changes."
  pub counts : (a b : ℕ) (t : Turns) → says a b t → t.forward + t.backward + t.skipped ≡ pair_changes (at run) (length run) a b
  -- the parts of any cutting of the run, each with the border that it begins with, add up to it: wherever pushes were cut
  pub parts : (a b : ℕ) (t : Turns) → says a b t → (first : ℕ) (rest : List ℕ) → Rising 0 (first ∷ rest) → cut_end first rest ≡ length run
      → parts_by no_turns add_turns (encoder_in (at run) a b) 0 (first ∷ rest) ≡ t
  -- a run and its reverse, however often, is at 0: trial turns come home
  pub home : (n : ℕ) (turn : List ℕ) → run ≡ trials n turn → (a b : ℕ) (t : Turns) → says a b t → (t.position ≡ pos 0) × (t.forward ≡ t.backward)

-- of two: "Reading the same samples in reverse order gives the opposite position."
abbrev pub Reversed : List ℕ → (ℕ → ℕ → Turns → Type 0) → List ℕ → (ℕ → ℕ → Turns → Type 0) → Type 0
Reversed run₁ says₁ run₂ says₂ = run₂ ≡ reverse run₁ → (a b : ℕ) (t u : Turns) → says₁ a b t → says₂ a b u → u ≡ opposite t
