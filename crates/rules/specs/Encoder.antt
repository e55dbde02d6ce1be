-- An encoder replayed from two lines of a run, A and B. 02: CR 6.
use Rattle.std.specs.Prelude.{Bool, cond, not, ◌&&◌, ◌||◌, List, [], ◌∷◌, ◌++◌, reverse, ℕ, zero, suc, ◌+◌, ◌-◌, ◌^◌, ltb, eqb, ℤ, pos, negsuc, neg_ℤ, ◌+ℤ◌}
use Rattle.std.specs.Int.Bits.{bit_or}
use Rattle.rules.specs.Sample.{line, cut_lines}
use Rattle.rules.specs.Node.{changes_in}
use Rattle.rules.specs.Refusal.{Store, Lent, Row, first_of, store_rows, top_line}

-- "a signed position from 0, with forward, backward and skipped counts"; the position is added up by itself and not from the counts
pub record Turns : Type 0 where
  pub position : ℤ
  pub forward : ℕ
  pub backward : ℕ
  pub skipped : ℕ

-- nothing, a step forward, one backward, and a skip, which "doesn't move"
abbrev pub no_turns : Turns
no_turns = record { position = pos 0; forward = 0; backward = 0; skipped = 0 }

abbrev pub turn_forward : Turns
turn_forward = record { position = pos 1; forward = 1; backward = 0; skipped = 0 }

abbrev pub turn_backward : Turns
turn_backward = record { position = negsuc 0; forward = 0; backward = 1; skipped = 0 }

abbrev pub turn_skipped : Turns
turn_skipped = record { position = pos 0; forward = 0; backward = 0; skipped = 1 }

-- what two stretches do one after the other
abbrev pub add_turns : Turns → Turns → Turns
add_turns x y = record {
  position = x.position +ℤ y.position;
  forward = x.forward + y.forward;
  backward = x.backward + y.backward;
  skipped = x.skipped + y.skipped;
}

-- "The order (A,B) = 00, 10, 11, 01, 00": (a', b') comes after (a, b) in it
abbrev pub follows : ℕ → ℕ → ℕ → ℕ → Bool
follows a b a' b' = eqb a' (1 - b) && eqb b' a

-- from (a, b) to (a', b'): "both lines changing in one sample is a skip"; the order "is forward, its reverse backward"
abbrev pub step_of : ℕ → ℕ → ℕ → ℕ → Turns
step_of a b a' b' =
    cond (not (eqb a a') && not (eqb b b')) turn_skipped
    (cond (follows a b a' b') turn_forward
    (cond (follows a' b' a b) turn_backward no_turns))

-- what lines a and b do between two samples
unfoldable pub turn_of : ℕ → ℕ → ℕ → ℕ → Turns
turn_of a b x y = step_of (line x a) (line x b) (line y a) (line y b)

-- what they do at the n places behind place p
unfoldable pub turns_of : (ℕ → ℕ) → ℕ → ℕ → ℕ → ℕ → Turns
turns_of s a b p zero = no_turns
turns_of s a b p (suc n) = add_turns (turns_of s a b p n) (turn_of a b (s (p + n)) (s (p + suc n)))

-- "Replay an encoder from two lines A and B.": at every place of the run but its first, which has none before it
abbrev pub encoder : (ℕ → ℕ) → ℕ → ℕ → ℕ → Turns
encoder s len a b = turns_of s a b 0 (len - 1)

-- at the places of a part [x, y) of the run, that at x itself, its border, with them
abbrev pub encoder_in : (ℕ → ℕ) → ℕ → ℕ → ℕ → ℕ → Turns
encoder_in s a b x y = turns_of s a b (x - 1) (y - 1 - (x - 1))

-- the mask of lines a and b
abbrev pub pair_mask : ℕ → ℕ → ℕ
pair_mask a b = bit_or (2 ^ a) (2 ^ b)

-- "the places at which A or B changes", their number
abbrev pub pair_changes : (ℕ → ℕ) → ℕ → ℕ → ℕ → ℕ
pair_changes s len a b = changes_in (cut_lines (pair_mask a b) s) 0 len

-- the same steps the other way round: "Reading the same samples in reverse order gives the opposite position."
abbrev pub opposite : Turns → Turns
opposite t = record { position = neg_ℤ t.position; forward = t.backward; backward = t.forward; skipped = t.skipped }

-- a run and its reverse, n times over: trial turns forward and back
unfoldable pub trials : ℕ → List ℕ → List ℕ
trials zero run = []
trials (suc n) run = (run ++ reverse run) ++ trials n run

-- ---- 14: "equal lines or a line above 15", which is the highest there is
abbrev pub pair_wrong : ℕ → ℕ → ℕ → Bool
pair_wrong top a b = eqb a b || ltb top a || ltb top b

abbrev pub pair_row : ℕ → ℕ → ℕ → Row
pair_row top a b = record { number = 14; holds = pair_wrong top a b }

-- "It refuses with 14 .., after 2"
abbrev pub encoder_refusal : Store → Lent → ℕ → ℕ → ℕ
encoder_refusal st lent a b = first_of (store_rows st lent (pair_row top_line a b ∷ []))
