-- The ring, over samples: pre slots, from which the last kept samples are read, oldest first. 01: Records, Recorder.
use Rattle.std.specs.Prelude.{cond, List, [], ◌∷◌, ◌++◌, ℕ, ◌-◌, eqb, length, take, drop, set}
use Rattle.rules.specs.Ring.{next_slot}

-- the last n of xs, or all
abbrev pub ending : ℕ → List ℕ → List ℕ
ending n xs = drop (length xs - n) xs

-- ---- writing: one sample, then the next slot
abbrev pub put : ℕ → List ℕ → ℕ → ℕ → List ℕ
put pre g place v = cond (eqb pre 0) g (set g place v)

-- the ring after samples vs, written from a place on
unfoldable pub ring_after : ℕ → List ℕ → ℕ → List ℕ → List ℕ
ring_after pre g place [] = g
ring_after pre g place (v ∷ vs) = ring_after pre (put pre g place v) (next_slot pre place) vs

-- ---- reading: all slots from the oldest on, and of those the last kept
abbrev pub turned : ℕ → List ℕ → ℕ → List ℕ
turned pre g place = drop place (take pre g) ++ take place g

unfoldable pub read_out : ℕ → List ℕ → ℕ → ℕ → List ℕ
read_out pre g place kept = drop (pre - kept) (turned pre g place)
