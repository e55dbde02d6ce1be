-- What writing to the ring asks of its numbers and of the length of its memory.
use Rattle.std.specs.Prelude.{ℕ, ◌*◌, ◌≤◌, ◌<◌, max}

-- the next place is one of pre slots, or 0 where there is none; the slots lie within `ring` bytes
pub record RingRoom (unit pre place ring : ℕ) : Type 0 where
  pub place_in : place < max pre 1
  pub slots : pre * unit ≤ ring
