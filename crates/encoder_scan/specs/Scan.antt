-- What masks tell of the two lines of an encoder, and what a stretch of samples comes to.
use Rattle.std.specs.Prelude.{◌≡◌, cond, ℕ, ◌+◌, ◌/◌, ◌^◌, ◌≤◌, ◌<◌, eqb}
use Rattle.std.specs.Int.Bits.{bit_and}
use Rattle.rules.specs.Sample.{line}
use Rattle.rules.specs.Encoder.{Turns, turn_of}

-- the most places of a stretch, by the unit size: a sample's width holds each of their counts
abbrev pub widest : ℕ → ℕ
widest unit = cond (eqb unit 1) 128 512

-- 1 of a number with any line, else 0
abbrev pub is_set : ℕ → ℕ
is_set v = cond (eqb v 0) 0 1

-- what a sample tells of a line by its mask, and by its number
abbrev pub by_mask : ℕ → ℕ → ℕ
by_mask v m = is_set (bit_and v m)

abbrev pub by_shift : ℕ → ℕ → ℕ
by_shift v k = bit_and (v / 2 ^ bit_and k 15) 1

-- asked for x, samples below w tell their line k
pub record Asks (told : ℕ → ℕ → ℕ) (w x k : ℕ) : Type 0 where
  pub is : (v : ℕ) → v < w → told v x ≡ line v k

-- steps of which `moved` are of one line, `back` of these backward, and `skipped` of both
pub record Stepped (t : Turns) (moved back skipped : ℕ) : Type 0 where
  pub moved_is : moved ≡ t.forward + t.backward
  pub back_is : back ≡ t.backward
  pub skipped_is : skipped ≡ t.skipped

-- between two samples, where x and y ask for lines a and b
pub record StepBy (told : ℕ → ℕ → ℕ) (w x y before after moved back skipped : ℕ) : Type 0 where
  pub is : (a b : ℕ) → Asks told w x a → Asks told w y b → Stepped (turn_of a b before after) moved back skipped
  -- at most one of the two, whatever x and y ask for
  pub few : moved + skipped ≤ 1
  pub less : back ≤ moved

-- the three counts
pub record Counts (t : Turns) (forward backward skipped : ℕ) : Type 0 where
  pub forward_is : forward ≡ t.forward
  pub backward_is : backward ≡ t.backward
  pub skipped_is : skipped ≡ t.skipped
