-- What the scan's inner functions ask and promise.
use Rattle.std.specs.Prelude.{Bool, ◌≡◌, List, ℕ, ◌+◌, ◌-◌, eqb, length, Option, Some}
use Rattle.std.specs.Int.Bits.{bit_and, bit_or, bit_xor}
use Rattle.rules.specs.Sample.{list_from, sample_of}
use Rattle.rules.specs.Trigger as rule
use Rattle.terms.specs.declared.Masks.{Masks}
use Rattle.feeder_lists.specs.Bytes.{units}
use Rattle.feeder_scan.specs.declared.Wanted.{Wanted}
use Rattle.feeder_scan.specs.declared.samples.Samples.{Samples}

-- the samples, one after the other
abbrev pub samples_in : Samples → List ℕ
samples_in s = units s.unitsize s.n s.bytes.now

-- sample i of them, for any i
abbrev pub sample_in : Samples → ℕ → ℕ
sample_in s = sample_of s.unitsize s.bytes.now

-- Rising is High and Edge on one line, Falling is Low and Edge
abbrev pub wanted_of : Masks → Wanted
wanted_of m = record {
  high = bit_or m.high m.rising;
  low = bit_or m.low m.falling;
  edge = bit_or (bit_or m.rising m.falling) m.edge;
}

abbrev pub masks_for : Wanted → rule.Masks
masks_for w = record { high = w.high; low = w.low; rising = 0; falling = 0; edge = w.edge }

-- v has the levels: of the lines of high and low, 1 in those of high and 0 in those of low
abbrev pub level_met : Wanted → ℕ → Bool
level_met w v = eqb (bit_xor (bit_and v (bit_xor w.high w.low)) w.high) 0

-- none of the samples fires, whatever sample came before
abbrev pub NoneFires : rule.Masks → List ℕ → Type 0
NoneFires m xs = (q : Option ℕ) → rule.first_fire m q xs ≡ length xs

-- the first of the places a to e, e not among them, whose sample fires, p the sample before a; e where none does
abbrev pub fire_from : rule.Masks → (ℕ → ℕ) → ℕ → ℕ → ℕ → ℕ
fire_from m s p a e = a + rule.first_fire m (Some p) (list_from s a (e - a))
