-- Terms, the five masks that they make, and when a sample fires. 01: Selection and recorder; 02: CR 4.
use Rattle.std.specs.Prelude.{Bool, cond, ◌&&◌, List, [], ◌∷◌, ℕ, suc, ◌^◌, eqb}
use Rattle.std.specs.Prelude.{Option, None, Some}
use Rattle.std.specs.Int.Bits.{bit_and, bit_or, bit_xor}

-- "A term is a line (0–15) and one of Rising, Falling, Edge, High, Low"
pub data Condition : Type 0 where
  rising falling edge high low : Condition

pub record Term : Type 0 where
  pub line : ℕ
  pub condition : Condition

-- the lines of each condition
pub record Masks : Type 0 where
  pub high : ℕ
  pub low : ℕ
  pub rising : ℕ
  pub falling : ℕ
  pub edge : ℕ

abbrev pub no_masks : Masks
no_masks = record { high = 0; low = 0; rising = 0; falling = 0; edge = 0 }

-- a line added to the mask of its condition
abbrev pub with_line : Masks → Condition → ℕ → Masks
with_line m high b = record { high = bit_or m.high b; low = m.low; rising = m.rising; falling = m.falling; edge = m.edge }
with_line m low b = record { high = m.high; low = bit_or m.low b; rising = m.rising; falling = m.falling; edge = m.edge }
with_line m rising b = record { high = m.high; low = m.low; rising = bit_or m.rising b; falling = m.falling; edge = m.edge }
with_line m falling b = record { high = m.high; low = m.low; rising = m.rising; falling = bit_or m.falling b; edge = m.edge }
with_line m edge b = record { high = m.high; low = m.low; rising = m.rising; falling = m.falling; edge = bit_or m.edge b }

abbrev pub with_term : Masks → Term → Masks
with_term m t = with_line m t.condition (2 ^ t.line)

unfoldable pub with_terms : Masks → List Term → Masks
with_terms m [] = m
with_terms m (t ∷ ts) = with_terms (with_term m t) ts

-- the lines that a list of terms names
abbrev pub named_by : List Term → Masks
named_by ts = with_terms no_masks ts

-- 02, CR 4: "a line with both counts as one with Edge, beside any other terms on it": lines of both leave the two masks, by XOR, and join that of Edge
unfoldable pub both_as_edge : Masks → Masks
both_as_edge m =
    let both = bit_and m.rising m.falling in
    record { high = m.high; low = m.low; rising = bit_xor m.rising both; falling = bit_xor m.falling both; edge = bit_or m.edge both }

-- the masks of a list of terms
abbrev pub masks_of : List Term → Masks
masks_of ts = both_as_edge (named_by ts)

-- "armed with five masks or unarmed"
pub data Armed : Type 0 where
  unarmed : Armed
  waiting : Masks → Armed

abbrev pub armed_of : List Term → Armed
armed_of [] = unarmed
armed_of (t ∷ ts) = waiting (masks_of (t ∷ ts))

-- "every High line is 1 in v, every Low line 0, every Rising line 0 in p and 1 in v, Falling the reverse, every Edge line different"
unfoldable pub matches : Masks → ℕ → ℕ → Bool
matches m p v =
    eqb (bit_and v m.high) m.high
    && eqb (bit_and v m.low) 0
    && (eqb (bit_and p m.rising) 0 && eqb (bit_and v m.rising) m.rising)
    && (eqb (bit_and p m.falling) m.falling && eqb (bit_and v m.falling) 0)
    && eqb (bit_and (bit_xor p v) m.edge) m.edge

-- "The first sample has no p: it fires only if there is no Rising, Falling or Edge term, tested with p = v."
unfoldable pub fires : Masks → Option ℕ → ℕ → Bool
fires m None v = eqb (bit_or (bit_or m.rising m.falling) m.edge) 0 && matches m v v
fires m (Some p) v = matches m p v

-- "T the first firing place" of samples that come after q; their count where none fires
unfoldable pub first_fire : Masks → Option ℕ → List ℕ → ℕ
first_fire m q [] = 0
first_fire m q (v ∷ vs) = cond (fires m q v) 0 (suc (first_fire m (Some v) vs))

-- "previous sample or none": the sample before the next one, once vs came after q
unfoldable pub last_of : Option ℕ → List ℕ → Option ℕ
last_of q [] = q
last_of q (v ∷ vs) = last_of (Some v) vs
