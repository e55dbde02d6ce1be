-- The masks that a start arms a recorder with, and the previous sample that a push keeps, have 16 lines.
use mathlib.Core.Path.{◌≡◌, refl, subst}
use mathlib.Core.List.{List, [], ◌∷◌, Memᴰ}
use Rattle.std.specs.Prelude.{Option, Some}
use Prim.Native.Nat.{ℕ, zero, suc, ◌+◌, ◌^◌, ◌≤◌, ◌<◌}
use native.Mathlib.Nat.{pow-le-pow_right}
use native.Mathlib.Omega.{arith}
use lib.Bits.{bit_and, or_lt, xor_lt, and_le_l}
use lib.Pow.{pow-lt}
use Rattle.rules.specs.Sample.{sample_of, list_from}
use Rattle.rules.specs.SampleBytes.{Bytes}
use Rattle.rules.specs.Trigger.{Masks, Condition, rising, falling, edge, high, low, Term, waiting, no_masks, with_line, with_term, with_terms, both_as_edge, masks_of, armed_of, last_of}
use Rattle.rules.specs.Refusal.{top_line}
use Rattle.rules.proofs.Sample.{sample_lt}
use Rattle.feeder_numbers.proofs.ReadBack.{NarrowMasks}

-- ---- masks
with_line_lem : (m : Masks) (c : Condition) (b : ℕ) → b < 65536 → NarrowMasks m → NarrowMasks (with_line m c b)
with_line_lem m high b h n = record { high = or_lt 16 _ _ n.high h; low = n.low; rising = n.rising; falling = n.falling; edge = n.edge }
with_line_lem m low b h n = record { high = n.high; low = or_lt 16 _ _ n.low h; rising = n.rising; falling = n.falling; edge = n.edge }
with_line_lem m rising b h n = record { high = n.high; low = n.low; rising = or_lt 16 _ _ n.rising h; falling = n.falling; edge = n.edge }
with_line_lem m falling b h n = record { high = n.high; low = n.low; rising = n.rising; falling = or_lt 16 _ _ n.falling h; edge = n.edge }
with_line_lem m edge b h n = record { high = n.high; low = n.low; rising = n.rising; falling = n.falling; edge = or_lt 16 _ _ n.edge h }

-- terms that row 3 lets pass
abbrev pub Lined : List Term → Type 0
Lined ts = (t : Term) → Memᴰ t ts → t.line ≤ top_line

with_terms_lem : (ts : List Term) (m : Masks) → Lined ts → NarrowMasks m → NarrowMasks (with_terms m ts)
unfolding with_terms
with_terms_lem [] m h n = n
with_terms_lem (t ∷ ts) m h n =
    with_terms_lem ts (with_term m t) (λ x l. h x (Memᴰ.tail l)) (with_line_lem m t.condition (2 ^ t.line) (pow-lt {j = 16} (omega (arith, h t (Memᴰ.head refl)))) n)

both_narrow : (m : Masks) → NarrowMasks m → NarrowMasks (both_as_edge m)
unfolding both_as_edge
both_narrow m n =
    let less : bit_and m.rising m.falling < 65536 = omega (arith, and_le_l m.rising m.falling, n.rising) in
    record { high = n.high; low = n.low; rising = xor_lt 16 _ _ n.rising less; falling = xor_lt 16 _ _ n.falling less; edge = or_lt 16 _ _ n.edge less }

pub armed_narrow : (ts : List Term) → Lined ts → (m : Masks) → armed_of ts ≡ waiting m → NarrowMasks m
armed_narrow [] e m q = let z : ◌≡◌ {A = ℕ} 0 1 = cc in absurd (omega arith)
armed_narrow (t ∷ ts) e m q =
    subst NarrowMasks (let s : masks_of (t ∷ ts) ≡ m = cc in s)
    (both_narrow _ (with_terms_lem (t ∷ ts) no_masks e (record { high = omega arith; low = omega arith; rising = omega arith; falling = omega arith; edge = omega arith })))

-- ---- samples
abbrev pub NarrowSample : Option ℕ → Type 0
NarrowSample q = (v : ℕ) → q ≡ Some v → v < 65536

pub some_narrow : (x : ℕ) → x < 65536 → NarrowSample (Some x)
some_narrow x h v e = subst (λ (y : ℕ). y < 65536) (let s : x ≡ v = cc in s) h

pub last_narrow : (s : ℕ → ℕ) → ((i : ℕ) → s i < 65536) → (n p : ℕ) (q : Option ℕ) → NarrowSample q → NarrowSample (last_of q (list_from s p n))
unfolding last_of list_from
last_narrow s h zero p q r = r
last_narrow s h (suc n) p q r = last_narrow s h n (p + 1) (Some (s p)) (some_narrow (s p) (h p))

-- of bytes in a unit of at most two
pub sample_narrow : (unit : ℕ) (b : List ℕ) → unit ≤ 2 → Bytes b → (i : ℕ) → sample_of unit b i < 65536
sample_narrow unit b u h i = omega (arith, sample_lt unit b i h, pow-le-pow_right {n = 256} (omega arith) u)
