-- A block's fields, put one after the other.
use mathlib.Core.Path.{◌≡◌, refl, sym, ap, ap₂, ◌∙◌}
use mathlib.Core.Bool.{Bool, true, false, ◌&&◌}
use mathlib.Core.List.{List, ◌++◌, append_assoc, append-nil}
use Prim.Native.Nat.{ℕ, ◌+◌, ◌-◌, ◌≤◌}
use native.Mathlib.Nat.{add-sub_of_le}
use native.Mathlib.Omega.{arith}
use lib.ListN.{length, take, drop, length-append, length-take, length-drop, drop_of_length-le}
use lib.Seq.{take_at, drop_at, drop-drop, length-take-le}
use Rattle.rules.specs.SampleBytes.{sample_bytes}
use Rattle.rules.specs.Block.{block_size, payload_at, payload_most, zeros, check_of, body_of, block_of, same_bytes, field, good_block}
use Rattle.rules.proofs.SampleBytes.{sample_bytes_length}
use Rattle.rules.proofs.Block.{zeros_are}

-- ---- tests, one after the other
regroup : (a b c d e : Bool) → (a && (b && (c && (d && e)))) ≡ ((a && b) && ((c && d) && e))
regroup true true true d e = refl
regroup true true false d e = refl
regroup true false c d e = refl
regroup false b c d e = refl

module _ (number count : ℕ) (b : List ℕ) where
  abbrev is_headed : Bool
  is_headed = same_bytes (field 2 4 b) (sample_bytes 2 count) && same_bytes (field 4 8 b) (sample_bytes 4 number)

  abbrev is_filled : Bool
  is_filled = same_bytes (field 8 payload_at b) (zeros 4) && same_bytes (field (payload_at + count) block_size b) (zeros (payload_most - count))

  abbrev is_sealed : Bool
  is_sealed = same_bytes (field 0 2 b) (sample_bytes 2 (check_of (drop 2 b)))

  pub grouped : good_block number count b ≡ (is_headed && (is_filled && is_sealed))
  unfolding good_block
  grouped =
      regroup (same_bytes (field 2 4 b) (sample_bytes 2 count)) (same_bytes (field 4 8 b) (sample_bytes 4 number)) (same_bytes (field 8 payload_at b) (zeros 4))
      (same_bytes (field (payload_at + count) block_size b) (zeros (payload_most - count))) is_sealed

-- what is left behind a payload
pub padding : (count : ℕ) → sample_bytes (block_size - (payload_at + count)) 0 ≡ zeros (payload_most - count)
padding count = ap (λ (n : ℕ). sample_bytes n 0) left ∙ zeros_are (payload_most - count)
  where
    left : block_size - (payload_at + count) ≡ payload_most - count
    left = omega arith

-- ---- bytes put
pub put_over : (s last given : List ℕ) (from to : ℕ) → from ≤ to → last ≡ given
    → take from s ++ (last ++ drop (to - from) (drop from s)) ≡ take from s ++ (given ++ drop to s)
put_over s last given from to h e =
    ap₂ (λ (x y : List ℕ). take from s ++ (x ++ y)) e (drop-drop (to - from) from s ∙ ap (λ (k : ℕ). drop k s) (add-sub_of_le h))

-- bytes put behind a front that is known
put_next : (s s' front r f : List ℕ) (a m : ℕ) → s ≡ front ++ r → length front ≡ a → s' ≡ take a s ++ (f ++ drop (a + m) s) → s' ≡ (front ++ f) ++ drop m r
put_next s s' front r f a m e size e' =
    e'
    ∙ ap₂ (λ (x y : List ℕ). x ++ (f ++ y)) (ap (take a) e ∙ take_at front r a size) (sym (drop-drop m a s) ∙ ap (drop m) (ap (drop a) e ∙ drop_at front r a size))
    ∙ sym (append_assoc front f (drop m r))

-- a part up to the end filled with zeros
pub zeros_put : (s ys : List ℕ) (a : ℕ) → ys ≡ zeros (length (take (length s - a) (drop a s))) → take a s ++ (ys ++ drop (length s - a) (drop a s)) ≡ take a s ++ zeros (length s - a)
zeros_put s ys a e =
    ap₂ (λ (x y : List ℕ). take a s ++ (x ++ y)) (e ∙ ap zeros size) (drop_of_length-le (drop a s) (omega (arith, length-drop a s)))
    ∙ ap (λ (x : List ℕ). take a s ++ x) (append-nil (zeros (length s - a)))
  where
    size : length (take (length s - a) (drop a s)) ≡ length s - a
    size = simp (length-take, length-drop) (omega arith)

-- the fields of a block, one after the other
pub fields_put : (s s₁ s₂ s₃ : List ℕ) (number count : ℕ) → length s ≡ block_size
    → s₁ ≡ take 2 s ++ (sample_bytes 2 count ++ drop 4 s) → s₂ ≡ take 4 s₁ ++ (sample_bytes 4 number ++ drop 8 s₁) → s₃ ≡ take 8 s₂ ++ (sample_bytes 4 0 ++ drop payload_at s₂)
    → s₃ ≡ take 2 s ++ (sample_bytes 2 count ++ (sample_bytes 4 number ++ (zeros 4 ++ drop payload_at s)))
fields_put s s₁ s₂ s₃ number count size e₁ e₂ e₃ =
    put_next s₂ s₃ ((take 2 s ++ x) ++ y) (drop 4 (drop 4 s)) (sample_bytes 4 0) 8 4 second second_size e₃
    ∙ append_assoc ((take 2 s ++ x) ++ y) (sample_bytes 4 0) (drop 4 (drop 4 (drop 4 s)))
    ∙ append_assoc (take 2 s ++ x) y (sample_bytes 4 0 ++ drop 4 (drop 4 (drop 4 s)))
    ∙ append_assoc (take 2 s) x (y ++ (sample_bytes 4 0 ++ drop 4 (drop 4 (drop 4 s))))
    ∙ ap₂ (λ (z r : List ℕ). take 2 s ++ (x ++ (y ++ (z ++ r)))) (zeros_are 4) (ap (drop 4) (drop-drop 4 4 s) ∙ drop-drop 4 8 s)
  where
    x : List ℕ
    x = sample_bytes 2 count

    y : List ℕ
    y = sample_bytes 4 number

    first : s₁ ≡ (take 2 s ++ x) ++ drop 4 s
    first = e₁ ∙ sym (append_assoc (take 2 s) x (drop 4 s))

    first_size : length (take 2 s ++ x) ≡ 4
    first_size = length-append (take 2 s) x ∙ ap₂ ◌+◌ (length-take-le 2 s (omega (arith, size))) (sample_bytes_length 2 count)

    second : s₂ ≡ ((take 2 s ++ x) ++ y) ++ drop 4 (drop 4 s)
    second = put_next s₁ s₂ (take 2 s ++ x) (drop 4 s) y 4 4 first first_size e₂

    second_size : length ((take 2 s ++ x) ++ y) ≡ 8
    second_size = length-append (take 2 s ++ x) y ∙ ap₂ ◌+◌ first_size (sample_bytes_length 4 number)

-- the payload, and the zeros behind it
pub payload_put : (s s₁ s₂ payload : List ℕ) → length s ≡ block_size → length payload ≤ payload_most
    → s₁ ≡ take payload_at s ++ (payload ++ drop (payload_at + length payload) s)
    → s₂ ≡ take (payload_at + length payload) s₁ ++ zeros (length s₁ - (payload_at + length payload))
    → s₂ ≡ take payload_at s ++ (payload ++ zeros (payload_most - length payload))
payload_put s s₁ s₂ payload size small e₁ e₂ =
    e₂
    ∙ ap₂ (λ (x : List ℕ) (n : ℕ). x ++ zeros n) (ap (take (payload_at + length payload)) stands ∙ take_at (take payload_at s ++ payload) rest (payload_at + length payload) front_size) room
    ∙ append_assoc (take payload_at s) payload (zeros (payload_most - length payload))
  where
    rest : List ℕ
    rest = drop (payload_at + length payload) s

    stands : s₁ ≡ (take payload_at s ++ payload) ++ rest
    stands = e₁ ∙ sym (append_assoc (take payload_at s) payload rest)

    front_size : length (take payload_at s ++ payload) ≡ payload_at + length payload
    front_size = length-append (take payload_at s) payload ∙ ap (λ (n : ℕ). n + length payload) (length-take-le payload_at s (omega (arith, size)))

    room : length s₁ - (payload_at + length payload) ≡ payload_most - length payload
    room = omega (arith, ap length stands, length-append (take payload_at s ++ payload) rest, front_size, length-drop (payload_at + length payload) s, size, small)

-- the whole block
pub block_put : (s s₁ s₂ s₃ : List ℕ) (number : ℕ) (payload : List ℕ) → length s ≡ block_size
    → s₁ ≡ take 2 s ++ (sample_bytes 2 (length payload) ++ (sample_bytes 4 number ++ (zeros 4 ++ drop payload_at s)))
    → s₂ ≡ take payload_at s₁ ++ (payload ++ zeros (payload_most - length payload))
    → s₃ ≡ sample_bytes 2 (check_of (drop 2 s₂)) ++ drop 2 s₂
    → s₃ ≡ block_of number payload
unfolding block_of body_of
block_put s s₁ s₂ s₃ number payload size e₁ e₂ e₃ = e₃ ∙ ap (λ (l : List ℕ). sample_bytes 2 (check_of l) ++ l) body
  where
    x : List ℕ
    x = sample_bytes 2 (length payload)

    y : List ℕ
    y = sample_bytes 4 number

    front : List ℕ
    front = take 2 s ++ (x ++ (y ++ zeros 4))

    stands : s₁ ≡ front ++ drop payload_at s
    stands =
        e₁
        ∙ ap (λ (l : List ℕ). take 2 s ++ (x ++ l)) (sym (append_assoc y (zeros 4) (drop payload_at s)))
        ∙ ap (λ (l : List ℕ). take 2 s ++ l) (sym (append_assoc x (y ++ zeros 4) (drop payload_at s)))
        ∙ sym (append_assoc (take 2 s) (x ++ (y ++ zeros 4)) (drop payload_at s))

    two : length (take 2 s) ≡ 2
    two = length-take-le 2 s (omega (arith, size))

    front_size : length front ≡ payload_at
    front_size =
        length-append (take 2 s) (x ++ (y ++ zeros 4))
        ∙ omega (arith, two, length-append x (y ++ zeros 4), sample_bytes_length 2 (length payload), length-append y (zeros 4), sample_bytes_length 4 number)

    body : drop 2 s₂ ≡ x ++ (y ++ (zeros 4 ++ (payload ++ zeros (payload_most - length payload))))
    body =
        ap (drop 2) (e₂ ∙ ap (λ (l : List ℕ). l ++ (payload ++ zeros (payload_most - length payload))) (ap (take payload_at) stands ∙ take_at front (drop payload_at s) payload_at front_size) ∙ append_assoc (take 2 s) (x ++ (y ++ zeros 4)) (payload ++ zeros (payload_most - length payload)))
        ∙ drop_at (take 2 s) ((x ++ (y ++ zeros 4)) ++ (payload ++ zeros (payload_most - length payload))) 2 two
        ∙ append_assoc x (y ++ zeros 4) (payload ++ zeros (payload_most - length payload))
        ∙ ap (λ (l : List ℕ). x ++ l) (append_assoc y (zeros 4) (payload ++ zeros (payload_most - length payload)))
