-- A block of a shelf file: made, and tested field by field. 02: CR 7.
use Rattle.std.specs.Prelude.{Bool, true, false, ◌&&◌, List, [], ◌∷◌, ◌++◌, ℕ, ◌+◌, ◌-◌, ◌*◌, ◌%◌, eqb, length, take, drop, replicate}
use Rattle.rules.specs.SampleBytes.{sample_bytes}

-- "blocks of 512 bytes"
abbrev pub block_size : ℕ
block_size = 512

-- "12–511 payload"
abbrev pub payload_at : ℕ
payload_at = 12

abbrev pub payload_most : ℕ
payload_most = 500

abbrev pub check_modulus : ℕ
check_modulus = 65521

-- "zero", "filled up with zeros"
abbrev pub zeros : ℕ → List ℕ
zeros n = replicate n 0

-- "the sum of place × byte", of bytes that stand from place p on
unfoldable pub weigh : ℕ → List ℕ → ℕ
weigh p [] = 0
weigh p (b ∷ bs) = p * b + weigh (p + 1) bs

-- "The check is the sum of place × byte over places 2 to 511, modulo 65,521.": by the bytes at these places
abbrev pub check_of : List ℕ → ℕ
check_of body = weigh 2 body % check_modulus

-- those bytes, "all numbers low byte first": "2–3 payload count, 4–7 block number from 0, 8–11 zero, 12–511 payload filled up with zeros"
unfoldable pub body_of : ℕ → List ℕ → List ℕ
body_of number payload =
    sample_bytes 2 (length payload) ++ (sample_bytes 4 number ++ (zeros 4 ++ (payload ++ zeros (payload_most - length payload))))

-- the block: "0–1 check", and they
unfoldable pub block_of : ℕ → List ℕ → List ℕ
block_of number payload = sample_bytes 2 (check_of (body_of number payload)) ++ body_of number payload

-- ---- tested
unfoldable pub same_bytes : List ℕ → List ℕ → Bool
same_bytes [] [] = true
same_bytes [] (y ∷ ys) = false
same_bytes (x ∷ xs) [] = false
same_bytes (x ∷ xs) (y ∷ ys) = eqb x y && same_bytes xs ys

-- the bytes of a block from place a up to place e
abbrev pub field : ℕ → ℕ → List ℕ → List ℕ
field a e block = take (e - a) (drop a block)

-- a block with this number and so many bytes of payload, by its count, its number, its zeros, those behind the payload, and its check
-- (rules.proofs.Block.good_block_lem: it is `block_of` its number and payload)
unfoldable pub good_block : ℕ → ℕ → List ℕ → Bool
good_block number count block =
    same_bytes (field 2 4 block) (sample_bytes 2 count)
    && (same_bytes (field 4 8 block) (sample_bytes 4 number)
    && (same_bytes (field 8 payload_at block) (zeros 4)
    && (same_bytes (field (payload_at + count) block_size block) (zeros (payload_most - count))
    && same_bytes (field 0 2 block) (sample_bytes 2 (check_of (drop 2 block))))))
