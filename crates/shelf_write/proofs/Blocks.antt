-- The blocks of a file, put one after the other.
use mathlib.Core.Path.{◌≡◌, sym, ap, ◌∙◌}
use mathlib.Core.List.{List, ◌++◌, append_assoc, append-nil}
use Prim.Native.Nat.{ℕ, suc, ◌+◌, ◌-◌, ◌*◌, ◌≤◌, ◌<◌, min}
use native.Mathlib.Decide.{dec_lt}
use native.Mathlib.Omega.{arith}
use lib.ListN.{length, take, drop, length-append, length-take, length-drop}
use lib.Seq.{take_at, drop-drop, take_all, length-take-le}
use Rattle.rules.specs.Block.{block_size, payload_most, block_of}
use Rattle.rules.specs.Shelf.{blocks_for, blocks_of}
use Rattle.rules.proofs.Block.{block_length}
use Rattle.rules.proofs.ShelfBlocks.{block_begins}

-- the payload of block i + 1
pub payload_is : (bytes : List ℕ) (a e : ℕ) → a ≤ length bytes → e ≡ min (a + payload_most) (length bytes) → take (e - a) (drop a bytes) ≡ take payload_most (drop a bytes)
payload_is bytes a e h s = go (dec_lt (length bytes) (a + payload_most))
  where
    go : Dec (length bytes < a + payload_most) → take (e - a) (drop a bytes) ≡ take payload_most (drop a bytes)
    go (yes l) = take_all (e - a) (drop a bytes) (simp length-drop (omega (arith, s, l))) ∙ sym (take_all payload_most (drop a bytes) (simp length-drop (omega (arith, l))))
    go (no l) = ap (λ (k : ℕ). take k (drop a bytes)) whole
      where
        whole : e - a ≡ payload_most
        whole = omega (arith, s, l)

-- i blocks stand, and the rest would follow
pub record Putting (bytes blocks : List ℕ) (i : ℕ) : Type 0 where
  pub size : length blocks ≡ block_size * blocks_for (length bytes)
  pub stand : take (i * block_size) blocks ++ blocks_of (blocks_for (length bytes) - i) (i + 1) (drop (i * payload_most) bytes) ≡ blocks_of (blocks_for (length bytes)) 1 bytes

module _ {bytes blocks : List ℕ} {i : ℕ} (p : Putting bytes blocks i) (h : i < blocks_for (length bytes)) where
  abbrev k : ℕ
  k = blocks_for (length bytes)

  abbrev at : ℕ
  at = i * payload_most

  abbrev payload : List ℕ
  payload = take payload_most (drop at bytes)

  unrolled : blocks_of (k - i) (i + 1) (drop at bytes) ≡ block_of (i + 1) payload ++ blocks_of (k - (i + 1)) (i + 1 + 1) (drop ((i + 1) * payload_most) bytes)
  unfolding blocks_of
  unrolled =
      ap (λ (n : ℕ). blocks_of n (i + 1) (drop at bytes)) less
      ∙ ap (λ (l : List ℕ). block_of (i + 1) payload ++ blocks_of (k - (i + 1)) (i + 1 + 1) l) (drop-drop payload_most at bytes ∙ ap (λ (n : ℕ). drop n bytes) next)
    where
      less : k - i ≡ suc (k - (i + 1))
      less = omega (arith, h)

      next : at + payload_most ≡ (i + 1) * payload_most
      next = omega arith

  -- the block is lent as a part, and comes back in its place
  abbrev rest : List ℕ
  rest = drop (i * block_size + block_size - i * block_size) (drop (i * block_size) blocks)

  pub putting_on : (last : List ℕ) (e : ℕ) → e ≡ min (at + payload_most) (length bytes) → last ≡ block_of (i + 1) (take (e - at) (drop at bytes))
      → Putting bytes (take (i * block_size) blocks ++ (last ++ rest)) (i + 1)
  putting_on last e e-is last_is = record {
    size = whole;
    stand =
        ap (λ (l : List ℕ). l ++ left) front
        ∙ append_assoc (take (i * block_size) blocks) last left
        ∙ ap (λ (l : List ℕ). take (i * block_size) blocks ++ (l ++ left)) made
        ∙ ap (λ (l : List ℕ). take (i * block_size) blocks ++ l) (sym unrolled)
        ∙ p.stand;
  }
    where
      left : List ℕ
      left = blocks_of (k - (i + 1)) (i + 1 + 1) (drop ((i + 1) * payload_most) bytes)

      made : last ≡ block_of (i + 1) payload
      made = last_is ∙ ap (block_of (i + 1)) (payload_is bytes at e (omega (arith, block_begins (length bytes) i h)) e-is)

      last_size : length last ≡ block_size
      last_size = ap length made ∙ block_length (i + 1) payload (simp length-take (omega arith))

      sizes : length (take (i * block_size) blocks ++ last) ≡ (i + 1) * block_size
      sizes = length-append (take (i * block_size) blocks) last ∙ omega (arith, length-take-le (i * block_size) blocks (omega (arith, p.size, h)), last_size)

      front : take ((i + 1) * block_size) (take (i * block_size) blocks ++ (last ++ rest)) ≡ take (i * block_size) blocks ++ last
      front =
          ap (take ((i + 1) * block_size)) (sym (append_assoc (take (i * block_size) blocks) last rest))
          ∙ take_at (take (i * block_size) blocks ++ last) rest ((i + 1) * block_size) sizes

      whole : length (take (i * block_size) blocks ++ (last ++ rest)) ≡ block_size * k
      whole =
          ap length (sym (append_assoc (take (i * block_size) blocks) last rest))
          ∙ length-append (take (i * block_size) blocks ++ last) rest
          ∙ omega (arith, sizes, rest_size, p.size, h)
        where
          rest_size : length rest ≡ length blocks - i * block_size - block_size
          rest_size = simp length-drop (omega arith)

pub putting_ends : {bytes blocks : List ℕ} {i : ℕ} → Putting bytes blocks i → blocks_for (length bytes) ≤ i → blocks ≡ blocks_of (blocks_for (length bytes)) 1 bytes
unfolding blocks_of
putting_ends {bytes} {blocks} {i} p h =
    sym (take_all (i * block_size) blocks (omega (arith, p.size, h)))
    ∙ sym (append-nil (take (i * block_size) blocks))
    ∙ ap (λ (n : ℕ). take (i * block_size) blocks ++ blocks_of n (i + 1) (drop (i * payload_most) bytes)) none
    ∙ p.stand
  where
    none : 0 ≡ blocks_for (length bytes) - i
    none = omega (arith, h)
