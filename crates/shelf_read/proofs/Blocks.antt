-- The blocks of a file, tested and emptied one after the other.
use mathlib.Core.Path.{◌≡◌, sym, ap, ap₂, ◌∙◌}
use mathlib.Core.Bool.{Bool, true, false, not, ◌&&◌}
use mathlib.Core.List.{List, ◌++◌}
use Prim.Native.Nat.{ℕ, suc, ◌+◌, ◌-◌, ◌*◌, ◌≤◌, ◌<◌, min}
use native.Mathlib.Decide.{dec_lt}
use native.Mathlib.Omega.{arith}
use lib.ListN.{length, take, drop, length-drop, take-append-drop}
use lib.Seq.{paste, paste-zero, length-paste, take-take, drop-drop, length-take-le}
use borrow.Author.Tests.{not-true, not-false}
use Rattle.rules.specs.Block.{block_size, payload_at, payload_most, good_block}
use Rattle.rules.specs.Shelf.{blocks_for, payloads, good_blocks}
use Rattle.rules.proofs.ShelfBlocks.{front_again, rest_again, block_begins}
use Rattle.store.proofs.Bytes.{paste_twice}

-- one block further
module _ (n i : ℕ) (h : i < blocks_for n) where
  less : blocks_for n - i ≡ suc (blocks_for n - (i + 1))
  less = omega (arith, h)

  fewer : n - i * payload_most - payload_most ≡ n - (i + 1) * payload_most
  fewer = omega arith

  further : (blocks : List ℕ) → drop block_size (drop (i * block_size) blocks) ≡ drop ((i + 1) * block_size) blocks
  further blocks = drop-drop block_size (i * block_size) blocks ∙ ap (λ (k : ℕ). drop k blocks) next
    where
      next : i * block_size + block_size ≡ (i + 1) * block_size
      next = omega arith

-- ---- tested: i blocks are good
pub record Testing (n : ℕ) (blocks : List ℕ) (i : ℕ) : Type 0 where
  pub same : good_blocks (blocks_for n) 1 n blocks ≡ good_blocks (blocks_for n - i) (i + 1) (n - i * payload_most) (drop (i * block_size) blocks)

module _ {n : ℕ} {blocks : List ℕ} {i : ℕ} (t : Testing n blocks i) (h : i < blocks_for n) where
  abbrev count : ℕ
  count = min payload_most (n - i * payload_most)

  abbrev rest : Bool
  rest = good_blocks (blocks_for n - (i + 1)) (i + 1 + 1) (n - (i + 1) * payload_most) (drop ((i + 1) * block_size) blocks)

  next : good_blocks (blocks_for n) 1 n blocks ≡ (good_block (i + 1) count (take block_size (drop (i * block_size) blocks)) && rest)
  unfolding good_blocks
  next =
      t.same
      ∙ ap (λ (k : ℕ). good_blocks k (i + 1) (n - i * payload_most) (drop (i * block_size) blocks)) (less n i h)
      ∙ ap₂ (λ (m : ℕ) (l : List ℕ). good_block (i + 1) count (take block_size (drop (i * block_size) blocks)) && good_blocks (blocks_for n - (i + 1)) (i + 1 + 1) m l) (fewer n i h) (further n i h blocks)

  -- the block as it is lent
  module _ {x : Bool} {c : ℕ} (c-is : c ≡ count) (e : x ≡ good_block (i + 1) c (take (i * block_size + block_size - i * block_size) (drop (i * block_size) blocks))) where
    this : x ≡ good_block (i + 1) count (take block_size (drop (i * block_size) blocks))
    this = e ∙ ap₂ (λ (m k : ℕ). good_block (i + 1) m (take k (drop (i * block_size) blocks))) c-is one
      where
        one : i * block_size + block_size - i * block_size ≡ block_size
        one = omega arith

    pub testing_fails : not x ≡ true → false ≡ good_blocks (blocks_for n) 1 n blocks
    testing_fails f = sym (next ∙ ap (λ (b : Bool). b && rest) (sym this ∙ not-true x f))

    pub testing_on : not x ≡ false → Testing n blocks (i + 1)
    testing_on f = record { same = next ∙ ap (λ (b : Bool). b && rest) (sym this ∙ not-false x f) }

pub testing_ends : {n : ℕ} {blocks : List ℕ} {i : ℕ} → Testing n blocks i → blocks_for n ≤ i → true ≡ good_blocks (blocks_for n) 1 n blocks
unfolding good_blocks
testing_ends {n} {blocks} {i} t h = sym (t.same ∙ ap (λ (k : ℕ). good_blocks k (i + 1) (n - i * payload_most) (drop (i * block_size) blocks)) none)
  where
    none : blocks_for n - i ≡ 0
    none = omega (arith, h)

-- ---- emptied: the payloads of i blocks are copied, and the others would follow
abbrev others : ℕ → List ℕ → ℕ → List ℕ
others n blocks i = take (n - i * payload_most) (payloads (blocks_for n - i) (drop (i * block_size) blocks))

pub record Gathering (n : ℕ) (blocks samples₀ samples : List ℕ) (i : ℕ) : Type 0 where
  pub size : length samples ≡ length samples₀
  pub same : paste samples (i * payload_most) (others n blocks i) (n - i * payload_most) ≡ paste samples₀ 0 (take n (payloads (blocks_for n) blocks)) n

module _ {n : ℕ} {blocks samples₀ samples : List ℕ} {i : ℕ} (g : Gathering n blocks samples₀ samples i) (h : i < blocks_for n)
    (fits : length blocks ≡ block_size * blocks_for n) (room : n ≤ length samples₀) where
  abbrev to : ℕ
  to = i * payload_most

  abbrev at : ℕ
  at = i * block_size + payload_at

  abbrev many : ℕ
  many = min payload_most (n - to)

  abbrev here : List ℕ
  here = take many (drop at blocks)

  here_size : length here ≡ many
  here_size = length-take-le many (drop at blocks) (simp length-drop (omega (arith, fits, h)))

  -- the payload of this block stands in front of the others
  front : others n blocks i ≡ here ++ others n blocks (i + 1)
  unfolding payloads
  front =
      ap (λ (k : ℕ). take (n - to) (payloads k (drop (i * block_size) blocks))) (less n i h)
      ∙ sym (take-append-drop payload_most (take (n - to) (first ++ more)))
      ∙ ap₂ (λ (a b : List ℕ). a ++ b)
      (front_again first more (n - to) full ∙ take-take many payload_most (drop payload_at (drop (i * block_size) blocks)) (omega arith) ∙ ap (take many) (drop-drop payload_at (i * block_size) blocks))
      (rest_again first more (n - to) full ∙ ap₂ (λ (m : ℕ) (l : List ℕ). take m (payloads (blocks_for n - (i + 1)) l)) (fewer n i h) (further n i h blocks))
    where
      first : List ℕ
      first = take payload_most (drop payload_at (drop (i * block_size) blocks))

      more : List ℕ
      more = payloads (blocks_for n - (i + 1)) (drop block_size (drop (i * block_size) blocks))

      full : length first ≡ payload_most
      full = length-take-le payload_most (drop payload_at (drop (i * block_size) blocks)) (simp length-drop (omega (arith, fits, h)))

  inside_samples : to + many ≤ length samples
  inside_samples = omega (arith, block_begins n i h, room, g.size)

  -- the payload as it is lent
  module _ {e : ℕ} {part : List ℕ} (e-is : e ≡ many) (part_is : part ≡ take (at + e - at) (drop at blocks)) where
    lent_is : part ≡ here
    lent_is = part_is ∙ ap (λ (k : ℕ). take k (drop at blocks)) (lens e-is)
      where
        lens : e ≡ many → at + e - at ≡ many
        lens q = omega (arith, q)

    part_size : length part ≡ many
    part_size = ap length lent_is ∙ here_size

    pub copy_fits : to + length part ≤ length samples
    copy_fits = omega (arith, part_size, inside_samples)

    pub gathering_on : {samples' : List ℕ} → samples' ≡ paste samples to part (length part) → Gathering n blocks samples₀ samples' (i + 1)
    gathering_on {samples'} d = record {
      size = ap length d ∙ length-paste samples to part (length part) (omega (arith, copy_fits)) (omega arith) ∙ g.size;
      same =
          moved (dec_lt (n - to) payload_most)
          ∙ ap (λ (s : List ℕ). paste s (to + length part) rest_bytes left) d
          ∙ paste_twice samples part rest_bytes to left (omega (arith, copy_fits))
          ∙ ap₂ (λ (l : List ℕ) (k : ℕ). paste samples to l k) (ap (λ (l : List ℕ). l ++ rest_bytes) lent_is ∙ sym front) sums
          ∙ g.same;
    }
      where
        left : ℕ
        left = n - (i + 1) * payload_most

        rest_bytes : List ℕ
        rest_bytes = others n blocks (i + 1)

        sums : length part + left ≡ n - to
        sums = omega (arith, part_size)

        -- a short payload is the last: nothing follows it, wherever that would go
        moved : Dec (n - to < payload_most) → paste samples' ((i + 1) * payload_most) rest_bytes left ≡ paste samples' (to + length part) rest_bytes left
        moved (yes l) =
            ap (paste samples' ((i + 1) * payload_most) rest_bytes) (none l)
            ∙ sym (paste-zero samples' ((i + 1) * payload_most) rest_bytes)
            ∙ paste-zero samples' (to + length part) rest_bytes
            ∙ ap (paste samples' (to + length part) rest_bytes) (sym (none l))
          where
            none : n - to < payload_most → left ≡ 0
            none q = omega (arith, q)
        moved (no l) = ap (λ (k : ℕ). paste samples' k rest_bytes left) (ends l)
          where
            ends : (n - to < payload_most → ⊥) → (i + 1) * payload_most ≡ to + length part
            ends q = omega (arith, q, part_size)
