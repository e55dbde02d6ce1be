-- The samples of the blocks that are wholly there.
use mathlib.Core.Path.{◌≡◌, ap, ◌∙◌}
use mathlib.Core.List.{List}
use Prim.Native.Nat.{ℕ, ◌+◌, ◌-◌, ◌*◌, ◌/◌, ◌%◌, ◌^◌, ◌≤◌, ◌<◌, min}
use native.Mathlib.Nat.{div-add-mod', mod-lt}
use native.Mathlib.Omega.{arith}
use lib.ListN.{length, get_or, take, drop, length-drop}
use lib.Seq.{paste, length-paste, length-take-le, get_or-take, get_or-drop}
use Rattle.rules.specs.Block.{block_size, payload_at, payload_most}
use Rattle.rules.specs.Shelf.{blocks_for, payloads}
use Rattle.rules.proofs.ShelfBlocks.{blocks_hold, payloads_length}
use Rattle.rules.proofs.Salvage.{payload_at_lem}
use Rattle.store.proofs.Bytes.{paste_inside, paste_after}
use Rattle.shelf_salvage.specs.Salvage.{Gathers}

-- there are n bytes of samples, of which w whole blocks hold `there`
module _ {n there : ℕ} (file samples : List ℕ) (some-file : block_size ≤ length file) (few : n < 2 ^ 32) (holds : n ≤ length samples) (there_is : there ≡ min n ((length file - block_size) / block_size * payload_most)) where
  abbrev w : ℕ
  w = (length file - block_size) / block_size

  whole_few : block_size * w ≤ length file - block_size
  whole_few = omega (arith, div-add-mod' (length file - block_size) block_size)

  pub blocks_there : blocks_for there ≤ w
  blocks_there = omega (arith, there_is, div-add-mod' (there + (payload_most - 1)) payload_most)

  pub there_holds : there ≤ length samples
  there_holds = omega (arith, there_is, holds)

  pub there_small : there < 2 ^ 32
  there_small = omega (arith, there_is, few)

  module _ {k : ℕ} (k-is : k ≡ blocks_for there) where
    pub end_inside : block_size + block_size * k ≤ length file
    end_inside = omega (arith, k-is, blocks_there, whole_few, some-file)

    -- the blocks as they are lent
    abbrev part : List ℕ
    part = take (block_size + block_size * k - block_size) (drop block_size file)

    part_length : length part ≡ block_size * k
    part_length = length-take-le (block_size + block_size * k - block_size) (drop block_size file) (simp length-drop (omega (arith, end_inside))) ∙ omega arith

    abbrev bytes : List ℕ
    bytes = take there (payloads (blocks_for there) part)

    bytes_length : length bytes ≡ there
    bytes_length = length-take-le there (payloads (blocks_for there) part) (omega (arith, payloads_length (blocks_for there) part (omega (arith, part_length, k-is)), blocks_hold there))

    pub gathers : {samples' : List ℕ} → samples' ≡ paste samples 0 bytes there → Gathers n file samples samples'
    gathers {samples'} e = record {
      size = ap length e ∙ length-paste samples 0 bytes there (omega (arith, there_holds)) (omega (arith, bytes_length));
      inside = inside;
      behind = λ j l. ap (λ (x : List ℕ). get_or x j 0) e ∙ paste_after samples 0 bytes there (omega (arith, there_holds)) (omega (arith, bytes_length)) j (omega (arith, l, there_is));
    }
      where
        inside : (j : ℕ) → j < n → block_size * (j / payload_most + 1) + block_size ≤ length file → get_or samples' j 0 ≡ get_or file (block_size * (j / payload_most + 1) + (payload_at + j % payload_most)) 0
        inside j l room =
            ap (λ (x : List ℕ). get_or x j 0) e
            ∙ paste_inside samples 0 bytes there (omega (arith, there_holds)) (omega (arith, bytes_length)) j (omega arith) (omega (arith, early))
            ∙ get_or-take there (payloads (blocks_for there) part) (j - 0) 0 (omega (arith, early))
            ∙ ap (λ (i : ℕ). get_or (payloads (blocks_for there) part) i 0) from_0
            ∙ payload_at_lem (blocks_for there) part j (omega (arith, early, blocks_hold there)) (omega (arith, part_length, k-is, early, blocks_hold there, div-add-mod' j payload_most))
            ∙ get_or-take (block_size + block_size * k - block_size) (drop block_size file) (block_size * (j / payload_most) + (payload_at + j % payload_most)) 0 (omega (arith, k-is, early, blocks_hold there, div-add-mod' j payload_most, mod-lt j {m = payload_most} (omega arith)))
            ∙ get_or-drop block_size file (block_size * (j / payload_most) + (payload_at + j % payload_most)) 0
            ∙ ap (λ (i : ℕ). get_or file i 0) at
          where
            early : j < there
            early = omega (arith, there_is, l, room, div-add-mod' (length file - block_size) block_size, mod-lt (length file - block_size) {m = block_size} (omega arith), div-add-mod' j payload_most, mod-lt j {m = payload_most} (omega arith))

            from_0 : j - 0 ≡ j
            from_0 = omega arith

            at : block_size + (block_size * (j / payload_most) + (payload_at + j % payload_most)) ≡ block_size * (j / payload_most + 1) + (payload_at + j % payload_most)
            at = omega arith
