-- The blocks of a shelf file that hold sample bytes: they read back, and good ones are those that are made of what they hold. 02: CR 7.
use mathlib.Core.Path.{◌≡◌, refl, sym, ap, ap₂, ◌∙◌, subst, subst⁻¹}
use mathlib.Core.Bool.{true}
use mathlib.Core.List.{List, [], ◌∷◌, ◌++◌, append_assoc, append-nil}
use Prim.Native.Nat.{ℕ, zero, suc, ◌+◌, ◌-◌, ◌*◌, ◌≤◌, ◌<◌, min}
use native.Mathlib.Nat.{div-add-mod', mod-lt}
use native.Mathlib.Decide.{dec_lt}
use native.Mathlib.Omega.{arith}
use lib.ListN.{length, take, drop, length-append, length-take, length-drop, length-replicate, take-append-drop, drop_of_length-le}
use lib.Seq.{take_at, drop_at, take_all, take-take, take-add, take-append-le, drop-append-le, take-append-add, drop-drop, length-take-le}
use Rattle.rules.specs.SampleBytes.{sample_bytes, Bytes}
use Rattle.rules.specs.Block.{block_size, payload_at, payload_most, zeros, check_of, body_of, block_of, good_block}
use Rattle.rules.specs.Shelf.{blocks_for, blocks_of, payloads, good_blocks}
use Rattle.rules.proofs.Block.{both, block_length, block_payload, made_good, good_block_lem, Sealed, made_sealed, zeros_are}
use Rattle.rules.proofs.SampleBytes.{bytes_append, sample_are, take_are, drop_are}

-- n bytes fit the blocks that they take, and every block has a byte
pub blocks_hold : (n : ℕ) → n ≤ payload_most * blocks_for n
blocks_hold n = omega (arith, div-add-mod' (n + (payload_most - 1)) payload_most, mod-lt (n + (payload_most - 1)) {m = payload_most} (omega arith))

pub block_begins : (n i : ℕ) → i < blocks_for n → i * payload_most < n
block_begins n i h = omega (arith, h, div-add-mod' (n + (payload_most - 1)) payload_most)

-- the payload of the first block
first_small : (bytes : List ℕ) → length (take payload_most bytes) ≤ payload_most
first_small bytes = simp length-take (omega arith)

first_length : (number : ℕ) (bytes : List ℕ) → length (block_of number (take payload_most bytes)) ≡ block_size
first_length number bytes = block_length number (take payload_most bytes) (first_small bytes)

pub blocks_length : (k number : ℕ) (bytes : List ℕ) → length (blocks_of k number bytes) ≡ block_size * k
unfolding blocks_of
blocks_length zero number bytes = refl
blocks_length (suc k) number bytes =
    length-append (block_of number (take payload_most bytes)) (blocks_of k (number + 1) (drop payload_most bytes))
    ∙ omega (arith, first_length number bytes, blocks_length k (number + 1) (drop payload_most bytes))

-- ---- made blocks are good
pub blocks_good : (k number : ℕ) (bytes : List ℕ) → good_blocks k number (length bytes) (blocks_of k number bytes) ≡ true
unfolding blocks_of good_blocks
blocks_good zero number bytes = refl
blocks_good (suc k) number bytes =
    (both _ _).1 (
      ap₂ (good_block number) (sym (length-take payload_most bytes)) (take_at b rest block_size (first_length number bytes)) ∙ made_good number (take payload_most bytes) (first_small bytes),
      ap₂ (good_blocks k (number + 1)) (sym (length-drop payload_most bytes)) (drop_at b rest block_size (first_length number bytes)) ∙ blocks_good k (number + 1) (drop payload_most bytes),
    )
  where
    b : List ℕ
    b = block_of number (take payload_most bytes)

    rest : List ℕ
    rest = blocks_of k (number + 1) (drop payload_most bytes)

-- ---- and their payloads are what they are made of
none_left : (bytes : List ℕ) → length bytes ≤ 0 → take (length bytes) [] ≡ bytes
none_left [] h = refl
none_left (x ∷ bytes) h = absurd (omega arith)

-- the first payload, filled up with zeros, and the others: the bytes stand in front
bytes_front : (bytes others : List ℕ) → take (length (drop payload_most bytes)) others ≡ drop payload_most bytes
    → take (length bytes) ((take payload_most bytes ++ zeros (payload_most - length (take payload_most bytes))) ++ others) ≡ bytes
bytes_front bytes others e = go (dec_lt (length bytes) payload_most)
  where
    p : List ℕ
    p = take payload_most bytes

    go : Dec (length bytes < payload_most) → take (length bytes) ((take payload_most bytes ++ zeros (payload_most - length (take payload_most bytes))) ++ others) ≡ bytes
    go (yes l) =
        ap (take (length bytes)) (append_assoc p (zeros (payload_most - length p)) others)
        ∙ take_at p (zeros (payload_most - length p) ++ others) (length bytes) (ap length (take_all payload_most bytes (omega arith)))
        ∙ take_all payload_most bytes (omega arith)
    go (no l) =
        ap₂ (λ (n : ℕ) (r : List ℕ). take n (r ++ others)) size (ap (λ (n : ℕ). p ++ zeros (payload_most - n)) full ∙ append-nil p)
        ∙ take-append-add p others (length (drop payload_most bytes))
        ∙ ap (λ (r : List ℕ). p ++ r) e
        ∙ take-append-drop payload_most bytes
      where
        full : length p ≡ payload_most
        full = length-take-le payload_most bytes (omega (arith, l))

        size : length bytes ≡ length p + length (drop payload_most bytes)
        size = simp length-drop (omega (arith, l, full))

pub blocks_back : (k number : ℕ) (bytes : List ℕ) → length bytes ≤ payload_most * k → take (length bytes) (payloads k (blocks_of k number bytes)) ≡ bytes
unfolding blocks_of payloads
blocks_back zero number bytes h = none_left bytes (omega arith)
blocks_back (suc k) number bytes h =
    ap₂ (λ (x y : List ℕ). take (length bytes) (x ++ payloads k y)) first (drop_at b rest block_size (first_length number bytes))
    ∙ bytes_front bytes (payloads k rest) (blocks_back k (number + 1) (drop payload_most bytes) (simp length-drop (omega arith)))
  where
    p : List ℕ
    p = take payload_most bytes

    b : List ℕ
    b = block_of number p

    rest : List ℕ
    rest = blocks_of k (number + 1) (drop payload_most bytes)

    first : take payload_most (drop payload_at (b ++ rest)) ≡ p ++ zeros (payload_most - length p)
    first =
        ap (take payload_most) (drop-append-le payload_at b rest (omega (arith, first_length number bytes)) ∙ ap (λ (r : List ℕ). r ++ rest) (block_payload number p (first_small bytes)))
        ∙ take_at (p ++ zeros (payload_most - length p)) rest payload_most
        (length-append p (zeros (payload_most - length p)) ∙ omega (arith, length-replicate (payload_most - length p) zero, first_small bytes))

-- ---- good blocks are those that are made of their payloads
pub payloads_length : (k : ℕ) (blocks : List ℕ) → block_size * k ≤ length blocks → length (payloads k blocks) ≡ payload_most * k
unfolding payloads
payloads_length zero blocks h = refl
payloads_length (suc k) blocks h =
    length-append (take payload_most (drop payload_at blocks)) (payloads k (drop block_size blocks))
    ∙ omega (arith, length-take-le payload_most (drop payload_at blocks) (simp length-drop (omega arith)), payloads_length k (drop block_size blocks) (simp length-drop (omega arith)))

-- the payload in a block, as it stands among the payloads
pub drop_take : (l : List ℕ) → block_size ≤ length l → drop payload_at (take block_size l) ≡ take payload_most (drop payload_at l)
drop_take l h = ap (drop payload_at) (take-add payload_at payload_most l) ∙ drop_at (take payload_at l) (take payload_most (drop payload_at l)) payload_at (length-take-le payload_at l (omega arith))

-- n bytes of a payload and others, cut again
module _ (first others : List ℕ) (n : ℕ) (full : length first ≡ payload_most) where
  pub front_again : take payload_most (take n (first ++ others)) ≡ take (min payload_most n) first
  front_again = go (dec_lt n payload_most)
    where
      least : n < payload_most → n ≡ min payload_most n
      least l = omega (arith, l)

      go : Dec (n < payload_most) → take payload_most (take n (first ++ others)) ≡ take (min payload_most n) first
      go (yes l) =
          take_all payload_most (take n (first ++ others)) (simp length-take (omega (arith, l)))
          ∙ take-append-le n first others (omega (arith, full, l))
          ∙ ap (λ (k : ℕ). take k first) (least l)
      go (no l) =
          take-take payload_most n (first ++ others) (omega (arith, l))
          ∙ take_at first others payload_most full
          ∙ sym (take_all (min payload_most n) first (omega (arith, l, full)))

  pub rest_again : drop payload_most (take n (first ++ others)) ≡ take (n - payload_most) others
  rest_again = go (dec_lt n payload_most)
    where
      size : (r : ℕ) → payload_most ≤ n → r ≡ n → r ≡ length first + (n - payload_most)
      size r l e = omega (arith, full, l, e)

      nothing : n < payload_most → 0 ≡ n - payload_most
      nothing l = omega (arith, l)

      go : Dec (n < payload_most) → drop payload_most (take n (first ++ others)) ≡ take (n - payload_most) others
      go (yes l) = drop_of_length-le (take n (first ++ others)) {i = payload_most} (simp length-take (omega (arith, l))) ∙ ap (λ (k : ℕ). take k others) (nothing l)
      go (no l) =
          ap (λ (k : ℕ). drop payload_most (take k (first ++ others))) (size n (omega (arith, l)) refl)
          ∙ ap (drop payload_most) (take-append-add first others (n - payload_most))
          ∙ drop_at first (take (n - payload_most) others) payload_most full

pub blocks_again : (k number n : ℕ) (blocks : List ℕ) → length blocks ≡ block_size * k → good_blocks k number n blocks ≡ true → blocks ≡ blocks_of k number (take n (payloads k blocks))
unfolding blocks_of payloads good_blocks
blocks_again zero number n blocks size e = empty blocks (omega (arith, size))
  where
    empty : (l : List ℕ) → length l ≤ 0 → l ≡ []
    empty [] h = refl
    empty (x ∷ l) h = absurd (omega arith)
blocks_again (suc k) number n blocks size e =
    sym (take-append-drop block_size blocks)
    ∙ ap₂ (λ (x y : List ℕ). x ++ y)
    (good_block_lem number (min payload_most n) (take block_size blocks) (length-take-le block_size blocks (omega (arith, size))) (omega arith) told.0
    ∙ ap (λ (l : List ℕ). block_of number (take (min payload_most n) l)) (drop_take blocks (omega (arith, size)))
    ∙ ap (block_of number) (sym (front_again first others n full)))
    (blocks_again k (number + 1) (n - payload_most) (drop block_size blocks) (simp length-drop (omega (arith, size))) told.1
    ∙ ap (blocks_of k (number + 1)) (sym (rest_again first others n full)))
  where
    first : List ℕ
    first = take payload_most (drop payload_at blocks)

    others : List ℕ
    others = payloads k (drop block_size blocks)

    full : length first ≡ payload_most
    full = length-take-le payload_most (drop payload_at blocks) (simp length-drop (omega (arith, size)))

    told : (good_block number (min payload_most n) (take block_size blocks) ≡ true) × (good_blocks k (number + 1) (n - payload_most) (drop block_size blocks) ≡ true)
    told = (both _ _).0 e

-- ---- each has its check right
pub blocks_sealed : (k number : ℕ) (bytes : List ℕ) (i : ℕ) → i < k → Sealed (take block_size (drop (block_size * i) (blocks_of k number bytes)))
unfolding blocks_of
blocks_sealed zero number bytes i h = absurd (omega arith)
blocks_sealed (suc k) number bytes zero h =
    subst⁻¹ Sealed (take_at (block_of number (take payload_most bytes)) (blocks_of k (number + 1) (drop payload_most bytes)) block_size (first_length number bytes))
    (made_sealed number (take payload_most bytes) (first_small bytes))
blocks_sealed (suc k) number bytes (suc i) h =
    subst⁻¹ (λ (l : List ℕ). Sealed (take block_size l)) past (blocks_sealed k (number + 1) (drop payload_most bytes) i (omega arith))
  where
    next : block_size * suc i ≡ block_size + block_size * i
    next = omega arith

    past : drop (block_size * suc i) (blocks_of (suc k) number bytes) ≡ drop (block_size * i) (blocks_of k (number + 1) (drop payload_most bytes))
    past =
        ap (λ (j : ℕ). drop j (blocks_of (suc k) number bytes)) next
        ∙ sym (drop-drop (block_size * i) block_size (blocks_of (suc k) number bytes))
        ∙ ap (drop (block_size * i)) (drop_at (block_of number (take payload_most bytes)) (blocks_of k (number + 1) (drop payload_most bytes)) block_size (first_length number bytes))

-- ---- and they are bytes
pub zeros_bytes : (n : ℕ) → Bytes (zeros n)
zeros_bytes n = subst Bytes (zeros_are n) (sample_are n 0)

pub block_bytes : (number : ℕ) (payload : List ℕ) → Bytes payload → Bytes (block_of number payload)
unfolding block_of body_of
block_bytes number payload b =
    bytes_append (sample_bytes 2 (check_of (body_of number payload))) (x ++ (y ++ (zeros 4 ++ (payload ++ q)))) (sample_are 2 (check_of (body_of number payload)))
    (bytes_append x (y ++ (zeros 4 ++ (payload ++ q))) (sample_are 2 (length payload))
    (bytes_append y (zeros 4 ++ (payload ++ q)) (sample_are 4 number)
    (bytes_append (zeros 4) (payload ++ q) (zeros_bytes 4) (bytes_append payload q b (zeros_bytes (payload_most - length payload))))))
  where
    x : List ℕ
    x = sample_bytes 2 (length payload)

    y : List ℕ
    y = sample_bytes 4 number

    q : List ℕ
    q = zeros (payload_most - length payload)

pub blocks_bytes : (k number : ℕ) (bytes : List ℕ) → Bytes bytes → Bytes (blocks_of k number bytes)
unfolding blocks_of
blocks_bytes zero number bytes b = λ j. omega arith
blocks_bytes (suc k) number bytes b =
    bytes_append (block_of number (take payload_most bytes)) (blocks_of k (number + 1) (drop payload_most bytes)) (block_bytes number (take payload_most bytes) (take_are payload_most bytes b))
    (blocks_bytes k (number + 1) (drop payload_most bytes) (drop_are payload_most bytes b))

pub payloads_bytes : (k : ℕ) (blocks : List ℕ) → Bytes blocks → Bytes (payloads k blocks)
unfolding payloads
payloads_bytes zero blocks b = λ j. omega arith
payloads_bytes (suc k) blocks b =
    bytes_append (take payload_most (drop payload_at blocks)) (payloads k (drop block_size blocks)) (take_are payload_most (drop payload_at blocks) (drop_are payload_at blocks b))
    (payloads_bytes k (drop block_size blocks) (drop_are block_size blocks b))
