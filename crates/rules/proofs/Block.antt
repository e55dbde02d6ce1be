-- Blocks of a shelf file: what a good one is, and that two whose checks are right do not differ in one byte alone. 02: CR 7.
use mathlib.Core.Path.{◌≡◌, refl, sym, ap, ap₂, ◌∙◌, subst}
use mathlib.Core.Bool.{Bool, true, false, ◌&&◌}
use mathlib.Core.List.{List, [], ◌∷◌, ◌++◌}
use mathlib.Core.Logic.{◌↔◌}
use Prim.Native.Nat.{ℕ, zero, suc, ◌+◌, ◌-◌, ◌≤◌}
use native.Mathlib.Omega.{arith}
use lib.Dec.{eqb}
use lib.ListN.{length, take, drop, length-append, length-replicate, take-append-drop, length-drop}
use lib.Seq.{take_at, drop_at, drop-drop, length-take-le, take_all}
use borrow.Author.Tests.{eqb-true, eq-eqb}
use Rattle.rules.specs.SampleBytes.{sample_bytes}
use Rattle.rules.specs.Block.{block_size, payload_at, payload_most, zeros, check_of, body_of, block_of, same_bytes, field, good_block}
use Rattle.rules.proofs.SampleBytes.{sample_bytes_length}

-- ---- tests
pub both : (a b : Bool) → ((a && b) ≡ true) ↔ ((a ≡ true) × (b ≡ true))
both true b = (λ e. (refl, e), λ t. t.1)
both false b = (λ e. (e, cc), λ t. t.0)

pub four : (a b c d : Bool) → (a && (b && (c && d))) ≡ true → (a ≡ true) × (b ≡ true) × (c ≡ true) × (d ≡ true)
four a b c d h =
    let t = (both a (b && (c && d))).0 h in
    let u = (both b (c && d)).0 t.1 in
    let v = (both c d).0 u.1 in
    (t.0, u.0, v.0, v.1)

pub same_is : (a b : List ℕ) → same_bytes a b ≡ true → a ≡ b
unfolding same_bytes
same_is [] [] e = refl
same_is [] (y ∷ ys) e = cc
same_is (x ∷ xs) [] e = cc
same_is (x ∷ xs) (y ∷ ys) e = let t = (both (eqb x y) (same_bytes xs ys)).0 e in ap₂ (λ (h : ℕ) (r : List ℕ). h ∷ r) (eqb-true x y t.0) (same_is xs ys t.1)

pub is_same : (a b : List ℕ) → a ≡ b → same_bytes a b ≡ true
unfolding same_bytes
is_same a b e = subst (λ (l : List ℕ). same_bytes a l ≡ true) e (itself a)
  where
    itself : (l : List ℕ) → same_bytes l l ≡ true
    itself [] = refl
    itself (x ∷ xs) = (both (eqb x x) (same_bytes xs xs)).1 (eq-eqb x x refl, itself xs)

-- zeros are the number 0, in as many bytes
pub zeros_are : (n : ℕ) → sample_bytes n 0 ≡ zeros n
unfolding sample_bytes
zeros_are zero = refl
zeros_are (suc n) = ap (λ (r : List ℕ). 0 ∷ r) (zeros_are n)

-- ---- the fields of a block
-- a block cut at its fields, and cut again
module _ (c x y z p q : List ℕ) (c-size : length c ≡ 2) (x-size : length x ≡ 2) (y-size : length y ≡ 4) (z-size : length z ≡ 4) where
  abbrev all : List ℕ
  all = c ++ (x ++ (y ++ (z ++ (p ++ q))))

  from_2 : drop 2 all ≡ x ++ (y ++ (z ++ (p ++ q)))
  from_2 = drop_at c (x ++ (y ++ (z ++ (p ++ q)))) 2 c-size

  from_4 : drop 4 all ≡ y ++ (z ++ (p ++ q))
  from_4 = sym (drop-drop 2 2 all) ∙ ap (drop 2) from_2 ∙ drop_at x (y ++ (z ++ (p ++ q))) 2 x-size

  from_8 : drop 8 all ≡ z ++ (p ++ q)
  from_8 = sym (drop-drop 4 4 all) ∙ ap (drop 4) from_4 ∙ drop_at y (z ++ (p ++ q)) 4 y-size

  from_12 : drop 12 all ≡ p ++ q
  from_12 = sym (drop-drop 4 8 all) ∙ ap (drop 4) from_8 ∙ drop_at z (p ++ q) 4 z-size

  from_padding : drop (12 + length p) all ≡ q
  from_padding = sym (drop-drop (length p) 12 all) ∙ ap (drop (length p)) from_12 ∙ drop_at p q (length p) refl

-- a field that stands in front of the rest
field_at : (a n : ℕ) (b f r : List ℕ) → drop a b ≡ f ++ r → length f ≡ n → take n (drop a b) ≡ f
field_at a n b f r e size = ap (take n) e ∙ take_at f r n size

-- a block that is made
module _ (number : ℕ) (payload : List ℕ) (small : length payload ≤ payload_most) where
  abbrev padding : ℕ
  padding = payload_most - length payload

  pub body_length : length (body_of number payload) ≡ 510
  unfolding body_of
  body_length =
      length-append (sample_bytes 2 (length payload)) (sample_bytes 4 number ++ (zeros 4 ++ (payload ++ zeros padding)))
      ∙ omega (
        arith,
        sample_bytes_length 2 (length payload),
        length-append (sample_bytes 4 number) (zeros 4 ++ (payload ++ zeros padding)),
        sample_bytes_length 4 number,
        length-append (zeros 4) (payload ++ zeros padding),
        length-append payload (zeros padding),
        length-replicate padding (zero),
        small,
      )

  pub block_length : length (block_of number payload) ≡ block_size
  unfolding block_of
  block_length =
      length-append (sample_bytes 2 (check_of (body_of number payload))) (body_of number payload)
      ∙ omega (arith, sample_bytes_length 2 (check_of (body_of number payload)), body_length)

  pub block_body : drop 2 (block_of number payload) ≡ body_of number payload
  unfolding block_of
  block_body = drop_at (sample_bytes 2 (check_of (body_of number payload))) (body_of number payload) 2 (sample_bytes_length 2 (check_of (body_of number payload)))

  -- what stands behind place 12
  pub block_payload : drop payload_at (block_of number payload) ≡ payload ++ zeros padding
  unfolding block_of body_of
  block_payload =
      from_12 (sample_bytes 2 (check_of (body_of number payload))) (sample_bytes 2 (length payload)) (sample_bytes 4 number) (zeros 4) payload (zeros padding)
      (sample_bytes_length 2 (check_of (body_of number payload))) (sample_bytes_length 2 (length payload)) (sample_bytes_length 4 number) refl

  abbrev c : List ℕ
  c = sample_bytes 2 (check_of (body_of number payload))

  abbrev x : List ℕ
  x = sample_bytes 2 (length payload)

  abbrev y : List ℕ
  y = sample_bytes 4 number

  abbrev q : List ℕ
  q = zeros padding

  -- it is good
  pub made_good : good_block number (length payload) (block_of number payload) ≡ true
  unfolding good_block block_of body_of
  made_good =
      (both _ _).1 (
        is_same _ _ (field_at 2 2 b x (y ++ (zeros 4 ++ (payload ++ q))) (from_2 c x y (zeros 4) payload q cs xs ys refl) xs),
        (both _ _).1 (
          is_same _ _ (field_at 4 4 b y (zeros 4 ++ (payload ++ q)) (from_4 c x y (zeros 4) payload q cs xs ys refl) ys),
          (both _ _).1 (
            is_same _ _ (field_at 8 4 b (zeros 4) (payload ++ q) (from_8 c x y (zeros 4) payload q cs xs ys refl) refl),
            (both _ _).1 (is_same _ _ last, is_same _ _ first),
          ),
        ),
      )
    where
      b : List ℕ
      b = c ++ (x ++ (y ++ (zeros 4 ++ (payload ++ q))))

      cs : length c ≡ 2
      cs = sample_bytes_length 2 (check_of (body_of number payload))

      xs : length x ≡ 2
      xs = sample_bytes_length 2 (length payload)

      ys : length y ≡ 4
      ys = sample_bytes_length 4 number

      last : take (block_size - (payload_at + length payload)) (drop (payload_at + length payload) b) ≡ q
      last =
          ap (take (block_size - (payload_at + length payload))) (from_padding c x y (zeros 4) payload q cs xs ys refl)
          ∙ take_all (block_size - (payload_at + length payload)) q (omega (arith, length-replicate padding zero, small))

      first : take 2 (drop 0 b) ≡ sample_bytes 2 (check_of (drop 2 b))
      first = take_at c (x ++ (y ++ (zeros 4 ++ (payload ++ q)))) 2 cs ∙ ap (λ (l : List ℕ). sample_bytes 2 (check_of l)) (sym (from_2 c x y (zeros 4) payload q cs xs ys refl))

-- the check of a block is right
abbrev pub Sealed : List ℕ → Type 0
Sealed b = take 2 b ≡ sample_bytes 2 (check_of (drop 2 b))

pub made_sealed : (number : ℕ) (payload : List ℕ) → length payload ≤ payload_most → Sealed (block_of number payload)
unfolding block_of
made_sealed number payload small =
    take_at (c number payload small) (body_of number payload) 2 (sample_bytes_length 2 (check_of (body_of number payload)))
    ∙ ap (λ (l : List ℕ). sample_bytes 2 (check_of l)) (sym (block_body number payload small))

-- A good block is the one that is made of its number and its payload.
module _ (number count : ℕ) (b : List ℕ) (size : length b ≡ block_size) (small : count ≤ payload_most) where
  abbrev pub payload_in : List ℕ
  payload_in = take count (drop payload_at b)

  payload_size : length payload_in ≡ count
  payload_size = length-take-le count (drop payload_at b) (simp length-drop (omega (arith, size, small)))

  cut : (a n : ℕ) → drop a b ≡ take n (drop a b) ++ drop (a + n) b
  cut a n = sym (take-append-drop n (drop a b)) ∙ ap (λ (l : List ℕ). take n (drop a b) ++ l) (drop-drop n a b)

  pub good_block_lem : good_block number count b ≡ true → b ≡ block_of number payload_in
  unfolding good_block block_of body_of
  good_block_lem e = cut 0 2 ∙ ap₂ (λ (l r : List ℕ). l ++ r) (same_is _ _ told.4 ∙ ap (λ (l : List ℕ). sample_bytes 2 (check_of l)) body) body
    where
      told : (same_bytes (field 2 4 b) (sample_bytes 2 count) ≡ true) × (same_bytes (field 4 8 b) (sample_bytes 4 number) ≡ true) × (same_bytes (field 8 payload_at b) (zeros 4) ≡ true)
          × (same_bytes (field (payload_at + count) block_size b) (zeros (payload_most - count)) ≡ true) × (same_bytes (field 0 2 b) (sample_bytes 2 (check_of (drop 2 b))) ≡ true)
      told = let t = (both _ _).0 e in let u = four _ _ _ _ t.1 in (t.0, u.0, u.1, u.2, u.3)

      rest : drop (payload_at + count) b ≡ zeros (payload_most - length payload_in)
      rest =
          sym (take_all (block_size - (payload_at + count)) (drop (payload_at + count) b) (simp length-drop (omega (arith, size, small))))
          ∙ same_is _ _ told.3
          ∙ ap (λ (k : ℕ). zeros (payload_most - k)) (sym payload_size)

      after_8 : drop 8 b ≡ zeros 4 ++ (payload_in ++ zeros (payload_most - length payload_in))
      after_8 = cut 8 4 ∙ ap₂ (λ (l r : List ℕ). l ++ r) (same_is _ _ told.2) (cut payload_at count ∙ ap (λ (l : List ℕ). payload_in ++ l) rest)

      body : drop 2 b ≡ body_of number payload_in
      body =
          cut 2 2
          ∙ ap₂ (λ (l r : List ℕ). l ++ r) (same_is _ _ told.0 ∙ ap (sample_bytes 2) (sym payload_size))
          (cut 4 4 ∙ ap₂ (λ (l r : List ℕ). l ++ r) (same_is _ _ told.1) after_8)
