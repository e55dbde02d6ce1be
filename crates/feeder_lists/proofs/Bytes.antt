-- The ring in memory holds what the ring over samples holds, for any unit: what is proved of samples is carried to bytes by `units`.
use mathlib.Core.Path.{◌≡◌, refl, sym, ap, ap₂, ◌∙◌}
use mathlib.Core.List.{List, [], ◌∷◌, ◌++◌, append_assoc}
use Prim.Native.Nat.{ℕ, zero, suc, ◌+◌, ◌*◌, ◌-◌, ◌≤◌, ◌<◌, min, max}
use native.Mathlib.Nat.{zero-add, add-mul, mul-le-mul_right}
use native.Mathlib.Decide.{dec_lt}
use native.Mathlib.Omega.{arith}
use borrow.Author.Tests.{ne_eqb, eq-eqb}
use lib.ListN.{length, take, drop, get_or, set, length-take, length-drop, length-append}
use lib.Seq.{drop-drop, drop-append-add, take_at, drop_at, length-take-le, set_split}
use Rattle.rules.specs.Ring.{next_slot, written, put_bytes, ring_bytes, kept_bytes}
use Rattle.rules.specs.Sample.{sample_of, list_from}
use Rattle.rules.proofs.Sample.{list_length, list_at, list_append, list_take, list_drop, sample_take, from_take, from_append, from_drop, from_after}
use Rattle.feeder_lists.specs.Ring.{put, ring_after, read_out}
use Rattle.feeder_lists.specs.Bytes.{units}
use Rattle.feeder_lists.proofs.Ring.{next_lt}
use Rattle.feeder_lists.proofs.Slots.{read_parts}

-- ---- samples of bytes
pub units_length : (u n : ℕ) (b : List ℕ) → length (units u n b) ≡ n
units_length u n b = list_length (sample_of u b) 0 n

pub units_at : (u n : ℕ) (b : List ℕ) (i : ℕ) → i < n → get_or (units u n b) i 0 ≡ sample_of u b i
units_at u n b i h = list_at (sample_of u b) 0 n i h ∙ ap (sample_of u b) (zero-add i)

pub units_none : (u : ℕ) (b : List ℕ) → units u 0 b ≡ []
unfolding list_from
units_none u b = refl

pub units_one : (u : ℕ) (b : List ℕ) → units u 1 b ≡ sample_of u b 0 ∷ []
unfolding list_from
units_one u b = refl

pub units_take : (u k n : ℕ) (b : List ℕ) → k ≤ n → take k (units u n b) ≡ units u k b
units_take u k n b h = list_take (sample_of u b) 0 k n h

-- k samples dropped are k × u bytes dropped
pub units_drop : (u k n : ℕ) (b : List ℕ) → k ≤ n → drop k (units u n b) ≡ units u (n - k) (drop (k * u) b)
units_drop u k n b h = list_drop (sample_of u b) 0 k n h ∙ ap (λ (p : ℕ). list_from (sample_of u b) p (n - k)) start ∙ sym (from_drop u b k 0 (n - k))
  where
    start : 0 + k ≡ k + 0
    start = omega arith

-- k samples from place a on are a part of the bytes
pub units_part : (u a k n : ℕ) (b : List ℕ) → a + k ≤ n → take k (drop a (units u n b)) ≡ units u k (drop (a * u) b)
units_part u a k n b h = ap (take k) (units_drop u a n b (omega arith)) ∙ units_take u k (n - a) (drop (a * u) b) (omega arith)

pub units_take_bytes : (u n : ℕ) (b : List ℕ) (k : ℕ) → n * u ≤ k → units u n (take k b) ≡ units u n b
units_take_bytes u n b k h = from_take u b k 0 n (rw (zero-add n) h)

-- bytes after the bytes of a samples
pub units_append : (u a c : ℕ) (x y : List ℕ) → length x ≡ a * u → units u (a + c) (x ++ y) ≡ units u a x ++ units u c y
units_append u a c x y e =
    list_append (sample_of u (x ++ y)) 0 a c
    ∙ ap₂ (λ (v w : List ℕ). v ++ w) (from_append u x y 0 a (rw (zero-add a, e) (omega arith))) (ap (λ (p : ℕ). list_from (sample_of u (x ++ y)) p c) start ∙ from_after u x y a 0 c e)
  where
    start : 0 + a ≡ a + 0
    start = omega arith

-- ---- stores
pub joined_length : (s : List ℕ) (at : ℕ) (x : List ℕ) → at + length x ≤ length s → length (written s at x) ≡ length s
joined_length s at x h = simp (length-append, length-take, length-drop) (omega arith)

-- past x nothing changes
pub joined_past : (s : List ℕ) (at : ℕ) (x : List ℕ) (k : ℕ) → at + length x ≤ k → k ≤ length s → drop k (written s at x) ≡ drop k s
joined_past s at x k h r =
    ap (λ (y : List ℕ). drop k y) (sym (append_assoc (take at s) x rest))
    ∙ ap (λ (j : ℕ). drop j (take at s ++ x ++ rest)) split
    ∙ drop-append-add (take at s ++ x) rest (k - (at + length x))
    ∙ drop-drop (k - (at + length x)) (length x) (drop at s)
    ∙ drop-drop (length x + (k - (at + length x))) at s
    ∙ ap (λ (j : ℕ). drop j s) whole
  where
    rest : List ℕ
    rest = drop (length x) (drop at s)

    split : k ≡ length (take at s ++ x) + (k - (at + length x))
    split = simp (length-append, length-take) (omega arith)

    whole : at + (length x + (k - (at + length x))) ≡ k
    whole = omega arith

-- copies in a row are one copy
pub joined_joined : (s : List ℕ) (at : ℕ) (x y : List ℕ) → at + length x ≤ length s → written (written s at x) (at + length x) y ≡ written s at (x ++ y)
joined_joined s at x y h =
    ap (λ (z : List ℕ). written z (at + length x) y) (sym (append_assoc (take at s) x rest))
    ∙ ap₂ (λ (a b : List ℕ). a ++ (y ++ drop (length y) b)) (take_at (take at s ++ x) rest (at + length x) sized) (drop_at (take at s ++ x) rest (at + length x) sized)
    ∙ append_assoc (take at s) x (y ++ drop (length y) rest)
    ∙ ap (λ (z : List ℕ). take at s ++ z) (sym (append_assoc x y (drop (length y) rest)) ∙ ap (λ (z : List ℕ). x ++ y ++ z) (drop-drop (length y) (length x) (drop at s) ∙ ap (λ (k : ℕ). drop k (drop at s)) (sym (length-append x y))))
  where
    rest : List ℕ
    rest = drop (length x) (drop at s)

    sized : length (take at s ++ x) ≡ at + length x
    sized = simp (length-append, length-take) (omega arith)

-- k samples put at place a of memory s
pub units_joined : (u a k : ℕ) (s x rest : List ℕ) → a * u ≤ length s → length x ≡ k * u → units u (a + k) (take (a * u) s ++ (x ++ rest)) ≡ units u a s ++ units u k x
units_joined u a k s x rest h e =
    units_append u a k (take (a * u) s) (x ++ rest) (length-take-le (a * u) s h)
    ∙ ap₂ (λ (z w : List ℕ). z ++ w) (units_take_bytes u a s (a * u) (omega arith))
    (sym (units_take_bytes u k (x ++ rest) (k * u) (omega arith)) ∙ ap (units u k) (take_at x rest (k * u) e))

-- one sample's bytes put at slot j of n
pub units_put : (u j n : ℕ) (g x : List ℕ) → length x ≡ u → j < n → n * u ≤ length g → units u n (written g (j * u) x) ≡ set (units u n g) j (sample_of u x 0)
units_put u j n g x e h r =
    ap (λ (k : ℕ). units u k (written g (j * u) x)) more
    ∙ units_append u j (1 + d) (take (j * u) g) (x ++ rest) (length-take-le (j * u) g room)
    ∙ ap₂ (λ (v w : List ℕ). v ++ w) before (units_append u 1 d x rest one ∙ ap₂ (λ (v w : List ℕ). v ++ w) (units_one u x) after)
    ∙ sym (set_split (units u n g) j (sample_of u x 0) (rw (units_length u n g) h))
  where
    d : ℕ
    d = n - suc j

    rest : List ℕ
    rest = drop (length x) (drop (j * u) g)

    more : n ≡ j + (1 + d)
    more = omega arith

    room : j * u ≤ length g
    room = omega (arith, mul-le-mul_right u h)

    one : length x ≡ 1 * u
    one = omega arith

    before : units u j (take (j * u) g) ≡ take j (units u n g)
    before = units_take_bytes u j g (j * u) (omega arith) ∙ sym (units_take u j n g (omega arith))

    after : units u d rest ≡ drop (suc j) (units u n g)
    after = ap (units u d) (drop-drop (length x) (j * u) g ∙ ap (λ (k : ℕ). drop k g) at) ∙ sym (units_drop u (suc j) n g h)
      where
        at : j * u + length x ≡ suc j * u
        at = omega arith

-- ---- the ring's bytes
-- one sample of the push, and the others
pub units_more : (u n : ℕ) (b : List ℕ) → units u (suc n) b ≡ sample_of u b 0 ∷ units u n (drop u b)
unfolding list_from
units_more u n b = ap (λ (vs : List ℕ). sample_of u b 0 ∷ vs) (sym (from_drop u b 1 0 n) ∙ ap (λ (k : ℕ). units u n (drop k b)) one)
  where
    one : 1 * u ≡ u
    one = omega arith

-- a sample's own bytes
own_bytes : (u : ℕ) (b : List ℕ) → sample_of u (take u b) 0 ≡ sample_of u b 0
own_bytes u b = sample_take u b u 0 (omega arith)

module _ (u pre : ℕ) (g : List ℕ) (place : ℕ) (x : List ℕ) (h : place < max pre 1) (room : pre * u ≤ length g) (e : length x ≡ u) where
  put_bytes_lem : units u pre (put_bytes u pre g place x) ≡ put pre (units u pre g) place (sample_of u x 0)
  put_bytes_lem = go (dec_lt 0 pre)
    where
      go : Dec (0 < pre) → units u pre (put_bytes u pre g place x) ≡ put pre (units u pre g) place (sample_of u x 0)
      go (yes d) = rw (ne_eqb pre 0 (λ z. omega arith)) (units_put u place pre g x e (omega arith) room)
      go (no d) = rw (eq-eqb pre 0 (omega arith))

  put_bytes_length : length (put_bytes u pre g place x) ≡ length g
  put_bytes_length = go (dec_lt 0 pre)
    where
      go : Dec (0 < pre) → length (put_bytes u pre g place x) ≡ length g
      go (yes d) = rw (ne_eqb pre 0 (λ z. omega arith)) (joined_length g (place * u) x (omega (arith, e, mul-le-mul_right u inside)))
        where
          inside : suc place ≤ pre
          inside = omega arith
      go (no d) = rw (eq-eqb pre 0 (omega arith))

-- writing bytes is writing samples
pub ring_bytes_lem : (u pre n : ℕ) (g : List ℕ) (place : ℕ) (b : List ℕ) → place < max pre 1 → pre * u ≤ length g → n * u ≤ length b
    → units u pre (ring_bytes u pre g place n b) ≡ ring_after pre (units u pre g) place (units u n b)
unfolding ring_bytes ring_after
ring_bytes_lem u pre zero g place b h r l = ap (ring_after pre (units u pre g) place) (sym (units_none u b))
ring_bytes_lem u pre (suc n) g place b h r l =
    ring_bytes_lem u pre n (put_bytes u pre g place (take u b)) (next_slot pre place) (drop u b) (next_lt pre place) (rw (put_bytes_length u pre g place (take u b) h r one) r) (simp length-drop (omega arith))
    ∙ ap (λ (x : List ℕ). ring_after pre x (next_slot pre place) (units u n (drop u b))) (put_bytes_lem u pre g place (take u b) h r one ∙ ap (put pre (units u pre g) place) (own_bytes u b))
    ∙ ap (ring_after pre (units u pre g) place) (sym (units_more u n b))
  where
    one : length (take u b) ≡ u
    one = length-take-le u b (omega arith)

pub ring_bytes_length : (u pre n : ℕ) (g : List ℕ) (place : ℕ) (b : List ℕ) → place < max pre 1 → pre * u ≤ length g → n * u ≤ length b → length (ring_bytes u pre g place n b) ≡ length g
unfolding ring_bytes
ring_bytes_length u pre zero g place b h r l = refl
ring_bytes_length u pre (suc n) g place b h r l =
    ring_bytes_length u pre n (put_bytes u pre g place (take u b)) (next_slot pre place) (drop u b) (next_lt pre place) (rw same r) (simp length-drop (omega arith)) ∙ same
  where
    same : length (put_bytes u pre g place (take u b)) ≡ length g
    same = put_bytes_length u pre g place (take u b) h r (length-take-le u b (omega arith))

-- ---- a turn of the loop that writes: i samples of b have been written
pub bytes_turn : (u pre : ℕ) (g : List ℕ) (place i k : ℕ) (b : List ℕ) → 0 < pre
    → ring_bytes u pre (written g (place * u) (take u (drop (i * u) b))) (next_slot pre place) k (drop ((i + 1) * u) b) ≡ ring_bytes u pre g place (suc k) (drop (i * u) b)
unfolding ring_bytes
bytes_turn u pre g place i k b p =
    rw (ne_eqb pre 0 (λ e. omega arith))
    (ap (ring_bytes u pre (written g (place * u) (take u (drop (i * u) b))) (next_slot pre place) k) (sym (drop-drop u (i * u) b ∙ ap (λ (x : ℕ). drop x b) more)))
  where
    more : i * u + u ≡ (i + 1) * u
    more = omega arith

pub bytes_end : (u pre : ℕ) (g : List ℕ) (place : ℕ) (b : List ℕ) → ring_bytes u pre g place 0 b ≡ g
unfolding ring_bytes
bytes_end u pre g place b = refl

-- no slots: nothing is written
pub bytes_none : (u pre n : ℕ) (g : List ℕ) (place : ℕ) (b : List ℕ) → pre ≡ 0 → ring_bytes u pre g place n b ≡ g
unfolding ring_bytes
bytes_none u pre zero g place b e = refl
bytes_none u pre (suc n) g place b e = rw (eq-eqb pre 0 e) (bytes_none u pre n g (next_slot pre place) (drop u b) e)

-- memory past the slots is not written
pub bytes_past : (u pre n : ℕ) (g : List ℕ) (place : ℕ) (b : List ℕ) → place < max pre 1 → pre * u ≤ length g → n * u ≤ length b → drop (pre * u) (ring_bytes u pre g place n b) ≡ drop (pre * u) g
unfolding ring_bytes
bytes_past u pre zero g place b h r l = refl
bytes_past u pre (suc n) g place b h r l =
    bytes_past u pre n (put_bytes u pre g place (take u b)) (next_slot pre place) (drop u b) (next_lt pre place) (rw (put_bytes_length u pre g place (take u b) h r one) r) (simp length-drop (omega arith))
    ∙ past (dec_lt 0 pre)
  where
    one : length (take u b) ≡ u
    one = length-take-le u b (omega arith)

    past : Dec (0 < pre) → drop (pre * u) (put_bytes u pre g place (take u b)) ≡ drop (pre * u) g
    past (yes d) = rw (ne_eqb pre 0 (λ z. omega arith)) (joined_past g (place * u) (take u b) (pre * u) (omega (arith, one, mul-le-mul_right u inside)) r)
      where
        inside : suc place ≤ pre
        inside = omega arith
    past (no d) = rw (eq-eqb pre 0 (omega arith))

-- ---- the bytes that are kept, read as samples
-- k samples from slot a on, as bytes
record Part (u a k pre : ℕ) (g : List ℕ) : Type 0 where
  size : length (take (k * u) (drop (a * u) g)) ≡ k * u
  read : units u k (take (k * u) (drop (a * u) g)) ≡ take k (drop a (units u pre g))

part_of_lem : (u a k pre : ℕ) (g : List ℕ) → a + k ≤ pre → pre * u ≤ length g → Part u a k pre g
part_of_lem u a k pre g h room = record {
  size = length-take-le (k * u) (drop (a * u) g) (simp length-drop (omega (arith, add-mul a k u, mul-le-mul_right u h)));
  read = units_take_bytes u k (drop (a * u) g) (k * u) (omega arith) ∙ sym (units_part u a k pre g h);
}

module _ (u pre : ℕ) (g : List ℕ) (place kept : ℕ) (hp : place < max pre 1) (hk : kept ≤ pre) (room : pre * u ≤ length g) where
  older : Part u (pre - (kept - place)) (kept - place) pre g
  older = part_of_lem u (pre - (kept - place)) (kept - place) pre g (omega arith) room

  newer : Part u (place - kept) (min kept place) pre g
  newer = part_of_lem u (place - kept) (min kept place) pre g (omega arith) room

  parts_add : (kept - place) + min kept place ≡ kept
  parts_add = omega arith

  pub kept_read : units u kept (kept_bytes u pre g place kept) ≡ read_out pre (units u pre g) place kept
  kept_read =
      ap (λ (x : ℕ). units u x (kept_bytes u pre g place kept)) (sym parts_add)
      ∙ units_append u (kept - place) (min kept place) _ _ older.size
      ∙ ap₂ (λ (x y : List ℕ). x ++ y) older.read newer.read
      ∙ sym (read_parts pre (units u pre g) place kept (record { place_in = hp; kept_in = hk; room = rw units_length (omega arith) }))

  pub kept_size : length (kept_bytes u pre g place kept) ≡ kept * u
  kept_size =
      length-append (take ((kept - place) * u) (drop ((pre - (kept - place)) * u) g)) (take (min kept place * u) (drop ((place - kept) * u) g))
      ∙ ap₂ (λ (x y : ℕ). x + y) older.size newer.size
      ∙ sym (add-mul (kept - place) (min kept place) u)
      ∙ ap (λ (x : ℕ). x * u) parts_add
