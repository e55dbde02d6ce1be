-- Laws of the ring that loops and copies ask for: the two parts that are read, the parts of a firing push's head, the loop that writes, and which sample stands in which slot.
use mathlib.Core.Path.{◌≡◌, refl, sym, ap, ap₂, ◌∙◌}
use mathlib.Core.Logic.{◌≢◌}
use mathlib.Core.List.{List, [], ◌∷◌, ◌++◌, append_assoc}
use Prim.Native.Nat.{ℕ, zero, suc, ◌+◌, ◌-◌, ◌%◌, ◌≤◌, ◌<◌, min, max}
use native.Mathlib.Nat.{suc-add, zero-add, add-zero, add-mod_left, mod-eq_of_lt, zero-sub, suc-sub-suc, sub-zero, min-zero, suc-min-suc}
use native.Mathlib.Numerals.{add-one}
use native.Mathlib.Decide.{dec_lt}
use native.Mathlib.Omega.{arith}
use borrow.Author.Tests.{ne_eqb, eq-eqb}
use lib.ListN.{length, take, drop, get_or, length-take, length-drop, length-append, drop_of_length-le, take-append-drop}
use lib.Seq.{drop-drop, drop-cons, drop-set-lt, drop-nil, take-nil, get_or-set_same, get_or-set_other, drop-append-le}
use Rattle.rules.specs.Selection.{slot_of}
use Rattle.rules.specs.Ring.{next_slot, place_after}
use Rattle.feeder_lists.specs.Ring.{ending, put, ring_after, turned, read_out}
use Rattle.feeder_lists.proofs.Ring.{Turns, read_length, next_in_lem, next_wraps, next_lt, turned_length, put_length}

-- ---- parts
pub drop_append : (n : ℕ) (xs ys : List ℕ) → drop n (xs ++ ys) ≡ drop n xs ++ drop (n - length xs) ys
drop_append zero xs ys = ap (λ (k : ℕ). xs ++ drop k ys) (sym (zero-sub (length xs)))
drop_append (suc n) [] ys = ap (λ (k : ℕ). drop k ys) (sym (sub-zero (suc n)))
drop_append (suc n) (x ∷ xs) ys = drop_append n xs ys ∙ ap (λ (k : ℕ). drop n xs ++ drop k ys) (sym (suc-sub-suc n (length xs)))

pub drop_take : (a b : ℕ) (xs : List ℕ) → drop a (take b xs) ≡ take (b - a) (drop a xs)
drop_take zero b xs = ap (λ (k : ℕ). take k xs) (sym (sub-zero b))
drop_take (suc a) zero xs = sym (ap (λ (k : ℕ). take k (drop (suc a) xs)) (zero-sub (suc a)))
drop_take (suc a) (suc b) [] = sym (take-nil (suc b - suc a))
drop_take (suc a) (suc b) (x ∷ xs) = drop_take a b xs ∙ ap (λ (k : ℕ). take k (drop a xs)) (sym (suc-sub-suc b a))

-- past the end there is nothing
drop_min : (n : ℕ) (xs : List ℕ) → drop n xs ≡ drop (min (length xs) n) xs
drop_min n [] = drop-nil n ∙ sym (drop-nil (min 0 n))
drop_min zero (x ∷ xs) = ap (λ (k : ℕ). drop k (x ∷ xs)) (sym (min-zero (suc (length xs))))
drop_min (suc n) (x ∷ xs) = drop_min n xs ∙ ap (λ (k : ℕ). drop k (x ∷ xs)) (sym (suc-min-suc (length xs) n))

-- ---- the kept samples are at most two parts of the ring: the end of it, and what stands before the place
module _ (pre : ℕ) (g : List ℕ) (place kept : ℕ) (t : Turns pre g place kept) where
  pub read_parts : read_out pre g place kept ≡ take (kept - place) (drop (pre - (kept - place)) g) ++ take (min kept place) (drop (place - kept) g)
  unfolding read_out
  read_parts =
      drop_append (pre - kept) (drop place (take pre g)) (take place g)
      ∙ ap₂ (λ (x y : List ℕ). x ++ y) older newer
    where
      older : drop (pre - kept) (drop place (take pre g)) ≡ take (kept - place) (drop (pre - (kept - place)) g)
      older =
          drop-drop (pre - kept) place (take pre g)
          ∙ drop_min (place + (pre - kept)) (take pre g)
          ∙ ap (λ (k : ℕ). drop k (take pre g)) at
          ∙ drop_take (pre - (kept - place)) pre g
          ∙ ap (λ (k : ℕ). take k (drop (pre - (kept - place)) g)) many
        where
          at : min (length (take pre g)) (place + (pre - kept)) ≡ pre - (kept - place)
          at = simp length-take (omega (arith, t))

          many : pre - (pre - (kept - place)) ≡ kept - place
          many = omega (arith, t)

      before : (pre - kept) - length (drop place (take pre g)) ≡ place - kept
      before = simp (length-drop, length-take) (omega (arith, t))

      newer : drop ((pre - kept) - length (drop place (take pre g))) (take place g) ≡ take (min kept place) (drop (place - kept) g)
      newer = ap (λ (k : ℕ). drop k (take place g)) before ∙ drop_take (place - kept) place g ∙ ap (λ (k : ℕ). take k (drop (place - kept) g)) many
        where
          many : place - (place - kept) ≡ min kept place
          many = omega arith

  -- the last n of what is kept are what would be read if n were kept
  pub read_fewer : (n : ℕ) → drop n (read_out pre g place kept) ≡ read_out pre g place (kept - n)
  unfolding read_out
  read_fewer n = go (dec_lt n kept)
    where
      go : Dec (n < kept) → drop n (drop (pre - kept) (turned pre g place)) ≡ drop (pre - (kept - n)) (turned pre g place)
      go (yes h) = drop-drop n (pre - kept) (turned pre g place) ∙ ap (λ (k : ℕ). drop k (turned pre g place)) at
        where
          at : (pre - kept) + n ≡ pre - (kept - n)
          at = omega (arith, t)
      go (no h) = drop-drop n (pre - kept) (turned pre g place) ∙ past ((pre - kept) + n) (omega (arith, t)) ∙ sym (past (pre - (kept - n)) (omega arith))
        where
          past : (k : ℕ) → pre ≤ k → drop k (turned pre g place) ≡ []
          past k l = drop_of_length-le (turned pre g place) {i = k} (omega (arith, turned_length pre g place (omega (arith, t)) t.room))

  -- the head of a firing push: some of the ring, then some of the push
  pub head_parts : (p : List ℕ) (i : ℕ) → i ≤ length p → ending pre (read_out pre g place kept ++ take i p) ≡ read_out pre g place (min kept (pre - i)) ++ drop (i - pre) (take i p)
  head_parts p i h =
      ap (λ (k : ℕ). drop k (read_out pre g place kept ++ take i p)) count
      ∙ drop_append (kept + i - pre) (read_out pre g place kept) (take i p)
      ∙ ap₂ (λ (x y : List ℕ). x ++ y) (read_fewer (kept + i - pre) ∙ ap (read_out pre g place) left) (ap (λ (k : ℕ). drop k (take i p)) rest)
    where
      left : kept - (kept + i - pre) ≡ min kept (pre - i)
      left = omega (arith, t)

      count : length (read_out pre g place kept ++ take i p) - pre ≡ kept + i - pre
      count = simp (length-append, read_length pre g place kept t, length-take) (omega arith)

      rest : kept + i - pre - length (read_out pre g place kept) ≡ i - pre
      rest = simp (read_length pre g place kept t) (omega (arith, t))

  -- the head and the rest of the push: what is still wanted of the ring, then one part of the push
  pub firing_parts : (p : List ℕ) (i : ℕ) → i ≤ length p → ending pre (read_out pre g place kept ++ take i p) ++ drop i p ≡ read_out pre g place (min kept (pre - i)) ++ drop (i - pre) p
  firing_parts p i h =
      ap (λ (x : List ℕ). x ++ drop i p) (head_parts p i h)
      ∙ append_assoc (read_out pre g place (min kept (pre - i))) (drop (i - pre) (take i p)) (drop i p)
      ∙ ap (λ (x : List ℕ). read_out pre g place (min kept (pre - i)) ++ x) (sym (drop-append-le (i - pre) (take i p) (drop i p) (simp length-take (omega arith))) ∙ ap (drop (i - pre)) (take-append-drop i p))

-- ---- the loop that writes: one store and one place for each sample
pub write_turn : (pre : ℕ) (g : List ℕ) (place : ℕ) (p : List ℕ) (i : ℕ) → i < length p
    → ring_after pre (put pre g place (get_or p i 0)) (next_slot pre place) (drop (i + 1) p) ≡ ring_after pre g place (drop i p)
unfolding ring_after
write_turn pre g place p i h = rw (add-one i) (sym (rw (drop-cons p i 0 h)))

pub write_end : (pre : ℕ) (g : List ℕ) (place : ℕ) (p : List ℕ) (i : ℕ) → length p ≤ i → ring_after pre g place (drop i p) ≡ g
unfolding ring_after
write_end pre g place p i h = rw (drop_of_length-le p h)

pub place_turn : (pre place n : ℕ) → place_after pre place (suc n) ≡ place_after pre (next_slot pre place) n
unfolding place_after
place_turn pre place n = refl

pub place_end : (pre place : ℕ) → place_after pre place 0 ≡ place
unfolding place_after
place_end pre place = refl

-- a push after a push writes as one
pub ring_append : (pre : ℕ) (xs ys : List ℕ) (g : List ℕ) (place : ℕ) → ring_after pre g place (xs ++ ys) ≡ ring_after pre (ring_after pre g place xs) (place_after pre place (length xs)) ys
unfolding ring_after place_after
ring_append pre [] ys g place = refl
ring_append pre (x ∷ xs) ys g place = ring_append pre xs ys (put pre g place x) (next_slot pre place)

pub place_append : (pre a b place : ℕ) → place_after pre place (a + b) ≡ place_after pre (place_after pre place a) b
unfolding place_after
place_append pre zero b place = ap (place_after pre place) (zero-add b)
place_append pre (suc a) b place = ap (place_after pre place) (suc-add a b) ∙ place_append pre a b (next_slot pre place)

-- memory past the slots is not written
pub ring_past : (pre : ℕ) (xs : List ℕ) (g : List ℕ) (place : ℕ) → place < max pre 1 → drop pre (ring_after pre g place xs) ≡ drop pre g
unfolding ring_after
ring_past pre [] g place h = refl
ring_past pre (x ∷ xs) g place h = ring_past pre xs (put pre g place x) (next_slot pre place) (next_lt pre place) ∙ one (dec_lt 0 pre)
  where
    one : Dec (0 < pre) → drop pre (put pre g place x) ≡ drop pre g
    one (yes p) = rw (ne_eqb pre 0 (λ e. omega arith)) (drop-set-lt pre g place x (omega arith))
    one (no p) = rw (eq-eqb pre 0 (omega arith))

-- ---- sample k of those written from place on goes to slot (place + k) mod pre
-- the next place, as a remainder
next_mod : (pre place k : ℕ) → place < pre → (next_slot pre place + k) % pre ≡ (place + suc k) % pre
next_mod pre place k h = go (dec_lt (place + 1) pre)
  where
    go : Dec (place + 1 < pre) → (next_slot pre place + k) % pre ≡ (place + suc k) % pre
    go (yes d) = rw (next_in_lem pre place d) (ap (λ (x : ℕ). x % pre) more)
      where
        more : place + 1 + k ≡ place + suc k
        more = omega arith
    go (no d) = rw (next_wraps pre place (omega arith)) (sym (add-mod_left pre (0 + k)) ∙ ap (λ (x : ℕ). x % pre) around)
      where
        around : pre + (0 + k) ≡ place + suc k
        around = omega arith

pub place_mod : (pre n place : ℕ) → place < pre → place_after pre place n ≡ (place + n) % pre
unfolding place_after
place_mod pre zero place h = sym (rw (add-zero) (mod-eq_of_lt h))
place_mod pre (suc n) place h = place_mod pre n (next_slot pre place) (omega (arith, next_lt pre place)) ∙ next_mod pre place n h

-- a slot that is not written stays
untouched : (pre : ℕ) (xs : List ℕ) (g : List ℕ) (place j : ℕ) → place < pre → ((k : ℕ) → k < length xs → (place + k) % pre ≢ j) → get_or (ring_after pre g place xs) j 0 ≡ get_or g j 0
unfolding ring_after
untouched pre [] g place j h n = refl
untouched pre (x ∷ xs) g place j h n =
    untouched pre xs (put pre g place x) (next_slot pre place) j (omega (arith, next_lt pre place)) (λ k l e. n (suc k) (omega arith) (sym (next_mod pre place k h) ∙ e))
    ∙ rw (ne_eqb pre 0 (λ e. omega arith)) (get_or-set_other g place j x 0 (λ e. n 0 (omega arith) (rw add-zero (mod-eq_of_lt h ∙ sym e))))

-- fewer than pre places on is another slot
apart : (pre place k : ℕ) → place < pre → suc k < pre → (place + suc k) % pre ≢ place
apart pre place k h l e = go (dec_lt (place + suc k) pre)
  where
    go : Dec (place + suc k < pre) → ⊥
    go (yes d) = omega (arith, sym (mod-eq_of_lt d) ∙ e)
    go (no d) = omega (arith, sym (mod-eq_of_lt less) ∙ sym (add-mod_left pre (place + suc k - pre)) ∙ ap (λ (x : ℕ). x % pre) again ∙ e)
      where
        less : place + suc k - pre < pre
        less = omega arith

        again : pre + (place + suc k - pre) ≡ place + suc k
        again = omega arith

-- the last pre of the samples stand in their slots
pub slot : (pre : ℕ) (xs : List ℕ) (g : List ℕ) (place k : ℕ) → place < pre → pre ≤ length g → k < length xs → length xs ≤ k + pre → get_or (ring_after pre g place xs) ((place + k) % pre) 0 ≡ get_or xs k 0
unfolding ring_after
slot pre [] g place k h r l m = absurd (omega arith)
slot pre (x ∷ xs) g place zero h r l m =
    ap (λ (j : ℕ). get_or (ring_after pre (put pre g place x) (next_slot pre place) xs) j 0) here
    ∙ untouched pre xs (put pre g place x) (next_slot pre place) place (omega (arith, next_lt pre place)) (λ k b e. apart pre place k h (omega arith) (sym (next_mod pre place k h) ∙ e))
    ∙ rw (ne_eqb pre 0 (λ e. omega arith)) (get_or-set_same g place x 0 (omega arith))
  where
    here : (place + 0) % pre ≡ place
    here = rw add-zero (mod-eq_of_lt h)
slot pre (x ∷ xs) g place (suc k) h r l m =
    ap (λ (j : ℕ). get_or (ring_after pre (put pre g place x) (next_slot pre place) xs) j 0) (sym (next_mod pre place k h))
    ∙ slot pre xs (put pre g place x) (next_slot pre place) k (omega (arith, next_lt pre place)) (rw put_length r) (omega arith) (omega arith)

-- no slots: the place stays 0
pub place_zero : (pre n place : ℕ) → pre ≡ 0 → place ≡ 0 → place_after pre place n ≡ 0
unfolding place_after
place_zero pre zero place e z = z
place_zero pre (suc n) place e z = place_zero pre n (next_slot pre place) e (next_wraps pre place (omega arith))

-- the ring place is the slot of the next sample
pub place_slot : (pre n : ℕ) → place_after pre 0 n ≡ slot_of pre n
place_slot pre n = go (dec_lt 0 pre)
  where
    go : Dec (0 < pre) → place_after pre 0 n ≡ slot_of pre n
    go (yes h) = rw (ne_eqb pre 0 (λ e. omega arith)) (place_mod pre n 0 h ∙ ap (λ (x : ℕ). x % pre) (zero-add n))
    go (no h) = rw (eq-eqb pre 0 (omega arith)) (place_zero pre n 0 (omega arith) refl)
