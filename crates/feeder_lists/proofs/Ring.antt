-- Laws of the ring: what is read after any number of writes is the last of what was there and what was written.
use mathlib.Core.Path.{◌≡◌, refl, sym, ap, ◌∙◌}
use mathlib.Core.Bool.{Bool, true, false, cond}
use mathlib.Core.List.{List, [], ◌∷◌, ◌++◌, append_assoc, append-nil}
use Prim.Native.Nat.{ℕ, suc, ◌+◌, ◌-◌, ◌≤◌, ◌<◌, min, max}
use native.Mathlib.Numerals.{add-one}
use native.Mathlib.Decide.{dec_lt}
use native.Mathlib.Omega.{arith}
use lib.Dec.{ltb, eqb}
use borrow.Author.Tests.{ltb-true, lt-ltb, le-ltb, ne_eqb}
use lib.ListN.{length, take, drop, set, length-take, length-drop, length-append, length-set, drop_of_length-le}
use lib.Seq.{take-set-lt, drop-set-lt, take-suc-set, drop-append-le, drop-drop}
use Rattle.rules.specs.Ring.{next_slot, place_after}
use Rattle.feeder_lists.specs.Ring.{ending, put, ring_after, turned, read_out}

-- ---- laws of ending
pub ending_length : (n : ℕ) (xs : List ℕ) → length (ending n xs) ≡ min n (length xs)
ending_length n xs = simp length-drop (omega arith)

pub ending_all : (n : ℕ) (xs : List ℕ) → length xs ≤ n → ending n xs ≡ xs
ending_all n xs h = rw (zeroed)
  where
    zeroed : length xs - n ≡ 0
    zeroed = omega arith

-- what was given up before does not come into it
pub ending_again : (n : ℕ) (xs ys : List ℕ) → ending n (ending n xs ++ ys) ≡ ending n (xs ++ ys)
ending_again n xs ys =
    ap (ending n) (sym (drop-append-le a xs ys (omega arith)))
    ∙ drop-drop (length (drop a (xs ++ ys)) - n) a (xs ++ ys)
    ∙ ap (λ (k : ℕ). drop k (xs ++ ys)) count
  where
    a : ℕ
    a = length xs - n

    count : a + (length (drop a (xs ++ ys)) - n) ≡ length (xs ++ ys) - n
    count = simp (length-drop, length-append) (omega arith)

-- ---- laws of next
-- `place < max pre 1` is a place below pre, or 0 where there is no slot
pub next_lt : (pre place : ℕ) → next_slot pre place < max pre 1
next_lt pre place = go (ltb (place + 1) pre) refl
  where
    go : (b : Bool) → ltb (place + 1) pre ≡ b → cond b (place + 1) 0 < max pre 1
    go true e = omega (arith, ltb-true (place + 1) pre e)
    go false e = omega arith

pub next_in_lem : (pre place : ℕ) → place + 1 < pre → next_slot pre place ≡ place + 1
next_in_lem pre place h = rw (lt-ltb (place + 1) pre h)

pub next_wraps : (pre place : ℕ) → pre ≤ place + 1 → next_slot pre place ≡ 0
next_wraps pre place h = rw (le-ltb (place + 1) pre h)

-- ---- a turn of the ring
pub turned_length : (pre : ℕ) (g : List ℕ) (place : ℕ) → place ≤ pre → pre ≤ length g → length (turned pre g place) ≡ pre
turned_length pre g place h room = simp (length-append, length-drop, length-take) (omega arith)

module _ (pre : ℕ) (g : List ℕ) (place : ℕ) (inside : place < pre) (room : pre ≤ length g) where
  all_length : length (turned pre g place) ≡ pre
  all_length = turned_length pre g place (omega arith) room

  -- the oldest sample goes, v comes
  turned_put : (v : ℕ) → turned pre (set g place v) (next_slot pre place) ≡ drop 1 (turned pre g place) ++ (v ∷ [])
  turned_put v = go (dec_lt (place + 1) pre)
    where
      one_there : 1 ≤ length (drop place (take pre g))
      one_there = simp (length-drop, length-take) (omega arith)

      oldest : drop 1 (turned pre g place) ≡ drop (place + 1) (take pre g) ++ take place g
      oldest = drop-append-le 1 (drop place (take pre g)) (take place g) one_there ∙ ap (λ (x : List ℕ). x ++ take place g) (drop-drop 1 place (take pre g))

      stored : take (place + 1) (set g place v) ≡ take place g ++ (v ∷ [])
      stored = rw (add-one) (take-suc-set g place v (omega arith))

      go : Dec (place + 1 < pre) → turned pre (set g place v) (next_slot pre place) ≡ drop 1 (turned pre g place) ++ (v ∷ [])
      go (yes h) = rw (next_in_lem pre place h, oldest, stored, take-set-lt pre g place v inside, drop-set-lt (place + 1) (take pre g) place v (omega arith)) (sym (append_assoc (drop (place + 1) (take pre g)) (take place g) (v ∷ [])))
      go (no h) = rw (next_wraps pre place (omega arith), oldest, drop_of_length-le (take pre g) {i = place + 1} all_there) (append-nil (take pre (set g place v)) ∙ ap (λ (k : ℕ). take k (set g place v)) last_slot ∙ stored)
        where
          last_slot : pre ≡ place + 1
          last_slot = omega arith

          all_there : length (take pre g) ≤ place + 1
          all_there = simp length-take (omega arith)

  -- the last pre of what was kept and v
  read_put : (v kept : ℕ) → kept ≤ pre → read_out pre (set g place v) (next_slot pre place) (min pre (kept + 1)) ≡ ending pre (read_out pre g place kept ++ (v ∷ []))
  unfolding read_out
  read_put v kept h =
      ap (drop (pre - min pre (kept + 1))) (turned_put v ∙ sym (drop-append-le 1 all (v ∷ []) (omega (arith, all_length))))
      ∙ drop-drop (pre - min pre (kept + 1)) 1 (all ++ (v ∷ []))
      ∙ ap (λ (k : ℕ). drop k (all ++ (v ∷ []))) count
      ∙ sym (drop-drop (length (drop (pre - kept) (all ++ (v ∷ []))) - pre) (pre - kept) (all ++ (v ∷ [])))
      ∙ ap (ending pre) (drop-append-le (pre - kept) all (v ∷ []) (omega (arith, all_length)))
    where
      all : List ℕ
      all = turned pre g place

      count : 1 + (pre - min pre (kept + 1)) ≡ (pre - kept) + (length (drop (pre - kept) (all ++ (v ∷ []))) - pre)
      count = simp (length-drop, length-append all (v ∷ []), all_length) (omega arith)

-- ---- a ring that can be gone on with
pub record Turns (pre : ℕ) (g : List ℕ) (place kept : ℕ) : Type 0 where
  pub place_in : place < max pre 1
  pub kept_in : kept ≤ pre
  pub room : pre ≤ length g

pub read_length : (pre : ℕ) (g : List ℕ) (place kept : ℕ) → Turns pre g place kept → length (read_out pre g place kept) ≡ kept
unfolding read_out
read_length pre g place kept t = simp (length-drop, turned_length pre g place (omega (arith, t)) t.room) (omega (arith, t))

pub none_of_length : (xs : List ℕ) → length xs ≡ 0 → xs ≡ []
none_of_length [] e = refl
none_of_length (x ∷ xs) e = absurd (omega (arith, e))

pub put_length : (pre : ℕ) (g : List ℕ) (place v : ℕ) → length (put pre g place v) ≡ length g
put_length pre g place v = go (eqb pre 0)
  where
    go : (b : Bool) → length (cond b g (set g place v)) ≡ length g
    go true = refl
    go false = length-set g place v

module _ (pre : ℕ) (g : List ℕ) (place kept v : ℕ) (t : Turns pre g place kept) where
  pub turns_put : Turns pre (put pre g place v) (next_slot pre place) (min pre (kept + 1))
  turns_put = record { place_in = next_lt pre place; kept_in = omega arith; room = rw put_length t.room }

  pub read_turn : read_out pre (put pre g place v) (next_slot pre place) (min pre (kept + 1)) ≡ ending pre (read_out pre g place kept ++ (v ∷ []))
  read_turn = go (dec_lt 0 pre)
    where
      go : Dec (0 < pre) → read_out pre (put pre g place v) (next_slot pre place) (min pre (kept + 1)) ≡ ending pre (read_out pre g place kept ++ (v ∷ []))
      go (yes h) = rw (ne_eqb pre 0 (λ e. omega arith)) (read_put pre g place (omega (arith, t.place_in)) t.room v kept t.kept_in)
      go (no h) =
          none_of_length _ (read_length pre _ _ _ turns_put ∙ omega arith)
          ∙ sym (none_of_length (ending pre (read_out pre g place kept ++ (v ∷ []))) (ending_length pre (read_out pre g place kept ++ (v ∷ [])) ∙ omega arith))

-- ---- any number of samples, more than pre too
pub turns_all : (pre : ℕ) (xs : List ℕ) (g : List ℕ) (place kept : ℕ) → Turns pre g place kept → Turns pre (ring_after pre g place xs) (place_after pre place (length xs)) (min pre (kept + length xs))
unfolding ring_after place_after
turns_all pre [] g place kept t = record { place_in = t.place_in; kept_in = omega arith; room = t.room }
turns_all pre (v ∷ vs) g place kept t =
    rw (← counts) (turns_all pre vs (put pre g place v) (next_slot pre place) (min pre (kept + 1)) (turns_put pre g place kept v t))
  where
    counts : min pre (min pre (kept + 1) + length vs) ≡ min pre (kept + suc (length vs))
    counts = omega arith

pub read_all : (pre : ℕ) (xs : List ℕ) (g : List ℕ) (place kept : ℕ) → Turns pre g place kept
    → read_out pre (ring_after pre g place xs) (place_after pre place (length xs)) (min pre (kept + length xs)) ≡ ending pre (read_out pre g place kept ++ xs)
unfolding ring_after place_after
read_all pre [] g place kept t =
    ap (read_out pre g place) kept_is ∙ sym (ap (ending pre) (append-nil (read_out pre g place kept)) ∙ ending_all pre _ (omega (arith, read_length pre g place kept t, t.kept_in)))
  where
    kept_is : min pre (kept + 0) ≡ kept
    kept_is = omega (arith, t.kept_in)
read_all pre (v ∷ vs) g place kept t =
    ap (read_out pre _ _) counts
    ∙ read_all pre vs (put pre g place v) (next_slot pre place) (min pre (kept + 1)) (turns_put pre g place kept v t)
    ∙ ap (λ (x : List ℕ). ending pre (x ++ vs)) (read_turn pre g place kept v t)
    ∙ ending_again pre (read_out pre g place kept ++ (v ∷ [])) vs
    ∙ ap (ending pre) (append_assoc (read_out pre g place kept) (v ∷ []) vs)
  where
    counts : min pre (kept + suc (length vs)) ≡ min pre (min pre (kept + 1) + length vs)
    counts = omega arith
