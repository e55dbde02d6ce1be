-- Writing n samples to the ring is writing the last of them, as many as there are slots at most, in one run, or in two: up to the ring's end and on from its start. For any unit u.
use Prim.Native.Nat.{ℕ, zero, suc, ◌+◌, ◌-◌, ◌*◌, ◌%◌, ◌≤◌, ◌<◌, min}
use mathlib.Core.Path.{◌≡◌, sym, ap, ap₂, ◌∙◌}
use mathlib.Core.List.{List, ◌++◌}
use native.Mathlib.Nat.{zero-add, zero-mul, add-mul, mul-le-mul_right, add-sub_of_le, sub-add_cancel, mod_self}
use native.Mathlib.Numerals.{add-one}
use native.Mathlib.Decide.{dec_lt}
use native.Mathlib.Omega.{arith}
use borrow.Author.Tests.{ne_eqb}
use lib.ListN.{length, take, drop, length-drop, take-append-drop}
use lib.Seq.{drop-drop, drop_at, take-add, length-take-le}
use Rattle.rules.specs.Ring.{next_slot, place_after, written, put_bytes, ring_bytes}
use Rattle.feeder_lists.proofs.Ring.{next_in_lem}
use Rattle.feeder_lists.proofs.Slots.{place_mod, place_end}
use Rattle.feeder_lists.proofs.Bytes.{joined_length, joined_joined, bytes_end, bytes_past, ring_bytes_length}
use Rattle.feeder_ring.specs.Room.{RingRoom}
use Rattle.feeder_ring.proofs.Place.{place_lt}

-- ---- one run
-- no bytes
joined_none : (u : ℕ) (g : List ℕ) (at : ℕ) (b : List ℕ) → written g at (take (0 * u) b) ≡ g
joined_none u g at b = ap (λ (x : ℕ). written g at (take x b)) (zero-mul u) ∙ take-append-drop at g

module _ (u pre : ℕ) where
  one_more : (g : List ℕ) (q k : ℕ) (b : List ℕ) → 0 < pre → ring_bytes u pre (written g (q * u) (take u b)) (next_slot pre q) k (drop u b) ≡ ring_bytes u pre g q (suc k) b
  unfolding ring_bytes
  one_more g q k b p = rw (ne_eqb pre 0 (λ e. omega arith))

  -- one sample, and then the bytes of k more
  put_more : (g : List ℕ) (q k : ℕ) (b : List ℕ) → q < pre → pre * u ≤ length g → suc k * u ≤ length b
      → written g (q * u) (take (suc k * u) b) ≡ written (written g (q * u) (take u b)) (suc q * u) (take (k * u) (drop u b))
  put_more g q k b h r l =
      ap (λ (x : List ℕ). written g (q * u) x) (ap (λ (x : ℕ). take x b) count ∙ take-add u (k * u) b)
      ∙ sym (joined_joined g (q * u) (take u b) (take (k * u) (drop u b)) (omega (arith, one, mul-le-mul_right {m = suc q} {n = pre} u h)))
      ∙ ap (λ (x : ℕ). written (written g (q * u) (take u b)) x (take (k * u) (drop u b))) here
    where
      one : length (take u b) ≡ u
      one = length-take-le u b (omega arith)

      count : suc k * u ≡ u + k * u
      count = omega arith

      here : q * u + length (take u b) ≡ suc q * u
      here = omega (arith, one)

  pub one_run : (k : ℕ) (g : List ℕ) (q : ℕ) (b : List ℕ) → q + k ≤ pre → pre * u ≤ length g → k * u ≤ length b → written g (q * u) (take (k * u) b) ≡ ring_bytes u pre g q k b
  one_run zero g q b h r l = joined_none u g (q * u) b ∙ sym (bytes_end u pre g q b)
  one_run (suc zero) g q b h r l =
      put_more g q 0 b (omega arith) r l
      ∙ joined_none u (written g (q * u) (take u b)) (suc q * u) (drop u b)
      ∙ sym (bytes_end u pre (written g (q * u) (take u b)) (next_slot pre q) (drop u b))
      ∙ one_more g q 0 b (omega arith)
  one_run (suc (suc k)) g q b h r l =
      put_more g q (suc k) b (omega arith) r l
      ∙ one_run (suc k) put (suc q) (drop u b) (omega arith) (rw same r) (simp length-drop (omega arith))
      ∙ ap (λ (x : ℕ). ring_bytes u pre put x (suc k) (drop u b)) (sym (next_in_lem pre q (omega arith) ∙ add-one q))
      ∙ one_more g q (suc k) b (omega arith)
    where
      put : List ℕ
      put = written g (q * u) (take u b)

      same : length put ≡ length g
      same = joined_length g (q * u) (take u b) (omega (arith, length-take-le u b (omega arith), mul-le-mul_right {m = suc q} {n = pre} u (omega arith)))

  -- ---- two runs
  -- a samples, and then c more
  write_append : (a c : ℕ) (g : List ℕ) (place : ℕ) (b : List ℕ) → ring_bytes u pre g place (a + c) b ≡ ring_bytes u pre (ring_bytes u pre g place a b) (place_after pre place a) c (drop (a * u) b)
  unfolding ring_bytes place_after
  write_append zero c g place b = ap₂ (λ (n k : ℕ). ring_bytes u pre g place n (drop k b)) (zero-add c) (sym (zero-mul u))
  write_append (suc a) c g place b =
      ap (λ (n : ℕ). ring_bytes u pre g place n b) more
      ∙ write_append a c (put_bytes u pre g place (take u b)) (next_slot pre place) (drop u b)
      ∙ ap (ring_bytes u pre (ring_bytes u pre (put_bytes u pre g place (take u b)) (next_slot pre place) a (drop u b)) (place_after pre (next_slot pre place) a) c) (drop-drop (a * u) u b ∙ ap (λ (k : ℕ). drop k b) count)
    where
      more : suc a + c ≡ suc (a + c)
      more = omega arith

      count : u + a * u ≡ suc a * u
      count = omega arith

  -- up to the end, and on from the start
  module _ (g : List ℕ) (q c : ℕ) (b : List ℕ) (h : q < pre) (hc : c ≤ pre) (r : pre * u ≤ length g) (l : (pre - q + c) * u ≤ length b) where
    upto : List ℕ
    upto = written g (q * u) (take ((pre - q) * u) b)

    upto_is : upto ≡ ring_bytes u pre g q (pre - q) b
    unfolding upto
    upto_is = one_run (pre - q) g q b (omega arith) r (omega (arith, l, add-mul (pre - q) c u))

    at_start : place_after pre q (pre - q) ≡ 0
    at_start = place_mod pre (pre - q) q h ∙ ap (λ (x : ℕ). x % pre) whole ∙ mod_self pre
      where
        whole : q + (pre - q) ≡ pre
        whole = omega arith

    pub two_runs : written (written g (q * u) (take ((pre - q) * u) b)) 0 (take (c * u) (drop ((pre - q) * u) b)) ≡ ring_bytes u pre g q (pre - q + c) b
    unfolding upto
    two_runs =
        ap (λ (at : ℕ). written upto at (take (c * u) (drop ((pre - q) * u) b))) (sym (zero-mul u))
        ∙ one_run c upto 0 (drop ((pre - q) * u) b) (omega arith) (rw upto_length r) (simp length-drop (omega (arith, l, add-mul (pre - q) c u)))
        ∙ ap₂ (λ (x : List ℕ) (p : ℕ). ring_bytes u pre x p c (drop ((pre - q) * u) b)) upto_is (sym at_start)
        ∙ sym (write_append (pre - q) c g q b)
      where
        upto_length : length upto ≡ length g
        upto_length = ap length upto_is ∙ ring_bytes_length u pre (pre - q) g q b (omega arith) r (omega (arith, l, add-mul (pre - q) c u))

  -- ---- more samples than slots: what was there does not matter
  -- a whole turn of the ring
  turn_form : (g : List ℕ) (q : ℕ) (x y : List ℕ) → q ≤ pre → pre * u ≤ length g → length x ≡ (pre - q) * u → length y ≡ q * u → written (written g (q * u) x) 0 y ≡ y ++ (x ++ drop (pre * u) g)
  turn_form g q x y h r ex ey =
      ap (λ (z : List ℕ). y ++ z)
      (ap (λ (k : ℕ). drop k (written g (q * u) x)) ey
      ∙ drop_at (take (q * u) g) (x ++ drop (length x) (drop (q * u) g)) (q * u) (length-take-le (q * u) g (omega (arith, r, mul-le-mul_right {m = q} {n = pre} u h)))
      ∙ ap (λ (z : List ℕ). x ++ z) (drop-drop (length x) (q * u) g ∙ ap (λ (k : ℕ). drop k g) all))
    where
      all : q * u + length x ≡ pre * u
      all = ap (λ (k : ℕ). q * u + k) ex ∙ sym (add-mul q (pre - q) u) ∙ ap (λ (k : ℕ). k * u) (add-sub_of_le h)

  turn_same : (g g' : List ℕ) (q : ℕ) (b : List ℕ) → q < pre → pre * u ≤ length g → pre * u ≤ length g' → pre * u ≤ length b → drop (pre * u) g ≡ drop (pre * u) g' → ring_bytes u pre g q pre b ≡ ring_bytes u pre g' q pre b
  turn_same g g' q b h r r' l e = form g r ∙ ap (λ (z : List ℕ). y ++ (x ++ z)) e ∙ sym (form g' r')
    where
      whole : pre - q + q ≡ pre
      whole = sub-add_cancel (omega arith)

      both : (pre - q) * u + q * u ≡ pre * u
      both = sym (add-mul (pre - q) q u) ∙ ap (λ (k : ℕ). k * u) whole

      x : List ℕ
      x = take ((pre - q) * u) b

      y : List ℕ
      y = take (q * u) (drop ((pre - q) * u) b)

      form : (s : List ℕ) → pre * u ≤ length s → ring_bytes u pre s q pre b ≡ y ++ (x ++ drop (pre * u) s)
      form s rs =
          ap (λ (n : ℕ). ring_bytes u pre s q n b) (sym whole)
          ∙ sym (two_runs s q q b h (omega arith) rs (omega (arith, l, ap (λ (k : ℕ). k * u) whole)))
          ∙ turn_form s q x y (omega arith) rs (length-take-le ((pre - q) * u) b (omega (arith, l, both))) (length-take-le (q * u) (drop ((pre - q) * u) b) (simp length-drop (omega (arith, l, both))))

  -- only the last pre samples count
  pub last_samples : (g : List ℕ) (place n : ℕ) (b : List ℕ) → place < pre → pre * u ≤ length g → n * u ≤ length b
      → ring_bytes u pre g (place_after pre place (n - min n pre)) (min n pre) (drop ((n - min n pre) * u) b) ≡ ring_bytes u pre g place n b
  last_samples g place n b h r l = go (dec_lt pre n)
    where
      d : ℕ
      d = n - min n pre

      go : Dec (pre < n) → ring_bytes u pre g (place_after pre place d) (min n pre) (drop (d * u) b) ≡ ring_bytes u pre g place n b
      go (yes k) =
          ap (λ (m : ℕ). ring_bytes u pre g (place_after pre place d) m (drop (d * u) b)) slots
          ∙ turn_same g (ring_bytes u pre g place d b) (place_after pre place d) (drop (d * u) b) (place_lt pre place d h) r (rw same r) (simp length-drop (omega (arith, l, count, split)))
          (sym (bytes_past u pre d g place b (omega arith) r (omega (arith, l, count, split))))
          ∙ sym (write_append d pre g place b)
          ∙ ap (λ (x : ℕ). ring_bytes u pre g place x b) all
        where
          slots : min n pre ≡ pre
          slots = omega arith

          all : d + pre ≡ n
          all = omega arith

          split : (d + pre) * u ≡ d * u + pre * u
          split = add-mul d pre u

          count : (d + pre) * u ≡ n * u
          count = ap (λ (x : ℕ). x * u) all

          same : length (ring_bytes u pre g place d b) ≡ length g
          same = ring_bytes_length u pre d g place b (omega arith) r (omega (arith, l, count, split))
      go (no k) = sym (ap (λ (x : ℕ). ring_bytes u pre g place x b) (sym all) ∙ write_append d (min n pre) g place b ∙ ap (λ (x : List ℕ). ring_bytes u pre x (place_after pre place d) (min n pre) (drop (d * u) b)) (ap (λ (x : ℕ). ring_bytes u pre g place x b) none ∙ bytes_end u pre g place b))
        where
          none : d ≡ 0
          none = omega arith

          all : d + min n pre ≡ n
          all = omega arith

-- ---- the room of one run
pub run_room : {u pre place ring : ℕ} → RingRoom u pre place ring → (n : ℕ) → n ≤ pre - place → place * u + n * u ≤ ring
run_room {u} {pre} {place} r n h = omega (arith, r.slots, sym (add-mul place n u), mul-le-mul_right {m = place + n} {n = pre} u (omega (arith, r.place_in)))

-- ---- what the code writes where the ring's end is reached: m samples from slot q on, up to the end and then from slot 0 on, after those that are passed over
pub record Around (u pre n m q ring bytes : ℕ) : Type 0 where
  pub slot : q < pre
  pub reaches : pre - q ≤ m
  pub end : q * u + (pre - q) * u ≤ ring
  pub start : (m - (pre - q)) * u ≤ ring
  pub older : (n - m) * u + (pre - q) * u ≤ bytes
  pub newer : (n - m + (pre - q)) * u + (m - (pre - q)) * u ≤ bytes

module _ (u : ℕ) {pre place n m q : ℕ} (h : place < pre) (past : pre - place < n) (em : m ≡ min n pre) (eq : q ≡ place_after pre place (n - m)) where
  inside : q < pre
  inside = rw eq (place_lt pre place (n - m) h)

  enough : pre - q ≤ m
  enough = go (dec_lt pre n)
    where
      go : Dec (pre < n) → pre - q ≤ m
      go (yes c) = omega arith
      go (no c) = omega (arith, eq ∙ ap (place_after pre place) none ∙ place_end pre place)
        where
          none : n - m ≡ 0
          none = omega arith

  pub around : {ring bytes : ℕ} → pre * u ≤ ring → n * u ≤ bytes → Around u pre n m q ring bytes
  around r l = record {
    slot = inside;
    reaches = enough;
    end = omega (arith, sym (add-mul q (pre - q) u) ∙ ap (λ (x : ℕ). x * u) slots);
    start = omega (arith, mul-le-mul_right {m = m - (pre - q)} {n = pre} u (omega arith));
    older = omega (arith, sym (add-mul (n - m) (pre - q) u), mul-le-mul_right {m = n - m + (pre - q)} {n = n} u (omega (arith, enough)));
    newer = omega (arith, sym (add-mul (n - m + (pre - q)) (m - (pre - q)) u) ∙ ap (λ (x : ℕ). x * u) samples);
  }
    where
      slots : q + (pre - q) ≡ pre
      slots = omega (arith, inside)

      samples : n - m + (pre - q) + (m - (pre - q)) ≡ n
      samples = omega (arith, enough)

  pub around_is : (g g₁ g₂ b : List ℕ) → pre * u ≤ length g → n * u ≤ length b
      → g₁ ≡ written g (q * u) (take ((pre - q) * u) (drop ((n - m) * u) b))
      → g₂ ≡ written g₁ 0 (take ((m - (pre - q)) * u) (drop ((n - m + (pre - q)) * u) b))
      → g₂ ≡ ring_bytes u pre g place n b
  around_is g g₁ g₂ b r l e₁ e₂ =
      e₂
      ∙ ap₂ (λ (x y : List ℕ). written x 0 (take ((m - (pre - q)) * u) y)) e₁ (ap (λ (x : ℕ). drop x b) (add-mul (n - m) (pre - q) u) ∙ sym (drop-drop ((pre - q) * u) ((n - m) * u) b))
      ∙ two_runs u pre g q (m - (pre - q)) rest inside (omega (arith, enough)) r (simp length-drop (omega (arith, ap (λ (x : ℕ). x * u) all, add-mul (n - m) m u, ap (λ (x : ℕ). x * u) whole)))
      ∙ ap (λ (x : ℕ). ring_bytes u pre g q x rest) all
      ∙ ap₂ (λ (p x : ℕ). ring_bytes u pre g p x rest) eq em
      ∙ ap (λ (x : ℕ). ring_bytes u pre g (place_after pre place x) (min n pre) (drop (x * u) b)) (ap (λ (x : ℕ). n - x) em)
      ∙ last_samples u pre g place n b h r l
    where
      rest : List ℕ
      rest = drop ((n - m) * u) b

      all : pre - q + (m - (pre - q)) ≡ m
      all = omega (arith, enough)

      whole : n - m + m ≡ n
      whole = omega arith
