-- Laws of the run that goes to the store: how far there is room, and which bytes are its first ones.
use mathlib.Core.Path.{◌≡◌, sym, ap, ap₂, ◌∙◌}
use mathlib.Core.Logic.{◌⊎◌, inl, inr}
use mathlib.Core.List.{List, ◌++◌, append-nil}
use Prim.Native.Nat.{ℕ, ◌+◌, ◌-◌, ◌*◌, ◌≤◌, ◌<◌, min, max}
use native.Mathlib.Nat.{add-mul, mul-le-mul_right}
use native.Mathlib.Decide.{dec_lt, ℕ_discrete}
use native.Mathlib.Omega.{arith}
use borrow.Author.Tests.{eq-eqb, ne_eqb}
use lib.ListN.{length, take, drop, length-append, length-drop}
use lib.Seq.{take-take, take_all, take-append-le, take-append-add, length-take-le}
use Rattle.rules.specs.Ring.{kept_bytes}
use Rattle.rules.specs.Push.{room_for}
use Rattle.feeder.specs.declared.Feeder.{Feeder}
use Rattle.feeder_run.specs.declared.Run.{Run}
use Rattle.store.specs.Room.{StoreRoom, PartsRoom}
use Rattle.feeder_run.specs.Run.{room_of, RunIs, bytes_of, WriteRoom}

-- ---- how far there is room
no_limit : (limit len n : ℕ) → limit ≡ 0 → room_for limit len n ≡ n
no_limit limit len n e = rw (eq-eqb limit 0 e)

-- what fits is cut by the places that are left
pub room_cuts : (f : Feeder) (n : ℕ) → f.capture.len + room_for f.limit f.capture.len n ≤ f.capture.capacity → room_for f.limit f.capture.len n ≡ min n (room_of f)
room_cuts f n h = go (ℕ_discrete f.limit 0)
  where
    go : Dec (f.limit ≡ 0) → room_for f.limit f.capture.len n ≡ min n (room_of f)
    go (yes e) = rw (eq-eqb f.limit 0 e) (omega (arith, no_limit f.limit f.capture.len n e))
    go (no e) = rw (ne_eqb f.limit 0 e)

-- ---- the counts of a run
-- two counts, cut one after the other
module _ (a b room x y : ℕ) (ex : x ≡ min a room) (ey : y ≡ min b (room - x)) where
  cut_sum : x + y ≡ min (a + b) room
  cut_sum = omega arith

  -- the second has a part only where the first is whole
  cut_or : (x ≡ a) ⊎ (y ≡ 0)
  cut_or = go (dec_lt room a)
    where
      go : Dec (room < a) → (x ≡ a) ⊎ (y ≡ 0)
      go (yes h) = inr (omega arith)
      go (no h) = inl (omega arith)

-- ---- the bytes of a run
-- the first bytes of two lists, of which the first has p samples: x samples of it and y of the other
first_two : (u x y p : ℕ) (P Q : List ℕ) → length P ≡ p * u → x ≤ p → (x ≡ p) ⊎ (y ≡ 0) → take ((x + y) * u) (P ++ Q) ≡ take (x * u) P ++ take (y * u) Q
first_two u x y p P Q l h (inl e) = ap (λ (k : ℕ). take k (P ++ Q)) both ∙ take-append-add P Q (y * u) ∙ ap (λ (z : List ℕ). z ++ take (y * u) Q) (sym (take_all (x * u) P (omega (arith, whole))))
  where
    whole : length P ≡ x * u
    whole = l ∙ ap (λ (k : ℕ). k * u) (sym e)

    both : (x + y) * u ≡ length P + y * u
    both = add-mul x y u ∙ ap (λ (k : ℕ). k + y * u) (sym whole)
first_two u x y p P Q l h (inr e) =
    ap (λ (k : ℕ). take k (P ++ Q)) all
    ∙ take-append-le (x * u) P Q (omega (arith, l, mul-le-mul_right u h))
    ∙ sym (ap (λ (k : ℕ). take (x * u) P ++ take k Q) none ∙ append-nil (take (x * u) P))
  where
    all : (x + y) * u ≡ x * u
    all = ap (λ (k : ℕ). (x + k) * u) e ∙ omega arith

    none : y * u ≡ 0
    none = ap (λ (k : ℕ). k * u) e ∙ omega arith

-- a part of memory of k samples from a on
part_size : (u a k n : ℕ) (g : List ℕ) → a + k ≤ n → n * u ≤ length g → length (take (k * u) (drop (a * u) g)) ≡ k * u
part_size u a k n g h room = length-take-le (k * u) (drop (a * u) g) (simp length-drop (omega (arith, add-mul a k u, mul-le-mul_right u h)))

module _ (u pre : ℕ) (g : List ℕ) (place w : ℕ) (b : List ℕ) (d n room : ℕ) (r : Run)
    (ring : pre * u ≤ length g) (place_inside : place < max pre 1) (kept : w ≤ pre) (passed : d ≤ n) (bytes : n * u ≤ length b) (is : RunIs room pre place w (n - d) r) where
  abbrev older : List ℕ
  older = take ((w - place) * u) (drop ((pre - (w - place)) * u) g)

  abbrev newer : List ℕ
  newer = take (min w place * u) (drop ((place - w) * u) g)

  older_size : length older ≡ (w - place) * u
  older_size = part_size u (pre - (w - place)) (w - place) pre g (omega arith) ring

  newer_size : length newer ≡ min w place * u
  newer_size = part_size u (place - w) (min w place) pre g (omega arith) ring

  sum_two : r.older + r.newer ≡ min (w - place + min w place) room
  sum_two = cut_sum (w - place) (min w place) room r.older r.newer is.older_is is.newer_is

  own_cut : r.own ≡ min (n - d) (room - (r.older + r.newer))
  own_cut = is.own_is ∙ ap (min (n - d)) (omega arith)

  -- how many they are
  pub run_count : r.count ≡ min (w + (n - d)) room
  run_count = is.count_is ∙ cut_sum (w - place + min w place) (n - d) room (r.older + r.newer) r.own sum_two own_cut ∙ ap (λ (k : ℕ). min (k + (n - d)) room) whole
    where
      whole : w - place + min w place ≡ w
      whole = omega arith

  older_le : r.older ≤ w - place
  older_le = omega (arith, is.older_is)

  newer_le : r.newer ≤ min w place
  newer_le = omega (arith, is.newer_is)

  own_le : r.own ≤ n - d
  own_le = omega (arith, is.own_is)

  -- the three parts lie in memory, and have room where as many samples have
  pub run_room : (len s : ℕ) (lv : ℕ → List ℕ) → StoreRoom u len r.count s lv → WriteRoom u len r d s lv (length g) (length b)
  run_room len s lv h = record {
    room = h;
    all = is.count_is;
    end_fits = omega (arith, ring, mul-le-mul_right u at_end);
    start_fits = omega (arith, ring, mul-le-mul_right u at_start);
    own_fits = omega (arith, bytes, mul-le-mul_right u in_push);
  }
    where
      at_end : r.end + r.older ≤ pre
      at_end = omega (arith, is.end_is, older_le)

      at_start : r.start + r.newer ≤ pre
      at_start = omega (arith, is.start_is, newer_le)

      in_push : d + r.own ≤ n
      in_push = omega (arith, own_le)

  -- they are the first bytes of the ring's newest samples and the push's own
  pub first_bytes : bytes_of u g b d r ≡ take (r.count * u) (kept_bytes u pre g place w ++ drop (d * u) b)
  first_bytes = counted ∙ ap (λ (k : ℕ). take (k * u) (kept_bytes u pre g place w ++ drop (d * u) b)) (sym is.count_is)
    where
      sized : length (older ++ newer) ≡ (w - place + min w place) * u
      sized = length-append older newer ∙ ap₂ (λ (x y : ℕ). x + y) older_size newer_size ∙ sym (add-mul (w - place) (min w place) u)

      in_older : take (r.older * u) (drop (r.end * u) g) ≡ take (r.older * u) older
      in_older = ap (λ (k : ℕ). take (r.older * u) (drop (k * u) g)) is.end_is ∙ sym (take-take (r.older * u) ((w - place) * u) (drop ((pre - (w - place)) * u) g) (mul-le-mul_right u older_le))

      in_newer : take (r.newer * u) (drop (r.start * u) g) ≡ take (r.newer * u) newer
      in_newer = ap (λ (k : ℕ). take (r.newer * u) (drop (k * u) g)) is.start_is ∙ sym (take-take (r.newer * u) (min w place * u) (drop ((place - w) * u) g) (mul-le-mul_right u newer_le))

      counted : bytes_of u g b d r ≡ take ((r.older + r.newer + r.own) * u) (kept_bytes u pre g place w ++ drop (d * u) b)
      counted =
          ap₂ (λ (x y : List ℕ). x ++ y ++ take (r.own * u) (drop (d * u) b)) in_older in_newer
          ∙ sym
          (first_two u (r.older + r.newer) r.own (w - place + min w place) (older ++ newer) (drop (d * u) b) sized (omega (arith, older_le, newer_le))
          (cut_or (w - place + min w place) (n - d) room (r.older + r.newer) r.own sum_two own_cut)
          ∙ ap (λ (x : List ℕ). x ++ take (r.own * u) (drop (d * u) b))
          (first_two u r.older r.newer (w - place) older newer older_size older_le (cut_or (w - place) (min w place) room r.older r.newer is.older_is is.newer_is)))

-- ---- what is written
module _ (u len : ℕ) (r : Run) (d s : ℕ) (lv : ℕ → List ℕ) (g b : List ℕ) (h : WriteRoom u len r d s lv (length g) (length b)) {x y z : List ℕ}
    (ex : x ≡ take (r.older * u) (drop (r.end * u) g)) (ey : y ≡ take (r.newer * u) (drop (r.start * u) g)) (ez : z ≡ take (r.own * u) (drop (d * u) b)) where
  size : (a k : ℕ) (l : List ℕ) → (a + k) * u ≤ length l → length (take (k * u) (drop (a * u) l)) ≡ k * u
  size a k l f = part_size u a k (a + k) l (omega arith) f

  pub parts_room : PartsRoom u len r.count s lv (length x) (length y) (length z)
  parts_room = record { room = h.room; bytes = omega (arith, older, newer, own, ap (λ (x : ℕ). x * u) h.all, add-mul (r.older + r.newer) r.own u, add-mul r.older r.newer u) }
    where
      older : length x ≡ r.older * u
      older = ap length ex ∙ size r.end r.older g h.end_fits

      newer : length y ≡ r.newer * u
      newer = ap length ey ∙ size r.start r.newer g h.start_fits

      own : length z ≡ r.own * u
      own = ap length ez ∙ size d r.own b h.own_fits

  parts_are : x ++ y ++ z ≡ bytes_of u g b d r
  parts_are = λ i. ex i ++ ey i ++ ez i

  pub bytes_size : length (bytes_of u g b d r) ≡ r.count * u
  bytes_size = ap length (sym parts_are) ∙ length-append (x ++ y) z ∙ ap (λ (k : ℕ). k + length z) (length-append x y) ∙ parts_room.bytes
