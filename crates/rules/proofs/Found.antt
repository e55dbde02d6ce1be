-- Over true nodes the walks of next and previous find what next and previous are: each direction sees the samples, and chunk follows chunk.
use Prim.Native.Nat.{ℕ, zero, suc, ◌+◌, ◌-◌, ◌*◌, ◌/◌, ◌%◌, ◌≤◌, ◌<◌, min, zero-le}
use mathlib.Core.Path.{◌≡◌, refl, sym, ap, ◌∙◌, subst⁻¹}
use mathlib.Core.Bool.{Bool, true, false, cond, not, ◌&&◌}
use mathlib.Core.Logic.{◌⊎◌, inl, inr}
use native.Mathlib.Nat.{le_refl, zero-lt-suc, mod-one, dvd_of_mod-eq-zero, mod-eq-zero_of_dvd, dvd-sub, dvd_refl}
use native.Mathlib.Decide.{dec_lt, ℕ_discrete}
use native.Mathlib.Omega.{arith}
use lib.Bits.{bit_and, bit_xor, xor_comm}
use lib.Dec.{eqb, leb}
use borrow.Author.Tests.{eqb-true, eq-eqb, ne_eqb, leb-true, lt-ltb, le-ltb}
use Rattle.rules.specs.Node.{Node, changes, node_of, leaf, mirror, quiet, span, chunk, top_level}
use Rattle.rules.specs.Search.{changed, seek, higher, lower, next, previous}
use Rattle.rules.specs.Walk.{nothing, forward, backward, ahead, behind, chunks, chunks_for, next_walk, previous_from, previous_walk}
use Rattle.rules.proofs.Node.{node_one, Quiet, quiet_true, true_quiet}
use Rattle.rules.proofs.Search.{times, times_up, times_down}
use Rattle.rules.proofs.Walk.{span_pos, Taken, Sees, total, Joint, Linked, end, link, chunks_find}

-- every node that a walk can read is the node of its range
pub record TrueNodes (has : ℕ → Bool) (reader : ℕ → ℕ → Node) (s : ℕ → ℕ) (len : ℕ) : Type 0 where
  pub is : (l p : ℕ) → l ≤ top_level → (l ≡ 0) ⊎ (has l ≡ true) → p % span l ≡ 0 → p + span l ≤ len → reader l p ≡ node_of s p (p + span l)

-- ---- what taking a level says
pub both : (a b : Bool) → (a && b) ≡ true → (a ≡ true) × (b ≡ true)
both true b e = (refl, e)
both false b e = (cc, cc)

pub record Fits (has : ℕ → Bool) (l p x y : ℕ) : Type 0 where
  pub aligned : p % span l ≡ 0
  pub room : x ≤ y
  pub in_set : (l ≡ 0) ⊎ (has l ≡ true)

fits : (has : ℕ → Bool) (l p x y : ℕ) → (l ≡ 0 → x ≤ y) → (l ≡ 0) ⊎ ((has l && (eqb (p % span l) 0 && leb x y)) ≡ true) → Fits has l p x y
fits has l p x y h (inl z) = record { aligned = subst⁻¹ (λ (k : ℕ). p % span k ≡ 0) z (mod-one p); room = h z; in_set = inl z }
fits has l p x y h (inr t) =
    let a = both (has l) (eqb (p % span l) 0 && leb x y) t in
    let b = both (eqb (p % span l) 0) (leb x y) a.1 in
    record { aligned = eqb-true _ _ b.0; room = leb-true _ _ b.1; in_set = inr a.0 }

pub ahead_fits : (has : ℕ → Bool) (reader : ℕ → ℕ → Node) (hi l p : ℕ) → Taken (forward has reader hi) l p → Fits has l p (p + span l) hi
ahead_fits has reader hi l p t = fits has l p (p + span l) hi (λ z. subst⁻¹ (λ (k : ℕ). p + span k ≤ hi) z (omega (arith, t.some_left))) t.how

pub behind_fits : (has : ℕ → Bool) (reader : ℕ → ℕ → Node) (lo l p : ℕ) → Taken (backward has reader lo) l p → Fits has l p (lo + span l) p
behind_fits has reader lo l p t = fits has l p (lo + span l) p (λ z. subst⁻¹ (λ (k : ℕ). lo + span k ≤ p) z (omega (arith, t.some_left))) t.how

-- the node that ends at an aligned place starts at one
pub aligned_before : (l p : ℕ) → p % span l ≡ 0 → (p - span l) % span l ≡ 0
aligned_before l p e = mod-eq-zero_of_dvd (span l) (dvd-sub (span l) (dvd_of_mod-eq-zero (span l) e) (dvd_refl (span l)))

-- ---- places
-- the test fails at a place exactly where no masked line changes there
same_place : (s : ℕ → ℕ) (m i j : ℕ) → i ≡ j → bit_and (changes s i) m ≡ 0 → changed s m j ≡ false
same_place s m i j e h = ap not (eq-eqb _ _ (ap (λ (k : ℕ). bit_and (changes s k) m) (sym e) ∙ h))

place_same : (s : ℕ → ℕ) (m i j : ℕ) → i ≡ j → changed s m i ≡ false → bit_and (changes s j) m ≡ 0
place_same s m i j e h = ap (λ (k : ℕ). bit_and (changes s k) m) (sym e) ∙ eqb-true _ _ (go (eqb (bit_and (changes s i) m) 0) h)
  where
    go : (b : Bool) → not b ≡ false → b ≡ true
    go true h = refl
    go false h = sym h

module _ (has : ℕ → Bool) (reader : ℕ → ℕ → Node) (s : ℕ → ℕ) (len m : ℕ) (r : TrueNodes has reader s len) where
  pub sample_read : (p : ℕ) → p < len → reader 0 p ≡ leaf (s p)
  sample_read p h = r.is 0 p zero-le (inl refl) (mod-one p) (omega arith) ∙ node_one s p

  -- ---- forward
  module _ (hi : ℕ) (inside : hi ≤ len) where
    node_ahead : (l p : ℕ) → Taken (forward has reader hi) l p → reader l p ≡ node_of s p (p + span l)
    node_ahead l p t = let f = ahead_fits has reader hi l p t in r.is l p t.level f.in_set f.aligned (omega (arith, f.room))

    pub forward_sees : Sees (forward has reader hi) (λ (p : ℕ). Unit {0}) higher (changed s m) m (λ (p : ℕ). s (p - 1))
    unfolding node_of
    forward_sees = record {
      room = λ l p t. omega (arith, (ahead_fits has reader hi l p t).room);
      moves = λ l p t. sym (times_up (span l) p);
      leaves = λ l p t. omega arith;
      stays = λ l p t i. tt;
      passes = λ l p t i. passes l p t;
      shows = λ l p t i. shows l p t;
      carries = λ l p t i. ap (λ (n : Node). n.last) (node_ahead l p t);
    }
      where
        passes : (l p : ℕ) → Taken (forward has reader hi) l p → quiet (reader l p) (s (p - 1)) m ≡ true → (j : ℕ) → j < span l → changed s m (times higher j p) ≡ false
        passes l p t q j h = same_place s m (p + j) (times higher j p) (sym (times_up j p)) (pick (ℕ_discrete j 0))
          where
            told : Quiet s (reader l p).first (s (p - 1)) m p (p + span l)
            told = quiet_true s (reader l p) (s (p - 1)) m p (p + span l) (ap (λ (n : Node). n.toggles) (node_ahead l p t)) q

            pick : Dec (j ≡ 0) → bit_and (changes s (p + j)) m ≡ 0
            pick (yes z) = ap (λ (k : ℕ). bit_and (changes s k) m) (omega arith) ∙ ap (λ (x : ℕ). bit_and (bit_xor x (s (p - 1))) m) (sym (ap (λ (n : Node). n.first) (node_ahead l p t))) ∙ told.border
            pick (no z) = told.inside (p + j) (omega arith) (omega arith)

        shows : (l p : ℕ) → Taken (forward has reader hi) l p → ((j : ℕ) → j < span l → changed s m (times higher j p) ≡ false) → quiet (reader l p) (s (p - 1)) m ≡ true
        shows l p t none_here = true_quiet s (reader l p) (s (p - 1)) m p (p + span l) (ap (λ (n : Node). n.toggles) (node_ahead l p t)) (omega (arith, span_pos l)) (record {
          border = ap (λ (n : Node). bit_and (bit_xor n.first (s (p - 1))) m) (node_ahead l p t) ∙ here p (le_refl p) (omega (arith, span_pos l));
          inside = λ i a b. here i (omega arith) b;
        })
          where
            here : (i : ℕ) → p ≤ i → i < p + span l → bit_and (changes s i) m ≡ 0
            here i a b = place_same s m (times higher (i - p) p) i (times_up (i - p) p ∙ omega arith) (none_here (i - p) (omega arith))

  -- ---- backward
  module _ (lo : ℕ) where
    -- a place up to len, as every place of a backward walk is
    node_behind : (l p : ℕ) → p ≤ len → Taken (backward has reader lo) l p → reader l (p - span l) ≡ node_of s (p - span l) p
    node_behind l p hp t =
        let f = behind_fits has reader lo l p t in
        r.is l (p - span l) t.level f.in_set (aligned_before l p f.aligned) (omega (arith, f.room))
        ∙ ap (node_of s (p - span l)) (back f.room)
      where
        back : lo + span l ≤ p → p - span l + span l ≡ p
        back h = omega arith

    pub backward_sees : Sees (backward has reader lo) (λ (p : ℕ). p ≤ len) lower (changed s m) m s
    unfolding node_of
    backward_sees = record {
      room = λ l p t. omega (arith, (behind_fits has reader lo l p t).room);
      moves = λ l p t. sym (times_down (span l) p);
      leaves = λ l p t. omega arith;
      stays = λ l p t i. omega arith;
      passes = passes;
      shows = shows;
      carries = λ l p t i. ap (λ (n : Node). n.first) (node_behind l p i t);
    }
      where
        passes : (l p : ℕ) → Taken (backward has reader lo) l p → p ≤ len → quiet (mirror (reader l (p - span l))) (s p) m ≡ true → (j : ℕ) → j < span l → changed s m (times lower j p) ≡ false
        passes l p t i q j h = same_place s m (p - j) (times lower j p) (sym (times_down j p)) (pick (ℕ_discrete j 0))
          where
            told : Quiet s (reader l (p - span l)).last (s p) m (p - span l) p
            told = quiet_true s (mirror (reader l (p - span l))) (s p) m (p - span l) p (ap (λ (n : Node). n.toggles) (node_behind l p i t)) q

            pick : Dec (j ≡ 0) → bit_and (changes s (p - j)) m ≡ 0
            pick (yes z) =
                ap (λ (k : ℕ). bit_and (changes s k) m) (omega arith)
                ∙ ap (λ (x : ℕ). bit_and x m) (xor_comm (s p) (s (p - 1)) ∙ ap (λ (x : ℕ). bit_xor x (s p)) (sym (ap (λ (n : Node). n.last) (node_behind l p i t))))
                ∙ told.border
            pick (no z) = told.inside (p - j) (omega (arith, (behind_fits has reader lo l p t).room)) (omega (arith, t.some_left))

        shows : (l p : ℕ) → Taken (backward has reader lo) l p → p ≤ len → ((j : ℕ) → j < span l → changed s m (times lower j p) ≡ false) → quiet (mirror (reader l (p - span l))) (s p) m ≡ true
        shows l p t i none_here = true_quiet s (mirror (reader l (p - span l))) (s p) m (p - span l) p (ap (λ (n : Node). n.toggles) (node_behind l p i t)) (omega (arith, room, span_pos l)) (record {
          border = ap (λ (n : Node). bit_and (bit_xor n.last (s p)) m) (node_behind l p i t) ∙ ap (λ (x : ℕ). bit_and x m) (xor_comm (s (p - 1)) (s p)) ∙ here p (omega (arith, room, span_pos l)) (le_refl p);
          inside = λ i a b. here i a (omega arith);
        })
          where
            room : lo + span l ≤ p
            room = (behind_fits has reader lo l p t).room

            here : (i : ℕ) → p - span l < i → i ≤ p → bit_and (changes s i) m ≡ 0
            here i a b = place_same s m (times lower (p - i) p) i (times_down (p - i) p ∙ omega arith) (none_here (p - i) (omega (arith, room)))

  -- ---- over chunks
  abbrev AheadLinked : ℕ → ℕ → ℕ → Type 0
  AheadLinked = Linked (ahead has reader len) (λ (p : ℕ). Unit {0}) higher (changed s m) m (λ (p : ℕ). s (p - 1))

  ahead_linked : (n c p : ℕ) → (0 < n → (c + n) * chunk < len + chunk) → c * chunk ≤ p → p ≤ (c + 1) * chunk → AheadLinked n c p
  ahead_linked zero c p h a b = end
  ahead_linked (suc n) c p h a b = link tt (forward_sees (min ((c + 1) * chunk) len) (omega arith)) joint (ahead_linked n (c + 1) ((c + 1) * chunk) (λ l. omega (arith, h (zero-lt-suc n))) (omega arith) (omega arith))
    where
      joint : 0 < n → Joint (ahead has reader len) (λ (p : ℕ). Unit {0}) higher (changed s m) m (λ (p : ℕ). s (p - 1)) c p
      joint l = record {
        meets = times_up (min ((c + 1) * chunk) len - p) p ∙ omega (arith, h (zero-lt-suc n));
        brings = ap (λ (x : Node). x.first) (sample_read ((c + 1) * chunk - 1) (omega (arith, h (zero-lt-suc n))));
      }

  ahead_total : (n c p : ℕ) → len ≤ (c + n) * chunk → c * chunk ≤ p → p ≤ (c + 1) * chunk → total (ahead has reader len) n c p ≡ len - p
  unfolding total
  ahead_total zero c p h a b = omega arith
  ahead_total (suc n) c p h a b = ap (λ (x : ℕ). min ((c + 1) * chunk) len - p + x) (ahead_total n (c + 1) ((c + 1) * chunk) (omega arith) (omega arith) (omega arith)) ∙ omega arith

  abbrev BehindLinked : ℕ → ℕ → ℕ → Type 0
  BehindLinked = Linked (behind has reader) (λ (p : ℕ). p ≤ len) lower (changed s m) m s

  behind_linked : (n c p : ℕ) → n ≤ c + 1 → c * chunk ≤ p → p ≤ len → c * chunk < len → BehindLinked n c p
  behind_linked zero c p e a b l = end
  behind_linked (suc n) c p e a b l = link b (backward_sees (c * chunk)) joint (behind_linked n (c - 1) (c * chunk) (omega arith) (omega arith) (omega arith) (omega arith))
    where
      joint : 0 < n → Joint (behind has reader) (λ (p : ℕ). p ≤ len) lower (changed s m) m s c p
      joint k = record {
        meets = times_down (p - c * chunk) p ∙ omega arith;
        brings = ap (λ (x : Node). x.first) (sample_read (c * chunk) l);
      }

  behind_total : (n c p : ℕ) → n ≡ c + 1 → c * chunk ≤ p → total (behind has reader) n c p ≡ p
  unfolding total
  behind_total zero c p e a = absurd (omega arith)
  behind_total (suc zero) c p e a = omega arith
  behind_total (suc (suc n)) c p e a = ap (λ (x : ℕ). p - c * chunk + x) (behind_total (suc n) (c - 1) (c * chunk) (omega arith) (omega arith)) ∙ omega arith

  -- ---- the theorem
  pub next_found : (from : ℕ) → (next_walk has reader len m from).found ≡ next s len m from
  next_found from = go (dec_lt (from + 1) len)
    where
      c : ℕ
      c = (from + 1) / chunk

      go : Dec (from + 1 < len) → (next_walk has reader len m from).found ≡ next s len m from
      go (yes h) =
          ap (λ (b : Bool). (cond b (chunks (ahead has reader len) m (chunks_for len - c) c (from + 1) (reader 0 from).first) nothing).found) (lt-ltb (from + 1) len h)
          ∙ chunks_find (ahead has reader len) (λ (p : ℕ). Unit {0}) higher (changed s m) m (λ (p : ℕ). s (p - 1)) (chunks_for len - c) c (from + 1) (reader 0 from).first
          (ahead_linked (chunks_for len - c) c (from + 1) (λ l. omega arith) (omega arith) (omega arith)) first
          ∙ ap (seek higher (changed s m) (from + 1)) (ahead_total (chunks_for len - c) c (from + 1) (omega arith) (omega arith) (omega arith))
        where
          first : (reader 0 from).first ≡ s (from + 1 - 1)
          first = ap (λ (x : Node). x.first) (sample_read from (omega arith)) ∙ ap s (omega arith)
      go (no h) =
          ap (λ (b : Bool). (cond b (chunks (ahead has reader len) m (chunks_for len - c) c (from + 1) (reader 0 from).first) nothing).found) (le-ltb (from + 1) len (omega arith))
          ∙ sym (unfold seek in ap (seek higher (changed s m) (from + 1)) none_left)
        where
          none_left : len - (from + 1) ≡ 0
          none_left = omega arith

  pub previous_found : (from : ℕ) → (previous_walk has reader len m from).found ≡ previous s len m from
  previous_found from = go (ℕ_discrete len 0)
    where
      p : ℕ
      p = min from (len - 1)

      go : Dec (len ≡ 0) → (previous_walk has reader len m from).found ≡ previous s len m from
      go (yes z) = ap (λ (b : Bool). (cond b nothing (previous_from has reader m p)).found) (eq-eqb len 0 z) ∙ sym (unfold seek in ap (seek lower (changed s m) p) none_left)
        where
          none_left : min from (len - 1) ≡ 0
          none_left = omega arith
      go (no z) =
          ap (λ (b : Bool). (cond b nothing (previous_from has reader m p)).found) (ne_eqb len 0 z)
          ∙ chunks_find (behind has reader) (λ (p : ℕ). p ≤ len) lower (changed s m) m s (p / chunk + 1) (p / chunk) p (reader 0 p).first
          (behind_linked (p / chunk + 1) (p / chunk) p (le_refl (p / chunk + 1)) (omega arith) (omega arith) (omega arith))
          (ap (λ (x : Node). x.first) (sample_read p (omega arith)))
          ∙ ap (seek lower (changed s m) p) (behind_total (p / chunk + 1) (p / chunk) p refl (omega arith))
