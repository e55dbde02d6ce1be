-- Lists of stretches: what the stretches of unknown places are, place by place and in order, how they come about, and that their numbers read back. 02: CR 8.
use mathlib.Core.Path.{◌≡◌, refl, sym, ap, ap₂, ◌∙◌, subst}
use mathlib.Core.Bool.{Bool, true, false, cond, not, ◌&&◌, ◌||◌}
use mathlib.Core.List.{List, [], ◌∷◌}
use mathlib.Core.Logic.{◌↔◌}
use Prim.Native.Nat.{ℕ, zero, suc, ◌+◌, ◌*◌, ◌≤◌, ◌<◌}
use native.Mathlib.Nat.{add_assoc, add-zero}
use native.Mathlib.Decide.{dec_lt, ℕ_discrete}
use native.Mathlib.Omega.{arith}
use lib.Dec.{ltb, leb, eqb}
use lib.ListN.{length, get_or, drop}
use lib.Seq.{drop-cons}
use borrow.Author.Tests.{ltb-true, lt-ltb, le-ltb, leb-true, le-leb, lt-leb, eqb-true, eqb-false, eq-eqb, ne_eqb, not-false}
use Rattle.rules.specs.Stretches.{Stretch, joined, stretches_in, unknown_in, covers, apart, places_of, pairs_of, pairs_in, stretch_at}
use Rattle.rules.proofs.Block.{both, four}

-- ---- place by place
-- place i is one of c places from a on
abbrev pub among : ℕ → ℕ → ℕ → Bool
among a c i = leb a i && ltb i (a + c)

module _ (a c i : ℕ) where
  pub among_yes : a ≤ i → i < a + c → among a c i ≡ true
  among_yes h l = ap₂ ◌&&◌ (le-leb a i h) (lt-ltb i (a + c) l)

  pub among_before : i < a → among a c i ≡ false
  among_before h = ap (λ (b : Bool). b && ltb i (a + c)) (lt-leb a i h)

  pub among_behind : a + c ≤ i → among a c i ≡ false
  among_behind h = ap₂ ◌&&◌ (le-leb a i (omega arith)) (le-ltb i (a + c) h)

-- places side by side
among_both : (a c d i : ℕ) → (among a c i || among (a + c) d i) ≡ among a (c + d) i
among_both a c d i = go (dec_lt i a) (dec_lt i (a + c)) (dec_lt i (a + (c + d)))
  where
    go : Dec (i < a) → Dec (i < a + c) → Dec (i < a + (c + d)) → (among a c i || among (a + c) d i) ≡ among a (c + d) i
    go (yes l) m n = ap₂ ◌||◌ (among_before a c i l) (among_before (a + c) d i (omega (arith, l))) ∙ sym (among_before a (c + d) i l)
    go (no l) (yes m) n = ap (λ (b : Bool). b || among (a + c) d i) (among_yes a c i (omega (arith, l)) m) ∙ sym (among_yes a (c + d) i (omega (arith, l)) (omega (arith, m)))
    go (no l) (no m) (yes n) = ap₂ ◌||◌ (among_behind a c i (omega (arith, m))) (among_yes (a + c) d i (omega (arith, m)) (omega (arith, n))) ∙ sym (among_yes a (c + d) i (omega (arith, l)) n)
    go (no l) (no m) (no n) = ap₂ ◌||◌ (among_behind a c i (omega (arith, m))) (among_behind (a + c) d i (omega (arith, n))) ∙ sym (among_behind a (c + d) i (omega (arith, n)))

or_assoc : (a b c : Bool) → (a || (b || c)) ≡ ((a || b) || c)
or_assoc true b c = refl
or_assoc false b c = refl

-- a stretch that is joined to others
joined_covers : (a c : ℕ) (ss : List Stretch) (i : ℕ) → covers (joined a c ss) i ≡ (among a c i || covers ss i)
unfolding joined covers
joined_covers a c [] i = refl
joined_covers a c (s ∷ ss) i = go (eqb (a + c) s.first) refl
  where
    go : (b : Bool) → eqb (a + c) s.first ≡ b
        → covers (cond b (record { first = a; count = c + s.count } ∷ ss) (record { first = a; count = c } ∷ s ∷ ss)) i ≡ (among a c i || (among s.first s.count i || covers ss i))
    go true e =
        ap (λ (b : Bool). b || covers ss i) (sym (among_both a c s.count i) ∙ ap (λ (k : ℕ). among a c i || among k s.count i) (eqb-true (a + c) s.first e))
        ∙ sym (or_assoc (among a c i) (among s.first s.count i) (covers ss i))
    go false e = refl

-- Statement 1: a place is in a stretch exactly when it is not known.
pub in_stretch : (known : ℕ → Bool) (p n i : ℕ) → covers (stretches_in known p n) i ≡ (among p n i && not (known i))
unfolding stretches_in covers
in_stretch known p zero i = ap (λ (b : Bool). b && not (known i)) (sym (nobody (dec_lt i p)))
  where
    nobody : Dec (i < p) → among p 0 i ≡ false
    nobody (yes l) = among_before p 0 i l
    nobody (no l) = among_behind p 0 i (omega (arith, l))
in_stretch known p (suc n) i = go (known p) refl (ℕ_discrete i p) (in_stretch known (p + 1) n i)
  where
    rest : List Stretch
    rest = stretches_in known (p + 1) n

    alone : (i ≡ p → ⊥) → Dec (i < p) → among p 1 i ≡ false
    alone d (yes l) = among_before p 1 i l
    alone d (no l) = among_behind p 1 i (omega (arith, l, d))

    others : (i ≡ p → ⊥) → among (p + 1) n i ≡ among p (suc n) i
    others d = sym (ap (λ (b : Bool). b || among (p + 1) n i) (alone d (dec_lt i p))) ∙ among_both p 1 n i ∙ ap (λ (k : ℕ). among p k i) more
      where
        more : 1 + n ≡ suc n
        more = omega arith

    here : i ≡ p → {b : Bool} → known p ≡ b → not b ≡ (among p (suc n) i && not (known i))
    here e {b} k = sym (ap₂ (λ (x y : Bool). x && not y) (among_yes p (suc n) i (omega (arith, e)) (omega (arith, e))) (ap known e ∙ k))

    go : (b : Bool) → known p ≡ b → Dec (i ≡ p) → covers rest i ≡ (among (p + 1) n i && not (known i)) → covers (cond b rest (joined p 1 rest)) i ≡ (among p (suc n) i && not (known i))
    go true e (yes q) ih = ih ∙ ap (λ (b : Bool). b && not (known i)) (among_before (p + 1) n i (omega (arith, q))) ∙ here q e
    go true e (no q) ih = ih ∙ ap (λ (b : Bool). b && not (known i)) (others q)
    go false e (yes q) ih = joined_covers p 1 rest i ∙ ap (λ (b : Bool). b || covers rest i) (among_yes p 1 i (omega (arith, q)) (omega (arith, q))) ∙ here q e
    go false e (no q) ih = joined_covers p 1 rest i ∙ ap₂ ◌||◌ (alone q (dec_lt i p)) ih ∙ ap (λ (b : Bool). b && not (known i)) (others q)

-- ---- in order
pub record Front (p len : ℕ) (s : Stretch) (ss : List Stretch) : Type 0 where
  pub least : p ≤ s.first
  pub some_places : 0 < s.count
  pub inside : s.first + s.count ≤ len
  pub rest : apart (s.first + s.count + 1) len ss ≡ true

module _ (p len : ℕ) (s : Stretch) (ss : List Stretch) where
  pub front : apart p len (s ∷ ss) ≡ true → Front p len s ss
  unfolding apart
  front e =
      let t = four (leb p s.first) (ltb 0 s.count) (leb (s.first + s.count) len) (apart (s.first + s.count + 1) len ss) e in
      record { least = leb-true p s.first t.0; some_places = ltb-true 0 s.count t.1; inside = leb-true (s.first + s.count) len t.2; rest = t.3 }

  pub behind : Front p len s ss → apart p len (s ∷ ss) ≡ true
  unfolding apart
  behind f = (both _ _).1 (le-leb p s.first f.least, (both _ _).1 (lt-ltb 0 s.count f.some_places, (both _ _).1 (le-leb (s.first + s.count) len f.inside, f.rest)))

pub apart_sooner : {p q : ℕ} (len : ℕ) (ss : List Stretch) → q ≤ p → apart p len ss ≡ true → apart q len ss ≡ true
unfolding apart
apart_sooner len [] h e = refl
apart_sooner {p} {q} len (s ∷ ss) h e =
    let f = front p len s ss e in
    behind q len s ss (record { least = omega (arith, f.least); some_places = f.some_places; inside = f.inside; rest = f.rest })

-- a stretch in front of others, which it may touch
pub joined_apart : {p a c len : ℕ} (ss : List Stretch) → p ≤ a → 0 < c → a + c ≤ len → apart (a + c) len ss ≡ true → apart p len (joined a c ss) ≡ true
unfolding joined apart
joined_apart {p} {a} {c} {len} [] h some_places inside e = behind p len (record { first = a; count = c }) [] (record { least = h; some_places = some_places; inside = inside; rest = refl })
joined_apart {p} {a} {c} {len} (s ∷ ss) h some_places inside e = go (eqb (a + c) s.first) refl
  where
    f : Front (a + c) len s ss
    f = front (a + c) len s ss e

    go : (b : Bool) → eqb (a + c) s.first ≡ b → apart p len (cond b (record { first = a; count = c + s.count } ∷ ss) (record { first = a; count = c } ∷ s ∷ ss)) ≡ true
    go true t = behind p len (record { first = a; count = c + s.count }) ss (record {
      least = h;
      some_places = omega (arith, some_places);
      inside = omega (arith, eqb-true (a + c) s.first t, f.inside);
      rest = subst (λ (k : ℕ). apart k len ss ≡ true) (ends (eqb-true (a + c) s.first t)) f.rest;
    })
      where
        ends : a + c ≡ s.first → s.first + s.count + 1 ≡ a + (c + s.count) + 1
        ends q = omega (arith, q)
    go false t = behind p len (record { first = a; count = c }) (s ∷ ss) (record {
      least = h;
      some_places = some_places;
      inside = inside;
      rest = behind (a + c + 1) len s ss (record { least = omega (arith, f.least, eqb-false (a + c) s.first t); some_places = f.some_places; inside = f.inside; rest = f.rest });
    })

-- Statement 1: they rise, none touches the next, none is empty or reaches past the end.
pub stretches_apart : (known : ℕ → Bool) (p n : ℕ) → apart p (p + n) (stretches_in known p n) ≡ true
unfolding stretches_in apart
stretches_apart known p zero = refl
stretches_apart known p (suc n) = go (known p) (subst (λ (k : ℕ). apart (p + 1) k (stretches_in known (p + 1) n) ≡ true) more (stretches_apart known (p + 1) n))
  where
    rest : List Stretch
    rest = stretches_in known (p + 1) n

    more : p + 1 + n ≡ p + suc n
    more = omega arith

    go : (b : Bool) → apart (p + 1) (p + suc n) rest ≡ true → apart p (p + suc n) (cond b rest (joined p 1 rest)) ≡ true
    go true e = apart_sooner (p + suc n) rest (omega arith) e
    go false e = joined_apart rest (omega arith) (omega arith) (omega arith) e

-- ---- how they come about
-- one that touches no other stays alone
pub joined_alone : {a c p : ℕ} (len : ℕ) (ss : List Stretch) → a + c < p → apart p len ss ≡ true → joined a c ss ≡ record { first = a; count = c } ∷ ss
unfolding joined
joined_alone len [] h e = refl
joined_alone {a} {c} {p} len (s ∷ ss) h e =
    ap (λ (b : Bool). cond b (record { first = a; count = c + s.count } ∷ ss) (record { first = a; count = c } ∷ s ∷ ss))
    (ne_eqb (a + c) s.first (λ q. omega (arith, q, h, (front p len s ss e).least)))

-- two that touch are one
pub joined_twice : (a x y : ℕ) (ss : List Stretch) → joined a x (joined (a + x) y ss) ≡ joined a (x + y) ss
unfolding joined
joined_twice a x y [] = ap (λ (b : Bool). cond b (record { first = a; count = x + y } ∷ []) (record { first = a; count = x } ∷ record { first = a + x; count = y } ∷ [])) (eq-eqb (a + x) (a + x) refl)
joined_twice a x y (s ∷ ss) = go (eqb (a + x + y) s.first) refl
  where
    alone : Stretch → Stretch → List Stretch
    alone s t = s ∷ t ∷ ss

    go : (b : Bool) → eqb (a + x + y) s.first ≡ b
        → joined a x (cond b (record { first = a + x; count = y + s.count } ∷ ss) (record { first = a + x; count = y } ∷ s ∷ ss))
        ≡ cond (eqb (a + (x + y)) s.first) (record { first = a; count = x + y + s.count } ∷ ss) (record { first = a; count = x + y } ∷ s ∷ ss)
    go true e =
        ap (λ (b : Bool). cond b (record { first = a; count = x + (y + s.count) } ∷ ss) (record { first = a; count = x } ∷ record { first = a + x; count = y + s.count } ∷ ss)) (eq-eqb (a + x) (a + x) refl)
        ∙ ap (λ (k : ℕ). record { first = a; count = k } ∷ ss) (sym (add_assoc x y s.count))
        ∙ sym (ap (λ (b : Bool). cond b (record { first = a; count = x + y + s.count } ∷ ss) (record { first = a; count = x + y } ∷ s ∷ ss)) (ap (λ (k : ℕ). eqb k s.first) (sym (add_assoc a x y)) ∙ e))
    go false e =
        ap (λ (b : Bool). cond b (record { first = a; count = x + y } ∷ s ∷ ss) (record { first = a; count = x } ∷ record { first = a + x; count = y } ∷ s ∷ ss)) (eq-eqb (a + x) (a + x) refl)
        ∙ sym (ap (λ (b : Bool). cond b (record { first = a; count = x + y + s.count } ∷ ss) (record { first = a; count = x + y } ∷ s ∷ ss)) (ap (λ (k : ℕ). eqb k s.first) (sym (add_assoc a x y)) ∙ e))

-- m places with one answer, and n behind them
module _ (known : ℕ → Bool) (n : ℕ) where
  further : (p m : ℕ) → stretches_in known (p + 1 + m) n ≡ stretches_in known (p + suc m) n
  further p m = ap (λ (k : ℕ). stretches_in known k n) next
    where
      next : p + 1 + m ≡ p + suc m
      next = omega arith

  pub all_known : (p m : ℕ) → ((i : ℕ) → i < m → known (p + i) ≡ true) → stretches_in known p (m + n) ≡ stretches_in known (p + m) n
  unfolding stretches_in
  all_known p zero h = ap₂ (stretches_in known) (sym (add-zero p)) none
    where
      none : 0 + n ≡ n
      none = omega arith
  all_known p (suc m) h =
      ap (stretches_in known p) more
      ∙ ap (λ (b : Bool). cond b (stretches_in known (p + 1) (m + n)) (joined p 1 (stretches_in known (p + 1) (m + n)))) (ap known (sym (add-zero p)) ∙ h 0 (omega arith))
      ∙ all_known (p + 1) m (λ i l. ap known (next i) ∙ h (suc i) (omega arith))
      ∙ further p m
    where
      more : suc m + n ≡ suc (m + n)
      more = omega arith

      next : (i : ℕ) → p + 1 + i ≡ p + suc i
      next i = omega arith

  pub all_unknown : (p m : ℕ) → 0 < m → ((i : ℕ) → i < m → known (p + i) ≡ false) → stretches_in known p (m + n) ≡ joined p m (stretches_in known (p + m) n)
  unfolding stretches_in
  all_unknown p zero l h = absurd (omega arith)
  all_unknown p (suc m) l h =
      ap (stretches_in known p) more
      ∙ ap (λ (b : Bool). cond b (stretches_in known (p + 1) (m + n)) (joined p 1 (stretches_in known (p + 1) (m + n)))) (ap known (sym (add-zero p)) ∙ h 0 (omega arith))
      ∙ rest (ℕ_discrete m 0) (λ z. all_unknown (p + 1) m z (λ i l. ap known (next i) ∙ h (suc i) (omega arith)))
    where
      more : suc m + n ≡ suc (m + n)
      more = omega arith

      next : (i : ℕ) → p + 1 + i ≡ p + suc i
      next i = omega arith

      one : m ≡ 0 → (1 ≡ suc m) × (p + 1 ≡ p + suc m) × (m + n ≡ n)
      one z = (omega (arith, z), omega (arith, z), omega (arith, z))

      rest : Dec (m ≡ 0) → (0 < m → stretches_in known (p + 1) (m + n) ≡ joined (p + 1) m (stretches_in known (p + 1 + m) n))
          → joined p 1 (stretches_in known (p + 1) (m + n)) ≡ joined p (suc m) (stretches_in known (p + suc m) n)
      rest (yes z) ih = ap₂ (joined p) (one z).0 (ap₂ (stretches_in known) (one z).1 (one z).2)
      rest (no z) ih = ap (joined p 1) (ih (omega (arith, z))) ∙ joined_twice p 1 m (stretches_in known (p + 1 + m) n) ∙ ap₂ (joined p) counts (further p m)
        where
          counts : 1 + m ≡ suc m
          counts = omega arith

-- there is none exactly when all places are known
pub none_unknown : (known : ℕ → Bool) (p n : ℕ) → (stretches_in known p n ≡ []) ↔ ((i : ℕ) → i < n → known (p + i) ≡ true)
unfolding stretches_in covers
none_unknown known p n = (there, back)
  where
    there : stretches_in known p n ≡ [] → (i : ℕ) → i < n → known (p + i) ≡ true
    there e i l =
        not-false (known (p + i))
        (sym (ap (λ (b : Bool). b && not (known (p + i))) (among_yes p n (p + i) (omega arith) (omega (arith, l)))) ∙ sym (in_stretch known p n (p + i)) ∙ ap (λ (ss : List Stretch). covers ss (p + i)) e)

    back : ((i : ℕ) → i < n → known (p + i) ≡ true) → stretches_in known p n ≡ []
    back h = ap (stretches_in known p) (sym (add-zero n)) ∙ all_known known 0 p n h

-- ---- counted
joined_places : (a c : ℕ) (ss : List Stretch) → places_of (joined a c ss) ≡ c + places_of ss
unfolding joined places_of
joined_places a c [] = refl
joined_places a c (s ∷ ss) = go (eqb (a + c) s.first)
  where
    go : (b : Bool) → places_of (cond b (record { first = a; count = c + s.count } ∷ ss) (record { first = a; count = c } ∷ s ∷ ss)) ≡ c + (s.count + places_of ss)
    go true = add_assoc c s.count (places_of ss)
    go false = refl

-- all their places are those that are not known
pub stretches_places : (known : ℕ → Bool) (p n : ℕ) → places_of (stretches_in known p n) ≡ unknown_in known p n
unfolding stretches_in unknown_in places_of
stretches_places known p zero = refl
stretches_places known p (suc n) = go (known p) (stretches_places known (p + 1) n)
  where
    go : (b : Bool) → places_of (stretches_in known (p + 1) n) ≡ unknown_in known (p + 1) n
        → places_of (cond b (stretches_in known (p + 1) n) (joined p 1 (stretches_in known (p + 1) n))) ≡ cond b 0 1 + unknown_in known (p + 1) n
    go true e = omega (arith, e)
    go false e = joined_places p 1 (stretches_in known (p + 1) n) ∙ ap (λ (k : ℕ). 1 + k) e

-- ---- as numbers
pub pairs_length : (ss : List Stretch) → length (pairs_of ss) ≡ 2 * length ss
unfolding pairs_of
pairs_length [] = refl
pairs_length (s ∷ ss) = omega (arith, pairs_length ss)

pub pairs_back : (ss : List Stretch) → pairs_in (pairs_of ss) ≡ ss
unfolding pairs_of pairs_in
pairs_back [] = refl
pairs_back (s ∷ ss) = ap (λ (l : List Stretch). s ∷ l) (pairs_back ss)

-- a list of numbers from its stretch i on
pub pairs_next : (l : List ℕ) (i : ℕ) → 2 * i + 1 < length l → pairs_in (drop (2 * i) l) ≡ stretch_at l i ∷ pairs_in (drop (2 * (i + 1)) l)
unfolding pairs_in
pairs_next l i h =
    ap pairs_in (drop-cons l (2 * i) 0 (omega (arith, h)) ∙ ap (λ (x : List ℕ). get_or l (2 * i) 0 ∷ x) (ap (λ (k : ℕ). drop k l) one ∙ drop-cons l (2 * i + 1) 0 h))
    ∙ ap (λ (k : ℕ). stretch_at l i ∷ pairs_in (drop k l)) two
  where
    one : suc (2 * i) ≡ 2 * i + 1
    one = omega arith

    two : suc (2 * i + 1) ≡ 2 * (i + 1)
    two = omega arith
