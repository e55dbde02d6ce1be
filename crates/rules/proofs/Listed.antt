-- Stretches of a list of numbers, one by one: where they lie, and which places they hold. 02: CR 8, 9.
use mathlib.Core.Path.{◌≡◌, refl, sym, ap, ap₂, ◌∙◌, subst⁻¹}
use mathlib.Core.Bool.{Bool, true, false, ◌||◌, false≢true}
use mathlib.Core.List.{List, [], ◌∷◌}
use Prim.Native.Nat.{ℕ, zero, suc, ◌+◌, ◌*◌, ◌≤◌, ◌<◌}
use native.Mathlib.Omega.{arith}
use lib.ListN.{length, get_or}
use Rattle.rules.specs.Stretches.{Stretch, covers, apart, pairs_in, stretch_at}
use Rattle.rules.proofs.Stretches.{among, front}

-- the next pair's stretches are those of the list behind the first
at_next : (a b : ℕ) (l : List ℕ) (j : ℕ) → stretch_at (a ∷ b ∷ l) (suc j) ≡ stretch_at l j
at_next a b l j = ap₂ (λ (x y : ℕ). record { first = get_or (a ∷ b ∷ l) x 0; count = get_or (a ∷ b ∷ l) y 0 }) one two
  where
    one : 2 * suc j ≡ suc (suc (2 * j))
    one = omega arith

    two : 2 * suc j + 1 ≡ suc (suc (2 * j + 1))
    two = omega arith

-- ---- in order
-- a stretch from place p on and up to len
pub record Lies (p len : ℕ) (s : Stretch) : Type 0 where
  pub least : p ≤ s.first
  pub some_places : 0 < s.count
  pub inside : s.first + s.count ≤ len

sooner : {p q len : ℕ} {s : Stretch} → p ≤ q → Lies q len s → Lies p len s
sooner h e = record { least = omega (arith, h, e.least); some_places = e.some_places; inside = e.inside }

pub each_lies : (p len : ℕ) (list : List ℕ) (j : ℕ) → apart p len (pairs_in list) ≡ true → 2 * j + 1 < length list → Lies p len (stretch_at list j)
unfolding pairs_in
each_lies p len [] j e h = absurd (omega arith)
each_lies p len (a ∷ []) j e h = absurd (omega arith)
each_lies p len (a ∷ b ∷ l) zero e h = let f = front p len (record { first = a; count = b }) (pairs_in l) e in record { least = f.least; some_places = f.some_places; inside = f.inside }
each_lies p len (a ∷ b ∷ l) (suc j) e h =
    let f = front p len (record { first = a; count = b }) (pairs_in l) e in
    subst⁻¹ (Lies p len) (at_next a b l j) (sooner (omega (arith, f.least)) (each_lies (a + b + 1) len l j f.rest (omega (arith, h))))

-- each ends before the next begins
pub each_rises : (p len : ℕ) (list : List ℕ) (j k : ℕ) → apart p len (pairs_in list) ≡ true → j < k → 2 * k + 1 < length list → (stretch_at list j).first + (stretch_at list j).count < (stretch_at list k).first
unfolding pairs_in
each_rises p len [] j k e l h = absurd (omega arith)
each_rises p len (a ∷ []) j k e l h = absurd (omega arith)
each_rises p len (a ∷ b ∷ l) j zero e s h = absurd (omega arith)
each_rises p len (a ∷ b ∷ l) zero (suc k) e s h =
    let f = front p len (record { first = a; count = b }) (pairs_in l) e in
    let t = each_lies (a + b + 1) len l k f.rest (omega (arith, h)) in
    subst⁻¹ (λ (x : Stretch). a + b < x.first) (at_next a b l k) (omega (arith, t.least))
each_rises p len (a ∷ b ∷ l) (suc j) (suc k) e s h =
    let f = front p len (record { first = a; count = b }) (pairs_in l) e in
    subst⁻¹ (λ (x : Stretch). x.first + x.count < (stretch_at (a ∷ b ∷ l) (suc k)).first) (at_next a b l j)
    (subst⁻¹ (λ (x : Stretch). (stretch_at l j).first + (stretch_at l j).count < x.first) (at_next a b l k) (each_rises (a + b + 1) len l j k f.rest (omega (arith, s)) (omega (arith, h))))

-- ---- the places that they hold
abbrev pub holds : Stretch → ℕ → Bool
holds s i = among s.first s.count i

-- one of them holds the place
pub record HeldBy (list : List ℕ) (i : ℕ) : Type 0 where
  pub number : ℕ
  pub there : 2 * number + 1 < length list
  pub held : holds (stretch_at list number) i ≡ true

pub covered_by : (list : List ℕ) (i : ℕ) → covers (pairs_in list) i ≡ true → HeldBy list i
unfolding pairs_in covers
covered_by [] i e = absurd (false≢true e)
covered_by (a ∷ []) i e = absurd (false≢true e)
covered_by (a ∷ b ∷ l) i e = go (covered_by l i) (among a b i) refl e
  where
    go : (covers (pairs_in l) i ≡ true → HeldBy l i) → (t : Bool) → among a b i ≡ t → (t || covers (pairs_in l) i) ≡ true → HeldBy (a ∷ b ∷ l) i
    go rest true q h = record { number = 0; there = omega arith; held = q }
    go rest false q h = let r = rest h in record { number = suc r.number; there = omega (arith, r.there); held = ap (λ (s : Stretch). holds s i) (at_next a b l r.number) ∙ r.held }

pub holds_covers : (list : List ℕ) (i j : ℕ) → 2 * j + 1 < length list → holds (stretch_at list j) i ≡ true → covers (pairs_in list) i ≡ true
unfolding pairs_in covers
holds_covers [] i j h e = absurd (omega arith)
holds_covers (a ∷ []) i j h e = absurd (omega arith)
holds_covers (a ∷ b ∷ l) i zero h e = ap (λ (x : Bool). x || covers (pairs_in l) i) e
holds_covers (a ∷ b ∷ l) i (suc j) h e = go (holds_covers l i j (omega (arith, h)) (ap (λ (s : Stretch). holds s i) (sym (at_next a b l j)) ∙ e)) (among a b i)
  where
    go : covers (pairs_in l) i ≡ true → (t : Bool) → (t || covers (pairs_in l) i) ≡ true
    go rest true = refl
    go rest false = rest
