-- Bursts that meet, at their borders: what is no burst, not apart, not the same and smaller, and that each "below the budget" is needed. 02: CR 13. Assumes nothing.
use mathlib.Core.Path.{◌≡◌, refl, subst}
use mathlib.Core.Bool.{true, false, false≢true}
use mathlib.Core.List.{List, [], ◌∷◌}
use mathlib.Core.Logic.{◌⊎◌, inl, inr}
use Rattle.std.specs.Prelude.{Option, None, Some}
use Prim.Native.Nat.{ℕ, ◌≤◌, ◌<◌}
use native.Mathlib.Decide.{dec_lt}
use native.Mathlib.Omega.{arith}
use Rattle.rules.specs.Search.{changed, seek, next}
use Rattle.rules.specs.Burst.{Burst, most_place, jump, burst_by, burst}
use Rattle.rules.specs.Bursts.{IsChange, IsBurst, NoneBehind, NoneBefore, Apart, Below, SameEnds, NoSmaller, IsFound, IsNext}
use Rattle.rules.proofs.BorderBurst.{turning}
use Rattle.rules.proofs.Neighbours.{neighbour, there}
use Rattle.rules.proofs.Jumps.{none_some}
use Rattle.rules.proofs.Bursts.{rule_meets}
use Rattle.rules.proofs.BurstList.{lists_once}

-- ---- each "below the budget": changes at 1, 2, 3 and 4, gap 2
abbrev dense : ℕ → ℕ
dense = turning (1 ∷ 2 ∷ 3 ∷ 4 ∷ [])

abbrev asked : ℕ → ℕ → Option Burst
asked sample budget = burst dense 5 1 sample 2 0 budget

abbrev made : ℕ → ℕ → ℕ → ℕ → Burst
made first last jumps_end jumps_start = record { first = first; last = last; jumps_end = jumps_end; jumps_start = jumps_start }

-- all of it, below a budget of 2 at both ends; one that used its budget up at its start, and one at its end
abbrev whole : Burst
whole = made 1 4 1 1

abbrev late : Burst
late = made 2 4 0 1

abbrev early : Burst
early = made 1 3 1 0

pub found : (asked 2 2 ≡ Some whole) × (asked 3 1 ≡ Some late) × (asked 1 1 ≡ Some early)
unfolding seek jump burst_by
found = (refl, refl, refl)

-- the last budget that the jumps stay below, and the first that they do not: each end counts
pub below : Below 2 whole × (Below 1 whole → ⊥) × (late.jumps_end < 1) × (Below 1 late → ⊥) × (early.jumps_start < 1) × (Below 1 early → ⊥)
below = (record { end = omega arith; start = omega arith }, λ h. omega (arith, h.end), omega arith, λ h. omega (arith, h.start), omega arith, λ h. omega (arith, h.end))

abbrev Meet : Burst → Burst → Type 0
Meet b c = SameEnds b c ⊎ Apart dense 5 1 b c

third : IsChange dense 5 1 3
third = record { least = omega arith; most = omega arith; changes = refl }

-- the change at 3 is in both, and the ends differ
clash : (b c : Burst) → (SameEnds b c → ⊥) → b.first ≤ 3 → 3 ≤ b.last → c.first ≤ 3 → 3 ≤ c.last → Meet b c → ⊥
clash b c differ w x y z (inl e) = differ e
clash b c differ w x y z (inr h) = h 3 third w x y z

-- so 3 needs each "below", here with the three others: at the start of the second burst, and of the first,
pub starts_needed : (Meet whole late → ⊥) × (Meet late whole → ⊥)
starts_needed = (
  clash whole late (λ e. omega (arith, e.0)) (omega arith) (omega arith) (omega arith) (omega arith),
  clash late whole (λ e. omega (arith, e.0)) (omega arith) (omega arith) (omega arith) (omega arith),
)

-- and at the ends
pub ends_needed : (Meet whole early → ⊥) × (Meet early whole → ⊥)
ends_needed = (
  clash whole early (λ e. omega (arith, e.1)) (omega arith) (omega arith) (omega arith) (omega arith),
  clash early whole (λ e. omega (arith, e.1)) (omega arith) (omega arith) (omega arith) (omega arith),
)

-- ---- words, over 20 samples of a line that changes at the places of a list
abbrev Turns : List ℕ → ℕ → Type 0
Turns cs = IsChange (turning cs) 20 1

turns : (cs : List ℕ) (i : ℕ) → 1 ≤ i → i < 20 → changed (turning cs) 1 i ≡ true → Turns cs i
turns cs i a b c = record { least = a; most = b; changes = c }

-- a change is one of the samples: the last place, and the one past it
pub last_place : IsChange (turning (4 ∷ [])) 5 1 4 × (IsChange (turning (4 ∷ [])) 4 1 4 → ⊥) × (IsChange (turning (4 ∷ [])) 5 2 4 → ⊥)
last_place = (record { least = omega arith; most = omega arith; changes = refl }, λ h. omega (arith, h.most), λ h. false≢true h.changes)

-- gap − 1, and gap; a lone change is no burst; both ends are changes
pub bursts_are :
    (IsBurst (turning (1 ∷ 3 ∷ [])) 20 1 3 (made 1 3 0 0)
    × (IsBurst (turning (1 ∷ 3 ∷ [])) 20 1 2 (made 1 3 0 0) → ⊥)
    × (IsBurst (turning (1 ∷ 3 ∷ [])) 20 1 3 (made 1 1 0 0) → ⊥)
    × (IsBurst (turning (1 ∷ 3 ∷ [])) 20 1 3 (made 1 2 0 0) → ⊥)
    × (IsBurst (turning (1 ∷ 3 ∷ [])) 20 1 3 (made 2 3 0 0) → ⊥))
unfolding seek jump burst_by
bursts_are = (
  (rule_meets (turning (1 ∷ 3 ∷ [])) 20 (omega arith)).any 1 1 3 0 0 (made 1 3 0 0) refl,
  λ h. omega (arith, h.gaps 1 3 h.first_is h.last_is (omega arith) (omega arith) (omega arith) between),
  λ h. omega (arith, h.order),
  λ h. false≢true h.last_is.changes,
  λ h. false≢true h.first_is.changes,
)
  where
    between : (k : ℕ) → 1 < k → k < 3 → Turns (1 ∷ 3 ∷ []) k → ⊥
    between k a b h = let two : k ≡ 2 = omega (arith, a, b) in false≢true (subst (λ (x : ℕ). changed (turning (1 ∷ 3 ∷ [])) 1 x ≡ true) two h.changes)

-- a change behind the last or before the first is less than the gap away: one place, and gap − 1
pub near_ends :
    ((NoneBehind (turning (1 ∷ 2 ∷ 3 ∷ [])) 20 1 2 2 → ⊥)
    × (NoneBehind (turning (1 ∷ 2 ∷ 4 ∷ [])) 20 1 3 2 → ⊥)
    × (NoneBefore (turning (3 ∷ 4 ∷ 5 ∷ [])) 20 1 2 4 → ⊥)
    × (NoneBefore (turning (2 ∷ 4 ∷ 5 ∷ [])) 20 1 3 4 → ⊥))
near_ends = (
  λ h. omega (arith, h 3 (turns (1 ∷ 2 ∷ 3 ∷ []) 3 (omega arith) (omega arith) refl) (omega arith)),
  λ h. omega (arith, h 4 (turns (1 ∷ 2 ∷ 4 ∷ []) 4 (omega arith) (omega arith) refl) (omega arith)),
  λ h. omega (arith, h 3 (turns (3 ∷ 4 ∷ 5 ∷ []) 3 (omega arith) (omega arith) refl) (omega arith)),
  λ h. omega (arith, h 2 (turns (2 ∷ 4 ∷ 5 ∷ []) 2 (omega arith) (omega arith) refl) (omega arith)),
)

-- what ends where the other begins shares that change, in either order
pub shared : (Apart (turning (1 ∷ 3 ∷ 5 ∷ [])) 20 1 (made 1 3 0 0) (made 3 5 0 0) → ⊥) × (Apart (turning (1 ∷ 3 ∷ 5 ∷ [])) 20 1 (made 3 5 0 0) (made 1 3 0 0) → ⊥)
shared = (
  λ h. h 3 (turns (1 ∷ 3 ∷ 5 ∷ []) 3 (omega arith) (omega arith) refl) (omega arith) (omega arith) (omega arith) (omega arith),
  λ h. h 3 (turns (1 ∷ 3 ∷ 5 ∷ []) 3 (omega arith) (omega arith) refl) (omega arith) (omega arith) (omega arith) (omega arith),
)

-- smaller: at its start, at its end, and none in either place
pub smaller : (NoSmaller (Some (made 1 3 0 0)) (Some (made 2 3 0 0)) → ⊥)
    × (NoSmaller (Some (made 1 3 0 0)) (Some (made 1 2 0 0)) → ⊥)
    × (NoSmaller None (Some (made 1 3 0 0)) → ⊥)
    × (NoSmaller (Some (made 1 3 0 0)) None → ⊥)
smaller = (λ h. omega (arith, h.0), λ h. omega (arith, h.1), λ h. h, λ h. h)

-- ---- "none exactly when none", whichever budget is larger
pub none_whatever : (s : ℕ → ℕ) (len : ℕ) → len ≤ most_place → (mask sample gap tolerance budget other : ℕ) → burst s len mask sample gap tolerance budget ≡ None → burst s len mask sample gap tolerance other ≡ None
none_whatever s len few mask sample gap tolerance budget other e = go (burst s len mask sample gap tolerance other) refl (dec_lt budget other)
  where
    go : (o : Option Burst) → burst s len mask sample gap tolerance other ≡ o → Dec (budget < other) → o ≡ None
    go None f h = refl
    go (Some b) f (yes h) = absurd ((rule_meets s len few).larger mask sample gap tolerance budget other (omega (arith, h)) None (Some b) e f)
    go (Some b) f (no h) = absurd ((rule_meets s len few).larger mask sample gap tolerance other budget (omega (arith, h)) (Some b) None f e)

-- ---- a list: changes at 1, 2, 5, 9 and 10, gap 3. Whatever is found below its budget is the first burst or the last, and the change at 5 is in none
abbrev line : ℕ → ℕ
line = turning (1 ∷ 2 ∷ 5 ∷ 9 ∷ 10 ∷ [])

abbrev Rule : ℕ → ℕ → ℕ → ℕ → ℕ → Option Burst → Type 0
Rule mask sample gap tolerance budget answer = burst line 20 mask sample gap tolerance budget ≡ answer

abbrev OnLine : ℕ → Type 0
OnLine = IsChange line 20 1

abbrev Found : Burst → Type 0
Found = IsFound line 20 (λ (sample : ℕ). sample) Rule 1 3

is_next : (from n : ℕ) → next line 20 1 from ≡ Some n → IsNext line 20 (λ (sample : ℕ). sample) Rule 1 3 from n
is_next from n e =
    let r = neighbour line 20 1 false from n e in
    record { change = r.is; behind = r.asked.0; soonest = λ i c h. let no : i < n → ⊥ = r.first i c (h, c.most) in omega (arith, no) }

none_behind : (i : ℕ) → OnLine i → i ≤ 10
unfolding seek
none_behind i c = go (dec_lt 10 i)
  where
    go : Dec (10 < i) → i ≤ 10
    go (yes h) = let n = there line 20 1 false 10 i c (h, c.most) in absurd (none_some {x = n.0} n.1)
    go (no h) = omega (arith, h)

pub listed : (c : Burst) → Found c → SameEnds c (made 1 2 0 0) ⊎ SameEnds c (made 9 10 0 0)
unfolding seek jump burst_by
listed c f =
    let meets = rule_meets line 20 (omega arith) in
    let lists = lists_once line 20 (λ (sample : ℕ). sample) Rule meets 1 3 in
    let one = lists.listed 0 lists.start 1 (is_next 0 1 refl) 20 (omega arith) (made 1 2 0 0) refl in
    let five = lists.passed 2 one.1 5 (is_next 2 5 refl) 20 refl in
    let nine = lists.listed 5 five.0 9 (is_next 5 9 refl) 20 (omega arith) (made 9 10 0 0) refl in
    let least = (meets.any 1 f.asked_at 3 f.tolerance f.budget c f.said).first_is.least in
    side (one.2 c f (omega (arith, least))) (five.1 c f) (λ h. nine.2 c f h (lists.ended 10 none_behind c f)) (dec_lt 2 c.first) (dec_lt 5 c.first)
  where
    side : (c.first ≤ 2 → SameEnds c (made 1 2 0 0)) → (2 < c.first → c.first ≤ 5 → ⊥) → (5 < c.first → SameEnds c (made 9 10 0 0)) → Dec (2 < c.first) → Dec (5 < c.first)
        → SameEnds c (made 1 2 0 0) ⊎ SameEnds c (made 9 10 0 0)
    side one five nine (no h) k = inl (one (omega (arith, h)))
    side one five nine (yes h) (no k) = absurd (five h (omega (arith, k)))
    side one five nine (yes h) (yes k) = inr (nine k)
