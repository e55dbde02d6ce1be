-- A recorder's start: no refusal, as bounds, and that nothing else passes. What Fraction keeps stays below the limit.
use mathlib.Core.Path.{◌≡◌, refl, ap}
use mathlib.Core.Bool.{Bool, false, ◌||◌}
use mathlib.Core.List.Memᴰ
use mathlib.Core.List.{List, [], ◌∷◌, Memᴰ}
use mathlib.Core.Logic.{◌↔◌, ◌⊎◌, inl, inr}
use Rattle.rules.proofs.Options.{none-ne-some}
use Prim.Native.Nat.{ℕ, ◌≤◌, ◌<◌}
use native.Mathlib.Omega.{arith}
use lib.Dec.{ltb, leb, eqb}
use borrow.Author.Tests.{ltb-false, le-ltb, leb-false, lt-leb, eqb-true, not-false}
use Rattle.rules.specs.Sample.{unit_of}
use Rattle.rules.specs.Pretrigger.{Pretrigger, fraction, seconds}
use Rattle.rules.specs.Trigger.{Term}
use Rattle.rules.specs.Selection.{Settings, pre_of}
use Rattle.rules.specs.Refusal.{Lent, Row, first_of, fresh, ring_need, top_line, line_wrong, wish_wrong, number_wrong, start_refusal}
use Rattle.rules.proofs.Pretrigger.{fraction_below}
use Rattle.rules.proofs.Refusal.{row_passed, neither, Sound, rows_passed}

-- the bounds of the settings, of the memory of a store of theirs, and of the ring, of which `size` bytes are lent
pub record SoundStart (st : Settings) (lent : Lent) (size : ℕ) : Type 0 where
  pub store : Sound (fresh st.channels st.capacity) lent
  pub lines : (t : Term) → Memᴰ t st.terms → t.line ≤ top_line
  pub limit_most : st.limit ≤ st.capacity
  pub wish : wish_wrong st.wish st.limit ≡ false
  pub number : number_wrong st.wish st.rate ≡ false
  pub pre_most : pre_of st < st.capacity
  pub ring : ring_need (pre_of st) (unit_of st.channels) ≤ size

lines_cons : (t : Term) (ts : List Term) → (line_wrong ts ≡ false) ↔ ((x : Term) → Memᴰ x ts → x.line ≤ top_line)
    → ((ltb top_line t.line || line_wrong ts) ≡ false) ↔ ((x : Term) → Memᴰ x (t ∷ ts) → x.line ≤ top_line)
lines_cons t ts ih = (
  λ e x l. go ((neither _ _).0 e) x (Memᴰ.cases_cons l),
  λ f. (neither _ _).1 (le-ltb _ _ (f t (Memᴰ.head refl)), ih.1 (λ x l. f x (Memᴰ.tail l))),
)
  where
    go : (ltb top_line t.line ≡ false) × (line_wrong ts ≡ false) → (x : Term) → (x ≡ t) ⊎ Memᴰ x ts → x.line ≤ top_line
    go p x (inl q) = omega (arith, ap (λ (y : Term). y.line) q, ltb-false top_line t.line p.0)
    go p x (inr l) = ih.0 p.1 x l

lines_right : (ts : List Term) → (line_wrong ts ≡ false) ↔ ((t : Term) → Memᴰ t ts → t.line ≤ top_line)
unfolding line_wrong
lines_right [] = (λ e t l. absurd (Memᴰ.not-nil l), λ f. refl)
lines_right (t ∷ ts) = lines_cons t ts (lines_right ts)

module _ (st : Settings) (lent : Lent) (size : ℕ) where
  abbrev row_7 : Bool
  row_7 = leb st.capacity (pre_of st) || ltb size (ring_need (pre_of st) (unit_of st.channels))

  -- the rows from each number on
  abbrev from_7 : List Row
  from_7 = record { number = 7; holds = row_7 } ∷ []

  abbrev from_6 : List Row
  from_6 = record { number = 6; holds = number_wrong st.wish st.rate } ∷ from_7

  abbrev from_5 : List Row
  from_5 = record { number = 5; holds = wish_wrong st.wish st.limit } ∷ from_6

  abbrev from_4 : List Row
  from_4 = record { number = 4; holds = ltb st.capacity st.limit } ∷ from_5

  abbrev from_3 : List Row
  from_3 = record { number = 3; holds = line_wrong st.terms } ∷ from_4

  -- rows 1 to 7 let a start pass exactly when the bounds hold
  pub start_passed : (start_refusal st lent size ≡ 0) ↔ SoundStart st lent size
  start_passed = (down, up)
    where
      down : start_refusal st lent size ≡ 0 → SoundStart st lent size
      down e =
          let t2 = (rows_passed (fresh st.channels st.capacity) lent from_3).0 e in
          let t3 = (row_passed 3 (first_of from_4) (line_wrong st.terms) (omega arith)).0 t2.2 in
          let t4 = (row_passed 4 (first_of from_5) (ltb st.capacity st.limit) (omega arith)).0 t3.1 in
          let t5 = (row_passed 5 (first_of from_6) (wish_wrong st.wish st.limit) (omega arith)).0 t4.1 in
          let t6 = (row_passed 6 (first_of from_7) (number_wrong st.wish st.rate) (omega arith)).0 t5.1 in
          let t7 = (row_passed 7 0 row_7 (omega arith)).0 t6.1 in
          let w = (neither (leb st.capacity (pre_of st)) (ltb size (ring_need (pre_of st) (unit_of st.channels)))).0 t7.0 in
          record {
            store = t2.0;
            lines = (lines_right st.terms).0 t3.0;
            limit_most = ltb-false st.capacity st.limit t4.0;
            wish = t5.0;
            number = t6.0;
            pre_most = leb-false st.capacity (pre_of st) w.0;
            ring = ltb-false size (ring_need (pre_of st) (unit_of st.channels)) w.1;
          }

      up : SoundStart st lent size → start_refusal st lent size ≡ 0
      up s =
          (rows_passed (fresh st.channels st.capacity) lent from_3).1 (
            s.store,
            λ k q. absurd (none-ne-some k q),
            (row_passed 3 (first_of from_4) (line_wrong st.terms) (omega arith)).1 (
              (lines_right st.terms).1 s.lines,
              (row_passed 4 (first_of from_5) (ltb st.capacity st.limit) (omega arith)).1 (
                le-ltb st.capacity st.limit s.limit_most,
                (row_passed 5 (first_of from_6) (wish_wrong st.wish st.limit) (omega arith)).1 (
                  s.wish,
                  (row_passed 6 (first_of from_7) (number_wrong st.wish st.rate) (omega arith)).1 (
                    s.number,
                    (row_passed 7 0 row_7 (omega arith)).1 ((neither _ _).1 (lt-leb st.capacity (pre_of st) s.pre_most, le-ltb size (ring_need (pre_of st) (unit_of st.channels)) s.ring), refl),
                  ),
                ),
              ),
            ),
          )

  -- fewer samples are kept before the trigger than a limit lets through, so the firing sample is always stored
  pub pre_below : SoundStart st lent size → 0 < st.limit → pre_of st < st.limit
  pre_below s h = go st.wish refl s.wish
    where
      go : (w : Pretrigger) → st.wish ≡ w → wish_wrong st.wish st.limit ≡ false → pre_of st < st.limit
      go (fraction p) e f = rw e (fraction_below st.limit p h (omega (arith, s.limit_most, s.store.capacity_most)))
      go (seconds t) e f = absurd (omega (arith, eqb-true st.limit 0 (not-false (eqb st.limit 0) (rw e at f))))
