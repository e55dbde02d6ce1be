-- The way into a call and out of it, by the number n that `refusal` gave: where n is 0 the bounds hold, and where it is not it is the answer. A call's own rows come after rows 1 and 2.
use Prim.Native.Nat.{ℕ, zero, suc}
use mathlib.Core.Path.{◌≡◌, refl, sym, ap, ◌∙◌}
use mathlib.Core.Bool.{Bool, true, false, cond}
use mathlib.Core.List.{List, [], ◌∷◌, ◌++◌}
use native.Mathlib.Omega.{arith}
use Rattle.rules.specs.Answer.{refused, given, unless, seen}
use Rattle.rules.specs.Refusal.{Store, Lent, Row, first_of, store_rows, store_refusal}
use Rattle.rules.proofs.Refusal.{Sound, sound, rows_left}

-- ---- in
-- no row refuses: the bounds of the store and of the memory that is lent with it
pub let_in : {st : Store} {lent : Lent} {n : ℕ} → n ≡ store_refusal st lent → n ≡ 0 → Sound st lent
let_in {st} {lent} e z = sound st lent (sym e ∙ z)

-- ---- out
module _ {A : Type 0} (a : A) {n r : ℕ} (e : n ≡ r) where
  -- the number of a refusal is the answer
  pub refused_is : (n ≡ 0 → ⊥) → refused n ≡ unless r a
  refused_is h = go n e h
    where
      go : (k : ℕ) → k ≡ r → (k ≡ 0 → ⊥) → refused k ≡ unless r a
      go zero q h = absurd (h refl)
      go (suc k) q h = ap (λ (x : ℕ). unless x a) q

  -- what was asked is the answer where no row refuses
  pub given_is : n ≡ 0 → {b : A} → b ≡ a → given b ≡ unless r a
  given_is z h = ap given h ∙ ap (λ (x : ℕ). unless x a) (sym z ∙ e)

-- what is given was asked, and no row refuses
pub unless_given : {A : Type 0} (a : A) (r : ℕ) (b : A) → unless r a ≡ given b → (r ≡ 0) × (a ≡ b)
unless_given a zero b e = (refl, cc)
unless_given a (suc r) b e = let z : ◌≡◌ {A = ℕ} 0 1 = cc in absurd (omega arith)

-- what is seen of an answer is the answer of what is seen
pub seen_unless : {A B : Type 0} (f : A → B) (a : A) (n : ℕ) → seen f (unless n a) ≡ unless n (f a)
seen_unless f a zero = refl
seen_unless f a (suc n) = refl

-- ---- a call's own rows
-- a row that refuses does so whatever comes after it
pub stopped : (rows rest : List Row) → (first_of rows ≡ 0 → ⊥) → first_of (rows ++ rest) ≡ first_of rows
stopped [] rest h = absurd (h refl)
stopped (r ∷ rows) rest h = go r.holds h (stopped rows rest)
  where
    go : (t : Bool) → (cond t r.number (first_of rows) ≡ 0 → ⊥) → ((first_of rows ≡ 0 → ⊥) → first_of (rows ++ rest) ≡ first_of rows) → cond t r.number (first_of (rows ++ rest)) ≡ cond t r.number (first_of rows)
    go true k ih = refl
    go false k ih = ih k

module _ (st : Store) (lent : Lent) (rest : List Row) {n : ℕ} (e : n ≡ store_refusal st lent) where
  -- 1 or 2 comes before them
  pub rows_refuse : (n ≡ 0 → ⊥) → n ≡ first_of (store_rows st lent rest)
  rows_refuse h = e ∙ sym (stopped (store_rows st lent []) rest (λ z. h (e ∙ z)))

  -- past these they decide
  pub rows_decide : n ≡ 0 → (m : ℕ) → m ≡ first_of rest → m ≡ first_of (store_rows st lent rest)
  rows_decide z m d = d ∙ sym (rows_left st lent (sym e ∙ z) rest)
