-- The product is below 2^52, so `nearest` takes it; the cap cuts what it gives.
use Rattle.std.proofs.Common.{◌≡◌, Bool, true, false, cond, ℕ, ◌^◌, min, subst, sym, ap, ◌∙◌, refl, lit≤, lit<, arith}
use Rattle.std.proofs.Math.Nat.{le_trans, lt_of_le_of_lt}
use lib.Dec.{ltb}
use lib.Ieee.{Float, of_bits}
use borrow.Author.Tests.{ltb-true, ltb-false}
use Rattle.rules.specs.Floor.{nearest_of, natural}
use Rattle.rules.specs.Pretrigger.{Pre, one, clamp, times, ring_cap, capped}
use Rattle.float.specs.Sizes.{Under}
use Rattle.float.proofs.Floors.{product}
use Rattle.float.proofs.seconds_samples.Goals as goal
use Rattle.float.proofs.seconds_samples.Goals.{After-clamped}

-- the time that is passed on is the rule's
is : (c : After-clamped) → c.clamped.result ≡ clamp one c.args.t
unfolding of_bits
is c = c.clamped.ensures

pub nearest-wanted-requires : goal.nearest-wanted-requires
unfolding times
nearest-wanted-requires c =
    let a = c.args in
    subst (λ (q : Float). Under (2 ^ 52) (times a.rate q)) (sym (is (goal.at.nearest-wanted-requires c).After-clamped))
    (product a.rate (2 ^ 52) one a.t (lt_of_le_of_lt c.requires.slow (lit< tt)) (le_trans c.requires.slow (lit≤ tt)) (lit≤ tt))

-- the lesser of what is wanted and the cap, and whether that is less
kept : (n m cap : ℕ) → m ≡ min n cap → ◌≡◌ {A = Pre} (record { samples = m; was_cut = ltb cap n }) (capped n cap)
kept n m cap e = go (ltb cap n) refl
  where
    go : (t : Bool) → ltb cap n ≡ t → ◌≡◌ {A = Pre} (record { samples = m; was_cut = t }) (cond t (record { samples = cap; was_cut = true }) (record { samples = n; was_cut = false }))
    go true h = let s : m ≡ cap = omega (arith, e, ltb-true cap n h) in λ i. record { samples = s i; was_cut = true }
    go false h = let s : m ≡ n = omega (arith, e, ltb-false cap n h) in λ i. record { samples = s i; was_cut = false }

pub returns : goal.returns
unfolding times
returns c =
    let a = c.args in
    kept c.nearest-wanted.result c.min.result (ring_cap a.unit) c.min.ensures
    ∙ ap (λ (n : ℕ). capped n (ring_cap a.unit)) (c.nearest-wanted.ensures ∙ ap (λ (q : Float). natural (nearest_of (times a.rate q))) (is (goal.at.returns c).After-clamped))
