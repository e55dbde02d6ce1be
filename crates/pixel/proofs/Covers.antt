-- The range by where the two floors lie among the stored places is the rule's range. Assumes nothing.
use mathlib.Core.Path.{◌≡◌, refl, sym, ap, ◌∙◌}
use mathlib.Core.Bool.{Bool, true, false, cond, ◌||◌}
use Rattle.std.specs.Prelude.{Option, None, Some}
use Prim.Native.Nat.{ℕ, ◌≤◌}
use native.Mathlib.Omega.{arith}
use lib.IntN.{pos, negsuc}
use lib.Dec.{leb, ltb, eqb}
use borrow.Author.Tests.{ltb-true, ltb-false, le-leb, lt-leb}
use Rattle.rules.specs.Floor.{Whole, none, under, over, at, natural}
use Rattle.rules.specs.Pixel.{Range, below0, reaches, end_of, range_of}
use Rattle.float.specs.declared.Place.TheVariants.{At, Beyond}
use Rattle.float.specs.Places.{place_of}
use Rattle.pixel.specs.Ranges.{end_at, spanned_by, ended_by, cover_by}

abbrev unless : Bool → ℕ → ℕ → Option Range
unless b from to = cond b None (Some (record { from = from; to = to }))

-- where a lies
spans : (a : Whole) (n len : ℕ) → spanned_by (place_of a len) n len ≡ unless (reaches a len) (natural a) (end_at (natural a) n len)
spans none n len = refl
spans under n len = refl
spans over n len = refl
spans (at (negsuc k)) n len = refl
spans (at (pos k)) n len = go (ltb k len) refl
  where
    go : (t : Bool) → ltb k len ≡ t → spanned_by (cond t (At k) Beyond) n len ≡ unless (leb len k) k (end_at k n len)
    go true e = sym (ap (λ (u : Bool). unless u k (end_at k n len)) (lt-leb len k (ltb-true k len e)))
    go false e = sym (ap (λ (u : Bool). unless u k (end_at k n len)) (le-leb len k (ltb-false k len e)))

-- where b lies: from len on, the end is len
last : (a n len : ℕ) → len ≤ n → end_at a len len ≡ end_at a n len
last a n len h = omega arith

whole : (a len : ℕ) → end_at a len len ≡ len
whole a len = omega arith

module _ (a : Whole) (len : ℕ) where
  spans_to : (k : ℕ) → end_at (natural a) len len ≡ k → spanned_by (place_of a len) len len ≡ unless (reaches a len) (natural a) k
  spans_to k e = spans a len len ∙ ap (λ (k : ℕ). unless (reaches a len) (natural a) k) e

  ends : (b : Whole) → ended_by (place_of a len) (place_of b len) len ≡ cond (below0 b) None (unless (reaches a len) (natural a) (end_of b (natural a) len))
  ends none = refl
  ends under = refl
  ends over = spans_to len (whole (natural a) len)
  ends (at (negsuc k)) = refl
  ends (at (pos n)) = go (ltb n len) refl
    where
      go : (t : Bool) → ltb n len ≡ t → ended_by (place_of a len) (cond t (At n) Beyond) len ≡ unless (reaches a len) (natural a) (end_at (natural a) n len)
      go true e = spans a n len
      go false e = spans_to (end_at (natural a) n len) (last (natural a) n len (ltb-false n len e))

-- the three tests, in either order
tests : (l b a : Bool) (r : Option Range) → cond l None (cond b None (cond a None r)) ≡ cond (b || a || l) None r
tests true true a r = refl
tests true false true r = refl
tests true false false r = refl
tests false true a r = refl
tests false false true r = refl
tests false false false r = refl

pub covers : (a b : Whole) (len : ℕ) → cover_by (place_of a len) (place_of b len) len ≡ range_of a b len
covers a b len =
    ap (λ (r : Option Range). cond (eqb len 0) None r) (ends a len b)
    ∙ tests (eqb len 0) (below0 b) (reaches a len) (Some (record { from = natural a; to = end_of b (natural a) len }))
