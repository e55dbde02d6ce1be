-- A view that counts from another place than the first. CR 1: "In render, −mark and len − mark stand for 0 and len".
-- Counted from the first place it covers what 01 says; counted from origin, 01's rule with lo = −origin for 0 and hi = len − origin for len.
use mathlib.Core.Path.{◌≡◌, refl, sym, ap, ap₂, ◌∙◌}
use mathlib.Core.Bool.{Bool, true, false, cond, ◌||◌}
use Rattle.std.specs.Prelude.{Option, None, Some}
use Prim.Native.Nat.{ℕ, zero, suc, ◌+◌, ◌-◌, ◌≤◌, min, max}
use native.Mathlib.Decide.{dec_le}
use native.Mathlib.Omega.{arith}
use lib.Dec.{eqb, leb-zero, leb-suc-zero, leb-suc-suc}
use lib.IntN.{ℤ, pos, negsuc, neg_ℤ, suc_ℤ, sub_ℕ, ◌+ℤ◌, ◌-ℤ◌, +ℤ-suc_ℤ, suc_ℤ-+ℤ, +ℤ_idr, +ℤ_assoc, +ℤ_comm, +ℤ_invl, +ℤ-neg_ℤ_cancel, -ℤ-+ℤ_cancel}
use lib.Signed.{lt_z, le_z}
use borrow.Author.Tests.{le-leb, lt-leb}
use Rattle.rules.specs.Floor.{Whole, under, over, at, natural}
use Rattle.rules.specs.Floor
use Rattle.rules.specs.Pixel.{View, Range, pixel_edge, below0, reaches, end_of, range_of, pixel_range, moved, range_from}
use Rattle.rules.specs.Mill.{mill_place}

-- ---- the rule, over whole numbers
abbrev pub max_z : ℤ → ℤ → ℤ
max_z a b = cond (le_z a b) b a

abbrev pub min_z : ℤ → ℤ → ℤ
min_z a b = cond (le_z a b) a b

-- 01's b < 0, with lo for 0. No edge of a view that is drawn is NaN
abbrev pub below_z : Whole → ℤ → Bool
below_z Floor.none lo = true
below_z under lo = true
below_z over lo = false
below_z (at b) lo = lt_z b lo

-- 01's a ≥ len, with hi for len
abbrev pub reaches_z : Whole → ℤ → Bool
reaches_z Floor.none hi = false
reaches_z under hi = false
reaches_z over hi = true
reaches_z (at a) hi = le_z hi a

-- 01's max(a,0), with lo for 0; only an edge that does not reach hi is asked for
abbrev pub start_z : Whole → ℤ → ℤ
start_z Floor.none lo = lo
start_z under lo = lo
start_z over lo = lo
start_z (at a) lo = max_z a lo

-- 01's min(max(b, a+1) + 1, len), with hi for len
abbrev pub end_z : Whole → ℤ → ℤ → ℤ
end_z Floor.none a hi = min_z (a +ℤ pos 1 +ℤ pos 1) hi
end_z under a hi = min_z (a +ℤ pos 1 +ℤ pos 1) hi
end_z over a hi = hi
end_z (at b) a hi = min_z (max_z b (a +ℤ pos 1) +ℤ pos 1) hi

pub record RangeZ : Type 0 where
  pub from : ℤ
  pub to : ℤ

-- 01's rule of a pixel's range, with lo for 0 and hi for len
abbrev pub range_in : ℤ → ℤ → Bool → Whole → Whole → Option RangeZ
range_in lo hi empty a b = cond (below_z b lo || reaches_z a hi || empty) None (Some (record { from = start_z a lo; to = end_z b (start_z a lo) hi }))

-- places of the run, as a mill counts them
abbrev pub counted_range : ℕ → Option Range → Option RangeZ
counted_range origin None = None
counted_range origin (Some r) = Some (record { from = mill_place origin r.from; to = mill_place origin r.to })

-- ---- from the first place it is 01's
still : (w : Whole) → moved (pos 0) w ≡ w
still Floor.none = refl
still under = refl
still over = refl
still (at z) = ap at (+ℤ_idr z)

pub from_first : (v : View) (len px : ℕ) → range_from 0 v len px ≡ pixel_range v len px
from_first v len px = ap₂ (λ (a b : Whole). range_of a b len) (still (pixel_edge v px)) (still (pixel_edge v (px + 1)))

-- ---- with 0 and len for lo and hi it is 01's
abbrev mapped : (ℤ → ℤ) → Option RangeZ → Option RangeZ
mapped f None = None
mapped f (Some r) = Some (record { from = f r.from; to = f r.to })

abbrev places : Option Range → Option RangeZ
places None = None
places (Some r) = Some (record { from = pos r.from; to = pos r.to })

max_pos : (a b : ℕ) → max_z (pos a) (pos b) ≡ pos (max a b)
max_pos a b = go (dec_le a b)
  where
    go : Dec (a ≤ b) → max_z (pos a) (pos b) ≡ pos (max a b)
    go (yes h) = rw (le-leb a b h) (ap pos (omega arith))
    go (no h) = rw (lt-leb a b (omega arith)) (ap pos (omega arith))

min_pos : (a b : ℕ) → min_z (pos a) (pos b) ≡ pos (min a b)
min_pos a b = go (dec_le a b)
  where
    go : Dec (a ≤ b) → min_z (pos a) (pos b) ≡ pos (min a b)
    go (yes h) = rw (le-leb a b h) (ap pos (omega arith))
    go (no h) = rw (lt-leb a b (omega arith)) (ap pos (omega arith))

below_is : (b : Whole) → below_z b (pos 0) ≡ below0 b
below_is Floor.none = refl
below_is under = refl
below_is over = refl
below_is (at (pos n)) = leb-suc-zero n
below_is (at (negsuc k)) = refl

reaches_is : (a : Whole) (len : ℕ) → reaches_z a (pos len) ≡ reaches a len
reaches_is Floor.none len = refl
reaches_is under len = refl
reaches_is over len = refl
reaches_is (at (pos n)) len = refl
reaches_is (at (negsuc k)) len = refl

start_is : (a : Whole) → start_z a (pos 0) ≡ pos (natural a)
start_is Floor.none = refl
start_is under = refl
start_is over = refl
start_is (at (pos n)) = max_pos n 0 ∙ ap pos (omega arith)
start_is (at (negsuc k)) = refl

end_is : (b : Whole) (a len : ℕ) → end_z b (pos a) (pos len) ≡ pos (end_of b a len)
end_is Floor.none a len = min_pos (a + 1 + 1) len
end_is under a len = min_pos (a + 1 + 1) len
end_is over a len = refl
end_is (at (pos n)) a len = ap (λ (z : ℤ). min_z (z +ℤ pos 1) (pos len)) (max_pos n (a + 1)) ∙ min_pos (max n (a + 1) + 1) len
end_is (at (negsuc k)) a len = min_pos (a + 1 + 1) len

in_is : (a b : Whole) (len : ℕ) → range_in (pos 0) (pos len) (eqb len 0) a b ≡ places (range_of a b len)
in_is a b len =
    ap₂ (λ (t : Bool) (r : RangeZ). cond t None (Some r))
    (ap₂ (λ (x y : Bool). x || y || eqb len 0) (below_is b) (reaches_is a len))
    (ap₂ (λ (x y : ℤ). record { from = x; to = y }) (start_is a) (ap (λ (z : ℤ). end_z b z (pos len)) (start_is a) ∙ end_is b (natural a) len))
    ∙ go (below0 b || reaches a len || eqb len 0)
  where
    go : (t : Bool) → cond t None (Some (record { from = pos (natural a); to = pos (end_of b (natural a) len) })) ≡ places (cond t None (Some (record { from = natural a; to = end_of b (natural a) len })))
    go true = refl
    go false = refl

-- ---- with d added to lo, hi and both edges, the range moves by d
le_suc : (a b : ℤ) → le_z (suc_ℤ a) (suc_ℤ b) ≡ le_z a b
le_suc (pos a) (pos b) = leb-suc-suc a b
le_suc (pos a) (negsuc zero) = leb-suc-zero a
le_suc (pos a) (negsuc (suc b)) = refl
le_suc (negsuc zero) (pos b) = leb-zero (suc b)
le_suc (negsuc (suc a)) (pos b) = refl
le_suc (negsuc zero) (negsuc zero) = refl
le_suc (negsuc zero) (negsuc (suc b)) = sym (leb-suc-zero b)
le_suc (negsuc (suc a)) (negsuc zero) = sym (leb-zero (suc a))
le_suc (negsuc (suc a)) (negsuc (suc b)) = sym (leb-suc-suc b a)

lt_is : (a b : ℤ) → lt_z a b ≡ le_z (suc_ℤ a) b
lt_is (pos a) (pos b) = refl
lt_is (pos a) (negsuc b) = refl
lt_is (negsuc zero) (pos b) = sym (leb-zero b)
lt_is (negsuc (suc a)) (pos b) = refl
lt_is (negsuc zero) (negsuc b) = leb-suc-zero b
lt_is (negsuc (suc a)) (negsuc b) = leb-suc-suc b a

module _ (d : ℕ) where
  abbrev up : ℤ → ℤ
  up z = z +ℤ pos d

  up_le : (a b : ℤ) → le_z (up a) (up b) ≡ le_z a b
  up_le a b = go d
    where
      go : (n : ℕ) → le_z (a +ℤ pos n) (b +ℤ pos n) ≡ le_z a b
      go zero = ap₂ le_z (+ℤ_idr a) (+ℤ_idr b)
      go (suc n) = ap₂ le_z (+ℤ-suc_ℤ a (pos n)) (+ℤ-suc_ℤ b (pos n)) ∙ le_suc (a +ℤ pos n) (b +ℤ pos n) ∙ go n

  up_lt : (a b : ℤ) → lt_z (up a) (up b) ≡ lt_z a b
  up_lt a b = lt_is (up a) (up b) ∙ ap (λ (z : ℤ). le_z z (up b)) (sym (suc_ℤ-+ℤ a (pos d))) ∙ up_le (suc_ℤ a) b ∙ sym (lt_is a b)

  either : (t : Bool) (a b : ℤ) → cond t (up a) (up b) ≡ up (cond t a b)
  either true a b = refl
  either false a b = refl

  up_max : (a b : ℤ) → max_z (up a) (up b) ≡ up (max_z a b)
  up_max a b = ap (λ (t : Bool). cond t (up b) (up a)) (up_le a b) ∙ either (le_z a b) b a

  up_min : (a b : ℤ) → min_z (up a) (up b) ≡ up (min_z a b)
  up_min a b = ap (λ (t : Bool). cond t (up a) (up b)) (up_le a b) ∙ either (le_z a b) a b

  up_one : (a : ℤ) → up a +ℤ pos 1 ≡ up (a +ℤ pos 1)
  up_one a = +ℤ_assoc a (pos d) (pos 1) ∙ ap (λ (z : ℤ). a +ℤ z) (+ℤ_comm (pos d) (pos 1)) ∙ sym (+ℤ_assoc a (pos 1) (pos d))

  up_below : (b : Whole) (lo : ℤ) → below_z (moved (pos d) b) (up lo) ≡ below_z b lo
  up_below Floor.none lo = refl
  up_below under lo = refl
  up_below over lo = refl
  up_below (at z) lo = up_lt z lo

  up_reaches : (a : Whole) (hi : ℤ) → reaches_z (moved (pos d) a) (up hi) ≡ reaches_z a hi
  up_reaches Floor.none hi = refl
  up_reaches under hi = refl
  up_reaches over hi = refl
  up_reaches (at z) hi = up_le hi z

  up_start : (a : Whole) (lo : ℤ) → start_z (moved (pos d) a) (up lo) ≡ up (start_z a lo)
  up_start Floor.none lo = refl
  up_start under lo = refl
  up_start over lo = refl
  up_start (at z) lo = up_max z lo

  up_next : (a hi : ℤ) → min_z (up a +ℤ pos 1) (up hi) ≡ up (min_z (a +ℤ pos 1) hi)
  up_next a hi = ap (λ (z : ℤ). min_z z (up hi)) (up_one a) ∙ up_min (a +ℤ pos 1) hi

  up_end : (b : Whole) (a hi : ℤ) → end_z (moved (pos d) b) (up a) (up hi) ≡ up (end_z b a hi)
  up_end Floor.none a hi = ap (λ (z : ℤ). min_z (z +ℤ pos 1) (up hi)) (up_one a) ∙ up_next (a +ℤ pos 1) hi
  up_end under a hi = ap (λ (z : ℤ). min_z (z +ℤ pos 1) (up hi)) (up_one a) ∙ up_next (a +ℤ pos 1) hi
  up_end over a hi = refl
  up_end (at z) a hi =
      ap (λ (y : ℤ). min_z (y +ℤ pos 1) (up hi)) (ap (max_z (up z)) (up_one a) ∙ up_max z (a +ℤ pos 1))
      ∙ up_next (max_z z (a +ℤ pos 1)) hi

  up_in : (lo hi : ℤ) (empty : Bool) (a b : Whole) → range_in (up lo) (up hi) empty (moved (pos d) a) (moved (pos d) b) ≡ mapped up (range_in lo hi empty a b)
  up_in lo hi empty a b =
      ap₂ (λ (t : Bool) (r : RangeZ). cond t None (Some r))
      (ap₂ (λ (x y : Bool). x || y || empty) (up_below b lo) (up_reaches a hi))
      (ap₂ (λ (x y : ℤ). record { from = x; to = y }) (up_start a lo) (ap (λ (z : ℤ). end_z (moved (pos d) b) z (up hi)) (up_start a lo) ∙ up_end b (start_z a lo) hi))
      ∙ go (below_z b lo || reaches_z a hi || empty)
    where
      go : (t : Bool) → cond t None (Some (record { from = up (start_z a lo); to = up (end_z b (start_z a lo) hi) })) ≡ mapped up (cond t None (Some (record { from = start_z a lo; to = end_z b (start_z a lo) hi })))
      go true = refl
      go false = refl

-- ---- counted from origin, the rule with lo and hi for 0 and len
pub difference : (a b : ℕ) → sub_ℕ a b ≡ pos a -ℤ pos b
difference a zero = ap (λ (t : Bool). cond t (negsuc (zero - suc a)) (pos (a - zero))) (leb-suc-zero a) ∙ ap pos (omega arith)
difference a (suc b) = refl

module _ (origin : ℕ) (v : View) (len px : ℕ) where
  abbrev lo : ℤ
  lo = neg_ℤ (pos origin)

  abbrev hi : ℤ
  hi = pos len -ℤ pos origin

  down_up : (r : Option RangeZ) → mapped (λ z. z -ℤ pos origin) (mapped (up origin) r) ≡ r
  down_up None = refl
  down_up (Some r) = ap₂ (λ (x y : ℤ). Some (record { from = x; to = y })) (+ℤ-neg_ℤ_cancel r.from (pos origin)) (+ℤ-neg_ℤ_cancel r.to (pos origin))

  counted_is : (r : Option Range) → counted_range origin r ≡ mapped (λ z. z -ℤ pos origin) (places r)
  counted_is None = refl
  counted_is (Some r) = ap₂ (λ (x y : ℤ). Some (record { from = x; to = y })) (difference r.from origin) (difference r.to origin)

  pub from_origin : counted_range origin (range_from origin v len px) ≡ range_in (neg_ℤ (pos origin)) (pos len -ℤ pos origin) (eqb len 0) (pixel_edge v px) (pixel_edge v (px + 1))
  from_origin =
      counted_is (range_from origin v len px)
      ∙ ap (mapped (λ z. z -ℤ pos origin))
      (sym (in_is a b len)
      ∙ ap₂ (λ (l h : ℤ). range_in l h (eqb len 0) a b) (sym (+ℤ_invl (pos origin))) (sym (-ℤ-+ℤ_cancel (pos len) (pos origin)))
      ∙ up_in origin lo hi (eqb len 0) (pixel_edge v px) (pixel_edge v (px + 1)))
      ∙ down_up (range_in lo hi (eqb len 0) (pixel_edge v px) (pixel_edge v (px + 1)))
    where
      a : Whole
      a = moved (pos origin) (pixel_edge v px)

      b : Whole
      b = moved (pos origin) (pixel_edge v (px + 1))
