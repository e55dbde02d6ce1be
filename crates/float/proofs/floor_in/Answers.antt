-- From 1 on, the bits give the floor; below 1 it is 0; below 0, its size is rounded up.
use Rattle.std.proofs.Common.{◌≡◌, true, false, not, ℕ, ◌+◌, ◌-◌, ◌^◌, ◌≤◌, subst, sym, ap, ◌∙◌, pos, lit≤, arith, T}
use Rattle.std.proofs.Math.Nat.{le_trans}
use lib.Ieee.{binary64, of_int, of_bits, le, neg, to_unsigned}
use borrow.Author.Tests.{lt-ltb, le-ltb}
use lib.Ieee.Exact.{HasValue}
use lib.Ieee.Positive.{positive}
use Rattle.rules.specs.Pretrigger.{nought, one}
use Rattle.float.specs.Sizes.{Under, Shiftable}
use Rattle.float.specs.declared.Place.TheVariants.{At}
use Rattle.float.proofs.Floors.{yes, no, whole_value, under, cast_under, cast_is, nought_of_one, shiftable, first_place, placed, beyond}
use Rattle.float.proofs.Ceilings.{upto, upto_under, ceil_le, size, back, below}
use Rattle.float.proofs.floor_in.Goals as goal
use Rattle.float.proofs.floor_in.Goals.{Start, Then-x, Then-x-hi, After-shifted, Else-x-2, Then-y-origin}

-- whole numbers up to hi, as floats
module _ (c : Start) where
  abbrev room : ℕ
  room = c.args.hi - c.args.origin

  hi_small : c.args.hi ≤ 2 ^ 53
  hi_small = le_trans c.requires.few (lit≤ tt)

  room_small : room ≤ 2 ^ 53
  room_small = omega (arith, hi_small)

  origin_small : c.args.origin ≤ 2 ^ 53
  origin_small = omega (arith, hi_small, c.requires.counts)

  room_value : HasValue (of_int binary64 (pos room)) false room 1
  room_value = whole_value room room_small

  origin_value : HasValue (of_int binary64 (pos c.args.origin)) false c.args.origin 1
  origin_value = whole_value c.args.origin origin_small

-- 1 ≤ x, and x < hi - origin
from_one : (c : Then-x) → T (le one c.args.x)
unfolding of_bits
from_one c = yes c.if-x.true

inside : (c : Then-x-hi) → Under (c.args.hi - c.args.origin) c.args.x
inside c =
    let s = (goal.at.Then-x-hi c).Start in
    under c.args.x (of_int binary64 (pos (room s))) (room s) (room_value s) (nought_of_one c.args.x (from_one (goal.at.Then-x-hi c).Then-x)) (yes c.if-x-hi.true)

fit : (c : Then-x-hi) → Shiftable c.args.x
fit c = let s = (goal.at.Then-x-hi c).Start in shiftable c.args.x (room s) (room_small s) (from_one (goal.at.Then-x-hi c).Then-x) (inside c)

-- what the bits give is what a cast would
cast : (c : After-shifted) → c.shifted.result ≡ to_unsigned 64 c.args.x
cast c =
    let d = goal.at.After-shifted c in
    c.shifted.ensures ∙ sym (cast_is c.args.x (room d.Start) (room_small d.Start) (fit d.Then-x-hi).number (inside d.Then-x-hi))

-- x < 0, or NaN; and −x ≤ origin
negative : (c : Else-x-2) → T (not (le nought c.args.x))
unfolding of_bits
negative c = no c.if-x-2.false

above_zero : (c : Then-y-origin) → T (positive (neg c.args.x))
above_zero c = let s = (goal.at.Then-y-origin c).Start in size c.args.x (of_int binary64 (pos c.args.origin)) c.args.origin (origin_value s) (negative (goal.at.Then-y-origin c).Else-x-2) (yes c.if-y-origin.true)

pub shifted-requires : goal.shifted-requires
shifted-requires c = fit (goal.at.shifted-requires c).Then-x-hi

pub overflow_add-result : goal.overflow_add-result
overflow_add-result c =
    let d = goal.at.overflow_add-result c in
    record { fits = omega (arith, cast d.After-shifted, cast_under c.args.x (room d.Start) (room_small d.Start) (inside d.Then-x-hi), hi_small d.Start) }

pub returns-then-x-hi : goal.returns-then-x-hi
returns-then-x-hi c =
    let d = goal.at.returns-then-x-hi c in
    ap (λ (n : ℕ). At (n + c.args.origin)) (cast d.After-shifted) ∙ sym (placed c.args.x c.args.origin c.args.hi (hi_small d.Start) (nought_of_one c.args.x (from_one d.Then-x)) (inside d.Then-x-hi))

pub returns-then-x : goal.returns-then-x
returns-then-x c =
    let d = goal.at.returns-then-x c in
    sym (beyond c.args.x (of_int binary64 (pos (room d.Start))) c.args.origin c.args.hi (room_value d.Start) (nought_of_one c.args.x (from_one d.Then-x)) (no c.if-x-hi.false))

pub returns-then-origin-hi : goal.returns-then-origin-hi
unfolding of_bits
returns-then-origin-hi c = first_place c.args.x c.args.origin c.args.hi true (yes c.if-x-2.true) (no c.if-x.false) (lt-ltb c.args.origin c.args.hi c.if-origin-hi.true)

pub returns-else-origin-hi : goal.returns-else-origin-hi
unfolding of_bits
returns-else-origin-hi c = first_place c.args.x c.args.origin c.args.hi false (yes c.if-x-2.true) (no c.if-x.false) (le-ltb c.args.origin c.args.hi c.if-origin-hi.false)

pub ceiling-requires-clause-above : goal.ceiling-requires-clause-above
ceiling-requires-clause-above c = above_zero (goal.at.ceiling-requires-clause-above c).Then-y-origin

pub ceiling-requires-clause-small : goal.ceiling-requires-clause-small
ceiling-requires-clause-small c =
    let d = goal.at.ceiling-requires-clause-small c in
    upto_under (neg c.args.x) (of_int binary64 (pos c.args.origin)) c.args.origin (2 ^ 53) (origin_value d.Start) (above_zero d.Then-y-origin) (yes c.if-y-origin.true) (omega (arith, c.requires.counts, c.requires.few))

pub overflow_sub-result : goal.overflow_sub-result
overflow_sub-result c =
    let d = goal.at.overflow_sub-result c in
    let p = above_zero d.Then-y-origin in
    subst (λ (n : ℕ). n ≤ c.args.origin) (sym c.ceiling.ensures) (ceil_le (neg c.args.x) p c.args.origin (upto (neg c.args.x) (of_int binary64 (pos c.args.origin)) c.args.origin (origin_value d.Start) p (yes c.if-y-origin.true)))

pub returns-then-y-origin : goal.returns-then-y-origin
returns-then-y-origin c =
    let d = goal.at.returns-then-y-origin c in
    ap (λ (n : ℕ). At (c.args.origin - n)) c.ceiling.ensures
    ∙ sym (back c.args.x (of_int binary64 (pos c.args.origin)) c.args.origin c.args.hi (origin_value d.Start) c.requires.counts (negative d.Else-x-2) (yes c.if-y-origin.true))

pub returns : goal.returns
returns c =
    let d = goal.at.returns c in
    sym (below c.args.x (of_int binary64 (pos c.args.origin)) c.args.origin c.args.hi (origin_value d.Start) (negative d.Else-x-2) (no c.if-y-origin.false))
