-- An edge of a view whose start and spp are finite is no NaN's. Assumes nothing.
use mathlib.Core.Path.{◌≡◌}
use mathlib.Core.Bool.{Bool, true, false, cond, ◌&&◌, beq}
use Prim.Native.Nat.{ℕ, ◌+◌, ◌-◌, ◌*◌, ◌^◌, ◌≤◌}
use native.Mathlib.Omega.{arith}
use lib.IntN.{pos}
use lib.Dec.{T, ltb}
use lib.Ieee.{Float, nan, inf, fin, binary64, up, down, unlike, round, sum, add, mul, of_int}
use lib.Ieee.Back.{round_whole}
use lib.Ieee.Exact.{HasValue}
use lib.Ieee.Scale.{finite}
use Rattle.rules.specs.Floor.{floor_of}
use Rattle.rules.specs.Floor
use Rattle.rules.specs.Pixel.{View, pixel_edge}
use Rattle.rules.proofs.Round.{Signed, round_signed}

abbrev Number : Float → Type 0
Number nan = ⊥
Number (inf s) = Unit
Number (fin s m e) = Unit

rounded : (s : Bool) (a b : ℕ) → Number (round binary64 s a b)
rounded s a b = go (round binary64 s a b) (round_signed binary64 s a b)
  where
    go : (x : Float) → Signed s x → Number x
    go nan h = h
    go (inf t) h = tt
    go (fin t m e) h = tt

either : (b : Bool) (x y : Float) → Number x → Number y → Number (cond b x y)
either true x y p q = p
either false x y p q = q

summed : (s : Bool) (a : ℕ) (t : Bool) (b c : ℕ) → Number (sum binary64 s a t b c)
unfolding sum
summed s a t b c =
    let r : Bool → ℕ → Float = λ s a. round binary64 s a c in
    either (beq s t) (r s (a + b)) (cond (ltb a b) (r t (b - a)) (r (s && ltb b a) (a - b))) (rounded s (a + b) c)
    (either (ltb a b) (r t (b - a)) (r (s && ltb b a) (a - b)) (rounded t (b - a) c) (rounded (s && ltb b a) (a - b) c))

-- a finite number plus one that is no NaN, and the product of two finite numbers
added : (x y : Float) → T (finite x) → Number y → Number (add binary64 x y)
unfolding add
added nan y a b = absurd a
added (inf s) y a b = absurd a
added (fin s m e) nan a b = b
added (fin s m e) (inf t) a b = tt
added (fin s m e) (fin t n d) a b = summed s (m * up e * down d) t (n * up d * down e) (down e * down d)

multiplied : (x y : Float) → T (finite x) → T (finite y) → Number (mul binary64 x y)
unfolding mul
multiplied nan y a b = absurd a
multiplied (inf s) y a b = absurd a
multiplied (fin s m e) nan a b = absurd b
multiplied (fin s m e) (inf t) a b = absurd b
multiplied (fin s m e) (fin t n d) a b = rounded (unlike s t) (m * up e * (n * up d)) (down e * down d)

whole_finite : (x : Float) (n : ℕ) → HasValue x false n 1 → T (finite x)
whole_finite nan n v = v
whole_finite (inf t) n v = v
whole_finite (fin t m e) n v = tt

floored : (x : Float) → Number x → floor_of x ≡ Floor.none → ⊥
unfolding floor_of
floored nan n e = n
floored (inf true) n e = let z : ◌≡◌ {A = ℕ} 0 1 = cc in omega arith
floored (inf false) n e = let z : ◌≡◌ {A = ℕ} 0 1 = cc in omega arith
floored (fin s m d) n e = let z : ◌≡◌ {A = ℕ} 0 1 = cc in omega arith

-- render refuses a start or spp that is "infinite or not a number", so the edges that it draws by are no NaN's
pub edge_number : (v : View) (px : ℕ) → px ≤ 2 ^ 53 → T (finite v.start) → T (finite v.spp) → pixel_edge v px ≡ Floor.none → ⊥
unfolding pixel_edge of_int
edge_number v px h a b =
    let x = of_int binary64 (pos px) in
    floored (add binary64 v.start (mul binary64 x v.spp))
    (added v.start (mul binary64 x v.spp) a (multiplied x v.spp (whole_finite x px (round_whole binary64 false px h)) b))
