-- The sum of a block's bytes, two at a time.
use mathlib.Core.Path.{◌≡◌, sym, ap, ◌∙◌}
use mathlib.Core.List.{List, [], ◌∷◌, ◌++◌}
use Prim.Native.Nat.{ℕ, suc, ◌+◌, ◌*◌, ◌≤◌, ◌<◌}
use native.Mathlib.Nat.{mul-le-mul}
use native.Mathlib.Omega.{arith}
use lib.ListN.{length, get_or, take, drop, length-drop, take-append-drop, drop_of_length-le}
use lib.Seq.{drop-cons, get_or-take, get_or-drop, length-take-le}
use Rattle.rules.specs.Block.{block_size, weigh}

-- a place below 256 times a byte
pub short_product : (p b : ℕ) → p < 256 → b < 256 → p * b ≤ 65025
short_product p b h l = mul-le-mul {n₁ = p} {m₁ = b} {n₂ = 255} {m₂ = 255} (omega arith) (omega arith)

weigh_cons : (p : ℕ) (l : List ℕ) (i : ℕ) → i < length l → weigh p (drop i l) ≡ p * get_or l i 0 + weigh (p + 1) (drop (i + 1) l)
unfolding weigh
weigh_cons p l i h = ap (weigh p) (drop-cons l i 0 h) ∙ ap (λ (k : ℕ). p * get_or l i 0 + weigh (p + 1) (drop k l)) one
  where
    one : suc i ≡ i + 1
    one = omega arith

weigh_append : (p : ℕ) (a b : List ℕ) → weigh p (a ++ b) ≡ weigh p a + weigh (p + length a) b
unfolding weigh
weigh_append p [] b = omega (arith, ap (λ (k : ℕ). weigh k b) none)
  where
    none : p ≡ p + 0
    none = omega arith
weigh_append p (x ∷ a) b = ap (λ (w : ℕ). p * x + w) (weigh_append (p + 1) a b) ∙ omega (arith, ap (λ (k : ℕ). weigh k b) shifted)
  where
    shifted : p + 1 + length a ≡ p + suc (length a)
    shifted = omega arith

-- ---- i pairs are summed, and the rest of both halves is left
abbrev low_half : List ℕ → List ℕ
low_half block = take 256 block

abbrev high_half : List ℕ → List ℕ
high_half block = drop 256 block

pub record Weighing (block : List ℕ) (sum i : ℕ) : Type 0 where
  pub most : sum ≤ 195330 * i
  pub left : sum + (weigh i (drop i (low_half block)) + weigh (256 + i) (drop i (high_half block))) ≡ weigh 0 block

module _ (block : List ℕ) (size : length block ≡ block_size) where
  low_size : length (low_half block) ≡ 256
  low_size = length-take-le 256 block (omega (arith, size))

  high_size : length (high_half block) ≡ 256
  high_size = simp length-drop (omega (arith, size))

  pub weighing_starts : Weighing block 0 0
  weighing_starts = record {
    most = omega arith;
    left = zero_left ∙ sym (ap (weigh 0) (sym (take-append-drop 256 block)) ∙ weigh_append 0 (low_half block) (high_half block) ∙ ap (λ (k : ℕ). weigh 0 (low_half block) + weigh (0 + k) (high_half block)) low_size);
  }
    where
      zero_left : 0 + (weigh 0 (low_half block) + weigh 256 (high_half block)) ≡ weigh 0 (low_half block) + weigh 256 (high_half block)
      zero_left = omega arith

  pub weighing_on : {sum i r : ℕ} → Weighing block sum i → i < 256 → (r ≡ i * get_or block i 0 + (256 + i) * get_or block (256 + i) 0) × (r ≤ 195330) → Weighing block (sum + r) (i + 1)
  weighing_on {sum} {i} {r} w h t = record {
    most = omega (arith, w.most, t.1);
    left = omega (
      arith,
      w.left,
      t.0,
      weigh_cons i (low_half block) i (omega (arith, h, low_size)),
      weigh_cons (256 + i) (high_half block) i (omega (arith, h, high_size)),
      ap (λ (x : ℕ). i * x) (get_or-take 256 block i 0 h),
      ap (λ (x : ℕ). (256 + i) * x) (get_or-drop 256 block i 0),
      ap (λ (k : ℕ). weigh k (drop (i + 1) (high_half block))) next,
    );
  }
    where
      next : 256 + i + 1 ≡ 256 + (i + 1)
      next = omega arith

  pub weighing_ends : {sum i : ℕ} → Weighing block sum i → 256 ≤ i → sum ≡ weigh 0 block
  unfolding weigh
  weighing_ends {sum} {i} w h =
      omega (arith, w.left, ap (weigh i) (drop_of_length-le (low_half block) {i = i} (omega (arith, low_size, h))), ap (weigh (256 + i)) (drop_of_length-le (high_half block) {i = i} (omega (arith, high_size, h))))

  -- place 0 weighs nothing, and place 1 its byte
  pub weigh_two : weigh 0 block ≡ get_or block 1 0 + weigh 2 (drop 2 block)
  weigh_two = weigh_cons 0 block 0 (omega (arith, size)) ∙ omega (arith, weigh_cons 1 block 1 (omega (arith, size)))
