-- The fields of block 0: written, read and tested.
use mathlib.Core.Path.{◌≡◌, ap, ap₂, ◌∙◌}
use mathlib.Core.Bool.{true, cond}
use mathlib.Core.List.{List, [], ◌∷◌, ◌++◌, append-nil}
use Rattle.std.specs.Prelude.{Option, None, Some}
use Prim.Native.Nat.{ℕ, ◌+◌, ◌-◌, ◌≤◌, ◌<◌}
use native.Mathlib.Omega.{arith}
use lib.Dec.{eqb}
use lib.ListN.{length, get_or, set, take, drop, length-append, length-drop, drop_of_length-le}
use lib.Seq.{take_at, get_or-take, get_or-drop}
use borrow.Author.Tests.{leb-true}
use Rattle.rules.specs.Sample.{little}
use Rattle.rules.specs.SampleBytes.{sample_bytes}
use Rattle.rules.specs.Block.{block_size, payload_at, field}
use Rattle.rules.specs.Shelf.{Heading, head_size, flag_in, heading_in, head_test}
use Rattle.rules.proofs.Block.{both}
use Rattle.rules.proofs.Sample.{little_same}
use Rattle.rules.proofs.SampleBytes.{sample_bytes_length}

-- ---- written
pub numbers_put : (s s₁ s₂ : List ℕ) (unit flag len place : ℕ) → length s ≡ head_size
    → s₁ ≡ take 2 (set (set s 0 unit) 1 flag) ++ (sample_bytes 8 len ++ drop 10 (set (set s 0 unit) 1 flag)) → s₂ ≡ take 10 s₁ ++ (sample_bytes 8 place ++ drop 18 s₁)
    → s₂ ≡ unit ∷ flag ∷ (sample_bytes 8 len ++ sample_bytes 8 place)
numbers_put [] s₁ s₂ unit flag len place size e₁ e₂ = absurd (omega (arith, size))
numbers_put (x ∷ []) s₁ s₂ unit flag len place size e₁ e₂ = absurd (omega (arith, size))
numbers_put (x ∷ y ∷ r) s₁ s₂ unit flag len place size e₁ e₂ =
    e₂
    ∙ ap (λ (l : List ℕ). take 10 l ++ (sample_bytes 8 place ++ drop 18 l)) e₁
    ∙ ap₂ (λ (a b : List ℕ). unit ∷ flag ∷ (a ++ (sample_bytes 8 place ++ b))) (take_at (sample_bytes 8 len) (drop 8 r) 8 (sample_bytes_length 8 len)) (drop_of_length-le (sample_bytes 8 len ++ drop 8 r) {i = 16} (omega (arith, whole)))
    ∙ ap (λ (l : List ℕ). unit ∷ flag ∷ (sample_bytes 8 len ++ l)) (append-nil (sample_bytes 8 place))
  where
    whole : length (sample_bytes 8 len ++ drop 8 r) ≡ 16
    whole = length-append (sample_bytes 8 len) (drop 8 r) ∙ ap₂ ◌+◌ (sample_bytes_length 8 len) eight
      where
        eight : length (drop 8 r) ≡ 8
        eight = simp length-drop (omega (arith, size))

-- ---- read
-- a number, as it stands in the file
pub number_at : (file : List ℕ) (a : ℕ) → little 8 (field a (a + 8) file) 0 ≡ little 8 file a
number_at file a = little_same 8 (field a (a + 8) file) file 0 a (λ i h. stands i h)
  where
    eight : a + 8 - a ≡ 8
    eight = omega arith

    same : (i : ℕ) → 0 + i ≡ i
    same i = omega arith

    stands : (i : ℕ) → i < 8 → get_or (field a (a + 8) file) (0 + i) 0 ≡ get_or file (a + i) 0
    stands i h = ap₂ (λ (n k : ℕ). get_or (take n (drop a file)) k 0) eight (same i) ∙ get_or-take 8 (drop a file) i 0 h ∙ get_or-drop a file i 0

-- ---- what block 0 says
pub said : (file : List ℕ) (unit len flag place : ℕ) (mark : Option ℕ)
    → unit ≡ get_or file payload_at 0 → len ≡ little 8 file 14 → flag ≡ flag_in file → place ≡ little 8 file 22 → mark ≡ cond (eqb flag 0) None (Some place)
    → ◌≡◌ {A = Heading} (record { unit = unit; mark = mark; len = len }) (heading_in file)
unfolding heading_in
said file unit len flag place mark e₁ e₂ e₃ e₄ e₅ = λ i. record { unit = e₁ i; mark = marks i; len = e₂ i }
  where
    marks : mark ≡ cond (eqb (flag_in file) 0) None (Some (little 8 file 22))
    marks = e₅ ∙ ap₂ (λ (f p : ℕ). cond (eqb f 0) None (Some p)) e₃ e₄

-- a file that passes has a block
pub head_room : (file : List ℕ) → head_test file ≡ true → block_size ≤ length file
unfolding head_test
head_room file e = leb-true block_size (length file) ((both _ _).0 e).0
