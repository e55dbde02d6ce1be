-- One block, as it is tested: torn, or wholly there.
use mathlib.Core.Path.{◌≡◌, sym, ap, ap₂, ◌∙◌}
use mathlib.Core.Bool.{Bool, false, ◌&&◌}
use mathlib.Core.List.{List}
use Prim.Native.Nat.{ℕ, ◌+◌, ◌-◌, ◌*◌, ◌≤◌, ◌<◌, min}
use native.Mathlib.Omega.{arith}
use lib.ListN.{length, take, drop, length-take, length-drop}
use borrow.Author.Tests.{eq-eqb, ne_eqb}
use Rattle.rules.specs.Block.{block_size, payload_most, good_block}
use Rattle.rules.specs.Salvage.{block_in, due_count, good_in}

module _ (n i : ℕ) (file : List ℕ) where
  abbrev there : ℕ
  there = length (take block_size (drop (block_size * (i + 1)) file))

  size : there ≡ min block_size (length file - block_size * (i + 1))
  size = length-take block_size (drop (block_size * (i + 1)) file) ∙ ap (min block_size) (length-drop (block_size * (i + 1)) file)

  pub torn : length file < (i + 1) * block_size + block_size → false ≡ good_in n (i + 1) (block_in (i + 1) file)
  unfolding good_in
  torn h = sym (ap (λ (b : Bool). b && good_block (i + 1) (due_count n (i + 1)) (block_in (i + 1) file)) (ne_eqb there block_size (λ e. omega (arith, e, size, h))))

  pub whole : (i + 1) * block_size + block_size ≤ length file → {x : Bool} {c : ℕ} → c ≡ min payload_most (n - i * payload_most)
      → x ≡ good_block (i + 1) c (take ((i + 1) * block_size + block_size - (i + 1) * block_size) (drop ((i + 1) * block_size) file)) → x ≡ good_in n (i + 1) (block_in (i + 1) file)
  unfolding good_in
  whole h {x} {c} c-is e =
      e
      ∙ ap₂ (good_block (i + 1)) (c-is ∙ ap (λ (j : ℕ). min payload_most (n - j)) behind) (ap₂ (λ (a b : ℕ). take a (drop b file)) one at)
      ∙ sym (ap (λ (b : Bool). b && good_block (i + 1) (due_count n (i + 1)) (block_in (i + 1) file)) (eq-eqb there block_size (omega (arith, size, h))))
    where
      behind : i * payload_most ≡ payload_most * (i + 1 - 1)
      behind = omega arith

      one : (i + 1) * block_size + block_size - (i + 1) * block_size ≡ block_size
      one = omega arith

      at : (i + 1) * block_size ≡ block_size * (i + 1)
      at = omega arith
