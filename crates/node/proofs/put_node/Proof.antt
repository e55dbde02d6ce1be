-- `node::put_node` meets its contract: five stores, within the level's length. Assumes nothing.
use mathlib.Core.Path.{◌≡◌, ap₂, ◌∙◌}
use mathlib.Core.List.{List, [], ◌∷◌}
use Prim.Native.Nat.{ℕ, suc, ◌+◌, ◌*◌}
use native.Mathlib.Omega.{arith}
use borrow.Author.Rules.{rules}
use lib.ListN.{set, length-set}
use lib.Seq.{sets}
use Rattle.rules.specs.Refusal.{node_size}
use Rattle.node.specs.Memory.{put_node}
use Rattle.node.proofs.put_node.Statement.{statement}
use Rattle.node.proofs.put_node.Tie as tie

-- the places, counted from the first one, are each the next of the one before
five : (l : List ℕ) (i x y z u v u' v' : ℕ) → u ≡ u' → v ≡ v' → set (set (set (set (set l i x) (i + 1) y) (i + 2) z) (i + 3) u) (i + 4) v ≡ sets l i (x ∷ y ∷ z ∷ u' ∷ v' ∷ [])
five l i x y z u v u' v' eu ev =
    ap₂ (λ (p q : ℕ). set (set (set (set (set l i x) (i + 1) y) (i + 2) z) (i + 3) p) (i + 4) q) eu ev
    ∙ ap₂ (λ (p q : ℕ). set (set (set (set (set l i x) p y) q z) (i + 3) u') (i + 4) v') one two
    ∙ ap₂ (λ (p q : ℕ). set (set (set (set (set l i x) (suc i) y) (suc (suc i)) z) p u') q v') three four
  where
    one : i + 1 ≡ suc i
    one = omega arith

    two : i + 2 ≡ suc (suc i)
    two = omega arith

    three : i + 3 ≡ suc (suc (suc i))
    three = omega arith

    four : i + 4 ≡ suc (suc (suc (suc i)))
    four = omega arith

mul_at : tie.Need-overflow_mul-at
mul_at c = search rules

mul-level : tie.Need-offset_bounds-level-at
mul-level c = search rules

slice-write-level : tie.Need-bounds-level-at
slice-write-level c = search rules

add-level : tie.Need-overflow_add-level
add-level c = search rules

mul-level-2 : tie.Need-offset_bounds-level-at-2
mul-level-2 c = search rules

slice-write-level-2 : tie.Need-bounds-level-at-2
slice-write-level-2 c = simp length-set (omega arith)

add-level-2 : tie.Need-overflow_add-level-2
add-level-2 c = search rules

mul-level-3 : tie.Need-offset_bounds-level-at-3
mul-level-3 c = search rules

slice-write-level-3 : tie.Need-bounds-level-at-3
slice-write-level-3 c = simp length-set (omega arith)

low-of-requires : tie.Need-low_of-requires
low-of-requires c κs = search rules

add-level-3 : tie.Need-overflow_add-level-3
add-level-3 c = search rules

mul-level-4 : tie.Need-offset_bounds-level-at-4
mul-level-4 c = search rules

slice-write-level-4 : tie.Need-bounds-level-at-4
slice-write-level-4 c = simp length-set (omega arith)

high-of-requires : tie.Need-high_of-requires
high-of-requires c κs = search rules

add-level-4 : tie.Need-overflow_add-level-4
add-level-4 c = search rules

mul-level-5 : tie.Need-offset_bounds-level-at-5
mul-level-5 c = search rules

slice-write-level-5 : tie.Need-bounds-level-at-5
slice-write-level-5 c = simp length-set (omega arith)

same_length : tie.Need-shape_of-level
same_length c = search rules

returns : tie.Need-returns
unfolding put_node
returns c =
    let a = c.args in
    five a.level.now (a.j * node_size) a.n.first a.n.last a.n.mask _ _ _ _ c.low_of.ensures c.high_of.ensures

pub put_node_spec : {M : Type 1} → statement M
put_node_spec =
    tie.close
    (tie.spec
    mul_at
    mul-level
    slice-write-level
    add-level
    mul-level-2
    slice-write-level-2
    add-level-2
    mul-level-3
    slice-write-level-3
    low-of-requires
    add-level-3
    mul-level-4
    slice-write-level-4
    high-of-requires
    add-level-4
    mul-level-5
    slice-write-level-5
    same_length
    returns)
