-- The nodes of a level, samples at level 0, and runs of them that can be passed.
use Prim.Native.Nat.{ℕ, ◌+◌}
use mathlib.Core.Path.{◌≡◌, sym, ap, ◌∙◌, subst}
use mathlib.Core.Bool.{Bool, true, cond}
use mathlib.Core.List.{List}
use native.Mathlib.Numerals.{add-one}
use borrow.Author.Tests.{ne_eqb}
use borrow.Author.Count.{below_more}
use Rattle.rules.specs.Sample.{sample_of}
use Rattle.rules.specs.Node.{Node, leaf, quiet}
use Rattle.node.specs.Memory.{node_in}
use Rattle.find.specs.Run.{node_at, carried, Quiets}

module _ (unit : ℕ) (part level : List ℕ) (l i : ℕ) where
  pub at_node : (l ≡ 0 → ⊥) → node_at unit part level l i ≡ node_in level i
  unfolding node_at
  at_node z = ap (λ (b : Bool). cond b (leaf (sample_of unit part i)) (node_in level i)) (ne_eqb l 0 z)

-- ---- nodes that are quiet, one after another
-- one more, which is n
pub quiets_more : {nodes : ℕ → Node} {mask v k u : ℕ} → Quiets nodes mask v k u → (n : Node) → n ≡ nodes k → quiet n u mask ≡ true → Quiets nodes mask v (k + 1) n.last
quiets_more {nodes} {mask} {v} {k} {u} q n e h = record {
  each = below_more _ _ q.each (subst (λ (x : ℕ). quiet (nodes k) x mask ≡ true) q.carries (subst (λ (m : Node). quiet m u mask ≡ true) e h));
  carries = ap (λ (m : Node). m.last) e ∙ sym (ap (carried v nodes) (add-one k));
}
