-- Laws of what is asked of a node: equal nodes tell the same, joins of what tells the same do, and with the count it is the node itself.
use Prim.Native.Nat.{ℕ, ◌+◌}
use mathlib.Core.Path.{◌≡◌, refl, ap, ap₂, ◌∙◌}
use mathlib.Core.Bool.{Bool, true}
use lib.Bits.{bit_or, bit_xor}
use Rattle.rules.specs.Node.{Node, Lines, lines_of, join, differs, cap_count}
use Rattle.node.specs.Told.{Told}

module _ (c : Bool) where
  pub told_is : (n m : Node) → n ≡ m → Told c n m
  told_is n m e = record { lines = ap lines_of e; count = λ _. ap (λ (x : Node). x.count) e }

  pub told_on : (n m k : Node) → Told c n m → m ≡ k → Told c n k
  told_on n m k t e = record { lines = t.lines ∙ ap lines_of e; count = λ z. t.count z ∙ ap (λ (x : Node). x.count) e }

  pub told_trans : (n m k : Node) → Told c n m → Told c m k → Told c n k
  told_trans n m k t u = record { lines = t.lines ∙ u.lines; count = λ z. t.count z ∙ u.count z }

  pub told_join : (l x r y : Node) → Told c l x → Told c r y → Told c (join l r) (join x y)
  told_join l x r y p q = record {
    lines = ap₂ (λ (s t : Lines). record { first = s.first; last = t.last; toggles = bit_or (bit_or s.toggles t.toggles) (bit_xor s.last t.first) }) p.lines q.lines;
    count = λ z.
        ap₂ (λ (i j : ℕ). cap_count (i + j + differs l.last r.first)) (p.count z) (q.count z)
        ∙ ap₂ (λ (s t : Lines). cap_count (x.count + y.count + differs s.last t.first)) p.lines q.lines;
  }

pub is_told : (n m : Node) → Told true n m → n ≡ m
is_told n m t = λ i. record { first = (t.lines i).first; last = (t.lines i).last; toggles = (t.lines i).toggles; count = t.count refl i }
