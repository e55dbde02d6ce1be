-- Nodes that are the nodes of their ranges: joined they are the node of the whole range, and so one level up.
use Prim.Native.Nat.{ℕ, zero, suc, ◌+◌, ◌-◌, ◌*◌, ◌≤◌, ◌<◌, min, zero-le}
use mathlib.Core.Path.{◌≡◌, sym, ap, ap₂, ◌∙◌, subst}
use native.Mathlib.Nat.{pow-suc, mul-le-mul_right, lt_of_mul-lt-mul_right}
use native.Mathlib.Decide.{dec_le}
use native.Mathlib.Omega.{arith}
use Rattle.rules.specs.Node.{Node, join, node_of, span}
use Rattle.rules.proofs.Node.{node_join}
use Rattle.rules.proofs.Walk.{span_pos}
use Rattle.range.specs.Join.{join_over, join_on, made_over}
use Rattle.range.proofs.Joins.{over_on}

-- nodes of w samples, of which the first len are stored, partial last ones too
abbrev pub True : (ℕ → ℕ) → ℕ → ℕ → (ℕ → Node) → Type 0
True s len w nodes = (j : ℕ) → j * w < len → nodes j ≡ node_of s (j * w) (min (suc j * w) len)

-- those of them from number f on
abbrev pub TrueFrom : ℕ → (ℕ → ℕ) → ℕ → ℕ → (ℕ → Node) → Type 0
TrueFrom f s len w nodes = (j : ℕ) → f ≤ j → j * w < len → nodes j ≡ node_of s (j * w) (min (suc j * w) len)

module _ (f : ℕ) (s : ℕ → ℕ) (len w : ℕ) (nodes : ℕ → Node) (hw : 1 ≤ w) (r : TrueFrom f s len w nodes) where
  abbrev node_upto : ℕ → ℕ → Node
  node_upto p i = node_of s p (min (i * w) len)

  -- k nodes from number i on join the node of a range that ends where they begin
  pub on_true : (p k i : ℕ) (n : Node) → f ≤ i → p < i * w → ((j : ℕ) → i ≤ j → j < i + k → j * w < len) → n ≡ node_upto p i → join_on n nodes i k ≡ node_upto p (i + k)
  unfolding join_on
  on_true p zero i n a b all e = e ∙ ap (node_upto p) none
    where
      none : i ≡ i + 0
      none = omega arith
  on_true p (suc k) i n a b all e =
      on_true p k (i + 1) (join n (nodes i)) (omega arith) (omega arith) (λ j x y. all j (omega arith) (omega arith)) (joined (all i (omega arith) (omega arith)))
      ∙ ap (node_upto p) next
    where
      next : i + 1 + k ≡ i + suc k
      next = omega arith

      joined : i * w < len → join n (nodes i) ≡ node_upto p (i + 1)
      joined h =
          ap₂ join (e ∙ ap (node_of s p) whole) (r i a h)
          ∙ node_join s p (i * w) (min (suc i * w) len) b (omega (arith, hw))
          ∙ ap (node_upto p) one
        where
          whole : min (i * w) len ≡ i * w
          whole = omega arith

          one : suc i ≡ i + 1
          one = omega arith

  join_from : (a n : ℕ) → f ≤ a → (a + n) * w < len → join_over nodes a n ≡ node_upto (a * w) (suc (a + n))
  join_from a n x h =
      sym (over_on nodes a n)
      ∙ on_true (a * w) n (a + 1) (nodes a) (omega arith) (omega (arith, hw)) (λ j _ y. within j (omega arith)) (r a x (within a (omega arith)) ∙ ap (node_upto (a * w)) one)
      ∙ ap (node_upto (a * w)) next
    where
      within : (j : ℕ) → j ≤ a + n → j * w < len
      within j y = omega (arith, mul-le-mul_right w y)

      one : suc a ≡ a + 1
      one = omega arith

      next : a + 1 + n ≡ suc (a + n)
      next = omega arith

  level_up : (top : ℕ) → top * w < len → len ≤ suc top * w → (j : ℕ) → f ≤ j * 32 → j * (w * 32) < len → made_over nodes top j ≡ node_of s (j * (w * 32)) (min (suc j * (w * 32)) len)
  level_up top low high j x h = join_from (j * 32) (min 31 (top - j * 32)) x (within (j * 32 + min 31 (top - j * 32)) (omega (arith, starts))) ∙ ap₂ (node_of s) from (to (dec_le 31 (top - j * 32)))
    where
      starts : j * 32 < suc top
      starts = lt_of_mul-lt-mul_right w {m = j * 32} {n = suc top} (omega arith)

      within : (k : ℕ) → k ≤ top → k * w < len
      within k y = omega (arith, mul-le-mul_right w y)

      from : j * 32 * w ≡ j * (w * 32)
      from = omega arith

      to : Dec (31 ≤ top - j * 32) → min (suc (j * 32 + min 31 (top - j * 32)) * w) len ≡ min (suc j * (w * 32)) len
      to (yes d) = ap (λ (k : ℕ). min (suc k * w) len) run ∙ ap (λ (k : ℕ). min k len) all
        where
          run : j * 32 + min 31 (top - j * 32) ≡ j * 32 + 31
          run = omega arith

          all : suc (j * 32 + 31) * w ≡ suc j * (w * 32)
          all = omega arith
      to (no d) = ap (λ (k : ℕ). min (suc k * w) len) run ∙ ends
        where
          run : j * 32 + min 31 (top - j * 32) ≡ top
          run = omega (arith, starts)

          beyond : suc top * w ≤ suc j * 32 * w
          beyond = mul-le-mul_right w (omega arith)

          ends : min (suc top * w) len ≡ min (suc j * (w * 32)) len
          ends = omega (arith, beyond, high)

-- a level made over a right one, whose last node is top, is right: where the level below is right from number f on, so are the nodes that are made of these
module _ (s : ℕ → ℕ) (len l top : ℕ) (nodes : ℕ → Node) where
  pub made_from : (f : ℕ) → TrueFrom f s len (span l) nodes → top * span l < len → len ≤ suc top * span l
      → (j : ℕ) → f ≤ j * 32 → j * span (suc l) < len → made_over nodes top j ≡ node_of s (j * span (suc l)) (min (suc j * span (suc l)) len)
  made_from f r low high j =
      subst (λ (w : ℕ). f ≤ j * 32 → j * w < len → made_over nodes top j ≡ node_of s (j * w) (min (suc j * w) len)) (sym (pow-suc 32 l))
      (level_up f s len (span l) nodes (span_pos l) r top low high j)

  pub made_true : True s len (span l) nodes → top * span l < len → len ≤ suc top * span l → True s len (span (suc l)) (made_over nodes top)
  made_true r low high j h = made_from 0 (λ i _. r i) low high j zero-le h

-- nodes of a right level, joined
pub join_true : (s : ℕ → ℕ) (len w : ℕ) (nodes : ℕ → Node) → 1 ≤ w → True s len w nodes → (a n : ℕ) → (a + n) * w < len → join_over nodes a n ≡ node_of s (a * w) (min (suc (a + n) * w) len)
join_true s len w nodes hw r a n h = join_from 0 s len w nodes hw (λ i _. r i) a n zero-le h
