-- Laws of runs of nodes that are put into a level, and the invariant of the loops that put them.
use Prim.Native.Nat.{ℕ, zero, suc, ◌+◌, ◌-◌, ◌*◌, ◌≤◌, ◌<◌}
use mathlib.Core.Path.{◌≡◌, refl, sym, ap, ap₂, ◌∙◌}
use mathlib.Core.Logic.{◌⊎◌, inl, inr}
use mathlib.Core.List.{List}
use native.Mathlib.Nat.{suc-add, le_refl}
use native.Mathlib.Decide.{ℕ_discrete}
use native.Mathlib.Omega.{arith}
use lib.ListN.{length, get_or}
use Rattle.rules.specs.Node.{Node}
use Rattle.rules.specs.Refusal.{node_size}
use Rattle.node.specs.Memory.{node_in, put_node}
use Rattle.node.proofs.NodeMemory.{length_put, put_same, put_rest, node_at}
use Rattle.rebuild.specs.Rebuild.{put_nodes}

-- ---- a run of nodes
module _ (f : ℕ → Node) where
  pub length_puts : (n : ℕ) (l : List ℕ) (j : ℕ) → length (put_nodes f l j n) ≡ length l
  unfolding put_nodes
  length_puts zero l j = refl
  length_puts (suc n) l j = length_puts n (put_node l j (f j)) (j + 1) ∙ length_put l j (f j)

  -- the other numbers stay
  pub puts_rest : (n : ℕ) (l : List ℕ) (j k : ℕ) → (k < j * node_size) ⊎ ((j + n) * node_size ≤ k) → get_or (put_nodes f l j n) k 0 ≡ get_or l k 0
  unfolding put_nodes
  puts_rest zero l j k h = refl
  puts_rest (suc n) l j k (inl h) = puts_rest n (put_node l j (f j)) (j + 1) k (inl (omega arith)) ∙ put_rest l j (f j) k (inl h)
  puts_rest (suc n) l j k (inr h) = puts_rest n (put_node l j (f j)) (j + 1) k (inr (omega arith)) ∙ put_rest l j (f j) k (inr (omega arith))

  -- the other nodes stay
  pub puts_other : (n : ℕ) (l : List ℕ) (j i : ℕ) → (i < j) ⊎ (j + n ≤ i) → node_in (put_nodes f l j n) i ≡ node_in l i
  puts_other n l j i (inl h) = node_at (put_nodes f l j n) l i (λ x b. puts_rest n l j (i * node_size + x) (inl (omega arith)))
  puts_other n l j i (inr h) = node_at (put_nodes f l j n) l i (λ x b. puts_rest n l j (i * node_size + x) (inr (omega arith)))

  -- each node of the run is f's
  pub puts_at : (n : ℕ) (l : List ℕ) (j i : ℕ) → (j + n) * node_size ≤ length l → j ≤ i → i < j + n → node_in (put_nodes f l j n) i ≡ f i
  unfolding put_nodes
  puts_at zero l j i h a b = absurd (omega arith)
  puts_at (suc n) l j i h a b = pick (puts_at n (put_node l j (f j)) (j + 1) i) (ℕ_discrete j i)
    where
      pick : ((j + 1 + n) * node_size ≤ length (put_node l j (f j)) → j + 1 ≤ i → i < j + 1 + n → node_in (put_nodes f (put_node l j (f j)) (j + 1) n) i ≡ f i)
          → Dec (j ≡ i) → node_in (put_nodes f (put_node l j (f j)) (j + 1) n) i ≡ f i
      pick ih (yes e) = puts_other n (put_node l j (f j)) (j + 1) i (inl (omega arith)) ∙ ap (node_in (put_node l j (f j))) (sym e) ∙ put_same l j (f j) (omega arith) ∙ ap f e
      pick ih (no e) = ih (omega (arith, length_put l j (f j))) (omega arith) (omega arith)

  -- two runs in a row are one
  pub puts_add : (m n : ℕ) (l : List ℕ) (j : ℕ) → put_nodes f (put_nodes f l j m) (j + m) n ≡ put_nodes f l j (m + n)
  unfolding put_nodes
  puts_add zero n l j = ap₂ (put_nodes f l) at none
    where
      at : j + 0 ≡ j
      at = omega arith

      none : n ≡ 0 + n
      none = omega arith
  puts_add (suc m) n l j =
      ap (λ (i : ℕ). put_nodes f (put_nodes f (put_node l j (f j)) (j + 1) m) i n) at
      ∙ puts_add m n (put_node l j (f j)) (j + 1)
      ∙ ap (put_nodes f l j) (sym (suc-add m n))
    where
      at : j + suc m ≡ j + 1 + m
      at = omega arith

-- two functions that agree on the run put the same
pub puts_same : (f g : ℕ → Node) (n : ℕ) (l : List ℕ) (j : ℕ) → ((i : ℕ) → j ≤ i → i < j + n → f i ≡ g i) → put_nodes f l j n ≡ put_nodes g l j n
unfolding put_nodes
puts_same f g zero l j h = refl
puts_same f g (suc n) l j h =
    ap (λ (x : Node). put_nodes f (put_node l j x) (j + 1) n) (h j (omega arith) (omega arith))
    ∙ puts_same f g n (put_node l j (g j)) (j + 1) (λ i a b. h i (omega arith) (omega arith))

-- ---- a loop that puts a node a turn: of the nodes first to last of l₀ those before j are put, and l is the list then
pub record Putting (f : ℕ → Node) (l₀ : List ℕ) (first last : ℕ) (l : List ℕ) (j : ℕ) : Type 0 where
  pub from : first ≤ j
  pub kept : length l ≡ length l₀
  pub same : put_nodes f l j (last + 1 - j) ≡ put_nodes f l₀ first (last + 1 - first)

module _ (f : ℕ → Node) (l₀ : List ℕ) (first last : ℕ) where
  pub putting_starts : Putting f l₀ first last l₀ first
  putting_starts = record { from = le_refl first; kept = refl; same = refl }

  module _ (l : List ℕ) (j : ℕ) (p : Putting f l₀ first last l j) where
    -- a run of turns
    pub putting_run : (l' : List ℕ) (n : ℕ) → j + n ≤ last + 1 → l' ≡ put_nodes f l j n → Putting f l₀ first last l' (j + n)
    putting_run l' n h e = record {
      from = omega (arith, p.from);
      kept = ap length e ∙ length_puts f n l j ∙ p.kept;
      same = ap (λ (x : List ℕ). put_nodes f x (j + n) (last + 1 - (j + n))) e ∙ puts_add f n (last + 1 - (j + n)) l j ∙ ap (put_nodes f l j) all ∙ p.same;
    }
      where
        all : n + (last + 1 - (j + n)) ≡ last + 1 - j
        all = omega arith

    -- one turn
    pub putting_on : (l' : List ℕ) (n : Node) → j ≤ last → n ≡ f j → l' ≡ put_node l j n → Putting f l₀ first last l' (j + 1)
    unfolding put_nodes
    putting_on l' n h en el = putting_run l' 1 (omega arith) (el ∙ ap (put_node l j) en)

    pub putting_end : last < j → l ≡ put_nodes f l₀ first (last + 1 - first)
    unfolding put_nodes
    putting_end h = sym (ap (put_nodes f l j) none) ∙ p.same
      where
        none : last + 1 - j ≡ 0
        none = omega arith

-- ---- one node, and a run behind it
pub put_then : (f g : ℕ → Node) (l l₁ l' : List ℕ) (j last : ℕ) → j ≤ last → l₁ ≡ put_node l j (f j) → l' ≡ put_nodes g l₁ (j + 1) (last + 1 - (j + 1))
    → ((i : ℕ) → j < i → i ≤ last → g i ≡ f i) → l' ≡ put_nodes f l j (last + 1 - j)
unfolding put_nodes
put_then f g l l₁ l' j last h e e' same =
    e'
    ∙ puts_same g f (last + 1 - (j + 1)) l₁ (j + 1) (λ i a b. same i (omega arith) (omega arith))
    ∙ ap (λ (x : List ℕ). put_nodes f x (j + 1) (last + 1 - (j + 1))) e
    ∙ puts_add f 1 (last + 1 - (j + 1)) l j
    ∙ ap (put_nodes f l j) all
  where
    all : 1 + (last + 1 - (j + 1)) ≡ last + 1 - j
    all = omega arith
