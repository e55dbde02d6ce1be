-- Laws of a range taken part by part: what a loop over the parts knows, and that true nodes give the range's node.
use Prim.Native.Nat.{ℕ, zero, suc, ◌-◌, ◌≤◌, ◌<◌}
use mathlib.Core.Path.{◌≡◌, refl, sym, ap, ap₂, ◌∙◌, subst}
use mathlib.Core.Bool.{Bool, cond}
use native.Mathlib.Decide.{dec_lt}
use native.Mathlib.Omega.{arith}
use borrow.Author.Tests.{lt-ltb, le-ltb}
use Rattle.std.specs.Prelude.{Option, None, Some}
use Rattle.std.specs.Option.{option_map}
use Rattle.rules.specs.Node.{Node, join, node_of}
use Rattle.rules.proofs.Node.{node_join}
use Rattle.node.specs.Memory.{as_node}
use Rattle.node.specs.Told.{Told}
use Rattle.node.specs.declared.Node as own
use Rattle.node.proofs.Told.{told_is, told_on, told_trans, told_join}
use Rattle.summary.specs.Gather.{gather, gathered, joined}

module _ (node : ℕ → ℕ → Node) (past : ℕ → ℕ → ℕ) where
  gather_more : (f : ℕ) (acc : Node) (p b : ℕ) → p < b → gather node past (suc f) acc p b ≡ gather node past f (join acc (node p b)) (past p b) b
  unfolding gather
  gather_more f acc p b h = ap (λ (t : Bool). cond t (gather node past f (join acc (node p b)) (past p b) b) acc) (lt-ltb p b h)

  gather_done : (f : ℕ) (acc : Node) (p b : ℕ) → b ≤ p → gather node past f acc p b ≡ acc
  unfolding gather
  gather_done zero acc p b h = refl
  gather_done (suc f) acc p b h = ap (λ (t : Bool). cond t (gather node past f (join acc (node p b)) (past p b) b) acc) (le-ltb p b h)

  -- ---- a loop over the parts of [_, b), whose answer is `whole`: it has gathered acc, which tells what the parts so far do, joined
  module _ (c : Bool) where
    pub record Gathering (b : ℕ) (whole acc : Node) (p : ℕ) : Type 0 where
      pub fuel : ℕ
      pub enough : b - p ≤ fuel
      pub upto : p ≤ b
      pub sum : Node
      pub told : Told c acc sum
      pub is : gather node past fuel sum p b ≡ whole

    gather_starts : (a b : ℕ) (n : Node) (e : ℕ) → Told c n (node a b) → e ≡ past a b → a < e → e ≤ b → Gathering b (joined node past a b) n e
    unfolding joined
    gather_starts a b n e en ee h k = record { fuel = b - a; enough = omega arith; upto = k; sum = node a b; told = en; is = ap (λ (x : ℕ). gather node past (b - a) (node a b) x b) ee }

    gather_turn : (b : ℕ) (whole acc : Node) (p : ℕ) (n acc' : Node) (e : ℕ) → Gathering b whole acc p → p < b → Told c n (node p b) → e ≡ past p b → p < e → e ≤ b → Told c acc' (join acc n) → Gathering b whole acc' e
    gather_turn b whole acc p n acc' e g h en ee l k ea = go g.fuel g.enough g.is
      where
        go : (f : ℕ) → b - p ≤ f → gather node past f g.sum p b ≡ whole → Gathering b whole acc' e
        go zero m i = absurd (omega arith)
        go (suc f) m i = record {
          fuel = f;
          enough = omega arith;
          upto = k;
          sum = join g.sum (node p b);
          told = told_trans c acc' (join acc n) (join g.sum (node p b)) ea (told_join c acc g.sum n (node p b) g.told en);
          is = ap (λ (y : ℕ). gather node past f (join g.sum (node p b)) y b) ee ∙ sym (gather_more f g.sum p b h) ∙ i;
        }

    gather_ends : (b : ℕ) (whole acc : Node) (p : ℕ) → Gathering b whole acc p → b ≤ p → Told c acc whole
    gather_ends b whole acc p g h = told_on c acc g.sum whole g.told (sym (gather_done g.fuel g.sum p b h) ∙ g.is)

    -- a loop that starts at a with nothing gathered
    abbrev pub Gathered : ℕ → ℕ → Option Node → ℕ → Type 0
    Gathered a b None p = p ≡ a
    Gathered a b (Some acc) p = Gathering b (joined node past a b) acc p

    -- the next part
    pub gathered_on : (a b : ℕ) (o : Option Node) (p : ℕ) (n acc' : Node) (e : ℕ) → Gathered a b o p → p < b → Told c n (node p b) → e ≡ past p b → p < e → e ≤ b → acc' ≡ gathered o n → Gathered a b (Some acc') e
    gathered_on a b None p n acc' e g h en ee l k ea =
        gather_starts a b acc' e
        (told_trans c acc' n (node a b) (told_is c _ _ ea) (told_on c n (node p b) (node a b) en (ap (λ (x : ℕ). node x b) g)))
        (ee ∙ ap (λ (x : ℕ). past x b) g) (omega arith) k
    gathered_on a b (Some acc) p n acc' e g h en ee l k ea = gather_turn b (joined node past a b) acc p n acc' e g h en ee l k (told_is c _ _ ea)

    pub gathered_ends : (a b : ℕ) (o : Option own.Node) (n : own.Node) (p : ℕ) → o ≡ Some n → Gathered a b (option_map as_node o) p → b ≤ p → Told c (as_node n) (joined node past a b)
    gathered_ends a b o n p e g k = gather_ends b (joined node past a b) (as_node n) p (subst (λ (x : Option own.Node). Gathered a b (option_map as_node x) p) e g) k

  -- ---- true parts
  pub record Step (s : ℕ → ℕ) (p b : ℕ) : Type 0 where
    pub more : p < past p b
    pub upto : past p b ≤ b
    pub is : node p b ≡ node_of s p (past p b)

  module _ (s : ℕ → ℕ) (hi : ℕ) (step : (p b : ℕ) → p < b → b ≤ hi → Step s p b) where
    gather_node : (f : ℕ) (acc : Node) (a p b : ℕ) → a < p → p ≤ b → b ≤ hi → b - p ≤ f → acc ≡ node_of s a p → gather node past f acc p b ≡ node_of s a b
    gather_node zero acc a p b h k l m e = gather_done 0 acc p b (omega arith) ∙ e ∙ ap (node_of s a) (omega arith)
    gather_node (suc f) acc a p b h k l m e = go (gather_node f) (dec_lt p b)
      where
        go : ((acc : Node) (a p b : ℕ) → a < p → p ≤ b → b ≤ hi → b - p ≤ f → acc ≡ node_of s a p → gather node past f acc p b ≡ node_of s a b) → Dec (p < b) → gather node past (suc f) acc p b ≡ node_of s a b
        go ih (yes d) =
            let t = step p b d l in
            gather_more f acc p b d
            ∙ ih (join acc (node p b)) a (past p b) b (omega (arith, t.more)) t.upto l (omega (arith, t.more))
            (ap₂ join e t.is ∙ node_join s a p (past p b) h t.more)
        go ih (no d) = gather_done (suc f) acc p b (omega arith) ∙ e ∙ ap (node_of s a) (omega arith)

    pub joined_node : (a b : ℕ) → a < b → b ≤ hi → joined node past a b ≡ node_of s a b
    unfolding joined
    joined_node a b h l = let t = step a b h l in gather_node (b - a) (node a b) a (past a b) b t.more t.upto l (omega (arith, t.more)) t.is
