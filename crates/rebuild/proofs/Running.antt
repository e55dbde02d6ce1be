-- Laws of the node that runs on and of the nodes behind it: at level 1, by samples, and one level up, by the level below.
use Prim.Native.Nat.{ℕ, suc, ◌+◌, ◌-◌, ◌*◌, ◌/◌, ◌≤◌, ◌<◌, min}
use mathlib.Core.Path.{◌≡◌, sym, ap, ap₂, ◌∙◌, subst, subst⁻¹}
use mathlib.Core.Bool.{Bool, cond}
use mathlib.Core.List.{List}
use native.Mathlib.Nat.{le_refl, pow-suc, div-div-eq-div-mul, mul-le-mul_right, mul_comm}
use native.Mathlib.Numerals.{add-one}
use native.Mathlib.Decide.{dec_le}
use native.Mathlib.Omega.{arith}
use borrow.Author.Tests.{le-ltb, lt-ltb}
use lib.Dec.{ltb}
use lib.ListN.{length}
use Rattle.rules.specs.Node.{Node, join, node_of, span, node_start, node_end, level_node}
use Rattle.rules.specs.Sample.{sample_of}
use Rattle.rules.specs.Refusal.{node_size}
use Rattle.rules.specs.Touched.{touched, running_node}
use Rattle.rules.proofs.Walk.{span_pos}
use Rattle.rules.proofs.Touched.{node_low, node_high, node_last, node_behind, running_new, running_joins}
use Rattle.node.specs.Memory.{node_in, put_node}
use Rattle.range.specs.Part.{RangeIn, part_sample}
use Rattle.range.specs.Join.{join_on, made_over}
use Rattle.range.proofs.Part.{shift_node, range_in_lem}
use Rattle.range.proofs.Right.{TrueFrom, on_true, made_from}
use Rattle.rebuild.specs.Rebuild.{put_nodes, put_running, new_nodes, NodeJoined, Joined, JoinedAbove}
use Rattle.rebuild.specs.Room.{NodeRoom, FirstRoom, JoinRoom, LevelRoom, RaiseRoom}
use Rattle.rebuild.proofs.Nodes.{length_puts, puts_at, puts_same, put_then}

-- ---- the node of place len, of any level
-- it is put: kept and joined, or new
module _ (level level' : List ℕ) (l len w : ℕ) (n : Node) where
  abbrev either : Bool → Node
  either t = cond t (join (node_in level (len / span l)) n) n

  pub put_kept : (kept m : Node) → w ≡ span l → len / w * w < len → kept ≡ node_in level (len / w) → m ≡ join kept n → level' ≡ put_node level (len / w) m → level' ≡ put_running level l len n
  put_kept kept m ew h ek em e =
      e
      ∙ ap₂ (put_node level) at (em ∙ ap (λ (x : Node). join x n) (ek ∙ ap (node_in level) at))
      ∙ ap (put_node level (len / span l)) (sym (ap either (lt-ltb (node_start l (len / span l)) len (subst (λ (x : ℕ). len / x * x < len) ew h))))
    where
      at : len / w ≡ len / span l
      at = ap (λ (x : ℕ). len / x) ew

  pub put_new : w ≡ span l → len ≤ len / w * w → level' ≡ put_node level (len / w) n → level' ≡ put_running level l len n
  put_new ew h e =
      e
      ∙ ap (λ (x : ℕ). put_node level (len / x) n) ew
      ∙ ap (put_node level (len / span l)) (sym (ap either (le-ltb (node_start l (len / span l)) len (subst (λ (x : ℕ). len ≤ len / x * x) ew h))))

-- and is what the samples make of it
module _ (s : ℕ → ℕ) (len top l : ℕ) (level level' : List ℕ) (n : Node) (d : NodeJoined s len top l level level' n) where
  abbrev of_len : ℕ
  of_len = len / span l

  abbrev joined_or : Bool → Node
  joined_or t = cond t (join (node_in level of_len) n) n

  pub put_running_lem : level' ≡ put_node level of_len (running_node s (node_in level) len (top + 1) l of_len)
  put_running_lem = d.level_is ∙ ap (put_node level of_len) (pick (dec_le len (node_start l of_len)))
    where
      pick : Dec (len ≤ node_start l of_len) → joined_or (ltb (node_start l of_len) len) ≡ running_node s (node_in level) len (top + 1) l of_len
      pick (yes h) =
          ap joined_or (le-ltb (node_start l of_len) len h)
          ∙ d.node_is
          ∙ ap (λ (x : ℕ). node_of s x (node_end (top + 1) l of_len)) begins
          ∙ sym (running_new s (node_in level) len (top + 1) l of_len h)
        where
          begins : len ≡ node_start l of_len
          begins = omega (arith, node_low len l)
      pick (no h) =
          ap joined_or (lt-ltb (node_start l of_len) len (omega arith))
          ∙ ap (join (node_in level of_len)) d.node_is
          ∙ sym (running_joins s (node_in level) len (top + 1) l of_len (omega arith))

-- behind it the nodes are made of new samples alone
pub node_then : (s : ℕ → ℕ) (len top l : ℕ) (level level₁ level' : List ℕ) (n : Node) → len / span l ≤ top / span l → NodeJoined s len top l level level₁ n
    → level' ≡ new_nodes s level₁ (len / span l + 1) top l → Joined s len top l level level' n
node_then s len top l level level₁ level' n ordered d e = record {
  node_is = d.node_is;
  level_is =
      put_then (running_node s (node_in level) len (top + 1) l) (level_node s (top + 1) l) level level₁ level' (len / span l) (top / span l) ordered
      (put_running_lem s len top l level level₁ n d) e (λ i a _. sym (running_new s (node_in level) len (top + 1) l i (omega (arith, node_behind len l i a))));
}

-- ---- level 1
-- the new samples in its range lie in the part
pub join_room : (unit base len top part level b : ℕ) → JoinRoom unit base len top part level → b ≡ min (len / 32 * 32 + 32) (top + 1) → RangeIn unit (len - base) (b - base) part
join_room unit base len top part level b r eb = range_in_lem unit base (top + 1) part len b r.unit_size (omega (arith, r.samples)) r.from (omega (arith, r.some)) (omega arith)

-- they are what joins it
pub first_joins : (unit : ℕ) (part level level' : List ℕ) (base len top b : ℕ) (n : Node) → base ≤ len → len ≤ top → b ≡ min (len / 32 * 32 + 32) (top + 1)
    → n ≡ node_of (sample_of unit part) (len - base) (b - base) → level' ≡ put_running level 1 len n → NodeJoined (part_sample unit part base) len top 1 level level' n
first_joins unit part level level' base len top b n from some eb en e = record {
  node_is = en ∙ shift_node (sample_of unit part) base len b from (omega arith) ∙ ap (node_of (part_sample unit part base) len) ends;
  level_is = e;
}
  where
    ends : b ≡ min (suc (len / 32) * 32) (top + 1)
    ends = omega arith

-- what a turn puts is the node of level 1
pub part_node_lem : (unit : ℕ) (part : List ℕ) (base top j a b : ℕ) (n : Node) → base ≤ a → a ≤ top → a ≡ j * 32 → b ≡ min (a + 32) (top + 1)
    → n ≡ node_of (sample_of unit part) (a - base) (b - base) → n ≡ level_node (part_sample unit part base) (top + 1) 1 j
part_node_lem unit part base top j a b n h k ea eb en = en ∙ shift_node (sample_of unit part) base a b h (omega arith) ∙ ap₂ (node_of (part_sample unit part base)) ea ends
  where
    ends : b ≡ min (suc j * 32) (top + 1)
    ends = omega arith

-- its samples lie in the part
pub part_room : (unit base first top part level j a b : ℕ) → FirstRoom unit base first top part level → first ≤ j → j ≤ top / 32 → a ≡ j * 32 → b ≡ min (a + 32) (top + 1)
    → RangeIn unit (a - base) (b - base) part
part_room unit base first top part level j a b r h k ea eb = range_in_lem unit base (top + 1) part a b r.unit_size (omega (arith, r.samples)) (omega (arith, r.from)) (omega arith) (omega arith)

-- ---- one level up
pub span_next : (place l : ℕ) → place / span l / 32 ≡ place / span (suc l)
span_next place l = div-div-eq-div-mul place (span l) 32 ∙ ap (λ (w : ℕ). place / w) (sym (pow-suc 32 l))

-- node j of the level above begins and ends with its nodes of level l
start_next : (l j : ℕ) → j * 32 * span l ≡ node_start (suc l) j
start_next l j = regroup (span l) ∙ ap (λ (w : ℕ). j * w) (sym (pow-suc 32 l))
  where
    regroup : (w : ℕ) → j * 32 * w ≡ j * (w * 32)
    regroup w = omega arith

-- the room of each step, where w is the span of level l
pub record Steps (l len top w below level : ℕ) : Type 0 where
  pub ordered : len / w ≤ top / w
  pub room : LevelRoom (top / w) below level
  pub node : NodeRoom (l + 1) len level

pub steps : (l len top w below level : ℕ) → RaiseRoom l len top below level → w ≡ span l → Steps l len top w below level
steps l len top w below level r e = subst⁻¹ (λ (x : ℕ). Steps l len top x below level) e (record {
  ordered = node_last top l (len / span l) (omega (arith, node_low len l, r.some));
  room = record { nodes_below = r.nodes_below; nodes = omega (arith, r.nodes, span_next top l) };
  node = record { high = omega (arith, r.high); node = rw (add-one l) (omega (arith, r.nodes, node_last top (suc l) (len / span (suc l)) (omega (arith, node_low len (suc l), r.some)))) };
})

-- what is carried on, what is put, and what is made behind it are what the samples leave
module _ (l len top : ℕ) (below level level₁ level' : List ℕ) (n all : Node) (some : len ≤ top) (fits : top / span l * node_size + node_size ≤ length below) where
  abbrev first : ℕ
  first = len / span l

  abbrev last : ℕ
  last = top / span l

  abbrev j : ℕ
  j = first / 32

  ordered : first ≤ last
  ordered = node_last top l first (omega (arith, node_low len l))

  module _ (b : ℕ) (eb : b ≡ min (j * 32 + 32) (last + 1)) (ea : all ≡ join_on n (node_in below) (first + 1) (b - (first + 1)))
      (e₁ : level₁ ≡ put_running level (suc l) len all) (e' : level' ≡ put_nodes (made_over (node_in below) last) level₁ (j + 1) (last / 32 + 1 - (j + 1))) (s : ℕ → ℕ) (was : List ℕ) (below-joined : Joined s len top l was below n) where
    length_was : length below ≡ length was
    length_was = ap length below-joined.level_is ∙ length_puts (running_node s (node_in was) len (top + 1) l) (touched len top l) was first

    -- the nodes of level l behind that of place len
    new_true : TrueFrom (first + 1) s (top + 1) (span l) (node_in below)
    new_true i x y =
        ap (λ (z : List ℕ). node_in z i) below-joined.level_is
        ∙ puts_at (running_node s (node_in was) len (top + 1) l) (touched len top l) was first i (omega (arith, length_was, fits, ordered)) (omega arith) (omega (arith, node_last top l i (omega arith)))
        ∙ running_new s (node_in was) len (top + 1) l i (omega (arith, node_behind len l i (omega arith)))

    ends : min ((first + 1 + (b - (first + 1))) * span l) (top + 1) ≡ node_end (top + 1) (suc l) j
    ends = ap (λ (x : ℕ). min (x * span l) (top + 1)) all_of ∙ upto (dec_le (j * 32 + 32) (last + 1))
      where
        all_of : first + 1 + (b - (first + 1)) ≡ b
        all_of = omega (arith, ordered)

        whole : (j * 32 + 32) * span l ≡ suc j * span (suc l)
        whole = ap (λ (x : ℕ). x * span l) next ∙ start_next l (suc j)
          where
            next : j * 32 + 32 ≡ suc j * 32
            next = omega arith

        upto : Dec (j * 32 + 32 ≤ last + 1) → min (b * span l) (top + 1) ≡ node_end (top + 1) (suc l) j
        upto (yes d) = ap (λ (x : ℕ). min (x * span l) (top + 1)) here ∙ ap (λ (x : ℕ). min x (top + 1)) whole
          where
            here : b ≡ j * 32 + 32
            here = omega arith
        upto (no d) = ap (λ (x : ℕ). min (x * span l) (top + 1)) here ∙ cut
          where
            here : b ≡ suc last
            here = omega arith

            beyond : suc last * span l ≤ (j * 32 + 32) * span l
            beyond = mul-le-mul_right (span l) (omega arith)

            cut : min (suc last * span l) (top + 1) ≡ node_end (top + 1) (suc l) j
            cut = omega (arith, node_high top l, beyond, whole)

    carried : all ≡ node_of s len (node_end (top + 1) (suc l) j)
    carried =
        ea
        ∙ on_true (first + 1) s (top + 1) (span l) (node_in below) (span_pos l) new_true len (b - (first + 1)) (first + 1) n (le_refl (first + 1)) (omega (arith, node_high len l))
        (λ i _ y. omega (arith, node_low top l, mul-le-mul_right {m = i} {n = last} (span l) (omega (arith, ordered))))
        (below-joined.node_is ∙ ap (λ (x : ℕ). node_of s len (min (x * span l) (top + 1))) (sym (add-one first)))
        ∙ ap (node_of s len) ends

    behind : level' ≡ new_nodes s level₁ (len / span (suc l) + 1) top (suc l)
    behind =
        e'
        ∙ puts_same (made_over (node_in below) last) (level_node s (top + 1) (suc l)) (last / 32 + 1 - (j + 1)) level₁ (j + 1) (λ i x y. made i (omega arith) (omega arith))
        ∙ ap₂ (λ (x y : ℕ). put_nodes (level_node s (top + 1) (suc l)) level₁ (x + 1) (y + 1 - (x + 1))) (span_next len l) (span_next top l)
      where
        made : (i : ℕ) → j < i → i ≤ last / 32 → made_over (node_in below) last i ≡ level_node s (top + 1) (suc l) i
        made i x y =
            made_from s (top + 1) l last (node_in below) (first + 1) new_true (omega (arith, node_low top l)) (omega (arith, node_high top l)) i (omega arith)
            (omega (arith, sym (start_next l i), node_low top l, mul-le-mul_right {m = i * 32} {n = last} (span l) (omega arith)))

    up : Joined s len top (suc l) level level' all
    up = node_then s len top (suc l) level level₁ level' all (node_last top (suc l) (len / span (suc l)) (omega (arith, node_low len (suc l))))
        (record { node_is = carried ∙ ap (λ (x : ℕ). node_of s len (node_end (top + 1) (suc l) x)) (span_next len l); level_is = e₁ }) behind

-- the same, where w is the span
pub above_joins : (l len top w : ℕ) (below level level₁ level' : List ℕ) (n all : Node) (b : ℕ) → w ≡ span l → RaiseRoom l len top (length below) (length level)
    → b ≡ min (len / w / 32 * 32 + 32) (top / w + 1) → all ≡ join_on n (node_in below) (len / w + 1) (b - (len / w + 1)) → level₁ ≡ put_running level (l + 1) len all
    → level' ≡ put_nodes (made_over (node_in below) (top / w)) level₁ (len / w / 32 + 1) (top / w / 32 + 1 - (len / w / 32 + 1)) → JoinedAbove len top l below n level level' all
above_joins l len top w below level level₁ level' n all b e room eb ea e₁ e' =
    subst (λ (x : ℕ). b ≡ min (len / x / 32 * 32 + 32) (top / x + 1) → all ≡ join_on n (node_in below) (len / x + 1) (b - (len / x + 1)) → level₁ ≡ put_running level (suc l) len all
    → level' ≡ put_nodes (made_over (node_in below) (top / x)) level₁ (len / x / 32 + 1) (top / x / 32 + 1 - (len / x / 32 + 1)) → JoinedAbove len top l below n level level' all) (sym e)
    (up l len top below level level₁ level' n all room.some room.nodes_below b) eb ea (e₁ ∙ ap (λ (x : ℕ). put_running level x len all) (add-one l)) e'

-- ---- all new samples in one node of level 1
-- then they lie in one node of each level, and their node joins it
pub one_joins : (s : ℕ → ℕ) (len top l : ℕ) (level level' : List ℕ) (n : Node) → len ≤ top → len / 32 ≡ top / 32 → n ≡ node_of s len (top + 1) → level' ≡ put_running level (suc l) len n → Joined s len top (suc l) level level' n
unfolding put_nodes
one_joins s len top l level level' n some e en el = node_then s len top (suc l) level level' level' n (omega (arith, one)) (record { node_is = en ∙ ap (node_of s len) ends; level_is = el }) none_behind
  where
    one : len / span (suc l) ≡ top / span (suc l)
    one = sym (first_then len) ∙ ap (λ (x : ℕ). x / span l) e ∙ first_then top
      where
        first_then : (place : ℕ) → place / 32 / span l ≡ place / span (suc l)
        first_then place = div-div-eq-div-mul place 32 (span l) ∙ ap (λ (w : ℕ). place / w) (mul_comm 32 (span l) ∙ sym (pow-suc 32 l))

    ends : top + 1 ≡ node_end (top + 1) (suc l) (len / span (suc l))
    ends = omega (arith, node_high top (suc l), ap (λ (x : ℕ). suc x * span (suc l)) one)

    none_behind : level' ≡ new_nodes s level' (len / span (suc l) + 1) top (suc l)
    none_behind = sym (ap (put_nodes (level_node s (top + 1) (suc l)) level' (len / span (suc l) + 1)) none)
      where
        none : top / span (suc l) + 1 - (len / span (suc l) + 1) ≡ 0
        none = omega (arith, one)
