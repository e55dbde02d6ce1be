-- Walks that see the same take the same steps: over two readers whose nodes agree under the mask a walk is one and the same, and so a search over true
-- nodes has the count of the run's own walk. And a first bound on the steps of any walk, over any reader.
use Prim.Native.Nat.{ℕ, zero, suc, ◌+◌, ◌-◌, ◌*◌, ◌/◌, ◌%◌, ◌≤◌, ◌<◌, min, zero-le}
use mathlib.Core.Path.{◌≡◌, refl, sym, ap, ap₂, ◌∙◌}
use mathlib.Core.Bool.{Bool, true, false}
use mathlib.Core.Logic.{◌⊎◌, inl}
use Rattle.std.specs.Prelude.{Option, None, Some}
use native.Mathlib.Nat.{le_refl, le_trans, zero-lt-suc, mod-one, mul-add, mul-one}
use native.Mathlib.Decide.{dec_lt, ℕ_discrete}
use native.Mathlib.Omega.{arith}
use lib.Bits.{bit_and, bit_or, bit_xor}
use lib.Dec.{eqb}
use borrow.Author.Tests.{lt-ltb, le-ltb, eq-eqb, ne_eqb}
use Rattle.rules.specs.Node.{Node, Lines, mirror, cut, quiet, span, chunk, top_level}
use Rattle.rules.specs.Walk.{Walked, Way, forward, backward, best, Step, ended, found_at, on, step, after, walk, walk_from, Course, ahead, behind, or_else, or_steps, enters, or_entered, chunks, entered, chunks_for, next_walk, previous_walk, all_levels, run_reader, next_search, previous_search}
use Rattle.rules.proofs.Bits.{and_or, and_xor}
use Rattle.rules.proofs.Walk.{Taken, taken_best, counted, walk_ended, walk_past, walk_found, walk_lower}
use Rattle.rules.proofs.Found.{TrueNodes, ahead_fits, behind_fits, aligned_before, next_found, previous_found}

-- ---- within a chunk
-- the test of a node asks of its masked lines alone
quiet_cut : (n k : Node) (v x m : ℕ) → cut m n ≡ cut m k → bit_and v m ≡ bit_and x m → quiet n v m ≡ quiet k x m
quiet_cut n k v x m e h = masked n v ∙ ap₂ (λ (c : Lines) (y : ℕ). eqb (bit_or (bit_xor c.first y) c.toggles) 0) e h ∙ sym (masked k x)
  where
    masked : (n : Node) (v : ℕ) → quiet n v m ≡ eqb (bit_or (bit_xor (cut m n).first (bit_and v m)) (cut m n).toggles) 0
    masked n v = ap (λ (y : ℕ). eqb y 0) (and_or (bit_xor n.first v) n.toggles m ∙ ap (λ (y : ℕ). bit_or y (bit_and n.toggles m)) (and_xor n.first v m))

-- a way over other nodes
abbrev pub over : Way → (ℕ → ℕ → Node) → Way
over w node = record { left = w.left; takes = w.takes; node = node; past = w.past }

-- at the places that are `in` they agree with the way's own, as far as the mask goes
pub record Agrees (w : Way) (node : ℕ → ℕ → Node) (In : ℕ → Type 0) (m : ℕ) : Type 0 where
  pub stays : (l p : ℕ) → Taken w l p → In p → In (w.past l p)
  pub nodes : (l p : ℕ) → Taken w l p → In p → cut m (w.node l p) ≡ cut m (node l p)

module _ (w : Way) (node : ℕ → ℕ → Node) (In : ℕ → Type 0) (m : ℕ) (g : Agrees w node In m) where
  abbrev Goal : ℕ → Type 0
  Goal f = (p cap v x : ℕ) → In p → cap ≤ top_level → bit_and v m ≡ bit_and x m → walk w m f p cap v ≡ walk (over w node) m f p cap x

  case_any : (f p cap v x : ℕ) → Goal f → In p → cap ≤ top_level → bit_and v m ≡ bit_and x m → 0 < w.left p
      → (l : ℕ) → l ≡ best (λ (l : ℕ). w.takes l p) cap → Taken w l p → (b : Bool) → quiet (w.node l p) v m ≡ b → quiet (node l p) x m ≡ b → Dec (l ≡ 0)
      → walk w m (suc f) p cap v ≡ walk (over w node) m (suc f) p cap x
  case_any f p cap v x ih i hc e h l el t true q r d =
      walk_past w m f p cap v l (w.node l p) h el refl q
      ∙ ap counted (ih (w.past l p) cap (w.node l p).last (node l p).last (g.stays l p t i) hc (ap (λ (n : Lines). n.last) (g.nodes l p t i)))
      ∙ sym (walk_past (over w node) m f p cap x l (node l p) h el refl r)
  case_any f p cap v x ih i hc e h l el t false q r (yes z) =
      walk_found w m f p cap v l (w.node l p) h el refl q z ∙ sym (walk_found (over w node) m f p cap x l (node l p) h el refl r z)
  case_any f p cap v x ih i hc e h l el t false q r (no z) =
      walk_lower w m f p cap v l (w.node l p) h el refl q z
      ∙ ap counted (ih p (l - 1) v x i (omega (arith, t.level)) e)
      ∙ sym (walk_lower (over w node) m f p cap x l (node l p) h el refl r z)

  pub walk_alike : (f : ℕ) → Goal f
  unfolding walk
  walk_alike zero p cap v x i hc e = refl
  walk_alike (suc f) p cap v x i hc e = pick (walk_alike f) (dec_lt 0 (w.left p))
    where
      pick : Goal f → Dec (0 < w.left p) → walk w m (suc f) p cap v ≡ walk (over w node) m (suc f) p cap x
      pick ih (yes h) =
          let l = best (λ (l : ℕ). w.takes l p) cap in
          let t = taken_best w p cap hc h in
          case_any f p cap v x ih i hc e h l refl t (quiet (w.node l p) v m) refl (sym (quiet_cut (w.node l p) (node l p) v x m (g.nodes l p t i) e)) (ℕ_discrete l 0)
      pick ih (no h) = walk_ended w m (suc f) p cap v none_left ∙ sym (walk_ended (over w node) m (suc f) p cap x none_left)
        where
          none_left : w.left p ≡ 0
          none_left = omega arith

-- ---- over chunks
-- a course over other nodes, with other values before its chunks
abbrev pub course_over : Course → (ℕ → ℕ → Node) → (ℕ → ℕ) → Course
course_over k node value = record { way = λ c. over (k.way c) node; next_chunk = k.next_chunk; entry = k.entry; value = value }

-- `Kept` is what is kept from chunk to chunk: of the chunks left, the chunk, the place, and both values before it
module _ (k : Course) (node : ℕ → ℕ → Node) (value : ℕ → ℕ) (m : ℕ) (Kept : ℕ → ℕ → ℕ → ℕ → ℕ → Type 0)
    (walks : (n c p v x : ℕ) → Kept (suc n) c p v x → walk_from (k.way c) m p v ≡ walk_from (over (k.way c) node) m p x)
    (goes : (n c p v x : ℕ) → Kept (suc n) c p v x → Kept n (k.next_chunk c) (k.entry c) (k.value c) (value c)) where
  chunks_alike : (n c p v x : ℕ) → Kept n c p v x → chunks k m n c p v ≡ chunks (course_over k node value) m n c p x
  unfolding chunks
  chunks_alike zero c p v x o = refl
  chunks_alike (suc n) c p v x o = ap₂ or_else (walks n c p v x o) (chunks_alike n (k.next_chunk c) (k.entry c) (k.value c) (value c) (goes n c p v x o))

-- lines of a node read from its other end
turned : Lines → Lines
turned n = record { first = n.last; last = n.first; toggles = n.toggles }

-- two readers agree under the mask on every node of a store that lies below len
pub record AlikeNodes (has : ℕ → Bool) (r₁ r₂ : ℕ → ℕ → Node) (len m : ℕ) : Type 0 where
  pub is : (l p : ℕ) → l ≤ top_level → (l ≡ 0) ⊎ (has l ≡ true) → p % span l ≡ 0 → p + span l ≤ len → cut m (r₁ l p) ≡ cut m (r₂ l p)

module _ (has : ℕ → Bool) (r₁ r₂ : ℕ → ℕ → Node) (len m : ℕ) (g : AlikeNodes has r₁ r₂ len m) where
  sample_alike : (p : ℕ) → p < len → bit_and (r₁ 0 p).first m ≡ bit_and (r₂ 0 p).first m
  sample_alike p h = ap (λ (n : Lines). n.first) (g.is 0 p zero-le (inl refl) (mod-one p) (omega arith))

  forward_agrees : (hi : ℕ) → hi ≤ len → Agrees (forward has r₁ hi) r₂ (λ (p : ℕ). Unit {0}) m
  forward_agrees hi inside = record {
    stays = λ l p t i. tt;
    nodes = λ l p t i. let f = ahead_fits has r₁ hi l p t in g.is l p t.level f.in_set f.aligned (omega (arith, f.room));
  }

  backward_agrees : (lo : ℕ) → Agrees (backward has r₁ lo) (λ l p. mirror (r₂ l (p - span l))) (λ (p : ℕ). p ≤ len) m
  unfolding turned
  backward_agrees lo = record {
    stays = λ l p t i. omega arith;
    nodes = λ l p t i. let f = behind_fits has r₁ lo l p t in ap turned (g.is l (p - span l) t.level f.in_set (aligned_before l p f.aligned) (omega (arith, f.room)));
  }

  pub next_alike : (from : ℕ) → next_walk has r₁ len m from ≡ next_walk has r₂ len m from
  next_alike from = go (dec_lt (from + 1) len)
    where
      Kept : ℕ → ℕ → ℕ → ℕ → ℕ → Type 0
      Kept n c p v x = 0 < n → ((c + n) * chunk < len + chunk) × (bit_and v m ≡ bit_and x m)

      walks : (n c p v x : ℕ) → Kept (suc n) c p v x → walk_from ((ahead has r₁ len).way c) m p v ≡ walk_from ((ahead has r₂ len).way c) m p x
      walks n c p v x o =
          let hi = min ((c + 1) * chunk) len in
          walk_alike (forward has r₁ hi) r₂ (λ (p : ℕ). Unit {0}) m (forward_agrees hi (omega arith)) (suc (hi - p + top_level)) p top_level v x tt (le_refl top_level) (o (zero-lt-suc n)).1

      go : Dec (from + 1 < len) → next_walk has r₁ len m from ≡ next_walk has r₂ len m from
      go (yes h) =
          rw (lt-ltb (from + 1) len h)
          (chunks_alike (ahead has r₁ len) r₂ (ahead has r₂ len).value m Kept walks
          (λ n c p v x o l. (omega (arith, (o (zero-lt-suc n)).0), sample_alike ((c + 1) * chunk - 1) (omega (arith, (o (zero-lt-suc n)).0))))
          (chunks_for len - (from + 1) / chunk) ((from + 1) / chunk) (from + 1) (r₁ 0 from).first (r₂ 0 from).first (λ l. (omega arith, sample_alike from (omega arith))))
      go (no h) = rw (le-ltb (from + 1) len (omega arith))

  pub previous_alike : (from : ℕ) → previous_walk has r₁ len m from ≡ previous_walk has r₂ len m from
  previous_alike from = go (ℕ_discrete len 0)
    where
      p₀ : ℕ
      p₀ = min from (len - 1)

      Kept : ℕ → ℕ → ℕ → ℕ → ℕ → Type 0
      Kept n c p v x = (p ≤ len) × (c * chunk < len) × (bit_and v m ≡ bit_and x m)

      node : ℕ → ℕ → Node
      node l p = mirror (r₂ l (p - span l))

      walks : (n c p v x : ℕ) → Kept (suc n) c p v x → walk_from ((behind has r₁).way c) m p v ≡ walk_from ((behind has r₂).way c) m p x
      walks n c p v x o = walk_alike (backward has r₁ (c * chunk)) node (λ (p : ℕ). p ≤ len) m (backward_agrees (c * chunk)) (suc (p - c * chunk + top_level)) p top_level v x o.0 (le_refl top_level) o.2

      go : Dec (len ≡ 0) → previous_walk has r₁ len m from ≡ previous_walk has r₂ len m from
      go (yes z) = rw (eq-eqb len 0 z)
      go (no z) =
          rw (ne_eqb len 0 z)
          (chunks_alike (behind has r₁) node (behind has r₂).value m Kept walks
          (λ n c p v x o. (omega (arith, o.1), omega (arith, o.1), sample_alike (c * chunk) o.1))
          (p₀ / chunk + 1) (p₀ / chunk) p₀ (r₁ 0 p₀).first (r₂ 0 p₀).first (omega arith, omega arith, sample_alike p₀ (omega arith)))

-- ---- a run
-- over true nodes the count is that of the run's own walk
true_alike : (reader : ℕ → ℕ → Node) (s : ℕ → ℕ) (len m : ℕ) → TrueNodes all_levels reader s len → AlikeNodes all_levels reader (run_reader s) len m
true_alike reader s len m r = record { is = λ l p hl i a h. ap (cut m) (r.is l p hl i a h) }

pub next_searched : (reader : ℕ → ℕ → Node) (s : ℕ → ℕ) (len m : ℕ) → TrueNodes all_levels reader s len → (from : ℕ) → next_walk all_levels reader len m from ≡ next_search s len m from
next_searched reader s len m r from =
    ap₂ (λ (f : Option ℕ) (n : ℕ). record { found = f; steps = n }) (next_found all_levels reader s len m r from)
    (ap (λ (x : Walked). x.steps) (next_alike all_levels reader (run_reader s) len m (true_alike reader s len m r) from))

pub previous_searched : (reader : ℕ → ℕ → Node) (s : ℕ → ℕ) (len m : ℕ) → TrueNodes all_levels reader s len → (from : ℕ) → previous_walk all_levels reader len m from ≡ previous_search s len m from
previous_searched reader s len m r from =
    ap₂ (λ (f : Option ℕ) (n : ℕ). record { found = f; steps = n }) (previous_found all_levels reader s len m r from)
    (ap (λ (x : Walked). x.steps) (previous_alike all_levels reader (run_reader s) len m (true_alike reader s len m r) from))

-- ---- a first bound
-- each step but the end takes some fuel
pub walk_steps_le : (w : Way) (m f p cap v : ℕ) → (walk w m f p cap v).steps ≤ f
unfolding walk
walk_steps_le w m zero p cap v = zero-le
walk_steps_le w m (suc f) p cap v = go (step w m p cap v) (walk_steps_le w m f)
  where
    go : (s : Step) → ((p cap v : ℕ) → (walk w m f p cap v).steps ≤ f) → (after s (walk w m f)).steps ≤ suc f
    go ended ih = zero-le
    go (found_at p) ih = omega arith
    go (on p cap v) ih = omega (arith, ih p cap v)

-- where no chunk takes more than `most` steps, a search takes at most as many per chunk that it enters, and it enters n at most
module _ (k : Course) (m most : ℕ) (Kept : ℕ → ℕ → ℕ → ℕ → Type 0)
    (walks : (n c p v : ℕ) → Kept (suc n) c p v → (walk_from (k.way c) m p v).steps ≤ most)
    (goes : (n c p v : ℕ) → Kept (suc n) c p v → Kept n (k.next_chunk c) (k.entry c) (k.value c)) where
  pub chunks_steps : (n c p v : ℕ) → Kept n c p v → (chunks k m n c p v).steps ≤ most * entered k m n c p v
  unfolding chunks entered
  chunks_steps zero c p v o = zero-le
  chunks_steps (suc n) c p v o = go ((k.way c).left p) (walk_from (k.way c) m p v).found _ (here ((k.way c).left p) refl) (chunks_steps n (k.next_chunk c) (k.entry c) (k.value c) (goes n c p v o))
    where
      -- none where no place is left
      here : (x : ℕ) → (k.way c).left p ≡ x → (walk_from (k.way c) m p v).steps ≤ most * enters x
      here zero e = omega (arith, ap (λ (r : Walked). r.steps) (walk_ended (k.way c) m (suc ((k.way c).left p + top_level)) p top_level v e))
      here (suc x) e = omega (arith, walks n c p v o, mul-one most)

      go : (x : ℕ) (f : Option ℕ) (e : ℕ) {a b : ℕ} → a ≤ most * enters x → b ≤ most * e → or_steps f a b ≤ most * or_entered x f e
      go x (Some i) e h ih = h
      go x None e h ih = omega (arith, mul-add most (enters x) e)

pub entered_le : (k : Course) (m n c p v : ℕ) → entered k m n c p v ≤ n
unfolding entered
entered_le k m zero c p v = zero-le
entered_le k m (suc n) c p v = go ((k.way c).left p) (walk_from (k.way c) m p v).found (entered_le k m n (k.next_chunk c) (k.entry c) (k.value c))
  where
    go : (x : ℕ) (f : Option ℕ) {e : ℕ} → e ≤ n → or_entered x f e ≤ suc n
    go zero (Some i) h = zero-le
    go (suc x) (Some i) h = omega arith
    go zero None h = omega arith
    go (suc x) None h = omega arith

-- a chunk's walk has fuel for its places and five more steps
few_steps : (k : Course) (len m : ℕ) (Kept : ℕ → ℕ → ℕ → ℕ → Type 0) → ((n c p v : ℕ) → Kept (suc n) c p v → (k.way c).left p ≤ chunk)
    → ((n c p v : ℕ) → Kept (suc n) c p v → Kept n (k.next_chunk c) (k.entry c) (k.value c)) → (n c p v : ℕ) → Kept n c p v → n ≤ chunks_for len
    → (chunks k m n c p v).steps ≤ chunks_for len * (chunk + 5)
few_steps k len m Kept room goes n c p v o h = omega (arith, chunks_steps k m (chunk + 5) Kept walks goes n c p v o, entered_le k m n c p v)
  where
    walks : (n c p v : ℕ) → Kept (suc n) c p v → (walk_from (k.way c) m p v).steps ≤ chunk + 5
    walks n c p v o = le_trans (walk_steps_le (k.way c) m (suc ((k.way c).left p + top_level)) p top_level v) (omega (arith, room n c p v o))

module _ (has : ℕ → Bool) (reader : ℕ → ℕ → Node) (len m from : ℕ) where
  pub next_steps : (next_walk has reader len m from).steps ≤ chunks_for len * (chunk + 5)
  next_steps = go (dec_lt (from + 1) len)
    where
      go : Dec (from + 1 < len) → (next_walk has reader len m from).steps ≤ chunks_for len * (chunk + 5)
      go (yes h) =
          rw (lt-ltb (from + 1) len h)
          (few_steps (ahead has reader len) len m (λ n c p v. c * chunk ≤ p) (λ n c p v o. omega arith) (λ n c p v o. le_refl ((c + 1) * chunk))
          (chunks_for len - (from + 1) / chunk) ((from + 1) / chunk) (from + 1) (reader 0 from).first (omega arith) (omega arith))
      go (no h) = rw (le-ltb (from + 1) len (omega arith)) zero-le

  pub previous_steps : (previous_walk has reader len m from).steps ≤ chunks_for len * (chunk + 5)
  previous_steps = go (ℕ_discrete len 0)
    where
      go : Dec (len ≡ 0) → (previous_walk has reader len m from).steps ≤ chunks_for len * (chunk + 5)
      go (yes z) = rw (eq-eqb len 0 z) zero-le
      go (no z) =
          let p₀ = min from (len - 1) in
          rw (ne_eqb len 0 z)
          (few_steps (behind has reader) len m (λ n c p v. p ≤ (c + 1) * chunk) (λ n c p v o. omega arith) (λ n c p v o. omega arith)
          (p₀ / chunk + 1) (p₀ / chunk) p₀ (reader 0 p₀).first (omega arith) (omega arith))
