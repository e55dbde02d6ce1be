-- Whatever memory holds, a walk finds a place of the range that it was asked, in either direction.
use Prim.Native.Nat.{ℕ, zero, suc, ◌+◌, ◌-◌, ◌*◌, ◌/◌, ◌≤◌, ◌<◌, min}
use mathlib.Core.Path.{◌≡◌, refl, sym, ap, ◌∙◌, subst}
use mathlib.Core.Bool.{Bool, true, false, cond}
use Rattle.std.specs.Prelude.{Option, None, Some}
use Rattle.rules.proofs.Options.{none-ne-some}
use native.Mathlib.Nat.{le_refl}
use native.Mathlib.Omega.{arith}
use borrow.Author.Tests.{eqb-false}
use lib.Dec.{ltb, eqb}
use Rattle.rules.specs.Node.{Node, chunk, top_level}
use Rattle.rules.specs.Walk.{Walked, nothing, Way, walk, walk_from, Course, ahead, behind, or_found, chunks, chunks_for, next_walk, previous_from, previous_walk}
use Rattle.rules.proofs.Walk.{walk_ended, walk_past, walk_found, walk_lower}
use Rattle.search.proofs.Step.{Stepped, stepped}
use Rattle.search.proofs.Step.Stepped.{ends, passes, finds, lowers}

-- ---- in a chunk
-- a walk that stays at places that are `in` finds one of them
module _ (w : Way) (m : ℕ) (In : ℕ → Type 0) (stays : (l p : ℕ) → In p → In (w.past l p)) where
  pub record Inside (i : ℕ) : Type 0 where
    pub in_range : In i
    pub some_left : 0 < w.left i

  abbrev Goal : ℕ → Type 0
  Goal f = (p cap v i : ℕ) → cap ≤ top_level → In p → (walk w m f p cap v).found ≡ Some i → Inside i

  walk_inside : (f : ℕ) → Goal f
  unfolding walk
  walk_inside zero p cap v i hc h e = absurd (none-ne-some i e)
  walk_inside (suc f) p cap v i hc h e = go (walk_inside f) (stepped w m p cap v hc)
    where
      -- what the walk is, it finds
      is : {r : Walked} → walk w m (suc f) p cap v ≡ r → r.found ≡ Some i
      is x = sym (ap (λ (r : Walked). r.found) x) ∙ e

      go : Goal f → Stepped w m p cap v → Inside i
      go ih (ends z) = absurd (none-ne-some i (is (walk_ended w m (suc f) p cap v z)))
      go ih (passes {l} t q) = ih (w.past l p) cap (w.node l p).last i hc (stays l p h) (is (walk_past w m f p cap v l (w.node l p) t.some_left t.is_best refl q))
      go ih (finds {l} t q z) = let y : p ≡ i = same (is (walk_found w m f p cap v l (w.node l p) t.some_left t.is_best refl q z)) in record { in_range = subst In y h; some_left = subst (λ (x : ℕ). 0 < w.left x) y t.some_left }
        where
          same : Some p ≡ Some i → p ≡ i
          same x = cc
      go ih (lowers {l} t q z) = ih p (l - 1) v i (omega (arith, t.taken.level)) h (is (walk_lower w m f p cap v l (w.node l p) t.some_left t.is_best refl q z))

-- ---- over chunks
-- the places of chunk c that are `in`, which the walk stays in and from which it enters the next chunk, are in range
pub record Ranges (k : Course) (In : ℕ → ℕ → Type 0) (Range : ℕ → Type 0) : Type 0 where
  pub stays : (c l p : ℕ) → In c p → In c ((k.way c).past l p)
  pub enters : (c p : ℕ) → In c p → In (k.next_chunk c) (k.entry c)
  pub holds : (c p : ℕ) → In c p → 0 < (k.way c).left p → Range p

pub chunks_inside : {k : Course} {In : ℕ → ℕ → Type 0} {Range : ℕ → Type 0} → Ranges k In Range → (m n c p v i : ℕ) → In c p → (chunks k m n c p v).found ≡ Some i → Range i
unfolding chunks
chunks_inside r m zero c p v i h e = absurd (none-ne-some i e)
chunks_inside {k} {In} {Range} r m (suc n) c p v i h e = go (chunks_inside r m n (k.next_chunk c) (k.entry c) (k.value c) i (r.enters c p h)) (walk_from (k.way c) m p v).found refl e
  where
    rest : Option ℕ
    rest = (chunks k m n (k.next_chunk c) (k.entry c) (k.value c)).found

    go : (rest ≡ Some i → Range i) → (x : Option ℕ) → (walk_from (k.way c) m p v).found ≡ x → or_found x rest ≡ Some i → Range i
    go ih None ex y = ih y
    go ih (Some j) ex y =
        let t = walk_inside (k.way c) m (In c) (r.stays c) (suc ((k.way c).left p + top_level)) p top_level v i (le_refl top_level) h (ex ∙ y) in
        r.holds c i t.in_range t.some_left

-- ---- the two questions
pub record After (from len i : ℕ) : Type 0 where
  pub above : from < i
  pub below : i < len

pub record UpTo (from len i : ℕ) : Type 0 where
  pub above : 1 ≤ i
  pub upto : i ≤ from
  pub below : i < len

module _ (has : ℕ → Bool) (reader : ℕ → ℕ → Node) (len m from i : ℕ) where
  ahead_ranges : Ranges (ahead has reader len) (λ (c p : ℕ). (from < p) × (from < (c + 1) * chunk)) (After from len)
  ahead_ranges = record {
    stays = λ c l p h. (omega (arith, h.0), h.1);
    enters = λ c p h. (h.1, omega (arith, h.1));
    holds = λ c p h t. record { above = h.0; below = omega arith };
  }

  behind_ranges : Ranges (behind has reader) (λ (c p : ℕ). (p ≤ from) × (p < len) × (c * chunk ≤ from) × (c * chunk < len)) (UpTo from len)
  behind_ranges = record {
    stays = λ c l p h. (omega (arith, h.0), omega (arith, h.1), h.2, h.3);
    enters = λ c p h. (h.2, h.3, omega (arith, h.2), omega (arith, h.3));
    holds = λ c p h t. record { above = omega arith; upto = h.0; below = h.1 };
  }

  pub next_within : (next_walk has reader len m from).found ≡ Some i → After from len i
  next_within e = go (ltb (from + 1) len) e
    where
      go : (b : Bool) → (cond b (chunks (ahead has reader len) m (chunks_for len - (from + 1) / chunk) ((from + 1) / chunk) (from + 1) (reader 0 from).first) nothing).found ≡ Some i → After from len i
      go true x = chunks_inside ahead_ranges m (chunks_for len - (from + 1) / chunk) ((from + 1) / chunk) (from + 1) (reader 0 from).first i (omega arith, omega arith) x
      go false x = absurd (none-ne-some i x)

  pub previous_within : (previous_walk has reader len m from).found ≡ Some i → UpTo from len i
  previous_within e = go (eqb len 0) refl e
    where
      p : ℕ
      p = min from (len - 1)

      go : (b : Bool) → eqb len 0 ≡ b → (cond b nothing (previous_from has reader m p)).found ≡ Some i → UpTo from len i
      go true z x = absurd (none-ne-some i x)
      go false z x =
          let some_stored : len ≡ 0 → ⊥ = eqb-false len 0 z in
          chunks_inside behind_ranges m (p / chunk + 1) (p / chunk) p (reader 0 p).first i (omega arith, omega arith, omega arith, omega arith) x
