-- The walk of "Search" over true nodes finds what next and previous find, forward and backward, for any level set.
-- Within a chunk and over chunks the two directions share one proof: what a direction brings to it is the record `Sees`.
use Prim.Native.Nat.{ℕ, zero, suc, ◌+◌, ◌-◌, ◌≤◌, ◌<◌, zero-le}
use mathlib.Core.Path.{◌≡◌, refl, sym, ap, ap₂, ◌∙◌, subst}
use mathlib.Core.Bool.{Bool, true, false, cond}
use mathlib.Core.Logic.{◌⊎◌, inl, inr}
use Rattle.std.specs.Prelude.{Some}
use native.Mathlib.Nat.{le_refl, le_of_suc-le-suc, not-suc-le-zero, zero-lt-suc, one-le-pow, eq-or-lt_of_le}
use native.Mathlib.Decide.{dec_lt, ℕ_discrete}
use native.Mathlib.Omega.{arith}
use lib.Dec.{eqb}
use borrow.Author.Tests.{eq-eqb, ne_eqb}
use Rattle.rules.specs.Node.{Node, quiet, span, top_level}
use Rattle.rules.specs.Search.{seek}
use Rattle.rules.specs.Walk.{Walked, nothing, Way, best, Step, ended, found_at, on, taking, after, walk, walk_from, Course, or_found, chunks}
use Rattle.rules.proofs.Search.{times, times_zero, seek_skip, seek_here, seek_append}

pub span_pos : (l : ℕ) → 1 ≤ span l
span_pos l = one-le-pow l 32 (zero-lt-suc 31)

-- ---- the level that a walk takes
pub best_le : (takes : ℕ → Bool) (cap : ℕ) → best takes cap ≤ cap
unfolding best
best_le takes zero = zero-le
best_le takes (suc cap) = go (takes (suc cap)) (best_le takes cap)
  where
    go : (b : Bool) → best takes cap ≤ cap → cond b (suc cap) (best takes cap) ≤ suc cap
    go true h = le_refl (suc cap)
    go false h = omega arith

pub best_taken : (takes : ℕ → Bool) (cap : ℕ) → (best takes cap ≡ 0) ⊎ (takes (best takes cap) ≡ true)
unfolding best
best_taken takes zero = inl refl
best_taken takes (suc cap) = go (takes (suc cap)) refl (best_taken takes cap)
  where
    go : (b : Bool) → takes (suc cap) ≡ b → (best takes cap ≡ 0) ⊎ (takes (best takes cap) ≡ true)
        → (cond b (suc cap) (best takes cap) ≡ 0) ⊎ (takes (cond b (suc cap) (best takes cap)) ≡ true)
    go true e h = inr e
    go false e h = h

pub best_top : (takes : ℕ → Bool) (cap : ℕ) → takes cap ≡ true → best takes cap ≡ cap
unfolding best
best_top takes zero h = refl
best_top takes (suc cap) h = ap (λ (b : Bool). cond b (suc cap) (best takes cap)) h

pub best_above : (takes : ℕ → Bool) (cap l : ℕ) → best takes cap < l → l ≤ cap → takes l ≡ false
unfolding best
best_above takes zero l h k = absurd (omega arith)
best_above takes (suc cap) l h k = go (takes (suc cap)) refl h (λ h' k'. best_above takes cap l h' k') (eq-or-lt_of_le k)
  where
    go : (b : Bool) → takes (suc cap) ≡ b → cond b (suc cap) (best takes cap) < l → (best takes cap < l → l ≤ cap → takes l ≡ false) → (l ≡ suc cap) ⊎ (l < suc cap) → takes l ≡ false
    go true e h ih s = absurd (omega arith)
    go false e h ih (inl s) = ap takes s ∙ e
    go false e h ih (inr s) = ih h (le_of_suc-le-suc s)

-- level l is one that a walk can take at p
pub record Taken (w : Way) (l p : ℕ) : Type 0 where
  pub level : l ≤ top_level
  pub some_left : 0 < w.left p
  pub how : (l ≡ 0) ⊎ (w.takes l p ≡ true)

pub taken_best : (w : Way) (p cap : ℕ) → cap ≤ top_level → 0 < w.left p → Taken w (best (λ (l : ℕ). w.takes l p) cap) p
taken_best w p cap hc h = record { level = omega (arith, best_le (λ (l : ℕ). w.takes l p) cap); some_left = h; how = best_taken (λ (l : ℕ). w.takes l p) cap }

-- ---- what a walk does, step by step
abbrev pub counted : Walked → Walked
counted r = record { found = r.found; steps = suc r.steps }

module _ (w : Way) (m : ℕ) where
  pub walk_ended : (f p cap v : ℕ) → w.left p ≡ 0 → walk w m f p cap v ≡ nothing
  unfolding walk
  walk_ended zero p cap v h = refl
  walk_ended (suc f) p cap v h = ap (λ (b : Bool). after (cond b ended (taking w m (best (λ (l : ℕ). w.takes l p) cap) p cap v)) (walk w m f)) (eq-eqb (w.left p) 0 h)

  -- at level l, whose node is n
  module _ (f p cap v l : ℕ) (n : Node) (h : 0 < w.left p) (el : l ≡ best (λ (l : ℕ). w.takes l p) cap) (en : n ≡ w.node l p) where
    abbrev taken_step : Node → Bool → Step
    taken_step k z = cond (quiet k v m) (on (w.past l p) cap k.last) (cond z (found_at p) (on p (l - 1) v))

    abbrev ends : Step → Walked
    ends s = after s (walk w m f)

    walk_is : walk w m (suc f) p cap v ≡ ends (taken_step n (eqb l 0))
    unfolding walk
    walk_is =
        ap (λ (b : Bool). ends (cond b ended (taking w m (best (λ (l : ℕ). w.takes l p) cap) p cap v))) (ne_eqb (w.left p) 0 (λ e. omega arith))
        ∙ ap (λ (k : ℕ). ends (taking w m k p cap v)) (sym el)
        ∙ ap (λ (k : Node). ends (taken_step k (eqb l 0))) (sym en)

    pub walk_past : quiet n v m ≡ true → walk w m (suc f) p cap v ≡ counted (walk w m f (w.past l p) cap n.last)
    walk_past q = walk_is ∙ ap (λ (b : Bool). ends (cond b (on (w.past l p) cap n.last) (cond (eqb l 0) (found_at p) (on p (l - 1) v)))) q

    walk_loud : quiet n v m ≡ false → walk w m (suc f) p cap v ≡ ends (cond (eqb l 0) (found_at p) (on p (l - 1) v))
    walk_loud q = walk_is ∙ ap (λ (b : Bool). ends (cond b (on (w.past l p) cap n.last) (cond (eqb l 0) (found_at p) (on p (l - 1) v)))) q

    pub walk_found : quiet n v m ≡ false → l ≡ 0 → walk w m (suc f) p cap v ≡ record { found = Some p; steps = 1 }
    walk_found q z = walk_loud q ∙ ap (λ (b : Bool). ends (cond b (found_at p) (on p (l - 1) v))) (eq-eqb l 0 z)

    pub walk_lower : quiet n v m ≡ false → (l ≡ 0 → ⊥) → walk w m (suc f) p cap v ≡ counted (walk w m f p (l - 1) v)
    walk_lower q z = walk_loud q ∙ ap (λ (b : Bool). ends (cond b (found_at p) (on p (l - 1) v))) (ne_eqb l 0 z)

-- ---- what a walk finds
-- a way sees samples: it goes by `unit` steps over places that are `in`, at which `test` asks, and `value p` is the sample before p
-- a node is quiet exactly where the test fails at each of its places: then it is passed, else it shows a change
pub record Sees (w : Way) (In : ℕ → Type 0) (unit : ℕ → ℕ) (test : ℕ → Bool) (m : ℕ) (value : ℕ → ℕ) : Type 0 where
  pub room : (l p : ℕ) → Taken w l p → span l ≤ w.left p
  pub moves : (l p : ℕ) → Taken w l p → w.past l p ≡ times unit (span l) p
  pub leaves : (l p : ℕ) → Taken w l p → w.left (w.past l p) ≡ w.left p - span l
  pub stays : (l p : ℕ) → Taken w l p → In p → In (w.past l p)
  pub passes : (l p : ℕ) → Taken w l p → In p → quiet (w.node l p) (value p) m ≡ true → (j : ℕ) → j < span l → test (times unit j p) ≡ false
  pub shows : (l p : ℕ) → Taken w l p → In p → ((j : ℕ) → j < span l → test (times unit j p) ≡ false) → quiet (w.node l p) (value p) m ≡ true
  pub carries : (l p : ℕ) → Taken w l p → In p → (w.node l p).last ≡ value (w.past l p)

module _ (w : Way) (In : ℕ → Type 0) (unit : ℕ → ℕ) (test : ℕ → Bool) (m : ℕ) (value : ℕ → ℕ) (g : Sees w In unit test m value) where
  -- a sample that is not quiet is a place of the test
  stops : (p : ℕ) → Taken w 0 p → In p → quiet (w.node 0 p) (value p) m ≡ false → test p ≡ true
  stops p t i q = go (test p) refl
    where
      go : (b : Bool) → test p ≡ b → b ≡ true
      go true e = refl
      go false e = sym q ∙ g.shows 0 p t i (λ j h. ap (λ (k : ℕ). test (times unit k p)) (omega arith) ∙ ap test (times_zero unit p) ∙ e)

  abbrev Goal : ℕ → Type 0
  Goal f = (p cap v : ℕ) → In p → cap ≤ top_level → w.left p + cap < f → v ≡ value p → (walk w m f p cap v).found ≡ seek unit test p (w.left p)

  module _ (f p cap v : ℕ) (ih : Goal f) (i : In p) (hc : cap ≤ top_level) (hf : w.left p + cap < suc f) (e : v ≡ value p) (h : 0 < w.left p)
      (l : ℕ) (el : l ≡ best (λ (l : ℕ). w.takes l p) cap) (t : Taken w l p) (low : l ≤ cap) where
    case_past : quiet (w.node l p) v m ≡ true → (walk w m (suc f) p cap v).found ≡ seek unit test p (w.left p)
    case_past q =
        ap (λ (r : Walked). r.found) (walk_past w m f p cap v l (w.node l p) h el refl q)
        ∙ ih (w.past l p) cap (w.node l p).last (g.stays l p t i) hc (omega (arith, g.leaves l p t, span_pos l)) (g.carries l p t i)
        ∙ ap₂ (seek unit test) (g.moves l p t) (g.leaves l p t)
        ∙ sym (seek_skip unit test p (span l) (w.left p - span l) (g.passes l p t i (subst (λ (x : ℕ). quiet (w.node l p) x m ≡ true) e q)))
        ∙ ap (seek unit test p) whole
      where
        whole : span l + (w.left p - span l) ≡ w.left p
        whole = omega (arith, g.room l p t)

    case_found : quiet (w.node l p) v m ≡ false → l ≡ 0 → (walk w m (suc f) p cap v).found ≡ seek unit test p (w.left p)
    case_found q z =
        ap (λ (r : Walked). r.found) (walk_found w m f p cap v l (w.node l p) h el refl q z)
        ∙ sym (seek_here unit test p (w.left p) (stops p (subst (λ (k : ℕ). Taken w k p) z t) i loud) h)
      where
        loud : quiet (w.node 0 p) (value p) m ≡ false
        loud = ap (λ (k : ℕ). quiet (w.node k p) (value p) m) (sym z) ∙ ap (λ (x : ℕ). quiet (w.node l p) x m) (sym e) ∙ q

    case_lower : quiet (w.node l p) v m ≡ false → (l ≡ 0 → ⊥) → (walk w m (suc f) p cap v).found ≡ seek unit test p (w.left p)
    case_lower q z = ap (λ (r : Walked). r.found) (walk_lower w m f p cap v l (w.node l p) h el refl q z) ∙ ih p (l - 1) v i (omega arith) (omega arith) e

    case_any : (b : Bool) → quiet (w.node l p) v m ≡ b → Dec (l ≡ 0) → (walk w m (suc f) p cap v).found ≡ seek unit test p (w.left p)
    case_any true q d = case_past q
    case_any false q (yes z) = case_found q z
    case_any false q (no z) = case_lower q z

  walk_finds : (f : ℕ) → Goal f
  walk_finds zero p cap v i hc hf e = absurd (not-suc-le-zero hf)
  walk_finds (suc f) p cap v i hc hf e = pick (walk_finds f) (dec_lt 0 (w.left p))
    where
      pick : Goal f → Dec (0 < w.left p) → (walk w m (suc f) p cap v).found ≡ seek unit test p (w.left p)
      pick ih (yes h) =
          case_any f p cap v ih i hc hf e h (best (λ (l : ℕ). w.takes l p) cap) refl (taken_best w p cap hc h) (best_le (λ (l : ℕ). w.takes l p) cap)
          (quiet (w.node (best (λ (l : ℕ). w.takes l p) cap) p) v m) refl (ℕ_discrete (best (λ (l : ℕ). w.takes l p) cap) 0)
      pick ih (no h) = ap (λ (r : Walked). r.found) (walk_ended w m (suc f) p cap v none_left) ∙ sym (unfold seek in ap (seek unit test p) none_left)
        where
          none_left : w.left p ≡ 0
          none_left = omega arith

  pub walked : (p v : ℕ) → In p → v ≡ value p → (walk_from w m p v).found ≡ seek unit test p (w.left p)
  walked p v i e = walk_finds (suc (w.left p + top_level)) p top_level v i (le_refl top_level) (le_refl (suc (w.left p + top_level))) e

-- ---- over chunks
-- the places left in n chunks from chunk c on, entered at p
unfoldable pub total : Course → ℕ → ℕ → ℕ → ℕ
total k zero c p = 0
total k (suc n) c p = (k.way c).left p + total k n (k.next_chunk c) (k.entry c)

module _ (k : Course) (In : ℕ → Type 0) (unit : ℕ → ℕ) (test : ℕ → Bool) (m : ℕ) (value : ℕ → ℕ) where
  -- where one chunk ends the next begins, and the value before it is the sample
  pub record Joint (c p : ℕ) : Type 0 where
    pub meets : times unit ((k.way c).left p) p ≡ k.entry c
    pub brings : k.value c ≡ value (k.entry c)

  pub data Linked : ℕ → ℕ → ℕ → Type 0 where
    end : {c p : ℕ} → Linked 0 c p
    link : {n c p : ℕ} → In p → Sees (k.way c) In unit test m value → (0 < n → Joint c p) → Linked n (k.next_chunk c) (k.entry c) → Linked (suc n) c p

  pub chunks_find : (n c p v : ℕ) → Linked n c p → v ≡ value p → (chunks k m n c p v).found ≡ seek unit test p (total k n c p)
  unfolding chunks total seek
  chunks_find zero c p v end e = refl
  chunks_find (suc n) c p v (link i g j ls) e =
      ap₂ or_found (walked (k.way c) In unit test m value g p v i e) (rest n j (λ x. chunks_find n (k.next_chunk c) (k.entry c) (k.value c) ls x))
      ∙ sym (seek_append unit test p ((k.way c).left p) (total k n (k.next_chunk c) (k.entry c)))
    where
      rest : (n : ℕ) → (0 < n → Joint c p) → (k.value c ≡ value (k.entry c) → (chunks k m n (k.next_chunk c) (k.entry c) (k.value c)).found ≡ seek unit test (k.entry c) (total k n (k.next_chunk c) (k.entry c)))
          → (chunks k m n (k.next_chunk c) (k.entry c) (k.value c)).found ≡ seek unit test (times unit ((k.way c).left p) p) (total k n (k.next_chunk c) (k.entry c))
      rest zero j ih = refl
      rest (suc n) j ih =
          let o = j (zero-lt-suc n) in
          ih o.brings ∙ ap (λ (x : ℕ). seek unit test x (total k (suc n) (k.next_chunk c) (k.entry c))) (sym o.meets)
