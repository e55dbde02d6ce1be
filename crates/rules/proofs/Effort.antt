-- "A search over whole levels reads at most 384 nodes per chunk it enters" (02, CR 3).
-- While a walk passes quiet nodes each step lowers the stretch's length less 31 times its whole nodes, which is 249 at most in a chunk.
-- A node that is not quiet holds a change, and the walk finds it in at most 32 steps for each level below.
use Prim.Native.Nat.{ℕ, zero, suc, ◌+◌, ◌-◌, ◌*◌, ◌/◌, ◌%◌, ◌≤◌, ◌<◌, ◌∣◌, min, zero-le}
use mathlib.Core.Path.{◌≡◌, refl, sym, ap, ap₂, ◌∙◌, subst, subst⁻¹}
use mathlib.Core.Bool.{Bool, true, false, ◌&&◌, false≢true}
use mathlib.Core.Logic.{◌⊎◌, inl, inr}
use native.Mathlib.Nat.{le_refl, le_trans, zero-lt-suc, suc-mul, pow-succ', zero-mod, mod-one, add-mod_right, mod-mod_of_dvd, dvd-mul_left, dvd-mul_right, dvd-mul_left_of_dvd, dvd-sub, dvd_of_mod-eq-zero, mod-eq-zero_of_dvd}
use native.Mathlib.Decide.{dec_lt, ℕ_discrete}
use native.Mathlib.Omega.{arith}
use lib.Pow.{pow-add}
use lib.Dec.{eqb, leb}
use borrow.Author.Tests.{eqb-true, eq-eqb, ne_eqb, leb-true, le-leb, lt-ltb, le-ltb}
use Rattle.rules.specs.Node.{Node, quiet, span, chunk, top_level}
use Rattle.rules.specs.Search.{changed, higher, lower}
use Rattle.rules.specs.Walk.{Walked, Way, forward, backward, best, walk, walk_from, ahead, behind, chunks_for, next_walk, next_entered, previous_walk, previous_entered, all_levels}
use Rattle.rules.proofs.Search.{times, times_add}
use Rattle.rules.proofs.Walk.{span_pos, best_top, best_above, Taken, taken_best, walk_ended, walk_past, walk_found, walk_lower, Sees}
use Rattle.rules.proofs.Found.{TrueNodes, both, behind_fits, sample_read, forward_sees, backward_sees}
use Rattle.rules.proofs.Steps.{chunks_steps}
use Rattle.rules.proofs.Wholes.{wholes, wholes_le, wholes_most, Whole, Highest, wholes_step}

-- a way laid out as a stretch: its place p is `at p`, it goes up to `end`, and a level is taken where it fits
pub record Laid (w : Way) (In : ℕ → Type 0) (at : ℕ → ℕ) (end : ℕ) : Type 0 where
  pub length : (p : ℕ) → In p → w.left p ≡ end - at p
  pub whole : (l p : ℕ) → l ≤ top_level → In p → w.takes l p ≡ true → Whole l (at p) end
  pub taken : (l p : ℕ) → l ≤ top_level → In p → Whole l (at p) end → w.takes l p ≡ true
  pub moves : (l p : ℕ) → Taken w l p → In p → at (w.past l p) ≡ at p + span l

module _ (w : Way) (In : ℕ → Type 0) (unit : ℕ → ℕ) (test : ℕ → Bool) (m : ℕ) (value : ℕ → ℕ) (g : Sees w In unit test m value)
    (at : ℕ → ℕ) (end : ℕ) (d : Laid w In at end) where
  -- a change lies in the next n places
  abbrev Change : ℕ → ℕ → Type 0
  Change p n = ((j : ℕ) → j < n → test (times unit j p) ≡ false) → ⊥

  -- ---- down to a change
  -- one that lies in the next n nodes of the level that the cap is at
  abbrev Descent : ℕ → Type 0
  Descent f = (p c n v : ℕ) → In p → c ≤ top_level → v ≡ value p → at p % span c ≡ 0 → at p + n * span c ≤ end → Change p (n * span c) → (walk w m f p c v).steps ≤ n + 32 * c

  module _ (p l v : ℕ) (i : In p) (e : v ≡ value p) (t : Taken w l p) where
    -- below a node that is not quiet
    lowered : (f : ℕ) → Descent f → Whole l (at p) end → quiet (w.node l p) v m ≡ false → (l ≡ 0 → ⊥) → (walk w m f p (l - 1) v).steps ≤ 32 * l
    lowered f ih fit q z = le_trans (ih p (l - 1) 32 v i (omega (arith, t.level)) e aligned (omega (arith, wide, fit.room)) change) (omega arith)
      where
        wide : span l ≡ 32 * span (l - 1)
        wide = ap span (omega arith) ∙ pow-succ' 32 (l - 1)

        aligned : at p % span (l - 1) ≡ 0
        aligned =
            sym (mod-mod_of_dvd (span (l - 1)) (at p) (subst⁻¹ (λ (x : ℕ). span (l - 1) ∣ x) wide (dvd-mul_left (span (l - 1)) 32)))
            ∙ ap (λ (x : ℕ). x % span (l - 1)) fit.aligned
            ∙ zero-mod (span (l - 1))

        change : Change p (32 * span (l - 1))
        change none_here = false≢true (sym q ∙ subst⁻¹ (λ (x : ℕ). quiet (w.node l p) x m ≡ true) e (g.shows l p t i (λ j h. none_here j (omega (arith, wide)))))

    -- past a quiet node
    change_past : (n : ℕ) → quiet (w.node l p) v m ≡ true → Change p (span l + n) → Change (w.past l p) n
    change_past n q change none-past = change (λ j h. pick j h (dec_lt j (span l)))
      where
        pick : (j : ℕ) → j < span l + n → Dec (j < span l) → test (times unit j p) ≡ false
        pick j h (yes b) = g.passes l p t i (subst (λ (x : ℕ). quiet (w.node l p) x m ≡ true) e q) j b
        pick j h (no b) =
            ap (λ (k : ℕ). test (times unit k p)) (omega arith)
            ∙ ap test (times_add unit (span l) (j - span l) p ∙ ap (times unit (j - span l)) (sym (g.moves l p t)))
            ∙ none-past (j - span l) (omega arith)

  descent_step : (f : ℕ) → Descent f → (p c n v : ℕ) → In p → v ≡ value p → Taken w c p → Whole c (at p) end → c ≡ best (λ (l : ℕ). w.takes l p) c → at p + suc n * span c ≤ end → Change p (suc n * span c)
      → (b : Bool) → quiet (w.node c p) v m ≡ b → Dec (c ≡ 0) → (walk w m (suc f) p c v).steps ≤ suc n + 32 * c
  descent_step f ih p c n v i e t fit el room change true q z =
      let moved = d.moves c p t i in
      omega (
        arith,
        ap (λ (r : Walked). r.steps) (walk_past w m f p c v c (w.node c p) t.some_left el refl q),
        ih (w.past c p) c n (w.node c p).last (g.stays c p t i) t.level (g.carries c p t i)
            (ap (λ (x : ℕ). x % span c) moved ∙ add-mod_right (at p) (span c) ∙ fit.aligned) (omega (arith, moved, suc-mul n (span c)))
            (change_past p c v i e t (n * span c) q (subst (Change p) (omega (arith, suc-mul n (span c))) change)),
      )
  descent_step f ih p c n v i e t fit el room change false q (yes z) = omega (arith, ap (λ (r : Walked). r.steps) (walk_found w m f p c v c (w.node c p) t.some_left el refl q z))
  descent_step f ih p c n v i e t fit el room change false q (no z) =
      omega (arith, ap (λ (r : Walked). r.steps) (walk_lower w m f p c v c (w.node c p) t.some_left el refl q z), lowered p c v i e t f ih fit q z)

  descent : (f : ℕ) → Descent f
  unfolding walk
  descent zero p c n v i hc e aligned room change = zero-le
  descent (suc f) p c zero v i hc e aligned room change = absurd (change (λ j h. absurd (omega arith)))
  descent (suc f) p c (suc n) v i hc e aligned room change =
      descent_step f (descent f) p c n v i e (record { level = hc; some_left = omega (arith, d.length p i, fit.room, span_pos c); how = inr takes }) fit
      (sym (best_top (λ (l : ℕ). w.takes l p) c takes)) room change (quiet (w.node c p) v m) refl (ℕ_discrete c 0)
    where
      fit : Whole c (at p) end
      fit = record { aligned = aligned; room = omega (arith, suc-mul n (span c)) }

      takes : w.takes c p ≡ true
      takes = d.taken c p hc i fit

  -- ---- over quiet nodes
  -- the level that a walk takes at a cap of 4
  abbrev level : ℕ → ℕ
  level p = best (λ (l : ℕ). w.takes l p) top_level

  highest : (p : ℕ) → In p → Taken w (level p) p → Highest top_level (level p) (at p) end
  highest p i t = record { level = t.level; fits = fits (level p) t.level t.how; none_above = above }
    where
      fits : (l : ℕ) → l ≤ top_level → (l ≡ 0) ⊎ (w.takes l p ≡ true) → Whole l (at p) end
      fits l hl (inl z) = subst⁻¹ (λ (k : ℕ). Whole k (at p) end) z (record { aligned = mod-one (at p); room = omega (arith, d.length p i, t.some_left) })
      fits l hl (inr k) = d.whole l p hl i k

      above : (l : ℕ) → level p < l → l ≤ top_level → Whole l (at p) end → ⊥
      above l a b fit = false≢true (sym (best_above (λ (l : ℕ). w.takes l p) top_level l a b) ∙ d.taken l p b i fit)

  -- a step that passes a node lowers the sum; one that doesn't is followed by 32 for each level below 4, at most
  abbrev Passing : ℕ → Type 0
  Passing f = (p v : ℕ) → In p → v ≡ value p → (walk w m f p top_level v).steps + 31 * wholes top_level (at p) end ≤ w.left p + 129

  passing_step : (f : ℕ) → Passing f → (p v : ℕ) → In p → v ≡ value p → (l : ℕ) → l ≡ level p → Taken w l p → Highest top_level l (at p) end
      → (b : Bool) → quiet (w.node l p) v m ≡ b → Dec (l ≡ 0) → (walk w m (suc f) p top_level v).steps + 31 * wholes top_level (at p) end ≤ w.left p + 129
  passing_step f ih p v i e l el t top true q z =
      omega (
        arith,
        ap (λ (r : Walked). r.steps) (walk_past w m f p top_level v l (w.node l p) t.some_left el refl q),
        ih (w.past l p) (w.node l p).last (g.stays l p t i) (g.carries l p t i),
        ap (λ (x : ℕ). wholes top_level x end) (d.moves l p t i),
        wholes_step top_level l (at p) end top,
        g.leaves l p t,
        g.room l p t,
      )
  passing_step f ih p v i e l el t top false q (yes z) =
      omega (arith, ap (λ (r : Walked). r.steps) (walk_found w m f p top_level v l (w.node l p) t.some_left el refl q z), wholes_le top_level (at p) end, d.length p i)
  passing_step f ih p v i e l el t top false q (no z) =
      omega (
        arith,
        ap (λ (r : Walked). r.steps) (walk_lower w m f p top_level v l (w.node l p) t.some_left el refl q z),
        lowered p l v i e t f (descent f) top.fits q z,
        t.level,
        wholes_le top_level (at p) end,
        d.length p i,
      )

  passing : (f : ℕ) → Passing f
  unfolding walk
  passing zero p v i e = omega (arith, wholes_le top_level (at p) end, d.length p i)
  passing (suc f) p v i e = go (dec_lt 0 (w.left p)) (passing f)
    where
      go : Dec (0 < w.left p) → Passing f → (walk w m (suc f) p top_level v).steps + 31 * wholes top_level (at p) end ≤ w.left p + 129
      go (yes h) ih =
          let t = taken_best w p top_level (le_refl top_level) h in
          passing_step f ih p v i e (level p) refl t (highest p i t) (quiet (w.node (level p) p) v m) refl (ℕ_discrete (level p) 0)
      go (no h) ih = omega (arith, ap (λ (r : Walked). r.steps) (walk_ended w m (suc f) p top_level v (omega arith)), wholes_le top_level (at p) end, d.length p i)

  -- 378 in all: 62 for each level below 4, one of level 4, the first that is not quiet, and 32 for each level below it
  pub chunk_effort : (p v : ℕ) → In p → v ≡ value p → w.left p ≤ chunk → (walk_from w m p v).steps ≤ 384
  chunk_effort p v i e h = omega (arith, passing (suc (w.left p + top_level)) p v i e, wholes_most top_level (at p) end (omega (arith, d.length p i)), d.length p i)

-- ---- the directions
forward_laid : (reader : ℕ → ℕ → Node) (hi : ℕ) → Laid (forward all_levels reader hi) (λ (p : ℕ). Unit {0}) (λ p. p) hi
forward_laid reader hi = record {
  length = λ p i. refl;
  whole = λ l p hl i t. let b = both (eqb (p % span l) 0) (leb (p + span l) hi) t in record { aligned = eqb-true _ _ b.0; room = leb-true _ _ b.1 };
  taken = λ l p hl i f. ap₂ ◌&&◌ (eq-eqb (p % span l) 0 f.aligned) (le-leb (p + span l) hi f.room);
  moves = λ l p t i. refl;
}

-- a place counted down from the end of some chunk is aligned as the place is
span_chunks : (l n : ℕ) → l ≤ top_level → span l ∣ n * chunk
span_chunks l n h = dvd-mul_left_of_dvd (span l) (subst (λ (x : ℕ). span l ∣ x) (sym (pow-add 32 l (top_level - l)) ∙ ap span whole) (dvd-mul_right (span l) (span (top_level - l)))) n
  where
    whole : l + (top_level - l) ≡ top_level
    whole = omega arith

mirrored : (l n p : ℕ) → l ≤ top_level → p % span l ≡ 0 → (n * chunk - p) % span l ≡ 0
mirrored l n p h a = mod-eq-zero_of_dvd (span l) (dvd-sub (span l) (span_chunks l n h) (dvd_of_mod-eq-zero (span l) a))

backward_laid : (reader : ℕ → ℕ → Node) (len lo : ℕ) → Laid (backward all_levels reader lo) (λ (p : ℕ). p ≤ len) (λ p. len * chunk - p) (len * chunk - lo)
backward_laid reader len lo = record {
  length = λ p i. omega arith;
  whole = λ l p hl i t.
      let b = both (eqb (p % span l) 0) (leb (lo + span l) p) t in
      record { aligned = mirrored l len p hl (eqb-true _ _ b.0); room = omega (arith, leb-true (lo + span l) p b.1) };
  taken = λ l p hl i f. ap₂ ◌&&◌ (eq-eqb (p % span l) 0 (ap (λ (x : ℕ). x % span l) (omega arith) ∙ mirrored l len (len * chunk - p) hl f.aligned)) (le-leb (lo + span l) p (omega (arith, f.room, span_pos l)));
  moves = λ l p t i. omega (arith, (behind_fits all_levels reader lo l p t).room);
}

-- ---- the theorem
module _ (reader : ℕ → ℕ → Node) (s : ℕ → ℕ) (len m : ℕ) (r : TrueNodes all_levels reader s len) (from : ℕ) where
  sample_first : (p : ℕ) → p < len → (reader 0 p).first ≡ s p
  sample_first p h = ap (λ (n : Node). n.first) (sample_read all_levels reader s len m r p h)

  pub next_effort : (next_walk all_levels reader len m from).steps ≤ 384 * next_entered all_levels reader len m from
  next_effort = go (dec_lt (from + 1) len)
    where
      Kept : ℕ → ℕ → ℕ → ℕ → Type 0
      Kept n c p v = 0 < n → ((c + n) * chunk < len + chunk) × (c * chunk ≤ p) × (v ≡ s (p - 1))

      walks : (n c p v : ℕ) → Kept (suc n) c p v → (walk_from ((ahead all_levels reader len).way c) m p v).steps ≤ 384
      walks n c p v o =
          let hi = min ((c + 1) * chunk) len in
          let k = o (zero-lt-suc n) in
          chunk_effort (forward all_levels reader hi) (λ (p : ℕ). Unit {0}) higher (changed s m) m (λ (p : ℕ). s (p - 1)) (forward_sees all_levels reader s len m r hi (omega arith)) (λ p. p) hi (forward_laid reader hi)
          p v tt k.2 (omega (arith, k.1))

      go : Dec (from + 1 < len) → (next_walk all_levels reader len m from).steps ≤ 384 * next_entered all_levels reader len m from
      go (yes h) =
          rw (lt-ltb (from + 1) len h)
          (chunks_steps (ahead all_levels reader len) m 384 Kept walks
          (λ n c p v o l. (omega (arith, (o (zero-lt-suc n)).0), le_refl ((c + 1) * chunk), sample_first ((c + 1) * chunk - 1) (omega (arith, (o (zero-lt-suc n)).0))))
          (chunks_for len - (from + 1) / chunk) ((from + 1) / chunk) (from + 1) (reader 0 from).first (λ l. (omega arith, omega arith, sample_first from (omega arith) ∙ ap s (omega arith))))
      go (no h) = rw (le-ltb (from + 1) len (omega arith)) zero-le

  pub previous_effort : (previous_walk all_levels reader len m from).steps ≤ 384 * previous_entered all_levels reader len m from
  previous_effort = go (ℕ_discrete len 0)
    where
      p₀ : ℕ
      p₀ = min from (len - 1)

      Kept : ℕ → ℕ → ℕ → ℕ → Type 0
      Kept n c p v = (p ≤ len) × (p ≤ (c + 1) * chunk) × (c * chunk < len) × (v ≡ s p)

      walks : (n c p v : ℕ) → Kept (suc n) c p v → (walk_from ((behind all_levels reader).way c) m p v).steps ≤ 384
      walks n c p v o =
          chunk_effort (backward all_levels reader (c * chunk)) (λ (p : ℕ). p ≤ len) lower (changed s m) m s (backward_sees all_levels reader s len m r (c * chunk)) (λ p. len * chunk - p) (len * chunk - c * chunk)
          (backward_laid reader len (c * chunk)) p v o.0 o.3 (omega (arith, o.1))

      go : Dec (len ≡ 0) → (previous_walk all_levels reader len m from).steps ≤ 384 * previous_entered all_levels reader len m from
      go (yes z) = rw (eq-eqb len 0 z) zero-le
      go (no z) =
          rw (ne_eqb len 0 z)
          (chunks_steps (behind all_levels reader) m 384 Kept walks
          (λ n c p v o. (omega (arith, o.2), omega arith, omega (arith, o.2), sample_first (c * chunk) o.2))
          (p₀ / chunk + 1) (p₀ / chunk) p₀ (reader 0 p₀).first (omega arith, omega arith, omega arith, sample_first p₀ (omega arith)))
