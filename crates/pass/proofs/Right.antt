-- On right levels no masked line changes at a place that is passed.
use Prim.Native.Nat.{ℕ, zero, suc, ◌+◌, ◌-◌, ◌*◌, ◌/◌, ◌%◌, ◌≤◌, ◌<◌}
use mathlib.Core.Path.{◌≡◌, refl, sym, ap, ap₂, ◌∙◌, subst}
use mathlib.Core.Bool.{Bool, true, false, cond, not}
use mathlib.Core.List.{List}
use mathlib.Core.Logic.{◌⊎◌, inl, inr}
use native.Mathlib.Nat.{mul-le-mul_right, div-mul-le_self, div-add-mod', mod-lt, add-mul-div_right, mul-one, suc-mul, add-mod-mod, mul-mod_left, add-zero, lt_of_mul-lt-mul_right}
use native.Mathlib.Decide.{dec_lt, ℕ_discrete}
use native.Mathlib.Omega.{arith}
use lib.Bits.{bit_and}
use lib.Dec.{ltb, leb, eqb}
use borrow.Author.Tests.{lt-ltb, le-ltb, ne_eqb}
use Rattle.rules.specs.Sample.{sample_of}
use Rattle.rules.specs.Node.{Node, node_of, leaf, changes, quiet, span, top_level}
use Rattle.rules.specs.Search.{changed}
use Rattle.rules.specs.Walk.{best}
use Rattle.rules.proofs.Node.{Quiet, quiet_true}
use Rattle.rules.proofs.Walk.{span_pos, best_le, best_taken}
use Rattle.node.specs.Memory.{node_in, reader_of, Right}
use Rattle.node.proofs.NodeMemory.{right_true}
use Rattle.level.specs.Best.{fits_at}
use Rattle.level.proofs.Best.{Fits, fitting, fits_sample}
use Rattle.find.specs.Run.{node_at, carried}
use Rattle.find.specs.Way.{number_in}
use Rattle.pass.specs.Pass.{quiet_up_to, level_for, nodes_from, nodes_asked, nodes_passed, behind_run, pass_to}

-- ---- the first that is not quiet
module _ (nodes : ℕ → Node) (mask v : ℕ) where
  up_bounds : (j m : ℕ) → (j ≤ quiet_up_to nodes mask v j m) × (quiet_up_to nodes mask v j m ≤ j + m)
  unfolding quiet_up_to
  up_bounds j zero = (omega arith, omega arith)
  up_bounds j (suc m) = go (quiet (nodes j) (carried v nodes j) mask) (up_bounds (suc j) m)
    where
      go : (b : Bool) → (suc j ≤ quiet_up_to nodes mask v (suc j) m) × (quiet_up_to nodes mask v (suc j) m ≤ suc j + m) → (j ≤ cond b (quiet_up_to nodes mask v (suc j) m) j) × (cond b (quiet_up_to nodes mask v (suc j) m) j ≤ j + suc m)
      go true r = (omega (arith, r.0), omega (arith, r.1))
      go false r = (omega arith, omega arith)

  up_quiet : (j m i : ℕ) → j ≤ i → i < quiet_up_to nodes mask v j m → quiet (nodes i) (carried v nodes i) mask ≡ true
  unfolding quiet_up_to
  up_quiet j zero i h k = absurd (omega (arith, h, k))
  up_quiet j (suc m) i h k = go (quiet (nodes j) (carried v nodes j) mask) refl k (λ l q. up_quiet (suc j) m i l q)
    where
      go : (b : Bool) → quiet (nodes j) (carried v nodes j) mask ≡ b → i < cond b (quiet_up_to nodes mask v (suc j) m) j → (suc j ≤ i → i < quiet_up_to nodes mask v (suc j) m → quiet (nodes i) (carried v nodes i) mask ≡ true)
          → quiet (nodes i) (carried v nodes i) mask ≡ true
      go false e q rest = absurd (omega (arith, h, q))
      go true e q rest = here (ℕ_discrete j i)
        where
          here : Dec (j ≡ i) → quiet (nodes i) (carried v nodes i) mask ≡ true
          here (yes z) = ap (λ (x : ℕ). quiet (nodes x) (carried v nodes x) mask) (sym z) ∙ e
          here (no z) = rest (omega (arith, h, z)) q

-- ---- nodes of a capture
module _ (unit : ℕ) (samples : List ℕ) (levels : ℕ → List ℕ) (len : ℕ) (right : Right (sample_of unit samples) len levels) where
  abbrev s : ℕ → ℕ
  s = sample_of unit samples

  -- a node by its number is that by its place
  number_reads : (l p : ℕ) → node_at unit samples (levels l) l (number_in 0 l (span l) p) ≡ reader_of unit samples levels l p
  unfolding node_at reader_of
  number_reads l p = go (eqb l 0)
    where
      none : p - 0 ≡ p
      none = omega arith

      go : (b : Bool) → cond b (leaf (s (cond b (p - 0) (p / span l)))) (node_in (levels l) (cond b (p - 0) (p / span l))) ≡ cond b (leaf (s p)) (node_in (levels l) (p / span l))
      go true = ap (λ (i : ℕ). leaf (s i)) none
      go false = refl

  number_on : (l p j : ℕ) → number_in 0 l (span l) p + j ≡ number_in 0 l (span l) (p + j * span l)
  number_on l p j = go (ℕ_discrete l 0)
    where
      go : Dec (l ≡ 0) → number_in 0 l (span l) p + j ≡ number_in 0 l (span l) (p + j * span l)
      go (yes z) = subst (λ (x : ℕ). number_in 0 x (span x) p + j ≡ number_in 0 x (span x) (p + j * span x)) (sym z) one
        where
          one : p - 0 + j ≡ p + j * 1 - 0
          one = omega (arith, mul-one j)
      go (no z) =
          ap (λ (b : Bool). cond b (p - 0) (p / span l) + j) (ne_eqb l 0 z)
          ∙ sym (add-mul-div_right p j (span_pos l))
          ∙ sym (ap (λ (b : Bool). cond b (p + j * span l - 0) ((p + j * span l) / span l)) (ne_eqb l 0 z))

  module _ (hi mask l p : ℕ) (top : l ≤ top_level) (aligned : p % span l ≡ 0) where
    abbrev w : ℕ
    w = span l

    abbrev nodes : ℕ → Node
    nodes = nodes_from unit 0 hi samples levels mask l p

    -- node j of a run is that of its range
    node_is : (j : ℕ) → p + suc j * w ≤ len → nodes j ≡ node_of s (p + j * w) (p + j * w + w)
    node_is j h =
        ap (node_at unit samples (levels l) l) (number_on l p j)
        ∙ number_reads l (p + j * w)
        ∙ (right_true unit samples levels len right).is l (p + j * w) top (inr refl) border (omega (arith, h, suc-mul j w))
      where
        border : (p + j * w) % w ≡ 0
        border = sym (add-mod-mod p (j * w) w) ∙ ap (λ (x : ℕ). (p + x) % w) (mul-mod_left j w) ∙ ap (λ (x : ℕ). x % w) (add-zero p) ∙ aligned

    module _ (v : ℕ) (before : v ≡ s (p - 1)) (first : 1 ≤ p) where
      value_is : (j : ℕ) → p + j * w ≤ len → carried v nodes j ≡ s (p + j * w - 1)
      unfolding node_of
      value_is zero h = before ∙ ap s (omega arith)
      value_is (suc j) h = ap (λ (n : Node). n.last) (node_is j h) ∙ ap s (omega (arith, suc-mul j w))

      -- a quiet node: no change at its places
      still : (j : ℕ) → p + suc j * w ≤ len → quiet (nodes j) (carried v nodes j) mask ≡ true → (i : ℕ) → p + j * w ≤ i → i < p + suc j * w → changed s mask i ≡ false
      unfolding node_of
      still j h e i a b = ap (λ (x : ℕ). not (eqb x 0)) (go (ℕ_discrete (p + j * w) i))
        where
          at : ℕ
          at = p + j * w

          q : Quiet s (s at) (s (at - 1)) mask at (at + w)
          q = quiet_true s (node_of s at (at + w)) (s (at - 1)) mask at (at + w) refl
              (ap₂ (λ (n : Node) (x : ℕ). quiet n x mask) (sym (node_is j h)) (sym (value_is j (omega (arith, h, suc-mul j w)))) ∙ e)

          go : Dec (at ≡ i) → bit_and (changes s i) mask ≡ 0
          go (yes z) = subst (λ (x : ℕ). bit_and (changes s x) mask ≡ 0) z q.border
          go (no z) = q.inside i (omega (arith, a, z)) (omega (arith, b, suc-mul j w))

  -- ---- quiet nodes one after another
  -- what is known of a place that is reached from p on
  pub record Reached (hi mask p q : ℕ) : Type 0 where
    pub least : p ≤ q
    pub most : q ≤ hi
    pub quiet_at : (i : ℕ) → p ≤ i → i < q → changed s mask i ≡ false

  module _ (hi mask : ℕ) (stored : hi ≤ len) where
    abbrev To : ℕ → ℕ → ℕ → ℕ → ℕ
    To = pass_to unit 0 hi samples levels mask

    -- a run of k nodes from p on
    run_still : (l p v n k : ℕ) → l ≤ top_level → p % span l ≡ 0 → v ≡ s (p - 1) → 1 ≤ p → k ≡ quiet_up_to (nodes_from unit 0 hi samples levels mask l p) mask v 0 n → p + k * span l ≤ hi
        → ((i : ℕ) → p ≤ i → i < p + k * span l → changed s mask i ≡ false) × (carried v (nodes_from unit 0 hi samples levels mask l p) k ≡ s (p + k * span l - 1))
    run_still l p v n k top a e h is most = (
      λ i x y.
          let j = (i - p) / span l in
          let d = div-add-mod' (i - p) (span l) in
          let r = mod-lt (i - p) (span_pos l) in
          let b : j < k = lt_of_mul-lt-mul_right (span l) {m = j} {n = k} (omega (arith, d, x, y)) in
          let fits = mul-le-mul_right {m = suc j} {n = k} (span l) b in
          still hi mask l p top a v e h j (omega (arith, fits, most, stored)) (up_quiet (nodes_from unit 0 hi samples levels mask l p) mask v 0 n j (omega arith) (omega (arith, b, is))) i (omega (arith, d, x)) (omega (arith, d, r, x, suc-mul j (span l))),
      value_is hi mask l p top a v e h k (omega (arith, most, stored)),
    )

    -- from p to q, and on from there
    on_from : {p q r : ℕ} → p ≤ q → ((i : ℕ) → p ≤ i → i < q → changed s mask i ≡ false) → Reached hi mask q r → Reached hi mask p r
    on_from {p} {q} {r} h e rest = record { least = omega (arith, h, rest.least); most = rest.most; quiet_at = λ i a b. go i a b (dec_lt i q) }
      where
        go : (i : ℕ) → p ≤ i → i < r → Dec (i < q) → changed s mask i ≡ false
        go i a b (yes l) = e i a l
        go i a b (no l) = rest.quiet_at i (omega (arith, l)) b

    here : {q : ℕ} → q ≤ hi → Reached hi mask q q
    here h = record { least = omega arith; most = h; quiet_at = λ i a b. absurd (omega (arith, a, b)) }

    level_fits : (p cap : ℕ) → p < hi → Fits p (hi - p) (level_for unit 0 hi samples levels mask p cap)
    level_fits p cap h = go (best_taken (fits_at p (hi - p)) cap)
      where
        go : (best (fits_at p (hi - p)) cap ≡ 0) ⊎ (fits_at p (hi - p) (best (fits_at p (hi - p)) cap) ≡ true) → Fits p (hi - p) (best (fits_at p (hi - p)) cap)
        go (inl z) = subst (Fits p (hi - p)) (sym z) (fits_sample p (hi - p) (omega (arith, h)))
        go (inr t) = fitting p (hi - p) (best (fits_at p (hi - p)) cap) t

    -- no change is passed
    pub pass_reaches : (f p cap v : ℕ) → 1 ≤ p → p ≤ hi → cap ≤ top_level → v ≡ s (p - 1) → Reached hi mask p (To f p cap v)
    unfolding pass_to
    pass_reaches zero p cap v h m c e = here m
    pass_reaches (suc f) p cap v h m c e = go (dec_lt p hi) (λ q b u. pass_reaches f q b u)
      where
        l : ℕ
        l = level_for unit 0 hi samples levels mask p cap

        n : ℕ
        n = nodes_asked unit 0 hi samples levels mask l p

        k : ℕ
        k = nodes_passed unit 0 hi samples levels mask l p v

        u : ℕ
        u = carried v (nodes_from unit 0 hi samples levels mask l p) k

        top : l ≤ cap
        top = best_le (fits_at p (hi - p)) cap

        reach : p < hi → p + k * span l ≤ hi
        reach x = omega (arith, x, mul-le-mul_right {m = k} {n = (hi - p) / span l} (span l) (omega (arith, (up_bounds (nodes_from unit 0 hi samples levels mask l p) mask v 0 n).1)), div-mul-le_self (hi - p) (span l))

        go : Dec (p < hi) → ((q b w : ℕ) → 1 ≤ q → q ≤ hi → b ≤ top_level → w ≡ s (q - 1) → Reached hi mask q (To f q b w))
            → Reached hi mask p (cond (ltb p hi) (behind_run unit 0 hi samples levels mask (To f) l (span l) n k u p cap) p)
        go (no x) rest = subst (λ (b : Bool). Reached hi mask p (cond b (behind_run unit 0 hi samples levels mask (To f) l (span l) n k u p cap) p)) (sym (le-ltb p hi (omega (arith, x)))) (here m)
        go (yes x) rest = subst (λ (b : Bool). Reached hi mask p (cond b (behind_run unit 0 hi samples levels mask (To f) l (span l) n k u p cap) p)) (sym (lt-ltb p hi x)) (ways (ltb k n) (leb l 1))
          where
            run : ((i : ℕ) → p ≤ i → i < p + k * span l → changed s mask i ≡ false) × (u ≡ s (p + k * span l - 1))
            run = run_still l p v n k (omega (arith, top, c)) (level_fits p cap x).aligned e h refl (reach x)

            ways : (a b : Bool) → Reached hi mask p (cond a (cond b (p + k * span l) (To f (p + k * span l) (l - 1) u)) (To f (p + k * span l) cap u))
            ways true true = on_from (omega arith) run.0 (here (reach x))
            ways true false = on_from (omega arith) run.0 (rest (p + k * span l) (l - 1) u (omega (arith, h)) (reach x) (omega (arith, top, c)) run.1)
            ways false b = on_from (omega arith) run.0 (rest (p + k * span l) cap u (omega (arith, h)) (reach x) c run.1)
