-- The stretches of a file, block after block.
use mathlib.Core.Path.{◌≡◌, refl, sym, ap, ap₂, ◌∙◌, subst⁻¹}
use mathlib.Core.Bool.{Bool, true, false, cond}
use mathlib.Core.List.{List, [], ◌∷◌, ◌++◌, append-nil, append_assoc}
use Prim.Native.Nat.{ℕ, ◌+◌, ◌-◌, ◌≤◌, ◌<◌}
use native.Mathlib.Decide.{ℕ_discrete}
use native.Mathlib.Omega.{arith}
use lib.Dec.{eqb}
use lib.ListN.{length, length-append}
use borrow.Author.Tests.{eq-eqb, ne_eqb}
use Rattle.rules.specs.Stretches.{Stretch, joined, stretches_in, places_of}
use Rattle.rules.proofs.Stretches.{joined_alone, joined_twice, all_known, all_unknown, stretches_apart}
use Rattle.shelf_stretches.specs.declared.Run.{Run}
use Rattle.shelf_stretches.specs.Told.{with_pair, told_to, closed, closed_list}
use Rattle.shelf_stretches.proofs.Told.{told_next}

-- ---- any places
-- a stretch of `count` places before place p, where there are any, in front of others
abbrev pub opened : ℕ → ℕ → List Stretch → List Stretch
opened p count ss = cond (eqb count 0) ss (joined (p - count) count ss)

-- places below p are done: their stretches are told, but for one that may go on
pub record Survey (known : ℕ → Bool) (len : ℕ) (list₀ : List ℕ) (p : ℕ) (run : Run) (list : List ℕ) : Type 0 where
  pub done : List Stretch
  pub list_is : list ≡ told_to done list₀
  pub stretches_are : run.stretches ≡ length done
  pub replaced_are : run.replaced ≡ places_of done
  pub inside : p ≤ len
  pub sum : run.replaced + run.count ≤ p
  pub rest : stretches_in known 0 len ≡ done ++ opened p run.count (stretches_in known p (len - p))

abbrev pub fresh : Run
fresh = record { stretches = 0; replaced = 0; count = 0 }

pub survey_starts : (known : ℕ → Bool) (len : ℕ) (list : List ℕ) → Survey known len list 0 fresh list
unfolding told_to places_of
survey_starts known len list = record {
  done = [];
  list_is = refl;
  stretches_are = refl;
  replaced_are = refl;
  inside = omega arith;
  sum = omega arith;
  rest = ap (stretches_in known 0) all;
}
  where
    all : len ≡ len - 0
    all = omega arith

places_next : (done : List Stretch) (s : Stretch) → places_of (done ++ (s ∷ [])) ≡ places_of done + s.count
unfolding places_of
places_next [] s = omega arith
places_next (d ∷ done) s = omega (arith, places_next done s)

-- closing, by whether there is a stretch
module _ (run : Run) where
  abbrev pub ended : Run
  ended = record { stretches = run.stretches + 1; replaced = run.replaced + run.count; count = 0 }

  pub closed_none : run.count ≡ 0 → closed run ≡ run
  closed_none z = ap (λ (b : Bool). cond b run ended) (eq-eqb run.count 0 z)

  pub closed_one : (run.count ≡ 0 → ⊥) → closed run ≡ ended
  closed_one z = ap (λ (b : Bool). cond b run ended) (ne_eqb run.count 0 z)

module _ {known : ℕ → Bool} {len : ℕ} {list₀ : List ℕ} {p : ℕ} {run : Run} {list : List ℕ} (s : Survey known len list₀ p run list) where
  abbrev count : ℕ
  count = run.count

  abbrev this : Stretch
  this = record { first = p - count; count = count }

  abbrev pair_put : List ℕ
  pair_put = with_pair run.stretches (p - count) count list

  -- a stretch that ends before place p is told, and what follows begins at place q
  closed_on : {q : ℕ} → q ≤ len → p ≤ q → (others : List Stretch) → (0 < count → joined (p - count) count others ≡ this ∷ others)
      → stretches_in known p (len - p) ≡ others → others ≡ stretches_in known q (len - q) → Survey known len list₀ q (closed run) (closed_list run p list)
  closed_on {q} q-most p-most others alone here there = go (ℕ_discrete count 0)
    where
      rest_by : (b : Bool) → eqb count 0 ≡ b → stretches_in known 0 len ≡ s.done ++ cond b (stretches_in known p (len - p)) (joined (p - count) count (stretches_in known p (len - p)))
      rest_by b e = s.rest ∙ ap (λ (x : Bool). s.done ++ cond x (stretches_in known p (len - p)) (joined (p - count) count (stretches_in known p (len - p)))) e

      go : Dec (count ≡ 0) → Survey known len list₀ q (closed run) (closed_list run p list)
      go (yes z) = subst⁻¹ (λ (x : Run). Survey known len list₀ q x (closed_list run p list)) (closed_none run z) (record {
        done = s.done;
        list_is = ap (λ (b : Bool). cond b list pair_put) (eq-eqb count 0 z) ∙ s.list_is;
        stretches_are = s.stretches_are;
        replaced_are = s.replaced_are;
        inside = q-most;
        sum = omega (arith, s.sum, p-most);
        rest = rest_by true (eq-eqb count 0 z) ∙ ap (λ (x : List Stretch). s.done ++ x) (here ∙ there ∙ sym (ap (λ (b : Bool). cond b (stretches_in known q (len - q)) (joined (q - count) count (stretches_in known q (len - q)))) (eq-eqb count 0 z)));
      })
      go (no z) = subst⁻¹ (λ (x : Run). Survey known len list₀ q x (closed_list run p list)) (closed_one run z) (record {
        done = s.done ++ (this ∷ []);
        list_is =
            ap (λ (b : Bool). cond b list pair_put) (ne_eqb count 0 z)
            ∙ ap₂ (λ (k : ℕ) (x : List ℕ). with_pair k (p - count) count x) s.stretches_are s.list_is
            ∙ sym (told_next s.done this list₀);
        stretches_are = omega (arith, s.stretches_are, length-append s.done (this ∷ []));
        replaced_are = omega (arith, s.replaced_are, places_next s.done this);
        inside = q-most;
        sum = omega (arith, s.sum, p-most);
        rest =
            rest_by false (ne_eqb count 0 z)
            ∙ ap (λ (x : List Stretch). s.done ++ joined (p - count) count x) here
            ∙ ap (λ (x : List Stretch). s.done ++ x) (alone (omega (arith, z)))
            ∙ sym (append_assoc s.done (this ∷ []) others)
            ∙ ap (λ (x : List Stretch). (s.done ++ (this ∷ [])) ++ x) there;
      })

  -- m places follow that are known,
  module _ {m : ℕ} (some_places : 0 < m) (room : p + m ≤ len) where
    left : len - p ≡ m + (len - (p + m))
    left = omega (arith, room)

    pub known_on : ((i : ℕ) → i < m → known (p + i) ≡ true) → Survey known len list₀ (p + m) (closed run) (closed_list run p list)
    known_on h = closed_on room (omega arith) (stretches_in known (p + m) (len - (p + m)))
        (λ c. joined_alone (p + m + (len - (p + m))) (stretches_in known (p + m) (len - (p + m))) (omega (arith, c, s.sum, some_places)) (stretches_apart known (p + m) (len - (p + m))))
        (ap (stretches_in known p) left ∙ all_known known (len - (p + m)) p m h) refl

    -- or that are not
    pub unknown_on : ((i : ℕ) → i < m → known (p + i) ≡ false) → Survey known len list₀ (p + m) (record { stretches = run.stretches; replaced = run.replaced; count = count + m }) list
    unknown_on h = record {
      done = s.done;
      list_is = s.list_is;
      stretches_are = s.stretches_are;
      replaced_are = s.replaced_are;
      inside = room;
      sum = omega (arith, s.sum);
      rest = s.rest ∙ ap (λ (x : List Stretch). s.done ++ x) (go (ℕ_discrete count 0));
    }
      where
        others : List Stretch
        others = stretches_in known (p + m) (len - (p + m))

        here : stretches_in known p (len - p) ≡ joined p m others
        here = ap (stretches_in known p) left ∙ all_unknown known (len - (p + m)) p m some_places h

        longer : joined (p + m - (count + m)) (count + m) others ≡ opened (p + m) (count + m) others
        longer = sym (ap (λ (b : Bool). cond b others (joined (p + m - (count + m)) (count + m) others)) (ne_eqb (count + m) 0 (λ e. omega (arith, e, some_places))))

        begins : p - count ≡ p + m - (count + m)
        begins = omega arith

        go : Dec (count ≡ 0) → opened p count (stretches_in known p (len - p)) ≡ opened (p + m) (count + m) others
        go (yes z) =
            ap (λ (b : Bool). cond b (stretches_in known p (len - p)) (joined (p - count) count (stretches_in known p (len - p)))) (eq-eqb count 0 z)
            ∙ here
            ∙ ap₂ (λ (a c : ℕ). joined a c others) (start z) (whole z)
            ∙ longer
          where
            start : count ≡ 0 → p ≡ p + m - (count + m)
            start e = omega (arith, e)

            whole : count ≡ 0 → m ≡ count + m
            whole e = omega (arith, e)
        go (no z) =
            ap (λ (b : Bool). cond b (stretches_in known p (len - p)) (joined (p - count) count (stretches_in known p (len - p)))) (ne_eqb count 0 z)
            ∙ ap (joined (p - count) count) (here ∙ ap (λ (a : ℕ). joined a m others) touches)
            ∙ joined_twice (p - count) count m others
            ∙ ap (λ (a : ℕ). joined a (count + m) others) begins
            ∙ longer
          where
            touches : p ≡ p - count + count
            touches = omega (arith, s.sum)

-- at the end
pub survey_ends : {known : ℕ → Bool} {len : ℕ} {list₀ : List ℕ} {run : Run} {list : List ℕ} → Survey known len list₀ len run list
    → ((closed run).stretches ≡ length (stretches_in known 0 len)) × ((closed run).replaced ≡ places_of (stretches_in known 0 len)) × (closed_list run len list ≡ told_to (stretches_in known 0 len) list₀)
unfolding stretches_in joined
survey_ends {known} {len} {list₀} {run} {list} s =
    (t.stretches_are ∙ ap length all, t.replaced_are ∙ ap places_of all, t.list_is ∙ ap (λ (x : List Stretch). told_to x list₀) all)
  where
    none : stretches_in known len (len - len) ≡ []
    none = ap (stretches_in known len) zeros
      where
        zeros : len - len ≡ 0
        zeros = omega arith

    t : Survey known len list₀ len (closed run) (closed_list run len list)
    t = closed_on s (omega arith) (omega arith) [] (λ c. refl) none (sym none)

    ended_now : (closed run).count ≡ 0
    ended_now = go (ℕ_discrete run.count 0)
      where
        go : Dec (run.count ≡ 0) → (closed run).count ≡ 0
        go (yes z) = ap (λ (x : Run). x.count) (closed_none run z) ∙ z
        go (no z) = ap (λ (x : Run). x.count) (closed_one run z)

    all : t.done ≡ stretches_in known 0 len
    all =
        sym (append-nil t.done)
        ∙ ap (λ (x : List Stretch). t.done ++ x) (sym none)
        ∙ sym (t.rest ∙ ap (λ (b : Bool). t.done ++ cond b (stretches_in known len (len - len)) (joined (len - (closed run).count) (closed run).count (stretches_in known len (len - len)))) (eq-eqb (closed run).count 0 ended_now))
