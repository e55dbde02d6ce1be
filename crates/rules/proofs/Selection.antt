-- Laws of the run and the mark that a list of pushes makes: their bounds, what a refused push and a leftover byte leave out, when nothing is refused, and when a push is told complete.
use mathlib.Core.Path.{◌≡◌, refl, sym, ap, ap₂, ◌∙◌}
use mathlib.Core.Bool.{Bool, true, false, cond}
use mathlib.Core.List.Memᴰ
use mathlib.Core.List.{List, [], ◌∷◌, ◌++◌, map, Memᴰ}
use mathlib.Core.Logic.{◌↔◌, ◌⊎◌, inl, inr}
use Rattle.std.specs.Prelude.{None, Some}
use Rattle.rules.proofs.Options.{some_inj, none-ne-some}
use Prim.Native.Nat.{ℕ, ◌+◌, ◌-◌, ◌≤◌, ◌<◌, min}
use native.Mathlib.Decide.{dec_lt}
use native.Mathlib.Omega.{arith}
use lib.Dec.{leb, eqb, leb-zero}
use lib.ListN.{length, take, drop, get_or, length-take, length-drop, length-append, get_or-append}
use lib.Seq.{take-nil, drop-append-le, get_or-drop}
use borrow.Author.Tests.{lt-ltb, le-ltb, le-leb, leb-true, eqb-true, eqb-false, eq-eqb, ne_eqb}
use Rattle.rules.specs.Sample.{samples_of}
use Rattle.rules.specs.Trigger.{Masks, Armed, unarmed, waiting, first_fire}
use Rattle.rules.specs.Selection.{Rule, Selected, fired_at, not_fired, chosen, limited, selection, accepts, accept, accepted_from, accepted, run_of, mark_of, Beside, still_armed, fired_on, beside_for, beside_of, Reply, refused, going_on, complete, reply_of, told, reply_to, replies_from, replies_of}
use Rattle.rules.proofs.Sample.{whole_of, samples_whole}
use Rattle.rules.proofs.Trigger.{fire_le, fire_stays}

-- ---- the mark
-- where the recorder fires at t, the mark is the place of sample t in the run
pub fired_at_mark : (pre t : ℕ) (xs : List ℕ) (k : ℕ) → (fired_at pre t xs).mark ≡ Some k → get_or (fired_at pre t xs).run k 0 ≡ get_or xs t 0
fired_at_mark pre t xs k e = get_or-drop _ xs k 0 ∙ ap (λ (i : ℕ). get_or xs i 0) (before (some_inj e))
  where
    before : min t pre ≡ k → t - min t pre + k ≡ t
    before q = omega arith

-- at most pre samples come before it
pub mark_most : (pre t : ℕ) (xs : List ℕ) (k : ℕ) → (fired_at pre t xs).mark ≡ Some k → k ≤ pre
mark_most pre t xs k e = omega (arith, some_inj e)

-- ---- the run before the limit
abbrev pub chosen_by : Rule → List ℕ → Selected
chosen_by r xs = chosen r.armed r.pre xs

abbrev pub longer : Selected → List ℕ → Selected
longer c ys = record { run = c.run ++ ys; mark = c.mark }

pub chosen_all : (a : Armed) (pre : ℕ) (xs : List ℕ) → a ≡ unarmed → chosen a pre xs ≡ record { run = xs; mark = None }
unfolding chosen
chosen_all a pre xs e = rw e

pub chosen_fired : (a : Armed) (m : Masks) (pre t : ℕ) (xs : List ℕ) → a ≡ waiting m → first_fire m None xs ≡ t → t < length xs → chosen a pre xs ≡ fired_at pre t xs
unfolding chosen
chosen_fired a m pre t xs w e h = rw (w, e, lt-ltb t (length xs) h)

pub chosen_none : (a : Armed) (m : Masks) (pre : ℕ) (xs : List ℕ) → a ≡ waiting m → first_fire m None xs ≡ length xs → chosen a pre xs ≡ not_fired
unfolding chosen
chosen_none a m pre xs w e = rw (w, e, le-ltb (length xs) (length xs) (omega arith))

-- ---- unarmed: never armed, or fired
pub data Steady (r : Rule) (xs : List ℕ) : Type 0 where
  without_terms : r.armed ≡ unarmed → Steady r xs
  has_fired : (m : Masks) → r.armed ≡ waiting m → first_fire m None xs < length xs → Steady r xs

-- armed, and none of xs fires
pub record Quiet (r : Rule) (xs : List ℕ) : Type 0 where
  pub masks : Masks
  pub armed : r.armed ≡ waiting masks
  pub none_fires : first_fire masks None xs ≡ length xs

pub steady_or_quiet : (r : Rule) (xs : List ℕ) → Steady r xs ⊎ Quiet r xs
steady_or_quiet r xs = go r.armed refl
  where
    go : (a : Armed) → r.armed ≡ a → Steady r xs ⊎ Quiet r xs
    go unarmed e = inl (without_terms e)
    go (waiting m) e = by (dec_lt (first_fire m None xs) (length xs))
      where
        by : Dec (first_fire m None xs < length xs) → Steady r xs ⊎ Quiet r xs
        by (yes h) = inl (has_fired m e h)
        by (no h) = inr (record { masks = m; armed = e; none_fires = omega (arith, fire_le m None xs) })

-- ---- what is held beside the store
-- still armed as long as none fires, and unarmed else
pub beside_waits : (r : Rule) (xs : List ℕ) (q : Quiet r xs) → beside_of r xs ≡ still_armed q.masks r.pre xs
beside_waits r xs q =
    ap (λ (a : Armed). beside_for a r.pre xs) q.armed
    ∙ ap (λ (b : Bool). cond b (fired_on (get_or xs (first_fire q.masks None xs) 0)) (still_armed q.masks r.pre xs)) (le-ltb (first_fire q.masks None xs) (length xs) (omega (arith, q.none_fires)))

pub beside_fired : (r : Rule) (xs : List ℕ) (m : Masks) → r.armed ≡ waiting m → first_fire m None xs < length xs → beside_of r xs ≡ fired_on (get_or xs (first_fire m None xs) 0)
beside_fired r xs m e h =
    ap (λ (a : Armed). beside_for a r.pre xs) e
    ∙ ap (λ (b : Bool). cond b (fired_on (get_or xs (first_fire m None xs) 0)) (still_armed m r.pre xs)) (lt-ltb (first_fire m None xs) (length xs) h)

pub beside_unarmed : (r : Rule) (xs : List ℕ) → Steady r xs → (beside_of r xs).armed ≡ unarmed
beside_unarmed r xs (without_terms e) = ap (λ (a : Armed). (beside_for a r.pre xs).armed) e
beside_unarmed r xs (has_fired m e h) = ap (λ (b : Beside). b.armed) (beside_fired r xs m e h)

-- firing and the lack of terms are for good
pub beside_stays : (r : Rule) (xs ys : List ℕ) → Steady r xs → beside_of r (xs ++ ys) ≡ beside_of r xs
beside_stays r xs ys (without_terms e) = ap (λ (a : Armed). beside_for a r.pre (xs ++ ys)) e ∙ sym (ap (λ (a : Armed). beside_for a r.pre xs) e)
beside_stays r xs ys (has_fired m e h) =
    beside_fired r (xs ++ ys) m e (omega (arith, fire_stays m None xs ys h, length-append xs ys))
    ∙ ap (λ (t : ℕ). fired_on (get_or (xs ++ ys) t 0)) (fire_stays m None xs ys h)
    ∙ ap fired_on (get_or-append xs ys 0 (first_fire m None xs) h)
    ∙ sym (beside_fired r xs m e h)

pub quiet_chosen : (r : Rule) (xs : List ℕ) → Quiet r xs → chosen_by r xs ≡ not_fired
quiet_chosen r xs q = chosen_none r.armed q.masks r.pre xs q.armed q.none_fires

-- once it is unarmed, more samples only make the run longer
module _ (r : Rule) (xs ys : List ℕ) where
  fired_longer : (m : Masks) → r.armed ≡ waiting m → first_fire m None xs < length xs → chosen_by r (xs ++ ys) ≡ longer (chosen_by r xs) ys
  fired_longer m w h =
      chosen_fired r.armed m r.pre t (xs ++ ys) w (fire_stays m None xs ys h) (simp length-append (omega arith))
      ∙ ap (λ (x : List ℕ). record { run = x; mark = Some (min t r.pre) }) (drop-append-le (t - min t r.pre) xs ys (omega arith))
      ∙ ap (λ (c : Selected). longer c ys) (sym (chosen_fired r.armed m r.pre t xs w refl h))
    where
      t : ℕ
      t = first_fire m None xs

  pub steady_longer : Steady r xs → chosen_by r (xs ++ ys) ≡ longer (chosen_by r xs) ys
  steady_longer (without_terms e) = chosen_all r.armed r.pre (xs ++ ys) e ∙ ap (λ (c : Selected). longer c ys) (sym (chosen_all r.armed r.pre xs e))
  steady_longer (has_fired m w h) = fired_longer m w h

  pub steady_stays : Steady r xs → Steady r (xs ++ ys)
  steady_stays (without_terms e) = without_terms e
  steady_stays (has_fired m w h) = has_fired m w (rw (fire_stays m None xs ys h) (simp length-append (omega arith)))

-- ---- the limit
pub limited_none : (limit : ℕ) → limited limit [] ≡ []
limited_none limit = go (eqb limit 0)
  where
    go : (b : Bool) → cond {A = List ℕ} b [] (take limit []) ≡ []
    go true = refl
    go false = take-nil limit

limited_le : (limit : ℕ) (run : List ℕ) → 0 < limit → length (limited limit run) ≤ limit
limited_le limit run h = rw (ne_eqb limit 0 (λ e. omega arith)) (simp length-take (omega arith))

pub quiet_run : (r : Rule) (xs : List ℕ) → Quiet r xs → (selection r xs).run ≡ []
unfolding selection
quiet_run r xs q = ap (λ (c : Selected). limited r.limit c.run) (quiet_chosen r xs q) ∙ limited_none r.limit

-- a run never has more samples than limit
pub run_limit : (r : Rule) (xs : List ℕ) → 0 < r.limit → length (selection r xs).run ≤ r.limit
unfolding selection
run_limit r xs h = limited_le r.limit (chosen_by r xs).run h

-- the mark is a place of the run, unless the limit cuts the firing sample off
pub mark_in_run : (r : Rule) (xs : List ℕ) → (0 < r.limit → r.pre < r.limit) → (k : ℕ) → (selection r xs).mark ≡ Some k → k < length (selection r xs).run
unfolding selection
mark_in_run r xs l k e = go (steady_or_quiet r xs)
  where
    no_mark : (chosen_by r xs).mark ≡ None → k < length (limited r.limit (chosen_by r xs).run)
    no_mark z = absurd (none-ne-some k (sym z ∙ e))

    inside : (run : List ℕ) → k < length run → k ≤ r.pre → k < length (limited r.limit run)
    inside run h p = by (dec_lt 0 r.limit)
      where
        by : Dec (0 < r.limit) → k < length (limited r.limit run)
        by (yes q) = rw (ne_eqb r.limit 0 (λ z. omega arith)) (simp length-take (omega (arith, l q)))
        by (no q) = rw (eq-eqb r.limit 0 (omega arith)) h

    go : Steady r xs ⊎ Quiet r xs → k < length (limited r.limit (chosen_by r xs).run)
    go (inr q) = no_mark (ap (λ (c : Selected). c.mark) (quiet_chosen r xs q))
    go (inl (without_terms w)) = no_mark (ap (λ (c : Selected). c.mark) (chosen_all r.armed r.pre xs w))
    go (inl (has_fired m w h)) = rw fired (inside (drop (t - min t r.pre) xs) (simp length-drop (omega (arith, at))) (omega (arith, at)))
      where
        t : ℕ
        t = first_fire m None xs

        fired : chosen_by r xs ≡ fired_at r.pre t xs
        fired = chosen_fired r.armed m r.pre t xs w refl h

        at : min t r.pre ≡ k
        at = some_inj (sym (ap (λ (c : Selected). c.mark) fired) ∙ e)

-- ---- acceptance
abbrev pub Room : Rule → List ℕ → Type 0
Room r xs = length (selection r xs).run ≤ r.capacity

-- no samples, no run
pub run_first : (r : Rule) → (selection r []).run ≡ []
unfolding selection
run_first r = go (steady_or_quiet r [])
  where
    go : Steady r [] ⊎ Quiet r [] → limited r.limit (chosen_by r []).run ≡ []
    go (inl (without_terms e)) = ap (λ (c : Selected). limited r.limit c.run) (chosen_all r.armed r.pre [] e) ∙ limited_none r.limit
    go (inl (has_fired m w h)) = absurd (omega arith)
    go (inr q) = ap (λ (c : Selected). limited r.limit c.run) (quiet_chosen r [] q) ∙ limited_none r.limit

accept_room : (r : Rule) (xs push : List ℕ) → Room r xs → Room r (accept r xs push)
accept_room r xs push h = go (accepts r xs push) refl
  where
    go : (b : Bool) → accepts r xs push ≡ b → Room r (accept r xs push)
    go true e = rw e (leb-true _ _ e)
    go false e = rw e h

accepted_room : (r : Rule) (pushes : List (List ℕ)) (xs : List ℕ) → Room r xs → Room r (accepted_from r xs pushes)
unfolding accepted_from
accepted_room r [] xs h = h
accepted_room r (push ∷ pushes) xs h = accepted_room r pushes (accept r xs push) (accept_room r xs push h)

-- nor more than capacity
pub run_capacity : (r : Rule) (pushes : List (List ℕ)) → length (run_of r pushes) ≤ r.capacity
run_capacity r pushes = accepted_room r pushes [] (rw (run_first r) (omega arith))

-- an armed push that does not fire is never refused
pub quiet_accepted : (r : Rule) (xs push : List ℕ) → Quiet r (xs ++ samples_of r.unit push) → accepts r xs push ≡ true
quiet_accepted r xs push q = ap (λ (run : List ℕ). leb (length run) r.capacity) (quiet_run r _ q) ∙ leb-zero r.capacity

-- nor is any with a limit
pub limit_accepts : (r : Rule) → 0 < r.limit → r.limit ≤ r.capacity → (xs push : List ℕ) → accepts r xs push ≡ true
limit_accepts r p h xs push = le-leb (length (selection r (xs ++ samples_of r.unit push)).run) r.capacity (omega (arith, run_limit r (xs ++ samples_of r.unit push) p))

-- ---- a list without its refused pushes
unfoldable pub kept_from : Rule → List ℕ → List (List ℕ) → List (List ℕ)
kept_from r xs [] = []
kept_from r xs (push ∷ pushes) = cond (accepts r xs push) (push ∷ kept_from r (accept r xs push) pushes) (kept_from r (accept r xs push) pushes)

abbrev pub kept : Rule → List (List ℕ) → List (List ℕ)
kept r pushes = kept_from r [] pushes

-- no push of the list is refused
abbrev pub NoneRefused : Rule → List ℕ → List (List ℕ) → Type 0
NoneRefused r xs pushes = (n : ℕ) → Memᴰ (refused n) (replies_from r xs pushes) → ⊥

told_accepted : (r : Rule) (xs : List ℕ) (n : ℕ) → refused n ≡ told r xs → ⊥
told_accepted r xs n = by (beside_of r xs).armed
  where
    go : (b c : Bool) → refused n ≡ cond b going_on (cond c complete going_on) → ⊥
    go true c e = let z : ◌≡◌ {A = ℕ} 0 1 = cc in omega arith
    go false true e = let z : ◌≡◌ {A = ℕ} 0 1 = cc in omega arith
    go false false e = let z : ◌≡◌ {A = ℕ} 0 1 = cc in omega arith

    by : (a : Armed) → refused n ≡ reply_of a r.limit (length (selection r xs).run) → ⊥
    by unarmed e = go (eqb r.limit 0) (eqb (length (selection r xs).run) r.limit) e
    by (waiting m) e = let z : ◌≡◌ {A = ℕ} 0 1 = cc in omega arith

-- an accepted push before a list
accepted_cons : (r : Rule) (xs push : List ℕ) (pushes : List (List ℕ)) → accepts r xs push ≡ true → accepted_from r xs (push ∷ pushes) ≡ accepted_from r (xs ++ samples_of r.unit push) pushes
unfolding accepted_from
accepted_cons r xs push pushes e = rw e

none_refused_cons : (r : Rule) (xs push : List ℕ) (pushes : List (List ℕ)) → accepts r xs push ≡ true → NoneRefused r (xs ++ samples_of r.unit push) pushes → NoneRefused r xs (push ∷ pushes)
unfolding replies_from
none_refused_cons r xs push pushes e h n l = go (Memᴰ.cases_cons (rw e at l))
  where
    go : (refused n ≡ told r (xs ++ samples_of r.unit push)) ⊎ Memᴰ (refused n) (replies_from r (xs ++ samples_of r.unit push) pushes) → ⊥
    go (inl q) = told_accepted r (xs ++ samples_of r.unit push) n q
    go (inr t) = h n t

module _ (r : Rule) where
  kept_from_lem : (pushes : List (List ℕ)) (xs : List ℕ) → accepted_from r xs (kept_from r xs pushes) ≡ accepted_from r xs pushes
  unfolding kept_from accepted_from
  kept_from_lem [] xs = refl
  kept_from_lem (push ∷ pushes) xs = go (accepts r xs push) refl (kept_from_lem pushes)
    where
      go : (b : Bool) → accepts r xs push ≡ b → ((ys : List ℕ) → accepted_from r ys (kept_from r ys pushes) ≡ accepted_from r ys pushes)
          → accepted_from r xs (cond b (push ∷ kept_from r (cond b (xs ++ samples_of r.unit push) xs) pushes) (kept_from r (cond b (xs ++ samples_of r.unit push) xs) pushes))
          ≡ accepted_from r (cond b (xs ++ samples_of r.unit push) xs) pushes
      go true e ih = accepted_cons r xs push (kept_from r (xs ++ samples_of r.unit push) pushes) e ∙ ih (xs ++ samples_of r.unit push)
      go false e ih = ih xs

  kept_none : (pushes : List (List ℕ)) (xs : List ℕ) → NoneRefused r xs (kept_from r xs pushes)
  unfolding kept_from replies_from
  kept_none [] xs = λ n l. Memᴰ.not-nil l
  kept_none (push ∷ pushes) xs = go (accepts r xs push) refl (kept_none pushes)
    where
      go : (b : Bool) → accepts r xs push ≡ b → ((ys : List ℕ) → NoneRefused r ys (kept_from r ys pushes))
          → NoneRefused r xs (cond b (push ∷ kept_from r (cond b (xs ++ samples_of r.unit push) xs) pushes) (kept_from r (cond b (xs ++ samples_of r.unit push) xs) pushes))
      go true e ih = none_refused_cons r xs push (kept_from r (xs ++ samples_of r.unit push) pushes) e (ih (xs ++ samples_of r.unit push))
      go false e ih = ih xs

  -- the run and the mark depend on the accepted pushes alone
  pub kept_accepted : (pushes : List (List ℕ)) → accepted r (kept r pushes) ≡ accepted r pushes
  kept_accepted pushes = kept_from_lem pushes []

  pub kept_run : (pushes : List (List ℕ)) → run_of r (kept r pushes) ≡ run_of r pushes
  kept_run pushes = ap (λ (xs : List ℕ). (selection r xs).run) (kept_accepted pushes)

  pub kept_mark : (pushes : List (List ℕ)) → mark_of r (kept r pushes) ≡ mark_of r pushes
  kept_mark pushes = ap (λ (xs : List ℕ). (selection r xs).mark) (kept_accepted pushes)

  pub kept_none_refused : (pushes : List (List ℕ)) → NoneRefused r [] (kept r pushes)
  kept_none_refused pushes = kept_none pushes []

  -- with a limit nothing is refused
  pub limit_none_refused : 0 < r.limit → r.limit ≤ r.capacity → (pushes : List (List ℕ)) (xs : List ℕ) → NoneRefused r xs pushes
  unfolding replies_from
  limit_none_refused p h [] xs = λ n l. Memᴰ.not-nil l
  limit_none_refused p h (push ∷ pushes) xs = none_refused_cons r xs push pushes (limit_accepts r p h xs push) (limit_none_refused p h pushes _)

-- ---- pushes with the same samples, as with a leftover byte or without it
module _ (r : Rule) (f : List ℕ → List ℕ) (same : (push : List ℕ) → samples_of r.unit (f push) ≡ samples_of r.unit push) where
  -- what one push adds, and what it is told
  alike_accept : (push xs : List ℕ) → accept r xs (f push) ≡ accept r xs push
  alike_accept push xs = ap (λ (vs : List ℕ). cond (leb (length (selection r (xs ++ vs)).run) r.capacity) (xs ++ vs) xs) (same push)

  alike_reply : (push xs : List ℕ) → reply_to r xs (f push) ≡ reply_to r xs push
  alike_reply push xs = ap (λ (vs : List ℕ). cond (leb (length (selection r (xs ++ vs)).run) r.capacity) (told r (xs ++ vs)) (refused 8)) (same push)

  alike_accepted : (pushes : List (List ℕ)) (xs : List ℕ) → accepted_from r xs (map f pushes) ≡ accepted_from r xs pushes
  unfolding accepted_from
  alike_accepted [] xs = refl
  alike_accepted (push ∷ pushes) xs = alike_accepted pushes (accept r xs (f push)) ∙ ap (λ (ys : List ℕ). accepted_from r ys pushes) (alike_accept push xs)

  alike_replies : (pushes : List (List ℕ)) (xs : List ℕ) → replies_from r xs (map f pushes) ≡ replies_from r xs pushes
  unfolding replies_from
  alike_replies [] xs = refl
  alike_replies (push ∷ pushes) xs =
      ap₂ (λ (a : Reply) (more : List Reply). a ∷ more) (alike_reply push xs)
      (alike_replies pushes (accept r xs (f push)) ∙ ap (λ (ys : List ℕ). replies_from r ys pushes) (alike_accept push xs))

module _ (r : Rule) (pos : 0 < r.unit) (pushes : List (List ℕ)) where
  -- "a leftover byte of each push dropped": it joins nothing
  pub leftover_accepted : accepted r (map (whole_of r.unit) pushes) ≡ accepted r pushes
  leftover_accepted = alike_accepted r (whole_of r.unit) (λ push. samples_whole r.unit push pos) pushes []

  pub leftover_replies : replies_of r (map (whole_of r.unit) pushes) ≡ replies_of r pushes
  leftover_replies = alike_replies r (whole_of r.unit) (λ push. samples_whole r.unit push pos) pushes []

-- ---- complete
-- "complete exactly when the recorder is unarmed, limit is above 0 and len = limit"
pub told_complete : (r : Rule) (xs : List ℕ) → (told r xs ≡ complete) ↔ (Steady r xs × (0 < r.limit) × (length (selection r xs).run ≡ r.limit))
told_complete r xs = (λ e. by (steady_or_quiet r xs) e, back)
  where
    n : ℕ
    n = length (selection r xs).run

    go : Steady r xs → (b : Bool) → eqb r.limit 0 ≡ b → (c : Bool) → eqb n r.limit ≡ c → cond b going_on (cond c complete going_on) ≡ complete → Steady r xs × (0 < r.limit) × (n ≡ r.limit)
    go s true eb c ec e = let z : ◌≡◌ {A = ℕ} 0 1 = cc in absurd (omega arith)
    go s false eb false ec e = let z : ◌≡◌ {A = ℕ} 0 1 = cc in absurd (omega arith)
    go s false eb true ec e = (s, omega (arith, eqb-false r.limit 0 eb), eqb-true n r.limit ec)

    by : Steady r xs ⊎ Quiet r xs → told r xs ≡ complete → Steady r xs × (0 < r.limit) × (n ≡ r.limit)
    by (inl s) e = go s (eqb r.limit 0) refl (eqb n r.limit) refl (rw (beside_unarmed r xs s) at e)
    by (inr q) e = let z : ◌≡◌ {A = ℕ} 0 1 = cc (beside_waits r xs q) in absurd (omega arith)

    back : Steady r xs × (0 < r.limit) × (n ≡ r.limit) → told r xs ≡ complete
    back t = rw (beside_unarmed r xs t.0, ne_eqb r.limit 0 (λ e. omega arith), eq-eqb n r.limit t.2)
