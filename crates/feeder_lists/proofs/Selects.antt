-- Whatever the ring's memory holds, what a list of pushes leaves is 01's selection, and so is each answer.
use mathlib.Core.Path.{◌≡◌, refl, sym, ap, ap₂, ◌∙◌, subst⁻¹}
use mathlib.Core.Bool.{Bool, true, false, cond}
use mathlib.Core.List.{List, [], ◌∷◌, ◌++◌, append_assoc, append-nil}
use mathlib.Core.Logic.{◌⊎◌, inl, inr}
use Rattle.std.specs.Prelude.{Option, None, Some}
use Prim.Native.Nat.{ℕ, ◌+◌, ◌-◌, ◌%◌, ◌≤◌, ◌<◌, min}
use native.Mathlib.Nat.{zero-add}
use native.Mathlib.Decide.{dec_lt}
use native.Mathlib.Omega.{arith}
use lib.Dec.{ltb, leb, eqb, leb-zero}
use borrow.Author.Tests.{ltb-true, ltb-false}
use lib.ListN.{length, take, drop, get_or, length-take, length-append, take-append-drop}
use lib.Seq.{drop-append-le, take_all, take-append-le, take-append-add, get_or-append-add}
use Rattle.rules.specs.Ring.{place_after}
use Rattle.rules.specs.Push.{room_for}
use Rattle.rules.specs.Sample.{samples_of}
use Rattle.rules.specs.Trigger.{Masks, Armed, unarmed, first_fire, last_of}
use Rattle.rules.specs.Selection.{Rule, Selected, fired_at, chosen, limited, selection, accepted_from, accepted, run_of, mark_of, Beside, slot_of, still_armed, fired_on, beside_for, beside_of, Reply, refused, going_on, reply_of, told, replies_from, replies_of}
use Rattle.rules.proofs.Trigger.{fire_le, fire_later, last_append}
use Rattle.rules.proofs.Selection.{chosen_by, chosen_fired, Steady, without_terms, has_fired, Quiet, steady_or_quiet, steady_longer, steady_stays, quiet_chosen, beside_waits, beside_fired, beside_unarmed, beside_stays, limited_none, quiet_run, run_first}
use Rattle.feeder_lists.specs.Ring.{ending, ring_after, read_out}
use Rattle.feeder_lists.specs.Step.{State, Done, with_more, more_of, len_with, storing, fired, head_of, waited, firing, taken, step, steps, replies, fresh}
use Rattle.feeder_lists.proofs.Ring.{ending_again, none_of_length, Turns, read_all, read_length}
use Rattle.feeder_lists.proofs.Slots.{ring_append, place_append, place_slot, slot}

-- ---- storing under the limit
pub take_append : (n : ℕ) (xs ys : List ℕ) → take n (xs ++ ys) ≡ take n xs ++ take (n - length xs) ys
take_append n xs ys = go (dec_lt (length xs) n)
  where
    go : Dec (length xs < n) → take n (xs ++ ys) ≡ take n xs ++ take (n - length xs) ys
    go (yes h) = ap (λ (k : ℕ). take k (xs ++ ys)) past ∙ take-append-add xs ys (n - length xs) ∙ ap (λ (x : List ℕ). x ++ take (n - length xs) ys) (sym (take_all n xs (omega arith)))
      where
        past : n ≡ length xs + (n - length xs)
        past = omega arith
    go (no h) = take-append-le n xs ys (omega arith) ∙ sym (ap (λ (k : ℕ). take n xs ++ take k ys) zero_left ∙ append-nil (take n xs))
      where
        zero_left : n - length xs ≡ 0
        zero_left = omega arith

take_min : (k : ℕ) (xs : List ℕ) → take (min (length xs) k) xs ≡ take k xs
take_min k xs = go (dec_lt k (length xs))
  where
    go : Dec (k < length xs) → take (min (length xs) k) xs ≡ take k xs
    go (yes h) = ap (λ (n : ℕ). take n xs) less
      where
        less : min (length xs) k ≡ k
        less = omega arith
    go (no h) = take_all (min (length xs) k) xs (omega arith) ∙ sym (take_all k xs (omega arith))

-- storing more under the limit is limiting the longer run
pub limited_more : (limit : ℕ) (run p : List ℕ) → limited limit run ++ take (room_for limit (length (limited limit run)) (length p)) p ≡ limited limit (run ++ p)
limited_more limit run p = go (eqb limit 0)
  where
    go : (b : Bool) → cond b run (take limit run) ++ take (cond b (length p) (min (length p) (limit - length (cond b run (take limit run))))) p ≡ cond b (run ++ p) (take limit (run ++ p))
    go true = ap (λ (x : List ℕ). run ++ x) (take_all (length p) p (omega arith))
    go false = ap (λ (x : List ℕ). take limit run ++ x) (take_min (limit - length (take limit run)) p ∙ ap (λ (k : ℕ). take k p) left) ∙ sym (take_append limit run p)
      where
        left : limit - length (take limit run) ≡ limit - length run
        left = simp length-take (omega arith)

pub room_le : (limit len n : ℕ) → room_for limit len n ≤ n
room_le limit len n = go (eqb limit 0)
  where
    go : (b : Bool) → cond b n (min n (limit - len)) ≤ n
    go true = omega arith
    go false = omega arith

-- ---- acceptance, over samples
abbrev fits : Rule → List ℕ → Bool
fits r zs = leb (length (selection r zs).run) r.capacity

abbrev after : Rule → List ℕ → List ℕ → List ℕ
after r xs p = cond (fits r (xs ++ p)) (xs ++ p) xs

abbrev reply_for : Rule → List ℕ → List ℕ → Reply
reply_for r xs p = cond (fits r (xs ++ p)) (told r (xs ++ p)) (refused 8)

-- a store that makes the selection of zs
module _ (r : Rule) (back s : State) (ys zs : List ℕ) (is : s.armed ≡ unarmed) (steady : Steady r zs) (whole : s.stored ++ more_of r s ys ≡ (selection r zs).run) where
  store_length : len_with r (length s.stored) (length ys) ≡ length (selection r zs).run
  store_length = sym with_more_lem ∙ ap length whole
    where
      with_more_lem : length (s.stored ++ more_of r s ys) ≡ len_with r (length s.stored) (length ys)
      with_more_lem = simp (length-append, length-take) (omega (arith, room_le r.limit (length s.stored) (length ys)))

  store_is : storing r back s ys ≡ cond (fits r zs) (record { reply = told r zs; state = with_more s (more_of r s ys) }) (record { reply = refused 8; state = back })
  unfolding storing
  store_is =
      rw store_length
      (ap (λ (a : Armed). cond (fits r zs) (record { reply = reply_of a r.limit (length (selection r zs).run); state = with_more s (more_of r s ys) }) (record { reply = refused 8; state = back })) (is ∙ sym (beside_unarmed r zs steady)))

-- ---- the invariant, over the samples of the accepted pushes
-- armed, and none has fired: all have been written into g, the ring's memory at the start
pub record Waits (r : Rule) (g xs : List ℕ) (s : State) : Type 0 where
  pub quiet : Quiet r xs
  pub armed : s.armed ≡ r.armed
  pub previous : s.previous ≡ last_of None xs
  pub ring : s.ring ≡ ring_after r.pre g 0 xs
  pub place : s.place ≡ place_after r.pre 0 (length xs)
  pub kept : s.kept ≡ min r.pre (length xs)
  pub stored : s.stored ≡ []
  pub mark : s.mark ≡ None

-- what a state has beside its store
abbrev pub beside_state : State → Beside
beside_state s = record { armed = s.armed; previous = s.previous; place = s.place; kept = s.kept }

-- unarmed: more samples only make the run longer. The ring is not read again, and nothing is said of it.
pub record Stores (r : Rule) (xs : List ℕ) (s : State) : Type 0 where
  pub steady : Steady r xs
  pub armed : s.armed ≡ unarmed
  pub beside : beside_state s ≡ beside_of r xs
  pub stored : s.stored ≡ (selection r xs).run
  pub mark : s.mark ≡ (selection r xs).mark

pub data Holds (r : Rule) (g xs : List ℕ) (s : State) : Type 0 where
  waits : Waits r g xs s → Holds r g xs s
  stores : Stores r xs s → Holds r g xs s

-- what one push has to do
record Did (r : Rule) (g xs p : List ℕ) (d : Done) : Type 0 where
  holds : Holds r g (after r xs p) d.state
  reply : d.reply ≡ reply_for r xs p

settle : (r : Rule) (g xs p : List ℕ) (s s' : State) → Holds r g xs s → Holds r g (xs ++ p) s'
    → Did r g xs p (cond (fits r (xs ++ p)) (record { reply = told r (xs ++ p); state = s' }) (record { reply = refused 8; state = s }))
settle r g xs p s s' h h' = go (fits r (xs ++ p)) refl
  where
    go : (b : Bool) → fits r (xs ++ p) ≡ b → Did r g xs p (cond b (record { reply = told r (xs ++ p); state = s' }) (record { reply = refused 8; state = s }))
    go true e = record { holds = rw e h'; reply = rw e }
    go false e = record { holds = rw e h; reply = rw e }

-- ---- an unarmed push
module _ (r : Rule) (g xs : List ℕ) (s : State) (o : Stores r xs s) (p : List ℕ) where
  more_run : s.stored ++ more_of r s p ≡ (selection r (xs ++ p)).run
  unfolding selection
  more_run =
      ap (λ (y : List ℕ). y ++ take (room_for r.limit (length y) (length p)) p) o.stored
      ∙ limited_more r.limit (chosen_by r xs).run p
      ∙ ap (λ (c : Selected). limited r.limit c.run) (sym (steady_longer r xs p o.steady))

  more_mark : s.mark ≡ (selection r (xs ++ p)).mark
  unfolding selection
  more_mark = o.mark ∙ ap (λ (c : Selected). c.mark) (sym (steady_longer r xs p o.steady))

  store_push : Did r g xs p (step r s p)
  unfolding step
  store_push =
      subst⁻¹ (λ (a : Armed). Did r g xs p (taken a r s p)) o.armed
      (rw (store_is r s s p (xs ++ p) o.armed (steady_stays r xs p o.steady) more_run) (settle r g xs p s _ (stores o) (stores more_stored)))
    where
      more_stored : Stores r (xs ++ p) (with_more s (more_of r s p))
      more_stored = record {
        steady = steady_stays r xs p o.steady;
        armed = o.armed;
        beside = o.beside ∙ sym (beside_stays r xs p o.steady);
        stored = more_run;
        mark = more_mark;
      }

-- ---- an armed push
module _ (r : Rule) (g xs : List ℕ) (room : r.pre ≤ length g) (s : State) (w : Waits r g xs s) (p : List ℕ) where
  abbrev m : Masks
  m = w.quiet.masks

  -- the ring holds the last of the samples
  read : read_out r.pre s.ring s.place s.kept ≡ ending r.pre xs
  read =
      rw (w.ring, w.place, w.kept ∙ ap (min r.pre) (sym (zero-add (length xs))))
      (read_all r.pre xs g 0 0 at_start ∙ ap (λ (x : List ℕ). ending r.pre (x ++ xs)) (none_of_length (read_out r.pre g 0 0) (read_length r.pre g 0 0 at_start)))
    where
      at_start : Turns r.pre g 0 0
      at_start = record { place_in = omega arith; kept_in = omega arith; room = room }

  abbrev i : ℕ
  i = first_fire m s.previous p

  -- the first firing place of all
  place_is : first_fire m None (xs ++ p) ≡ length xs + i
  place_is = fire_later m None xs p w.quiet.none_fires ∙ ap (λ (q : Option ℕ). length xs + first_fire m q p) (sym w.previous)

  -- none fires
  module _ (nowhere : length p ≤ i) where
    still_quiet : Quiet r (xs ++ p)
    still_quiet = record { masks = m; armed = w.quiet.armed; none_fires = place_is ∙ simp length-append (omega (arith, fire_le m s.previous p)) }

    wait_after : Waits r g (xs ++ p) (waited r s p)
    wait_after = record {
      quiet = still_quiet;
      armed = w.armed;
      previous = ap (λ (q : Option ℕ). last_of q p) w.previous ∙ sym (last_append None xs p);
      ring = ap₂ (λ (x : List ℕ) (y : ℕ). ring_after r.pre x y p) w.ring w.place ∙ sym (ring_append r.pre xs p g 0);
      place = ap (λ (x : ℕ). place_after r.pre x (length p)) w.place ∙ sym (place_append r.pre (length xs) (length p) 0) ∙ ap (place_after r.pre 0) (sym (length-append xs p));
      kept = simp length-append (omega (arith, w.kept));
      stored = w.stored;
      mark = w.mark;
    }

    wait_push : Did r g xs p (record { reply = going_on; state = waited r s p })
    wait_push = record { holds = rw fitting (waits wait_after); reply = rw (fitting, beside_waits r (xs ++ p) still_quiet) }
      where
        fitting : fits r (xs ++ p) ≡ true
        fitting = rw (quiet_run r (xs ++ p) still_quiet) (leb-zero r.capacity)

  -- sample i of the push fires
  module _ (inside : i < length p) where
    abbrev all : List ℕ
    all = xs ++ p

    abbrev at : ℕ
    at = length xs + i

    now_steady : Steady r all
    now_steady = has_fired m w.quiet.armed (rw place_is (simp length-append (omega arith)))

    chosen_now : chosen_by r all ≡ fired_at r.pre at all
    chosen_now = chosen_fired r.armed m r.pre at all w.quiet.armed place_is (simp length-append (omega arith))

    -- what goes to the store
    head_is : head_of r s p i ++ drop i p ≡ drop (at - min at r.pre) all
    head_is =
        ap (λ (x : List ℕ). ending r.pre (x ++ take i p) ++ drop i p) read
        ∙ ap (λ (x : List ℕ). x ++ drop i p) (ending_again r.pre xs (take i p))
        ∙ sym (drop-append-le (length (xs ++ take i p) - r.pre) (xs ++ take i p) (drop i p) (omega arith))
        ∙ ap (drop (length (xs ++ take i p) - r.pre)) (append_assoc xs (take i p) (drop i p) ∙ ap (λ (x : List ℕ). xs ++ x) (take-append-drop i p))
        ∙ ap (λ (k : ℕ). drop k all) count
      where
        count : length (xs ++ take i p) - r.pre ≡ at - min at r.pre
        count = simp (length-append, length-take) (omega arith)

    fired_run : s.stored ++ more_of r (fired r s p i) (head_of r s p i ++ drop i p) ≡ (selection r all).run
    unfolding selection
    fired_run =
        ap (λ (y : List ℕ). y ++ take (room_for r.limit (length y) (length (head_of r s p i ++ drop i p))) (head_of r s p i ++ drop i p)) (w.stored ∙ sym (limited_none r.limit))
        ∙ limited_more r.limit [] (head_of r s p i ++ drop i p)
        ∙ ap (limited r.limit) head_is
        ∙ ap (λ (c : Selected). limited r.limit c.run) (sym chosen_now)

    fired_mark : Some (min r.pre (s.kept + i)) ≡ (selection r all).mark
    unfolding selection
    fired_mark = ap {B = Option ℕ} Some mark_is ∙ ap (λ (c : Selected). c.mark) (sym chosen_now)
      where
        mark_is : min r.pre (s.kept + i) ≡ min at r.pre
        mark_is = omega (arith, w.kept)

    -- "Firing keeps the firing sample as the previous one and sets kept count and ring place to 0"
    fired_beside : beside_state (fired r s p i) ≡ beside_of r all
    fired_beside =
        ap fired_on (sym (get_or-append-add xs p i 0))
        ∙ ap (λ (k : ℕ). fired_on (get_or all k 0)) (sym place_is)
        ∙ sym (beside_fired r all m w.quiet.armed (rw place_is (simp length-append (omega arith))))

    fire_push : Did r g xs p (storing r s (fired r s p i) (head_of r s p i ++ drop i p))
    fire_push =
        rw (store_is r s (fired r s p i) (head_of r s p i ++ drop i p) all refl now_steady fired_run)
        (settle r g xs p s _ (waits w) (stores (record { steady = now_steady; armed = refl; beside = fired_beside; stored = fired_run; mark = fired_mark })))

  armed_push : Did r g xs p (step r s p)
  unfolding step
  armed_push = subst⁻¹ (λ (a : Armed). Did r g xs p (taken a r s p)) (w.armed ∙ w.quiet.armed) (go (ltb i (length p)) refl)
    where
      go : (b : Bool) → ltb i (length p) ≡ b → Did r g xs p (firing r s p i)
      go true e = rw e (fire_push (ltb-true _ _ e))
      go false e = rw e (wait_push (ltb-false _ _ e))

one_push : (r : Rule) (g xs : List ℕ) → r.pre ≤ length g → (s : State) → Holds r g xs s → (p : List ℕ) → Did r g xs p (step r s p)
one_push r g xs room s (waits w) p = armed_push r g xs room s w p
one_push r g xs room s (stores o) p = store_push r g xs s o p

-- ---- whole lists
module _ (r : Rule) (g : List ℕ) (room : r.pre ≤ length g) where
  pub all_hold : (pushes : List (List ℕ)) (xs : List ℕ) (s : State) → Holds r g xs s → Holds r g (accepted_from r xs pushes) (steps r s pushes)
  unfolding accepted_from steps
  all_hold [] xs s h = h
  all_hold (push ∷ pushes) xs s h = all_hold pushes _ _ (one_push r g xs room s h (samples_of r.unit push)).holds

  pub all_replies : (pushes : List (List ℕ)) (xs : List ℕ) (s : State) → Holds r g xs s → replies r s pushes ≡ replies_from r xs pushes
  unfolding replies replies_from
  all_replies [] xs s h = refl
  all_replies (push ∷ pushes) xs s h =
      ap₂ (λ (a : Reply) (more : List Reply). a ∷ more) (one_push r g xs room s h (samples_of r.unit push)).reply
      (all_replies pushes _ _ (one_push r g xs room s h (samples_of r.unit push)).holds)

last_none : ◌≡◌ {A = Option ℕ} None (last_of None [])
unfolding last_of
last_none = refl

ring_none : (pre : ℕ) (g : List ℕ) → g ≡ ring_after pre g 0 []
unfolding ring_after
ring_none pre g = refl

place_none : (pre : ℕ) → 0 ≡ place_after pre 0 0
unfolding place_after
place_none pre = refl

mark_first : (r : Rule) → Steady r [] → None ≡ (selection r []).mark
unfolding selection chosen
mark_first r (without_terms e) = rw e
mark_first r (has_fired m e h) = absurd (omega arith)

pub fresh_holds : (r : Rule) (g : List ℕ) → Holds r g [] (fresh r g)
fresh_holds r g = go (steady_or_quiet r [])
  where
    go : Steady r [] ⊎ Quiet r [] → Holds r g [] (fresh r g)
    go (inl s) = stores (record { steady = s; armed = is s; beside = none_beside; stored = sym (run_first r); mark = mark_first r s })
      where
        is : Steady r [] → r.armed ≡ unarmed
        is (without_terms e) = e
        is (has_fired m e h) = absurd (omega arith)

        none_beside : beside_state (fresh r g) ≡ beside_of r []
        none_beside = ap (λ (a : Armed). record { armed = a; previous = None; place = 0; kept = 0 }) (is s) ∙ sym (ap (λ (a : Armed). beside_for a r.pre []) (is s))
    go (inr q) = waits (record { quiet = q; armed = refl; previous = last_none; ring = ring_none r.pre g; place = place_none r.pre; kept = omega arith; stored = refl; mark = refl })

-- ---- what the invariant says of the store
module _ (r : Rule) (g xs : List ℕ) (s : State) where
  pub holds_run : Holds r g xs s → s.stored ≡ (selection r xs).run
  holds_run (waits w) = w.stored ∙ sym (quiet_run r xs w.quiet)
  holds_run (stores o) = o.stored

  pub holds_mark : Holds r g xs s → s.mark ≡ (selection r xs).mark
  unfolding selection
  holds_mark (waits w) = w.mark ∙ sym (ap (λ (c : Selected). c.mark) (quiet_chosen r xs w.quiet))
  holds_mark (stores o) = o.mark

  pub holds_beside : Holds r g xs s → beside_state s ≡ beside_of r xs
  holds_beside (waits w) = held ∙ sym (beside_waits r xs w.quiet)
    where
      place_is : s.place ≡ slot_of r.pre (length xs)
      place_is = w.place ∙ place_slot r.pre (length xs)

      kept_is : s.kept ≡ min (length xs) r.pre
      kept_is = omega (arith, w.kept)

      held : beside_state s ≡ still_armed w.quiet.masks r.pre xs
      held = cc (w.armed, w.quiet.armed, w.previous, place_is, kept_is)
  holds_beside (stores o) = o.beside

-- ---- the claim
pub record Selects (r : Rule) (pushes : List (List ℕ)) (s : State) (said : List Reply) : Type 0 where
  pub run : s.stored ≡ run_of r pushes
  pub mark : s.mark ≡ mark_of r pushes
  pub beside : beside_state s ≡ beside_of r (accepted r pushes)
  pub replies : said ≡ replies_of r pushes

pub selects : (r : Rule) (g : List ℕ) → r.pre ≤ length g → (pushes : List (List ℕ)) → Selects r pushes (steps r (fresh r g) pushes) (replies r (fresh r g) pushes)
selects r g room pushes = record {
  run = holds_run r g (accepted r pushes) _ (all_hold r g room pushes [] (fresh r g) (fresh_holds r g));
  mark = holds_mark r g (accepted r pushes) _ (all_hold r g room pushes [] (fresh r g) (fresh_holds r g));
  beside = holds_beside r g (accepted r pushes) _ (all_hold r g room pushes [] (fresh r g) (fresh_holds r g));
  replies = all_replies r g room pushes [] (fresh r g) (fresh_holds r g);
}

-- while it waits, sample k of those accepted stands in slot k mod pre
pub in_slot : (r : Rule) (g xs : List ℕ) → r.pre ≤ length g → (s : State) → Waits r g xs s → (k : ℕ) → 0 < r.pre → k < length xs → length xs ≤ k + r.pre → get_or s.ring (k % r.pre) 0 ≡ get_or xs k 0
in_slot r g xs room s w k p h l =
    ap (λ (x : List ℕ). get_or x (k % r.pre) 0) w.ring
    ∙ ap (λ (j : ℕ). get_or (ring_after r.pre g 0 xs) (j % r.pre) 0) (sym (zero-add k))
    ∙ slot r.pre xs g 0 k p room h l
