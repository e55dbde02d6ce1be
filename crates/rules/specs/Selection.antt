-- The run and the mark that a list of pushes makes. 01: Selection and recorder; Lists of pushes.
use Rattle.std.specs.Prelude.{Bool, cond, List, [], ◌∷◌, ◌++◌, ℕ, ◌-◌, ◌%◌, min, ltb, leb, eqb, length, take, drop, get_or}
use Rattle.std.specs.Prelude.{Option, None, Some}
use Rattle.rules.specs.Sample.{unit_of, samples_of}
use Rattle.rules.specs.Pretrigger.{Pretrigger, Pre, pre_for}
use Rattle.rules.specs.Trigger.{Masks, Term, Armed, unarmed, waiting, armed_of, first_fire, last_of}

-- "Its settings are what start was given."
pub record Settings : Type 0 where
  pub channels : ℕ
  pub capacity : ℕ
  pub limit : ℕ
  pub terms : List Term
  pub wish : Pretrigger
  pub rate : ℕ

-- what pushes go by
pub record Rule : Type 0 where
  pub unit : ℕ
  pub capacity : ℕ
  pub limit : ℕ
  pub pre : ℕ
  pub armed : Armed

-- "pre (samples kept before the trigger)" (01, Records), and whether the cap cut it
abbrev pub pre_wish : Settings → Pre
pre_wish st = pre_for st.wish st.limit st.rate (unit_of st.channels)

abbrev pub pre_of : Settings → ℕ
pre_of st = (pre_wish st).samples

abbrev pub rule_of : Settings → Rule
rule_of st = record {
  unit = unit_of st.channels;
  capacity = st.capacity;
  limit = st.limit;
  pre = pre_of st;
  armed = armed_of st.terms;
}

pub record Selected : Type 0 where
  pub run : List ℕ
  pub mark : Option ℕ

-- "the run starts at T − min(T, pre), the mark is min(T, pre)"
abbrev pub fired_at : ℕ → ℕ → List ℕ → Selected
fired_at pre t xs = record { run = drop (t - min t pre) xs; mark = Some (min t pre) }

-- "no T, empty run and no mark"
abbrev pub not_fired : Selected
not_fired = record { run = []; mark = None }

-- "without terms the run is all of them, with no mark; with terms and T the first firing place, .."
unfoldable pub chosen : Armed → ℕ → List ℕ → Selected
chosen unarmed pre xs = record { run = xs; mark = None }
chosen (waiting m) pre xs = cond (ltb (first_fire m None xs) (length xs)) (fired_at pre (first_fire m None xs) xs) not_fired

-- "Limit above 0 keeps the run's first limit samples."
abbrev pub limited : ℕ → List ℕ → List ℕ
limited limit run = cond (eqb limit 0) run (take limit run)

-- the selection from all samples of the accepted pushes, xs
unfoldable pub selection : Rule → List ℕ → Selected
selection r xs = record { run = limited r.limit (chosen r.armed r.pre xs).run; mark = (chosen r.armed r.pre xs).mark }

-- ---- lists of pushes; xs are the samples that the accepted ones so far brought
-- "A push is accepted exactly when the run taken from the accepted ones before it and itself together has at most capacity samples"
abbrev pub accepts : Rule → List ℕ → List ℕ → Bool
accepts r xs push = leb (length (selection r (xs ++ samples_of r.unit push)).run) r.capacity

-- "otherwise it is refused with 8 and adds nothing"
abbrev pub accept : Rule → List ℕ → List ℕ → List ℕ
accept r xs push = cond (accepts r xs push) (xs ++ samples_of r.unit push) xs

unfoldable pub accepted_from : Rule → List ℕ → List (List ℕ) → List ℕ
accepted_from r xs [] = xs
accepted_from r xs (push ∷ pushes) = accepted_from r (accept r xs push) pushes

-- the whole samples of the accepted pushes, in order
abbrev pub accepted : Rule → List (List ℕ) → List ℕ
accepted r pushes = accepted_from r [] pushes

-- "The run is what 01's selection rule takes from the accepted pushes of the list."
abbrev pub run_of : Rule → List (List ℕ) → List ℕ
run_of r pushes = (selection r (accepted r pushes)).run

abbrev pub mark_of : Rule → List (List ℕ) → Option ℕ
mark_of r pushes = (selection r (accepted r pushes)).mark

-- ---- what a recorder holds beside its store, once samples xs were accepted
pub record Beside : Type 0 where
  pub armed : Armed
  pub previous : Option ℕ
  pub place : ℕ
  pub kept : ℕ

-- "the armed sample numbered k, from 0, goes to slot k mod pre (none if pre = 0)" (01, Records)
abbrev pub slot_of : ℕ → ℕ → ℕ
slot_of pre k = cond (eqb pre 0) 0 (k % pre)

-- "unarmed pushes change none of the three": previous sample, ring place and kept count are start's
abbrev pub never_armed : Beside
never_armed = record { armed = unarmed; previous = None; place = 0; kept = 0 }

-- while it waits: the next slot, and "kept count (at most pre)" (01, Records)
abbrev pub still_armed : Masks → ℕ → List ℕ → Beside
still_armed m pre xs = record { armed = waiting m; previous = last_of None xs; place = slot_of pre (length xs); kept = min (length xs) pre }

-- "Firing keeps the firing sample as the previous one and sets kept count and ring place to 0"
abbrev pub fired_on : ℕ → Beside
fired_on v = record { armed = unarmed; previous = Some v; place = 0; kept = 0 }

abbrev pub beside_for : Armed → ℕ → List ℕ → Beside
beside_for unarmed pre xs = never_armed
beside_for (waiting m) pre xs =
    cond (ltb (first_fire m None xs) (length xs)) (fired_on (get_or xs (first_fire m None xs) 0)) (still_armed m pre xs)

abbrev pub beside_of : Rule → List ℕ → Beside
beside_of r xs = beside_for r.armed r.pre xs

-- ---- what a push answers
pub data Reply : Type 0 where
  refused : ℕ → Reply
  going_on complete : Reply

-- "complete exactly when the recorder is unarmed, limit is above 0 and len = limit; else going on"
abbrev pub reply_of : Armed → ℕ → ℕ → Reply
reply_of unarmed limit len = cond (eqb limit 0) going_on (cond (eqb len limit) complete going_on)
reply_of (waiting m) limit len = going_on

-- once samples xs were accepted
abbrev pub told : Rule → List ℕ → Reply
told r xs = reply_of (beside_of r xs).armed r.limit (length (selection r xs).run)

abbrev pub reply_to : Rule → List ℕ → List ℕ → Reply
reply_to r xs push = cond (accepts r xs push) (told r (xs ++ samples_of r.unit push)) (refused 8)

unfoldable pub replies_from : Rule → List ℕ → List (List ℕ) → List Reply
replies_from r xs [] = []
replies_from r xs (push ∷ pushes) = reply_to r xs push ∷ replies_from r (accept r xs push) pushes

abbrev pub replies_of : Rule → List (List ℕ) → List Reply
replies_of r pushes = replies_from r [] pushes
