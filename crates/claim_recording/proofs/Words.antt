-- The run of pushes of bytes has samples of their unit.
use mathlib.Core.Bool.{Bool, true, false, cond}
use mathlib.Core.List.{List, [], ◌∷◌}
use Rattle.std.specs.Prelude.{None}
use Prim.Native.Nat.{ℕ, ◌-◌, min}
use lib.Dec.{ltb, eqb}
use lib.ListN.{length, take}
use Rattle.rules.specs.Trigger.{Armed, unarmed, waiting, first_fire}
use Rattle.rules.specs.Selection.{Rule, fired_at, not_fired, chosen, limited, selection, accepts, accept, accepted_from, run_of}
use Rattle.claim_captures.specs.Words.{AreBytes}
use Rattle.claim_captures.proofs.Words.{WordList, no_words, words_take, words_drop, words_taken}

-- what is selected is a part of what was accepted
chosen_words : (u : ℕ) (a : Armed) (pre : ℕ) (xs : List ℕ) → WordList u xs → WordList u (chosen a pre xs).run
unfolding chosen
chosen_words u unarmed pre xs h = h
chosen_words u (waiting m) pre xs h = go (ltb t (length xs))
  where
    t : ℕ
    t = first_fire m None xs

    go : (b : Bool) → WordList u (cond b (fired_at pre t xs) not_fired).run
    go true = words_drop u (t - min t pre) xs h
    go false = no_words u

limited_words : (u limit : ℕ) (run : List ℕ) → WordList u run → WordList u (limited limit run)
limited_words u limit run h = go (eqb limit 0)
  where
    go : (b : Bool) → WordList u (cond b run (take limit run))
    go true = h
    go false = words_take u limit run h

module _ (r : Rule) where
  accepted_words : (xs : List ℕ) → WordList r.unit xs → (pushes : List (List ℕ)) → AreBytes pushes → WordList r.unit (accepted_from r xs pushes)
  unfolding accepted_from
  accepted_words xs h [] are = h
  accepted_words xs h (push ∷ pushes) are = accepted_words (accept r xs push) (words_taken r.unit xs push h are.0 (accepts r xs push)) pushes are.1

  pub run_words : (pushes : List (List ℕ)) → AreBytes pushes → WordList r.unit (run_of r pushes)
  unfolding selection
  run_words pushes are = limited_words r.unit r.limit _ (chosen_words r.unit r.armed r.pre _ (accepted_words [] (no_words r.unit) pushes are))
