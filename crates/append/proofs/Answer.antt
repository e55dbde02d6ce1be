-- Laws of the answer: which row refuses, and the record of equations in each case.
use Prim.Native.Nat.{ℕ, ◌+◌, ◌*◌, ◌≤◌, ◌<◌}
use mathlib.Core.Path.{◌≡◌, refl, sym, ap, ◌∙◌, subst⁻¹}
use mathlib.Core.Bool.{Bool, false, cond}
use mathlib.Core.List.{List, [], ◌∷◌}
use mathlib.Core.Logic.{◌↔◌}
use native.Mathlib.Nat.{div-mul-le_self}
use native.Mathlib.Omega.{arith}
use lib.Dec.{ltb}
use lib.ListN.{length}
use borrow.Author.Tests.{le-ltb, lt-ltb, eq-eqb, ne_eqb, ltb-false}
use Rattle.rules.specs.Sample.{sample_count}
use Rattle.rules.specs.Refusal.{Row, first_of, store_rows, store_refusal}
use Rattle.rules.proofs.Refusal.{Sound, MarkInside, rows_passed, row_passed}
use Rattle.store.specs.Stored.{Stored}
use Rattle.store.specs.Room.{AppendRoom}
use Rattle.store.proofs.Fits.{sound_room}
use Rattle.store.proofs.Stored.{stored_none}
use Rattle.capture.specs.declared.Capture.{Capture}
use Rattle.node.specs.declared.Memory.{Memory}
use Rattle.capture.specs.Record.{store_of, lent_of, lent_in}
use Rattle.capture.proofs.Answer.{rows_refuse, rows_decide}
use Rattle.std.specs.Prelude.{Ok, Err}
use Rattle.answer.specs.declared.Refusal.{Refusal}
use Rattle.answer.specs.Answered.{number}
use Rattle.answer.proofs.Answered.{number_least, stops, goes}
use Rattle.append.specs.Append.{grown, refusal_of, taken_of, Appends}

pub whole_bytes : (unit : ℕ) (bytes : List ℕ) → sample_count unit bytes * unit ≤ length bytes
whole_bytes unit bytes = div-mul-le_self (length bytes) unit

-- the row of an append alone
abbrev row_8 : Capture → List ℕ → List Row
row_8 c b = record { number = 8; holds = ltb c.capacity (c.len + sample_count c.unitsize b) } ∷ []

-- what rows 1 and 2 say of memory, known to be this
pub rows_of : (c : Capture) {n : ℕ} {m m' : Memory} → n ≡ store_refusal (store_of c) (lent_in m) → m ≡ m' → n ≡ store_refusal (store_of c) (lent_in m')
rows_of c e p = e ∙ ap (λ (m : Memory). store_refusal (store_of c) (lent_in m)) p

module _ (c : Capture) (b s : List ℕ) (lv : ℕ → List ℕ) where
  pub room_of : Sound (store_of c) (lent_of s lv) → c.len + sample_count c.unitsize b ≤ c.capacity → AppendRoom c.unitsize c.len (sample_count c.unitsize b) (length s) lv (length b)
  room_of d h = record { room = sound_room (store_of c) s lv (sample_count c.unitsize b) d h; bytes = whole_bytes c.unitsize b }

  -- ---- which row refuses
  -- 1 or 2 comes first
  pub refused_first : (r : Refusal) → number r ≡ store_refusal (store_of c) (lent_of s lv) → number r ≡ refusal_of c s lv b
  unfolding refusal_of
  refused_first r e = rows_refuse (store_of c) (lent_of s lv) (row_8 c b) e (λ z. omega (arith, number_least r))

  module _ (e : 0 ≡ store_refusal (store_of c) (lent_of s lv)) where
    pub refused_full : c.capacity < c.len + sample_count c.unitsize b → 8 ≡ refusal_of c s lv b
    unfolding refusal_of
    refused_full h = rows_decide (store_of c) (lent_of s lv) (row_8 c b) e refl 8 (simp (lt-ltb _ _ h))

    pub refused_none : c.len + sample_count c.unitsize b ≤ c.capacity → 0 ≡ refusal_of c s lv b
    unfolding refusal_of
    refused_none h = rows_decide (store_of c) (lent_of s lv) (row_8 c b) e refl 0 (simp (le-ltb _ _ h))

  -- ---- the equations
  pub taken_none : (refusal_of c s lv b ≡ 0 → ⊥) → taken_of c s lv b ≡ 0
  unfolding taken_of
  taken_none z = rw (ne_eqb (refusal_of c s lv b) 0 z)

  pub taken_all : refusal_of c s lv b ≡ 0 → taken_of c s lv b ≡ sample_count c.unitsize b
  unfolding taken_of
  taken_all e = ap (λ (t : Bool). cond t (sample_count c.unitsize b) 0) (eq-eqb (refusal_of c s lv b) 0 e)

  pub appends_refused : (r : Refusal) → number r ≡ refusal_of c s lv b → Appends c b s lv (Err r) s lv
  appends_refused r e = record {
    answer_is = stops r _ _ e;
    number_is = e;
    record_is = λ i. record { unitsize = c.unitsize; capacity = c.capacity; len = same i; trigger = c.trigger };
    memory = stored_none c.unitsize c.len (taken_of c s lv b) b s lv none;
  }
    where
      none : taken_of c s lv b ≡ 0
      none = taken_none (λ y. omega (arith, number_least r))

      same : c.len ≡ c.len + taken_of c s lv b
      same = omega (arith, none)

  pub appends_done : 0 ≡ refusal_of c s lv b → (s' : List ℕ) (lv' : ℕ → List ℕ) → Stored c.unitsize c.len (sample_count c.unitsize b) b s lv s' lv'
      → Appends c b s lv (Ok (grown c (sample_count c.unitsize b))) s' lv'
  appends_done e s' lv' d = record {
    answer_is = goes _ _ _ (sym e) (ap (grown c) (sym (taken_all (sym e))));
    number_is = e;
    record_is = ap (grown c) (sym (taken_all (sym e)));
    memory = subst⁻¹ (λ (n : ℕ). Stored c.unitsize c.len n b s lv s' lv') (taken_all (sym e)) d;
  }

-- ---- an append that is not refused
module _ (c : Capture) (b s : List ℕ) (lv : ℕ → List ℕ) where
  -- nothing refuses exactly when the bounds hold and there is room
  pub passed : (refusal_of c s lv b ≡ 0) ↔ (Sound (store_of c) (lent_of s lv) × MarkInside (store_of c) × (c.len + sample_count c.unitsize b ≤ c.capacity))
  unfolding refusal_of
  passed = (down, up)
    where
      rows : (first_of (store_rows (store_of c) (lent_of s lv) (row_8 c b)) ≡ 0) ↔ (Sound (store_of c) (lent_of s lv) × MarkInside (store_of c) × (first_of (row_8 c b) ≡ 0))
      rows = rows_passed (store_of c) (lent_of s lv) (row_8 c b)

      last : (first_of (row_8 c b) ≡ 0) ↔ ((ltb c.capacity (c.len + sample_count c.unitsize b) ≡ false) × (◌≡◌ {A = ℕ} 0 0))
      last = row_passed 8 0 (ltb c.capacity (c.len + sample_count c.unitsize b)) (omega arith)

      down : refusal_of c s lv b ≡ 0 → Sound (store_of c) (lent_of s lv) × MarkInside (store_of c) × (c.len + sample_count c.unitsize b ≤ c.capacity)
      down e = let t = rows.0 e in (t.0, t.1, ltb-false c.capacity (c.len + sample_count c.unitsize b) (last.0 t.2).0)

      up : Sound (store_of c) (lent_of s lv) × MarkInside (store_of c) × (c.len + sample_count c.unitsize b ≤ c.capacity) → refusal_of c s lv b ≡ 0
      up t = rows.1 (t.0, t.1, last.1 (le-ltb c.capacity (c.len + sample_count c.unitsize b) t.2, refl))

  pub passed_room : refusal_of c s lv b ≡ 0 → AppendRoom c.unitsize c.len (sample_count c.unitsize b) (length s) lv (length b)
  passed_room e = let t = passed.0 e in room_of c b s lv t.0 t.2
