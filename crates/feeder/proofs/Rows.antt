-- Rows in order, in two parts; and the rows of a recorder after start as bounds.
use mathlib.Core.Path.{◌≡◌, refl, ap, ◌∙◌}
use mathlib.Core.Bool.{Bool, false, cond}
use mathlib.Core.List.{List, [], ◌∷◌, ◌++◌}
use Prim.Native.Nat.{ℕ, ◌<◌}
use native.Mathlib.Omega.{arith}
use Rattle.rules.specs.Refusal.{Store, Lent, Row, first_of, store_wrong, lent_short, Recorder, recorder_refusal}
use Rattle.rules.proofs.Refusal.{row_passed, Sound, MarkInside, rows_passed, SoundRecorder, recorder_rest, recorder_passed}

-- ---- rows in order
abbrev pub Numbered : List Row → Type 0
Numbered [] = Unit {0}
Numbered (r ∷ rows) = (0 < r.number) × Numbered rows

abbrev pub Passed : List Row → Type 0
Passed [] = Unit {0}
Passed (r ∷ rows) = (r.holds ≡ false) × Passed rows

-- no row holds where the first that does has no number
pub all_passed : (rows : List Row) → Numbered rows → first_of rows ≡ 0 → Passed rows
all_passed [] n e = tt
all_passed (r ∷ rows) n e =
    let t = (row_passed r.number (first_of rows) r.holds n.0).0 e in
    (t.0, all_passed rows n.1 t.1)

-- where none of the first rows holds, the others decide
pub rows_then : (rows more : List Row) → Numbered rows → first_of rows ≡ 0 → first_of (rows ++ more) ≡ first_of more
rows_then [] more n e = refl
rows_then (r ∷ rows) more n e =
    let t = (row_passed r.number (first_of rows) r.holds n.0).0 e in
    ap (λ (b : Bool). cond b r.number (first_of (rows ++ more))) t.0 ∙ rows_then rows more n.1 t.1

-- rows 1 and 2 of a store
pub store_passed : (st : Store) (lent : Lent) → store_wrong st ≡ false → lent_short st lent ≡ false → Sound st lent × MarkInside st
store_passed st lent e f =
    let none_holds = (row_passed 1 (cond (lent_short st lent) 2 0) (store_wrong st) (omega arith)).1 (e, (row_passed 2 0 (lent_short st lent) (omega arith)).1 (f, refl)) in
    let t = (rows_passed st lent []).0 none_holds in
    (t.0, t.1)

-- ---- a recorder after start
-- rows 1 and 2 let a recorder pass only within its bounds
pub recorder_sound : (r : Recorder) (lent : Lent) (ring : ℕ) → recorder_refusal r lent ring ≡ 0 → SoundRecorder r lent ring
recorder_sound r lent ring e = ((recorder_passed r lent ring []).0 e).0

-- and let each within its bounds pass
pub sound_recorder : (r : Recorder) (lent : Lent) (ring : ℕ) → SoundRecorder r lent ring → recorder_refusal r lent ring ≡ 0
sound_recorder r lent ring s = recorder_rest r lent ring s []
