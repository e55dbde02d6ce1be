-- Stretches told to a lent list, as far as it reaches, and what is found of a file. 02: CR 8.
use Rattle.std.specs.Prelude.{◌≡◌, Bool, true, false, cond, List, [], ◌∷◌, ℕ, ◌+◌, ◌-◌, ◌*◌, ◌/◌, ◌^◌, ◌≤◌, ◌<◌, min, ltb, eqb, length, set, Option, None, Some}
use Rattle.rules.specs.ShelfCalls.{written_to}
use Rattle.rules.specs.Stretches.{Stretch, pairs_of}
use Rattle.rules.specs.Salvage.{stretches_of, replaced_in, list_need}
use Rattle.shelf_stretches.specs.declared.Found.{Found}
use Rattle.shelf_stretches.specs.declared.Run.{Run}

-- pair number `at` of the list, where there is room for it
abbrev pub with_pair : ℕ → ℕ → ℕ → List ℕ → List ℕ
with_pair at first count l = cond (ltb (2 * at + 1) (length l)) (set (set l (2 * at) first) (2 * at + 1) count) l

-- the list once the stretches are told, as many as it has room for
unfoldable pub told_to : List Stretch → List ℕ → List ℕ
told_to [] l = l
told_to (s ∷ ss) [] = []
told_to (s ∷ ss) (x ∷ []) = x ∷ []
told_to (s ∷ ss) (x ∷ y ∷ l) = s.first ∷ s.count ∷ told_to ss l

-- ---- block after block
-- numbers that go on without leaving 64 bits
pub record StretchRoom (run : Run) (end : ℕ) : Type 0 where
  pub stretches : run.stretches < 2 ^ 32
  pub sum : run.replaced + run.count ≤ end
  pub small : end < 2 ^ 32

-- a stretch of its places ends before place `end`; none where there are 0
abbrev pub closed : Run → Run
closed run = cond (eqb run.count 0) run (record { stretches = run.stretches + 1; replaced = run.replaced + run.count; count = 0 })

abbrev pub closed_list : Run → ℕ → List ℕ → List ℕ
closed_list run end l = cond (eqb run.count 0) l (with_pair run.stretches (end - run.count) run.count l)

-- so many places follow that are known, or that are not
abbrev pub stepped : Run → Bool → ℕ → Run
stepped run known many = cond known (closed run) (record { stretches = run.stretches; replaced = run.replaced; count = run.count + many })

abbrev pub stepped_list : Run → ℕ → Bool → List ℕ → List ℕ
stepped_list run place known l = cond known (closed_list run place l) l

-- how many numbers the stretches take at the most, where so many blocks are left
abbrev pub most_numbers : Run → ℕ → ℕ
most_numbers run left = 2 * (run.stretches + min 1 run.count) + (left + 1) / 2 * 2

-- what is found of a file
pub record Tallied (file : List ℕ) (found : Found) : Type 0 where
  pub stretches_are : found.stretches ≡ length (stretches_of file)
  pub replaced_are : found.replaced ≡ replaced_in file

-- and the list as far as it reaches; or so many numbers, not none, are enough
abbrev pub Surveys : ℕ → List ℕ → List ℕ → Option Found → List ℕ → Type 0
Surveys room file list None list' = (0 < room) × (list_need file ≤ room) × (length list' ≡ length list)
Surveys room file list (Some found) list' = Tallied file found × (list' ≡ told_to (stretches_of file) list)

-- and told whole, or the list is too short, and as it was
abbrev pub Finds : List ℕ → List ℕ → Option Found → List ℕ → Type 0
Finds file list None list' = (ltb (length list) (list_need file) ≡ true) × (list' ≡ list)
Finds file list (Some found) list' =
    (ltb (length list) (list_need file) ≡ false)
    × (found.stretches ≡ length (stretches_of file))
    × (found.replaced ≡ replaced_in file)
    × (list' ≡ written_to (list_need file) (pairs_of (stretches_of file)) list)
