-- A list with room, told whole.
use mathlib.Core.Path.{◌∙◌}
use mathlib.Core.List.{List}
use Prim.Native.Nat.{ℕ, ◌≤◌}
use native.Mathlib.Omega.{arith}
use lib.ListN.{length}
use borrow.Author.Tests.{le-ltb}
use Rattle.std.specs.Prelude.{Option, None, Some}
use Rattle.rules.specs.Salvage.{stretches_of, list_need}
use Rattle.shelf_stretches.specs.declared.Found.{Found}
use Rattle.shelf_stretches.specs.Told.{Surveys, Finds}
use Rattle.shelf_stretches.proofs.Told.{told_all}

module _ (file list : List ℕ) where
  -- told whole to a list with room; no survey ends early for no numbers
  pub told_whole : list_need file ≤ length list → (x : Option Found) (list' : List ℕ) → Surveys 0 file list x list' → Finds file list x list'
  told_whole room None list' t = absurd (omega (arith, t.0))
  told_whole room (Some found) list' t = (le-ltb (length list) (list_need file) room, t.0.stretches_are, t.0.replaced_are, t.1 ∙ told_all (stretches_of file) list room)
