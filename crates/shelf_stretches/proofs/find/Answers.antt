-- The room is settled, then all is told.
use Rattle.std.proofs.Common.{◌≡◌, ℕ, ◌≤◌, List, true, length, arith}
use mathlib.Core.Path.{subst, subst⁻¹}
use Rattle.rules.specs.Shelf.{head_test}
use Rattle.rules.specs.Salvage.{list_need}
use Rattle.shelf_stretches.specs.Told.{Finds}
use Rattle.shelf_stretches.proofs.Enough.{told_whole}
use Rattle.shelf_stretches.proofs.Left.{counted_few}
use Rattle.shelf_stretches.proofs.find.Goals as goal
use Rattle.shelf_stretches.proofs.find.Goals.{in-Some+else-room-found+else-found-eq0, in_default}

pub overflow_mul-found : goal.overflow_mul-found
overflow_mul-found c =
    let head = subst⁻¹ (λ (f : List ℕ). head_test f ≡ true) c.of-blocks.ensures c.requires in
    record { fits = omega (arith, counted_few c.of-blocks.result.file.now head c.in-Some.ensures.0) }

pub returns : goal.returns
returns c =
    let file = c.of-blocks.result.file.now in
    let list = c.args.list.now in
    let room : list_need file ≤ length list =
    elim c.match-survey.branch [
      | in-Some+else-room-found+else-found-eq0 w ↦ omega (arith, w.if-room-found.false, w.in-Some.ensures.0.stretches_are)
      | in_default w ↦ w.in_default.ensures.1
    ] in
    subst (λ (f : List ℕ). Finds f list c.survey-2.result c.survey-2.new.list) c.of-blocks.ensures (told_whole file list room c.survey-2.result _ c.survey-2.ensures)
