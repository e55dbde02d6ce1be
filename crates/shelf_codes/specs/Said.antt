-- What block 0 says, as numbers behind a pointer. 02: CR 7.
use Rattle.std.specs.Prelude.{List, ◌∷◌, ℕ, get_or}
use Rattle.std.proofs.lemmas.List.Edits.{sets}
use Rattle.rules.specs.Shelf.{Heading}
use Rattle.capture.specs.Record.{mark_in}
use Rattle.codes.specs.Record.{mark_numbers}

-- unit, len, whether there is a mark, and the mark
abbrev pub said_numbers : Heading → List ℕ → List ℕ
said_numbers h old = sets old 0 (h.unit ∷ h.len ∷ mark_numbers h.mark)

-- what stands behind the pointer, read
abbrev pub said_in : List ℕ → Heading
said_in said = record { unit = get_or said 0 0; mark = mark_in (get_or said 2 0) (get_or said 3 0); len = get_or said 1 0 }
