-- What rows 1, 2 and 18 let pass: a capture, its memory and a list of its unknown stretches. 02: CR 9.
use Rattle.std.specs.Prelude.{◌≡◌, List, ℕ, Result, Ok, Err}
use Rattle.rules.specs.Unknown.{unknown_refusal}
use Rattle.answer.specs.Answered.{number}
use Rattle.answer.specs.declared.Refusal.{Refusal}
use Rattle.node.specs.declared.Memory.{Memory}
use Rattle.capture.specs.Record.{store_of, lent_in}
use Rattle.capture.specs.Stored.{Opened}
use Rattle.capture.specs.declared.Capture.{Capture}
use Rattle.stretches.specs.declared.known.Known.{Known}

-- no row refuses, and this is what was lent
pub record Checked (c : Capture) (m : Memory) (list : List ℕ) (l : Known) : Type 0 where
  pub passes : unknown_refusal (store_of c) (lent_in m) list ≡ 0
  pub opened : Opened c m l.stored
  pub list_is : l.list.now ≡ list

-- or the first that does
abbrev pub Checks : Capture → Memory → List ℕ → Result Known Refusal → Type 0
Checks c m list (Ok l) = Checked c m list l
Checks c m list (Err r) = number r ≡ unknown_refusal (store_of c) (lent_in m) list
