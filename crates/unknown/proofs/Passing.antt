-- What rows 1, 2 and 18 let pass is the capture's own, and what a search across stretches is without them.
use mathlib.Core.Path.{◌≡◌, refl, ap, ◌∙◌}
use mathlib.Core.Bool.{Bool, true, false, cond}
use mathlib.Core.List.{List, [], ◌∷◌}
use Prim.Native.Nat.{ℕ}
use native.Mathlib.Omega.{arith}
use lib.ListN.{length}
use lib.Dec.{eqb}
use Rattle.std.specs.Prelude.{Option}
use Rattle.rules.specs.Node.{Node}
use Rattle.rules.specs.Unknown.{list_row, list_wrong, unknown_refusal}
use Rattle.rules.proofs.Refusal.{rows_passed}
use Rattle.answer.specs.Answered.{number}
use Rattle.answer.specs.declared.Refusal.{Refusal}
use Rattle.answer.proofs.Answered.{stops, goes}
use Rattle.node.specs.Memory.{reader_of}
use Rattle.node.specs.Lent.{levels_of}
use Rattle.node.specs.declared.Memory.{Memory}
use Rattle.capture.specs.declared.Capture.{Capture}
use Rattle.capture.specs.Record.{store_of, lent_of, lent_in}
use Rattle.capture.specs.Stored.{reader_in}
use Rattle.capture.specs.Backed.{Backed}
use Rattle.capture.proofs.Backed.{sound_backed}
use Rattle.stretches.specs.Checked.{Checked}
use Rattle.stretches.specs.declared.known.Known.{Known}
use Rattle.rules.specs.Answer.{refused, given}
use Rattle.unknown.specs.Crossing.{walked, certain_in}
use Rattle.unknown.specs.Meeting.{possible_across, possible_in}
use Rattle.unknown.specs.Answer.{certain_of, possible_of}

-- ---- what passes
pub let_through : (c : Capture) (samples : List ℕ) (levels : ℕ → List ℕ) (list : List ℕ) → unknown_refusal (store_of c) (lent_of samples levels) list ≡ 0 → Backed c.unitsize c.len samples levels × (list_wrong c.len list ≡ false)
let_through c samples levels list e =
    let t = (rows_passed (store_of c) (lent_of samples levels) (list_row c.len list ∷ [])).0 e in
    (sound_backed c samples levels t.0, go (list_wrong c.len list) t.2)
  where
    go : (b : Bool) → ◌≡◌ {A = ℕ} (cond b 18 0) 0 → b ≡ false
    go true x = absurd (omega arith)
    go false x = refl

-- ---- a search with stretches or without
pub possible_as : (back : Bool) (unit : ℕ) (reader : ℕ → ℕ → Node) (len : ℕ) (list : List ℕ) (mask from : ℕ) (none : Bool) → none ≡ eqb (length list) 0
    → cond none (walked back reader mask len from) (possible_across back unit reader len list mask from) ≡ possible_in back unit reader len list mask from
possible_as back unit reader len list mask from none e = ap (λ (b : Bool). cond b (walked back reader mask len from) (possible_across back unit reader len list mask from)) e

-- ---- the answer of a call
module _ (back : Bool) (c : Capture) (m : Memory) (list : List ℕ) (mask from : ℕ) where
  abbrev rows : ℕ
  rows = unknown_refusal (store_of c) (lent_in m) list

  pub certain_stops : (r : Refusal) → number r ≡ rows → refused (number r) ≡ certain_of back c m.samples.now (levels_of m.levels) list mask from
  unfolding certain_of
  certain_stops r e = stops r rows (certain_in back (reader_of c.unitsize m.samples.now (levels_of m.levels)) c.len list mask from) e

  pub possible_stops : (r : Refusal) → number r ≡ rows → refused (number r) ≡ possible_of back c m.samples.now (levels_of m.levels) list mask from
  unfolding possible_of
  possible_stops r e = stops r rows (possible_in back c.unitsize (reader_of c.unitsize m.samples.now (levels_of m.levels)) c.len list mask from) e

  module _ {k : Known} (p : Checked c m list k) (found : Option ℕ) where
    pub certain_goes : found ≡ certain_in back (reader_in k.stored) k.stored.len k.list.now mask from → given found ≡ certain_of back c m.samples.now (levels_of m.levels) list mask from
    unfolding certain_of
    certain_goes e =
        goes rows (certain_in back (reader_of c.unitsize m.samples.now (levels_of m.levels)) c.len list mask from) found p.passes
        (e ∙ λ i. certain_in back (reader_of (p.opened.unit_is i) (p.opened.memory_is i).samples.now (levels_of (p.opened.memory_is i).levels)) (p.opened.len_is i) (p.list_is i) mask from)

    pub possible_goes : found ≡ possible_in back k.stored.unitsize (reader_in k.stored) k.stored.len k.list.now mask from → given found ≡ possible_of back c m.samples.now (levels_of m.levels) list mask from
    unfolding possible_of
    possible_goes e =
        goes rows (possible_in back c.unitsize (reader_of c.unitsize m.samples.now (levels_of m.levels)) c.len list mask from) found p.passes
        (e ∙ λ i. possible_in back (p.opened.unit_is i) (reader_of (p.opened.unit_is i) (p.opened.memory_is i).samples.now (levels_of (p.opened.memory_is i).levels)) (p.opened.len_is i) (p.list_is i) mask from)
