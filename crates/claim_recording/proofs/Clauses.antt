-- The contract of start over a slice of terms, cited as the clauses themselves: they ask nothing, and what they ensure is `MayStart`, by computation.
use mathlib.Core.Path.{◌≡◌, refl}
use mathlib.Core.List.{List}
use Prim.Native.Nat.{ℕ}
use seplogic.Ra.Ura.{Ura}
use base.Logic.{SProp, emp}
use prog.Memory as machine
use prog.Routine.{Routine}
use types.Logic.{Logic}
use contract.Lifetimes.{Lfts}
use contract.Monad.{Fun, fact}
use denote.Ref.{Bor}
use Rattle.std.specs.Prelude.{Result}
use Rattle.answer.specs.declared.Refusal.{Refusal}
use Rattle.node.specs.declared.Memory as node
use Rattle.terms.specs.declared.TriggerTerm.{TriggerTerm}
use Rattle.feeder.specs.declared.Pretrigger.{Pretrigger}
use Rattle.feeder.specs.declared.Fresh.{Fresh}
use Rattle.feeder_start.specs.contracts.start_list as start-list
use Rattle.feeder_start.proofs.start_list.Met as start-met
use Rattle.feeder_start.proofs.start_list.Statement as start-stated
use Rattle.claim_captures.specs.Words.{Shown, Places, shown}
use Rattle.claim_recording.specs.Claim.{Memory, Given, MayStart}

-- what start is given, with the references by which terms and memory are lent
abbrev given_as : Given → Bor (List TriggerTerm) → Places → Shown → Memory
    → ℕ × (ℕ × (ℕ × (Bor (List TriggerTerm) × (Pretrigger × (ℕ × (node.Memory × (Shown × Unit {0})))))))
given_as g ts p o m = (
  g.channels,
  (
    g.capacity,
    (
      g.limit,
      (
        record { ref_ptr = ts.ref_ptr; now = g.terms },
        (
          g.wish,
          (
            g.rate,
            (shown p m.store, (record { ref_ptr = o.ref_ptr; now = m.ring }, tt)),
          ),
        ),
      ),
    ),
  ),
)

-- at every model of the logic
module _ {M : Type 1} {𝓤 : Ura M} (𝓛 : Logic 𝓤) (mem : machine.Memory → SProp 𝓤) (run : Routine → Fun 𝓤)
    (κs : Lfts 3) (g : Given) (ts : Bor (List TriggerTerm)) (p : Places) (o : Shown) (m : Memory) where
  pub start_asks : (start-list.clauses 𝓛 mem run κs (given_as g ts p o m)).requires tt ≡ emp 𝓤
  start_asks = refl

  pub start_says : (v : Result Fresh Refusal) → (start-list.clauses 𝓛 mem run κs (given_as g ts p o m)).ensures tt v (given_as g ts p o m) ≡ fact 𝓤 (MayStart g m v)
  start_says v = refl

-- and the function meets them
pub start_meets : {M : Type 1} → start-stated.statement M
start_meets = start-met.met
