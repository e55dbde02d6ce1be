-- The record that a recorder's start gives. 01: Records, Recorder; Lists of pushes.
use Rattle.std.specs.Prelude.{Bool, ℕ}
use Rattle.std.specs.Prelude.{None}
use Rattle.rules.specs.Selection.{Settings, Rule, pre_wish, rule_of, Beside}
use Rattle.rules.specs.Refusal.{Lent, Recorder, start_refusal}
use Rattle.rules.specs.Answer.{Answer, unless}

-- nothing stored, no mark, no previous sample, nothing kept
abbrev pub fresh_recorder : Rule → Recorder
fresh_recorder r = record {
  store = record { unit = r.unit; capacity = r.capacity; len = 0; mark = None };
  limit = r.limit;
  pre = r.pre;
  armed = r.armed;
  previous = None;
  place = 0;
  kept = 0;
}

-- what a record has beside its store and its settings
abbrev pub beside_in : Recorder → Beside
beside_in c = record { armed = c.armed; previous = c.previous; place = c.place; kept = c.kept }

-- the record, and the flag that "says whether that cut it"
pub record Begun : Type 0 where
  pub recorder : Recorder
  pub was_cut : Bool

abbrev pub begun : Settings → Begun
begun st = record { recorder = fresh_recorder (rule_of st); was_cut = (pre_wish st).was_cut }

-- "start gives one whenever no row below refuses it"
abbrev pub start_rule : Settings → Lent → ℕ → Answer Begun
start_rule st lent ring = unless (start_refusal st lent ring) (begun st)
