-- A recorder's start: its answer, refusals included.
use Rattle.std.specs.Prelude.{◌≡◌, false, List, [], ◌∷◌, map, ℕ, ◌≤◌, ◌<◌, Result}
use Rattle.rules.specs.Sample.{unit_of}
use Rattle.rules.specs.Pretrigger as rule
use Rattle.rules.specs.Trigger as trigger
use Rattle.rules.specs.Selection.{Settings}
use Rattle.rules.specs.Refusal.{Store, Lent, most_samples, first_of, fresh, number_wrong, settings_rows, pre_row}
use Rattle.rules.specs.Start.{fresh_recorder, Begun}
use Rattle.rules.specs.Answer.{Answer, unless}
use Rattle.answer.specs.Answered as answered
use Rattle.answer.specs.declared.Refusal.{Refusal}
use Rattle.terms.specs.declared.Terms.{Terms}
use Rattle.terms.specs.declared.TriggerTerm.{TriggerTerm}
use Rattle.terms.specs.Terms.{term_of, armed_by}
use Rattle.feeder.specs.declared.Pretrigger.{Pretrigger}
use Rattle.feeder.specs.declared.Fresh.{Fresh}
use Rattle.feeder.specs.Record.{wish_of, recorder_of}

-- ---- the call, over terms that are summed up
-- 01's record and flag, and 01's answer, for each of the call's
abbrev pub begun_of : Fresh → Begun
begun_of x = record { recorder = recorder_of x.feeder; was_cut = x.cut }

abbrev pub started_of : Result Fresh Refusal → Answer Begun
started_of r = answered.answer_of begun_of r

-- the record that start gives, by the unit and the samples kept before the trigger
abbrev pub fresh_of : ℕ → ℕ → ℕ → trigger.Armed → rule.Pre → Begun
fresh_of unit capacity limit armed pre = record {
  recorder = fresh_recorder (record { unit = unit; capacity = capacity; limit = limit; pre = pre.samples; armed = armed });
  was_cut = pre.was_cut;
}

abbrev pub answer_of : Store → Lent → ℕ → Terms → rule.Pretrigger → ℕ → rule.Pre → ℕ → Answer Begun
answer_of st lent limit terms wish rate pre ring =
    unless (first_of (settings_rows st lent limit terms.wrong wish rate (pre_row st pre.samples ring ∷ []))) (fresh_of st.unit st.capacity limit (armed_by terms) pre)

unfoldable pub start_of : ℕ → ℕ → ℕ → Terms → Pretrigger → ℕ → Lent → ℕ → Answer Begun
start_of channels capacity limit terms wish rate lent ring =
    answer_of (fresh channels capacity) lent limit terms (wish_of wish) rate (rule.pre_for (wish_of wish) limit rate (unit_of channels)) ring

-- the arguments as 01's settings
abbrev pub settings_of : ℕ → ℕ → ℕ → List TriggerTerm → Pretrigger → ℕ → Settings
settings_of channels capacity limit list wish rate = record {
  channels = channels;
  capacity = capacity;
  limit = limit;
  terms = map term_of list;
  wish = wish_of wish;
  rate = rate;
}

-- ---- what the inner functions ask
-- the samples kept can be worked out
pub record Workable (wish : rule.Pretrigger) (limit rate unit : ℕ) : Type 0 where
  pub limit_most : limit ≤ most_samples
  pub number : number_wrong wish rate ≡ false
  pub unit_least : 0 < unit
