-- How the recorder's answers are written as codes and numbers.
use Rattle.std.specs.Prelude.{Bool, cond, List, ℕ, Float}
use Rattle.rules.specs.Refusal.{Recorder}
use Rattle.rules.specs.Selection.{Reply, refused, going_on, complete}
use Rattle.feeder.specs.declared.Pretrigger.{Pretrigger}
use Rattle.feeder.specs.declared.Pretrigger.TheVariants.{Fraction, Seconds}
use Rattle.rules.specs.Start.{Begun}
use Rattle.feeder_numbers.specs.Numbers.{recorder_numbers, pushed_numbers}
use Rattle.codes.specs.Code.{none_code}
use Rattle.codes.specs.Record.{flag_number}

abbrev pub wish_in : Bool → Float → Pretrigger
wish_in seconds x = cond seconds (Seconds x) (Fraction x)

-- the record and the flag that a start gives, as numbers
abbrev pub begun_numbers : Begun → List ℕ → List ℕ
begun_numbers b old = recorder_numbers b.recorder old

abbrev pub cut_number : Begun → ℕ → ℕ
cut_number b old = flag_number b.was_cut

-- ---- push
-- 0 is going on, complete is no more, and a refusal is its number
abbrev pub reply_code : Reply → ℕ
reply_code (refused n) = n
reply_code going_on = 0
reply_code complete = none_code

-- the record's numbers; a refusal leaves them
abbrev pub numbers_after : Reply → Recorder → List ℕ → List ℕ
numbers_after (refused n) c old = old
numbers_after going_on c old = pushed_numbers c old
numbers_after complete c old = pushed_numbers c old
