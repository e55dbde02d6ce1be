-- The code's record as 01's recorder.
use Rattle.std.specs.Prelude.{Option, None, Some}
use Rattle.rules.specs.Pretrigger as rule
use Rattle.rules.specs.Trigger as trigger
use Rattle.rules.specs.Refusal.{Recorder}
use Rattle.capture.specs.Record.{store_of}
use Rattle.terms.specs.Terms.{as_masks}
use Rattle.terms.specs.declared.Masks.{Masks}
use Rattle.feeder.specs.declared.Pretrigger.{Pretrigger}
use Rattle.feeder.specs.declared.Pretrigger.TheVariants.{Fraction, Seconds}
use Rattle.feeder.specs.declared.Feeder.{Feeder}

abbrev pub armed_as : Option Masks → trigger.Armed
armed_as None = trigger.unarmed
armed_as (Some m) = trigger.waiting (as_masks m)

abbrev pub wish_of : Pretrigger → rule.Pretrigger
wish_of (Fraction p) = rule.fraction p
wish_of (Seconds t) = rule.seconds t

abbrev pub recorder_of : Feeder → Recorder
recorder_of f = record {
  store = store_of f.capture;
  limit = f.limit;
  pre = f.pre;
  armed = armed_as f.masks;
  previous = f.prev;
  place = f.place;
  kept = f.kept;
}
