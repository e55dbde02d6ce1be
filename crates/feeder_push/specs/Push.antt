-- What a push answers and what it leaves, whatever it is given. 01: Selection and recorder; Where each number is checked, 1, 2 and 8.
use Rattle.std.specs.Prelude.{◌≡◌, List, ℕ, ◌-◌, Result, Ok, Err}
use Rattle.rules.specs.Selection.{Reply, refused, going_on, complete}
use Rattle.rules.specs.Push.{left_of}
use Rattle.answer.specs.Answered.{number}
use Rattle.answer.specs.declared.Refusal.{Refusal}
use Rattle.store.specs.Stored.{LevelsAfter}
use Rattle.capture.specs.Record.{lent_of}
use Rattle.feeder.specs.declared.Feeder.{Feeder}
use Rattle.feeder.specs.Record.{recorder_of}
use Rattle.feeder_push.specs.declared.Pushed.{Pushed}
use Rattle.feeder_push.specs.declared.Pushed.TheVariants.{GoingOn, Complete}

-- 01's answer for each of the call's
abbrev pub reply_as : Result Pushed Refusal → Reply
reply_as (Err r) = refused (number r)
reply_as (Ok (GoingOn f)) = going_on
reply_as (Ok (Complete f)) = complete

-- the record after it: what it gives, or the one that was given
abbrev pub feeder_in : Feeder → Result Pushed Refusal → Feeder
feeder_in given (Err r) = given
feeder_in given (Ok (GoingOn f)) = f
feeder_in given (Ok (Complete f)) = f

-- a push of bytes, over any memory: its answer, and what it leaves. Each node that covers a new sample is made: 01, Store, and 02, CR 2
pub record Pushes (f : Feeder) (bytes samples : List ℕ) (levels : ℕ → List ℕ) (ring : List ℕ) (answer : Result Pushed Refusal) (samples' : List ℕ) (levels' : ℕ → List ℕ) (ring' : List ℕ) : Type 0 where
  pub left_is :
      record { reply = reply_as answer; recorder = recorder_of (feeder_in f answer); samples = samples'; ring = ring' }
      ≡ left_of (recorder_of f) (lent_of samples levels) samples ring bytes
  pub levels_are : LevelsAfter f.capture.unitsize f.capture.len ((feeder_in f answer).capture.len - f.capture.len) samples' levels levels'
