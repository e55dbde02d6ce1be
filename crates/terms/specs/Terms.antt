-- The code's terms and masks as 01's, and what a list of terms comes to, term by term.
use Rattle.std.specs.Prelude.{false, cond, ◌||◌, List, ℕ, ◌^◌, ltb, Option, None, Some, unwrap_or, fold}
use Rattle.std.specs.Int.Bits.{bit_or}
use Rattle.rules.specs.Refusal.{top_line}
use Rattle.rules.specs.Trigger as rule
use Rattle.terms.specs.declared.Condition.{Condition}
use Rattle.terms.specs.declared.Condition.TheVariants.{Rising, Falling, Edge, High, Low}
use Rattle.terms.specs.declared.TriggerTerm.{TriggerTerm}
use Rattle.terms.specs.declared.Masks.{Masks}
use Rattle.terms.specs.declared.Terms as declared

abbrev pub condition_of : Condition → rule.Condition
condition_of Rising = rule.rising
condition_of Falling = rule.falling
condition_of Edge = rule.edge
condition_of High = rule.high
condition_of Low = rule.low

abbrev pub term_of : TriggerTerm → rule.Term
term_of t = record { line = t.channel; condition = condition_of t.condition }

abbrev pub as_masks : Masks → rule.Masks
as_masks m = record { high = m.high; low = m.low; rising = m.rising; falling = m.falling; edge = m.edge }

-- ---- term by term
abbrev pub no_terms : declared.Terms
no_terms = record { masks = None; wrong = false }

abbrev pub no_lines : Masks
no_lines = record { high = 0; low = 0; rising = 0; falling = 0; edge = 0 }

-- the lines named so far
abbrev pub lines_in : declared.Terms → Masks
lines_in ts = unwrap_or ts.masks no_lines

abbrev pub with_line : Masks → Condition → ℕ → Masks
with_line m High b = record m { high = bit_or m.high b }
with_line m Low b = record m { low = bit_or m.low b }
with_line m Rising b = record m { rising = bit_or m.rising b }
with_line m Falling b = record m { falling = bit_or m.falling b }
with_line m Edge b = record m { edge = bit_or m.edge b }

-- a line above the highest is noted, and adds nothing to the masks
abbrev pub with_term : declared.Terms → TriggerTerm → declared.Terms
with_term ts t = record {
  masks = Some (cond (ltb top_line t.channel) (lines_in ts) (with_line (lines_in ts) t.condition (2 ^ t.channel)));
  wrong = ts.wrong || ltb top_line t.channel;
}

abbrev pub terms_of : List TriggerTerm → declared.Terms
terms_of list = fold with_term no_terms list

-- armed where there is a term; Rising and Falling on one line become Edge here, once
abbrev pub armed_with : Option Masks → rule.Armed
armed_with None = rule.unarmed
armed_with (Some m) = rule.waiting (rule.both_as_edge (as_masks m))

abbrev pub armed_by : declared.Terms → rule.Armed
armed_by ts = armed_with ts.masks
