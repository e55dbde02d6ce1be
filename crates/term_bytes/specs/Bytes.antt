-- Terms written as bytes: a term's line, and the number of its condition. Conditions are numbered as 01 lists them.
use Rattle.std.specs.Prelude.{cond, List, [], ◌∷◌, ℕ, ltb, eqb, Option, None, Some}
use Rattle.terms.specs.declared.Condition.{Condition}
use Rattle.terms.specs.declared.Condition.TheVariants.{Rising, Falling, Edge, High, Low}
use Rattle.terms.specs.declared.TriggerTerm.{TriggerTerm}

abbrev pub condition_in : ℕ → Condition
condition_in n = cond (eqb n 0) Rising (cond (eqb n 1) Falling (cond (eqb n 2) Edge (cond (eqb n 3) High Low)))

-- there are five conditions
abbrev pub condition_at : ℕ → Option Condition
condition_at n = cond (ltb 4 n) None (Some (condition_in n))

-- a term of another has a line above 15, which row 3 refuses
abbrev pub no_condition : ℕ
no_condition = 255

abbrev pub term_in : ℕ → ℕ → TriggerTerm
term_in line n = record { channel = cond (ltb 4 n) 255 line; condition = condition_in n }

-- a line at the end without its condition is such a term
unfoldable pub terms_in : List ℕ → List TriggerTerm
terms_in [] = []
terms_in (line ∷ []) = term_in line no_condition ∷ []
terms_in (line ∷ n ∷ rest) = term_in line n ∷ terms_in rest

-- ---- as a caller writes them
abbrev pub condition_number : Condition → ℕ
condition_number Rising = 0
condition_number Falling = 1
condition_number Edge = 2
condition_number High = 3
condition_number Low = 4

unfoldable pub term_bytes : List TriggerTerm → List ℕ
term_bytes [] = []
term_bytes (t ∷ ts) = t.channel ∷ condition_number t.condition ∷ term_bytes ts
