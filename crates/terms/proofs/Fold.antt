-- What a list of terms comes to, term by term, is the lines that 01 has the list name, and wrong exactly when row 3 says so.
use Prim.Native.Nat.{ℕ, ◌^◌}
use mathlib.Core.Path.{◌≡◌, refl, sym, ap, ◌∙◌}
use mathlib.Core.Bool.{Bool, false, cond, ◌||◌, or_assoc, or-false}
use mathlib.Core.List.{List, [], ◌∷◌, map}
use lib.Dec.{ltb}
use Rattle.std.specs.Prelude.{Some, fold}
use Rattle.rules.specs.Refusal.{top_line, line_wrong}
use Rattle.rules.proofs.Refusal.{neither}
use Rattle.rules.specs.Trigger as rule
use Rattle.terms.specs.declared.Condition.{Condition}
use Rattle.terms.specs.declared.Condition.TheVariants.{Rising, Falling, Edge, High, Low}
use Rattle.terms.specs.declared.TriggerTerm.{TriggerTerm}
use Rattle.terms.specs.declared.Masks.{Masks}
use Rattle.terms.specs.declared.Terms as declared
use Rattle.terms.specs.Terms.{condition_of, term_of, as_masks, no_terms, lines_in, with_line, with_term, terms_of, armed_with, armed_by}

-- wrong exactly when a line is above the highest
wrong_from : (list : List TriggerTerm) (ts : declared.Terms) → (fold with_term ts list).wrong ≡ (ts.wrong || line_wrong (map term_of list))
unfolding line_wrong
wrong_from [] ts = sym (or-false ts.wrong)
wrong_from (t ∷ list) ts = wrong_from list (with_term ts t) ∙ or_assoc ts.wrong (ltb top_line t.channel) (line_wrong (map term_of list))

pub terms_wrong : (list : List TriggerTerm) → (terms_of list).wrong ≡ line_wrong (map term_of list)
terms_wrong list = wrong_from list no_terms

-- a line of a condition
line_is : (m : Masks) (k : Condition) (b : ℕ) → as_masks (with_line m k b) ≡ rule.with_line (as_masks m) (condition_of k) b
line_is m Rising b = refl
line_is m Falling b = refl
line_is m Edge b = refl
line_is m High b = refl
line_is m Low b = refl

-- a term with a line that there is
term_is : (ts : declared.Terms) (t : TriggerTerm) → ltb top_line t.channel ≡ false → as_masks (lines_in (with_term ts t)) ≡ rule.with_term (as_masks (lines_in ts)) (term_of t)
term_is ts t e =
    ap (λ (b : Bool). as_masks (cond b (lines_in ts) (with_line (lines_in ts) t.condition (2 ^ t.channel)))) e
    ∙ line_is (lines_in ts) t.condition (2 ^ t.channel)

-- with no wrong line the masks are the lines that the list names
masks_from : (list : List TriggerTerm) (ts : declared.Terms) → line_wrong (map term_of list) ≡ false → as_masks (lines_in (fold with_term ts list)) ≡ rule.with_terms (as_masks (lines_in ts)) (map term_of list)
unfolding line_wrong rule.with_terms
masks_from [] ts e = refl
masks_from (t ∷ list) ts e =
    let b = (neither (ltb top_line t.channel) (line_wrong (map term_of list))).0 e in
    masks_from list (with_term ts t) b.1 ∙ ap (λ (m : rule.Masks). rule.with_terms m (map term_of list)) (term_is ts t b.0)

pub terms_masks : (list : List TriggerTerm) → line_wrong (map term_of list) ≡ false → as_masks (lines_in (terms_of list)) ≡ rule.named_by (map term_of list)
terms_masks list e = masks_from list no_terms e

-- once there is a term there are masks
masks_stay : (list : List TriggerTerm) (ts : declared.Terms) (m : Masks) → ts.masks ≡ Some m → (fold with_term ts list).masks ≡ Some (lines_in (fold with_term ts list))
masks_stay [] ts m e = cc
masks_stay (t ∷ list) ts m e = masks_stay list (with_term ts t) _ refl

-- armed as 01 arms
pub terms_armed : (list : List TriggerTerm) → line_wrong (map term_of list) ≡ false → armed_by (terms_of list) ≡ rule.armed_of (map term_of list)
terms_armed [] e = refl
terms_armed (t ∷ list) e =
    ap armed_with (masks_stay list (with_term no_terms t) _ refl)
    ∙ ap (λ (m : rule.Masks). rule.waiting (rule.both_as_edge m)) (terms_masks (t ∷ list) e)
