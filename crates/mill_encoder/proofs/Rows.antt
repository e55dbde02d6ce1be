-- The answer of a mill's call: 1, 2 or 14, then 12, or the hops.
use Prim.Native.Nat.{ℕ}
use mathlib.Core.Path.{◌≡◌, sym, ap, ◌∙◌}
use mathlib.Core.Bool.{Bool, true, false, cond}
use mathlib.Core.List.{[], ◌∷◌}
use native.Mathlib.Nat.{zero-lt-suc}
use native.Mathlib.Omega.{arith}
use Rattle.rules.specs.Answer.{refused, given}
use Rattle.rules.specs.Refusal.{store_rows, top_line}
use Rattle.rules.specs.Encoder.{Turns, pair_mask, pair_wrong, pair_row, encoder_refusal}
use Rattle.rules.specs.Mill.{beyond, beyond_row, mill_encoder_refusal}
use Rattle.rules.proofs.Refusal.{rows_passed, rows_rest, row_passed}
use Rattle.answer.specs.Answered.{number}
use Rattle.answer.specs.declared.Refusal.{Refusal}
use Rattle.answer.specs.declared.Refusal.TheVariants.{Grant}
use Rattle.answer.proofs.Answered.{number_least, stops, goes}
use Rattle.node.specs.Lent.{levels_of}
use Rattle.node.specs.declared.Memory.{Memory}
use Rattle.capture.specs.Record.{store_of, lent_in}
use Rattle.capture.specs.declared.Capture.{Capture}
use Rattle.capture.proofs.Answer.{stopped}
use Rattle.encoder.specs.Hops.{hops_of}
use Rattle.encoder.specs.Replayed.{hops_in, Checked}
use Rattle.encoder.specs.Answer.{turns_for}
use Rattle.encoder.specs.declared.replay.Replay.{Replay}
use Rattle.mill_encoder.specs.Answer.{encoder_of}

module _ (c : Capture) (m : Memory) (grant a b : ℕ) where
  abbrev service : ℕ
  service = encoder_refusal (store_of c) (lent_in m) a b

  abbrev rows : ℕ
  rows = mill_encoder_refusal (store_of c) (lent_in m) grant a b

  abbrev answer : Turns
  answer = turns_for c m.samples.now (levels_of m.levels) a b

  -- the service's rows come first
  pub service_stops : (e : Refusal) → number e ≡ service → refused (number e) ≡ encoder_of c m.samples.now (levels_of m.levels) grant a b
  unfolding encoder_of
  service_stops e h = stops e rows answer (h ∙ sym (stopped (store_rows (store_of c) (lent_in m) (pair_row top_line a b ∷ [])) (beyond_row (beyond grant (pair_mask a b)) ∷ []) (λ z. omega (arith, number_least e, h, z))))

  -- past them 12 decides
  module _ {r : Replay} (p : Checked c m a b r) where
    decided : (t : Bool) → t ≡ beyond grant (pair_mask r.a r.b) → cond t 12 0 ≡ rows
    decided t h =
        let q = (rows_passed (store_of c) (lent_in m) (pair_row top_line a b ∷ [])).0 p.passes in
        ap (λ (x : Bool). cond x 12 0) (h ∙ λ i. beyond grant (pair_mask (p.a_is i) (p.b_is i)))
        ∙ sym (ap (λ (x : Bool). cond x 14 (cond (beyond grant (pair_mask a b)) 12 0)) ((row_passed 14 0 (pair_wrong top_line a b) (zero-lt-suc 13)).0 q.2).0)
        ∙ sym (rows_rest (store_of c) (lent_in m) q.0 q.1 (pair_row top_line a b ∷ beyond_row (beyond grant (pair_mask a b)) ∷ []))

    pub grant_stops : true ≡ beyond grant (pair_mask r.a r.b) → refused 12 ≡ encoder_of c m.samples.now (levels_of m.levels) grant a b
    unfolding encoder_of
    grant_stops h = stops Grant rows answer (decided true h)

    pub grant_goes : false ≡ beyond grant (pair_mask r.a r.b) → (t : Turns) → t ≡ hops_in r → given t ≡ encoder_of c m.samples.now (levels_of m.levels) grant a b
    unfolding encoder_of
    grant_goes h t e = goes rows answer t (sym (decided false h)) (e ∙ λ i. hops_of (p.opened.unit_is i) (p.opened.len_is i) (p.opened.memory_is i).samples.now (levels_of (p.opened.memory_is i).levels) (p.a_is i) (p.b_is i))
