-- The walk over chunks, in either direction: what a loop that follows it knows before each chunk.
use Prim.Native.Nat.{ℕ, suc, ◌+◌, ◌-◌, ◌/◌, ◌≤◌, ◌<◌}
use mathlib.Core.Path.{◌≡◌, refl, sym, ap, ◌∙◌}
use mathlib.Core.Bool.{Bool, true, false, cond, true≢false, false≢true}
use Rattle.std.specs.Option.{is_some}
use Rattle.std.specs.Prelude.{Option, None, Some}
use Rattle.rules.proofs.Options.{none-ne-some}
use native.Mathlib.Omega.{arith}
use borrow.Author.Tests.{lt-ltb}
use Rattle.rules.specs.Node.{Node, chunk}
use Rattle.rules.specs.Refusal.{most_samples}
use Rattle.rules.specs.Walk.{Walked, Course, ahead, behind, or_steps, or_else, chunks, chunks_for, nothing, next_walk, previous_from, walk_from}
use Rattle.rules.proofs.Steps.{next_steps, previous_steps}
use Rattle.find.proofs.Going.{told, counted_from, from_none, from_end, from_more}
use Rattle.search.proofs.Asked.{previous_something}

-- ---- a chunk's walk and the rest's
-- a find ends the walk; without one the steps add
some_first : (x : Option ℕ) (n : ℕ) (rest : Walked) → (x ≡ None → ⊥) → told x n ≡ or_else (told x n) rest
some_first None n rest t = absurd (t refl)
some_first (Some i) n rest t = refl

none_first : (x : Option ℕ) (n : ℕ) (rest : Walked) → x ≡ None → counted_from n rest ≡ or_else (told x n) rest
none_first None n rest z = refl
none_first (Some i) n rest z = absurd (none-ne-some i (sym z))

steps_first : (x : Option ℕ) (n rest : ℕ) → n ≤ or_steps x n rest
steps_first None n rest = omega arith
steps_first (Some i) n rest = omega arith

-- what is_some says of a find
pub some_there : (x : Option ℕ) (b : Bool) → b ≡ is_some x → b ≡ true → x ≡ None → ⊥
some_there None b e h z = absurd (false≢true (sym e ∙ h))
some_there (Some i) b e h z = none-ne-some i (sym z)

pub none_there : (x : Option ℕ) (b : Bool) → b ≡ is_some x → b ≡ false → x ≡ None
none_there None b e h = refl
none_there (Some i) b e h = absurd (true≢false (sym e ∙ h))

-- ---- a course
-- the walk over n chunks from chunk c on, its steps counted on from those before, is the whole walk; v is the value before place p
pub record Coursing (k : Course) (mask : ℕ) (whole : Walked) (count n c p v : ℕ) : Type 0 where
  pub same : counted_from count (chunks k mask n c p v) ≡ whole
  -- so no count wraps
  pub few_steps : whole.steps < 18446744073709551616

module _ (has : ℕ → Bool) (reader : ℕ → ℕ → Node) (mask len : ℕ) (most : len ≤ most_samples) where
  pub next_starts : (from : ℕ) → from + 1 < len
      → Coursing (ahead has reader len) mask (next_walk has reader len mask from) 0 (chunks_for len - (from + 1) / chunk) ((from + 1) / chunk) (from + 1) (reader 0 (from + 1 - 1)).first
  next_starts from h = record {
    same =
        from_none _
        ∙ ap (λ (x : ℕ). chunks (ahead has reader len) mask (chunks_for len - (from + 1) / chunk) ((from + 1) / chunk) (from + 1) (reader 0 x).first) back
        ∙ sym (ap (λ (b : Bool). cond b (chunks (ahead has reader len) mask (chunks_for len - (from + 1) / chunk) ((from + 1) / chunk) (from + 1) (reader 0 from).first) nothing) (lt-ltb (from + 1) len h));
    few_steps = omega (arith, next_steps has reader len mask from);
  }
    where
      back : from + 1 - 1 ≡ from
      back = omega arith

  -- the chunk is one less than the chunks that are left
  pub previous_starts : (p : ℕ) → p < len → Coursing (behind has reader) mask (previous_from has reader mask p) 0 (p / chunk + 1) (p / chunk + 1 - 1) p (reader 0 p).first
  previous_starts p h = record {
    same = from_none _ ∙ ap (λ (c : ℕ). chunks (behind has reader) mask (p / chunk + 1) c p (reader 0 p).first) back;
    few_steps = omega (arith, ap (λ (r : Walked). r.steps) (previous_something has reader len mask p (λ z. omega arith) p (omega arith)), previous_steps has reader len mask p);
  }
    where
      back : p / chunk + 1 - 1 ≡ p / chunk
      back = omega arith

module _ {k : Course} {mask : ℕ} {whole : Walked} {count n c p v : ℕ} (g : Coursing k mask whole count n c p v) where
  pub coursing_fits : count < 18446744073709551616
  coursing_fits = omega (arith, g.few_steps, ap (λ (x : Walked). x.steps) g.same)

  pub coursing_end : n ≡ 0 → told None count ≡ whole
  unfolding chunks
  coursing_end z = sym (from_end count) ∙ sym (ap (λ (x : ℕ). counted_from count (chunks k mask x c p v)) z) ∙ g.same

  -- with m chunks left after chunk c, for which r is the walk
  module _ (m : ℕ) (em : n ≡ suc m) (r : Walked) (e : r ≡ walk_from (k.way c) mask p v) where
    abbrev rest : Walked
    rest = chunks k mask m (k.next_chunk c) (k.entry c) (k.value c)

    opened : counted_from count (or_else r rest) ≡ whole
    unfolding chunks
    opened = ap (λ (x : Walked). counted_from count (or_else x rest)) e ∙ sym (ap (λ (x : ℕ). counted_from count (chunks k mask x c p v)) em) ∙ g.same

    pub coursing_counts : count + r.steps < 18446744073709551616
    coursing_counts = omega (arith, g.few_steps, ap (λ (x : Walked). x.steps) opened, steps_first r.found r.steps rest.steps)

    pub coursing_found : (r.found ≡ None → ⊥) → counted_from count r ≡ whole
    coursing_found t = ap (counted_from count) (some_first r.found r.steps rest t) ∙ opened

    pub coursing_on : r.found ≡ None → Coursing k mask whole (count + r.steps) m (k.next_chunk c) (k.entry c) (k.value c)
    coursing_on z = record { same = from_more count r.steps rest ∙ ap (counted_from count) (none_first r.found r.steps rest z) ∙ opened; few_steps = g.few_steps }
