-- Laws of the hops: where a stretch ends, what is left after one, and on right levels the whole.
use Prim.Native.Nat.{ℕ, zero, suc, ◌+◌, ◌-◌, ◌*◌, ◌/◌, ◌≤◌, ◌<◌, min}
use mathlib.Core.Path.{◌≡◌, refl, sym, ap, ap₂, ◌∙◌}
use mathlib.Core.Bool.{Bool, true, false, cond}
use mathlib.Core.List.{List}
use native.Mathlib.Nat.{div-add-mod', mod-lt, suc-mul, zero-lt-suc, mul-le-mul_right}
use native.Mathlib.Numerals.{add-one}
use native.Mathlib.Decide.{dec_lt}
use native.Mathlib.Omega.{arith}
use lib.Dec.{ltb, eqb}
use lib.IntN.{pos, ◌-ℤ◌}
use borrow.Author.Tests.{lt-ltb, le-ltb}
use Rattle.rules.specs.Node.{chunk, chunk_end}
use Rattle.rules.specs.Search.{changed}
use Rattle.rules.specs.Encoder.{Turns, no_turns, add_turns, turns_of, encoder, pair_mask}
use Rattle.rules.proofs.Encoder.{turns_eq, add_none, none_add, add_assoc_turns, turns_add, turns_quiet, turns_balanced, balanced_add, turns_few}
use Rattle.capture.specs.Backed.{Backed}
use Rattle.find.specs.Part.{PartBacked}
use Rattle.encoder_scan.specs.Scan.{widest, Counts}
use Rattle.encoder.specs.Hops.{is_far, border, stretch_end, Ends, quiet_behind, resume_at, Resumed, Scanned, count_all, stretch, hops_from, counted}

-- ---- chunks
-- a place lies before the end of its chunk
pub chunk_inside : (len p : ℕ) → p < len → p < chunk_end len (p / chunk)
chunk_inside len p h = omega (arith, h, div-add-mod' p chunk, mod-lt p (zero-lt-suc 1048575))

-- a capture's first samples, and the nodes below them, lie in memory
pub whole_part : {unit len : ℕ} {samples : List ℕ} {levels : ℕ → List ℕ} (hi : ℕ) → hi ≤ len → Backed unit len samples levels → PartBacked unit 0 hi samples levels
whole_part {unit} {len} hi h s = record {
  bytes = record { unit_size = s.bytes.unit_size; room = omega (arith, s.bytes.room, mul-le-mul_right {m = hi - 0} {n = len} unit (omega (arith, h))) };
  nodes = record { inside = λ l j a b k. s.nodes.inside l j a b (omega (arith, k, h)) };
}

-- ---- stretches
-- both widths are numbers up to 512
record Width (w : ℕ) : Type 0 where
  some : 1 ≤ w
  node : 32 ≤ w
  most : w ≤ 512

widths : (unit : ℕ) → Width (widest unit)
widths unit = go (eqb unit 1)
  where
    go : (b : Bool) → Width (cond b 128 512)
    go true = record { some = omega arith; node = omega arith; most = omega arith }
    go false = record { some = omega arith; node = omega arith; most = omega arith }

-- of w places
ends_by : (w len i end : ℕ) → 1 ≤ w → i ≤ len → end ≡ border len w i → (i ≤ end) × (end ≤ len) × (min (i + 1) len ≤ end) × (end - i ≤ w)
ends_by w len i end hw h e =
    let r = div-add-mod' i w in
    let s = mod-lt i hw in
    let t : (i / w + 1) * w ≡ i / w * w + w = ap (λ (x : ℕ). x * w) (add-one (i / w)) ∙ suc-mul (i / w) w in
    (omega (arith, r, s, t, e), omega (arith, e), omega (arith, r, s, t, e), omega (arith, r, s, t, e))

pub ends : (unit len p i end : ℕ) → i ≤ len → end ≡ stretch_end unit len p i → Ends unit len p i end
ends unit len p i end h e = go (is_far p i) refl
  where
    of : (w : ℕ) → 1 ≤ w → w ≤ widest unit → end ≡ border len w i → Ends unit len p i end
    of w l m q = let t = ends_by w len i end l h q in record { is = e; least = t.0; most = t.1; more = t.2; few = omega (arith, t.3, m) }

    go : (b : Bool) → is_far p i ≡ b → Ends unit len p i end
    go true q = of 32 (omega arith) (widths unit).node (e ∙ ap (λ (x : Bool). border len (cond x 32 (widest unit)) i) q)
    go false q = of (widest unit) (widths unit).some (omega arith) (e ∙ ap (λ (x : Bool). border len (cond x 32 (widest unit)) i) q)

-- ---- a stretch scanned
pub scanned : (s : ℕ → ℕ) (a b p n : ℕ) {f k j : ℕ} → Counts (turns_of s a b p n) f k j → Scanned s a b p n f k j
scanned s a b p n c = record { counts = c; few = omega (arith, turns_few s a b p n, c.forward_is, c.backward_is, c.skipped_is) }

-- ---- what is left
pub counts_add : (s : ℕ → ℕ) (a b p n f k j f' k' j' : ℕ) → Counts (turns_of s a b p n) f' k' j' → counted (f + f') (k + k') (j + j') ≡ add_turns (counted f k j) (turns_of s a b p n)
counts_add s a b p n f k j f' k' j' h =
    turns_eq (ap₂ (λ (x y : ℕ). pos (f + x) -ℤ pos (k + y)) h.forward_is h.backward_is ∙ sym (balanced_add (counted f k j) (turns_of s a b p n) refl (turns_balanced s a b p n)))
    (ap (λ (x : ℕ). f + x) h.forward_is) (ap (λ (x : ℕ). k + x) h.backward_is) (ap (λ (x : ℕ). j + x) h.skipped_is)

module _ (unit : ℕ) (onward : ℕ → ℕ) (s : ℕ → ℕ) (len a b : ℕ) where
  -- from place p on, with what is counted so far, it comes to `whole`
  pub record Left (whole : Turns) (p : ℕ) (quiet : Bool) (f k j : ℕ) : Type 0 where
    pub fuel : ℕ
    pub enough : len - p ≤ fuel
    pub rest : hops_from unit onward s len a b fuel p quiet (counted f k j) ≡ whole

  pub left_starts : Left (hops_from unit onward s len a b len 1 true no_turns) 1 true 0 0 0
  left_starts = record { fuel = len; enough = omega arith; rest = refl }

  module _ {whole : Turns} {p : ℕ} {quiet : Bool} {f k j : ℕ} (l : Left whole p quiet f k j) where
    pub left_ends : len ≤ p → counted f k j ≡ whole
    unfolding hops_from
    left_ends h = go l.fuel l.rest
      where
        go : (n : ℕ) → hops_from unit onward s len a b n p quiet (counted f k j) ≡ whole → counted f k j ≡ whole
        go zero e = e
        go (suc n) e = sym (ap (λ (t : Bool). cond t (hops_from unit onward s len a b n (stretch_end unit len p (resume_at onward quiet p)) (quiet_behind p (resume_at onward quiet p) (count_all (stretch unit onward s len a b p (resume_at onward quiet p)))) (add_turns (counted f k j) (stretch unit onward s len a b p (resume_at onward quiet p)))) (counted f k j)) (le-ltb p len h)) ∙ e

    pub left_on : p < len → {i end : ℕ} → Resumed onward len quiet p i → end ≡ stretch_end unit len p i → {f' k' j' : ℕ} → Counts (turns_of s a b (i - 1) (end - i)) f' k' j'
        → {quiet' : Bool} → quiet' ≡ quiet_behind p i (f' + k' + j') → Left whole end quiet' (f + f') (k + k') (j + j')
    unfolding hops_from
    left_on h {i} {end} r e {f'} {k'} {j'} c {quiet'} eq = go l.fuel l.enough l.rest
      where
        at : ℕ
        at = resume_at onward quiet p

        -- the stretch as the definition has it
        end_is : end ≡ stretch_end unit len p at
        end_is = e ∙ ap (stretch_end unit len p) r.is

        turns_are : turns_of s a b (i - 1) (end - i) ≡ stretch unit onward s len a b p at
        turns_are = ap₂ (λ (x y : ℕ). turns_of s a b (x - 1) (y - x)) r.is end_is

        quiet_is : quiet' ≡ quiet_behind p at (count_all (stretch unit onward s len a b p at))
        quiet_is = eq ∙ ap₂ (quiet_behind p) r.is (ap₂ (λ (x y : ℕ). x + y) (ap₂ (λ (x y : ℕ). x + y) c.forward_is c.backward_is) c.skipped_is ∙ ap count_all turns_are)

        sum_is : counted (f + f') (k + k') (j + j') ≡ add_turns (counted f k j) (stretch unit onward s len a b p at)
        sum_is = counts_add s a b (i - 1) (end - i) f k j f' k' j' c ∙ ap (add_turns (counted f k j)) turns_are

        go : (n : ℕ) → len - p ≤ n → hops_from unit onward s len a b n p quiet (counted f k j) ≡ whole → Left whole end quiet' (f + f') (k + k') (j + j')
        go zero d q = absurd (omega (arith, d))
        go (suc n) d q = record {
          fuel = n;
          enough = omega (arith, d, (ends unit len p i end r.high e).more, (ends unit len p i end r.high e).least, r.low, h);
          rest =
              ap (λ (x : ℕ). hops_from unit onward s len a b n x quiet' (counted (f + f') (k + k') (j + j'))) end_is
              ∙ ap₂ (hops_from unit onward s len a b n (stretch_end unit len p at)) quiet_is sum_is
              ∙ sym (ap (λ (t : Bool). cond t (hops_from unit onward s len a b n (stretch_end unit len p at) (quiet_behind p at (count_all (stretch unit onward s len a b p at))) (add_turns (counted f k j) (stretch unit onward s len a b p at))) (counted f k j)) (lt-ltb p len h))
              ∙ q;
        }

-- ---- on right levels
-- the places from x on up to y, and from y on up to z
joined : (s : ℕ → ℕ) (a b x y z : ℕ) → 1 ≤ x → x ≤ y → y ≤ z → add_turns (turns_of s a b (x - 1) (y - x)) (turns_of s a b (y - 1) (z - y)) ≡ turns_of s a b (x - 1) (z - x)
joined s a b x y z h k l =
    ap (λ (i : ℕ). add_turns (turns_of s a b (x - 1) (y - x)) (turns_of s a b i (z - y))) from
    ∙ sym (turns_add s a b (x - 1) (y - x) (z - y))
    ∙ ap (turns_of s a b (x - 1)) count
  where
    from : y - 1 ≡ x - 1 + (y - x)
    from = omega (arith, h, k)

    count : y - x + (z - y) ≡ z - x
    count = omega (arith, k, l)

-- where scanning goes on, no change lies behind
pub record Onward (s : ℕ → ℕ) (len a b : ℕ) (onward : ℕ → ℕ) : Type 0 where
  pub least : (p : ℕ) → 1 ≤ p → p < len → p ≤ onward p
  pub most : (p : ℕ) → 1 ≤ p → p < len → onward p ≤ len
  pub still : (p : ℕ) → 1 ≤ p → p < len → (i : ℕ) → p ≤ i → i < onward p → changed s (pair_mask a b) i ≡ false

module _ (unit : ℕ) (s : ℕ → ℕ) (len a b : ℕ) (onward : ℕ → ℕ) (g : Onward s len a b onward) where
  resume_quiet : (p : ℕ) (quiet : Bool) → 1 ≤ p → p < len
      → (p ≤ resume_at onward quiet p) × (resume_at onward quiet p ≤ len) × (turns_of s a b (p - 1) (resume_at onward quiet p - p) ≡ no_turns)
  resume_quiet p false h k = (omega arith, omega (arith, k), turns_quiet s a b (p - 1) (p - p) (λ i l m. absurd (omega (arith, l, m))))
  resume_quiet p true h k = (
    g.least p h k,
    g.most p h k,
    turns_quiet s a b (p - 1) (onward p - p) (λ i l m. g.still p h k i (omega (arith, l)) (omega (arith, l, m, g.least p h k))),
  )

  -- nothing is left
  ended : (p : ℕ) (t : Turns) → len ≤ p → t ≡ add_turns t (turns_of s a b (p - 1) (len - p))
  unfolding turns_of
  ended p t h = sym (ap (λ (x : ℕ). add_turns t (turns_of s a b (p - 1) x)) none_left ∙ add_none t)
    where
      none_left : len - p ≡ 0
      none_left = omega (arith, h)

  hops_rule : (n p : ℕ) (quiet : Bool) (t : Turns) → 1 ≤ p → len - p ≤ n → hops_from unit onward s len a b n p quiet t ≡ add_turns t (turns_of s a b (p - 1) (len - p))
  unfolding hops_from
  hops_rule zero p quiet t h k = ended p t (omega (arith, k))
  hops_rule (suc n) p quiet t h k = go (dec_lt p len) (λ x y u i j. hops_rule n x y u i j)
    where
      at : ℕ
      at = resume_at onward quiet p

      end : ℕ
      end = stretch_end unit len p at

      part : Turns
      part = stretch unit onward s len a b p at

      on : Turns
      on = hops_from unit onward s len a b n end (quiet_behind p at (count_all part)) (add_turns t part)

      go : Dec (p < len) → ((x : ℕ) (y : Bool) (u : Turns) → 1 ≤ x → len - x ≤ n → hops_from unit onward s len a b n x y u ≡ add_turns u (turns_of s a b (x - 1) (len - x)))
          → cond (ltb p len) on t ≡ add_turns t (turns_of s a b (p - 1) (len - p))
      go (no l) rest = ap (λ (x : Bool). cond x on t) (le-ltb p len (omega (arith, l))) ∙ ended p t (omega (arith, l))
      go (yes l) rest =
          let q = resume_quiet p quiet h l in
          let e = ends unit len p at end q.1 refl in
          let past : p < end = omega (arith, e.more, e.least, q.0, l) in
          ap (λ (x : Bool). cond x on t) (lt-ltb p len l)
          ∙ rest end (quiet_behind p at (count_all part)) (add_turns t part) (omega (arith, past)) (omega (arith, past, k))
          ∙ add_assoc_turns t part (turns_of s a b (end - 1) (len - end))
          ∙ ap (add_turns t)
          (joined s a b at end len (omega (arith, h, q.0)) e.least e.most
          ∙ sym (none_add (turns_of s a b (at - 1) (len - at)))
          ∙ ap (λ (u : Turns). add_turns u (turns_of s a b (at - 1) (len - at))) (sym q.2)
          ∙ joined s a b p at len h q.0 q.1)

  -- the hops come to the replay of the run
  pub hops_right : hops_from unit onward s len a b len 1 true no_turns ≡ encoder s len a b
  hops_right = hops_rule len 1 true no_turns (omega arith) (omega arith) ∙ none_add (turns_of s a b (1 - 1) (len - 1))
