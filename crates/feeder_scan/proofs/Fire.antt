-- Laws of the first firing place among the places a to e: one place, places in two parts, and the loops of the scan.
use Prim.Native.Nat.{ℕ, suc, ◌+◌, ◌-◌, ◌≤◌, ◌<◌}
use mathlib.Core.Path.{◌≡◌, refl, sym, ap, ap₂, ◌∙◌}
use mathlib.Core.Bool.{Bool, true, false, ◌||◌}
use mathlib.Core.List.{◌++◌}
use Rattle.std.specs.Prelude.{Option, Some}
use native.Mathlib.Decide.{dec_lt}
use native.Mathlib.Omega.{arith}
use lib.Dec.{ltb}
use borrow.Author.Tests.{lt-ltb, le-ltb, ltb-true, ltb-false}
use Rattle.rules.specs.Sample.{list_from}
use Rattle.rules.specs.Trigger.{Masks, matches, fires, first_fire}
use Rattle.rules.proofs.Sample.{list_length, list_append}
use Rattle.rules.proofs.Trigger.{fire_le, fire_stays, fire_later}
use Rattle.feeder_scan.specs.Scan.{fire_from}
use Rattle.feeder_scan.proofs.Last.{last_after}

module _ (m : Masks) (s : ℕ → ℕ) where
  -- ---- one place
  pub fire_end : (p a e : ℕ) → e ≤ a → fire_from m s p a e ≡ a
  unfolding first_fire list_from
  fire_end p a e h = rw None (omega arith)
    where
      None : e - a ≡ 0
      None = omega arith

  pub fire_here : (p a e : ℕ) → a < e → matches m p (s a) ≡ true → fire_from m s p a e ≡ a
  unfolding first_fire list_from fires
  fire_here p a e h t = rw (one, t) (omega arith)
    where
      one : e - a ≡ suc (e - (a + 1))
      one = omega arith

  pub fire_on : (p a e : ℕ) → a < e → matches m p (s a) ≡ false → fire_from m s p a e ≡ fire_from m s (s a) (a + 1) e
  unfolding first_fire list_from fires
  fire_on p a e h t = rw (one, t) (omega arith)
    where
      one : e - a ≡ suc (e - (a + 1))
      one = omega arith

  -- ---- two parts, from a to i and from i to e
  pub fire_most : (p a e : ℕ) → a ≤ e → fire_from m s p a e ≤ e
  fire_most p a e h = omega (arith, fire_le m (Some p) (list_from s a (e - a)), list_length s a (e - a))

  module _ (a i e : ℕ) (h : a ≤ i) (l : i ≤ e) where
    parts : list_from s a (e - a) ≡ list_from s a (i - a) ++ list_from s i (e - i)
    parts = ap (list_from s a) count ∙ list_append s a (i - a) (e - i) ∙ ap (λ (x : ℕ). list_from s a (i - a) ++ list_from s x (e - i)) at
      where
        count : e - a ≡ (i - a) + (e - i)
        count = omega arith

        at : a + (i - a) ≡ i
        at = omega arith

    -- fired in the first part
    pub fire_before : (p : ℕ) → fire_from m s p a i < i → fire_from m s p a e ≡ fire_from m s p a i
    fire_before p f = ap (λ (x : ℕ). a + x) (ap (first_fire m (Some p)) parts ∙ fire_stays m (Some p) (list_from s a (i - a)) (list_from s i (e - i)) (omega (arith, list_length s a (i - a))))

    -- not fired there: the second part is left
    pub fire_after : fire_from m s (s (a - 1)) a i ≡ i → fire_from m s (s (a - 1)) a e ≡ fire_from m s (s (i - 1)) i e
    fire_after f =
        ap (λ (x : ℕ). a + x)
        (ap (first_fire m (Some (s (a - 1)))) parts
        ∙ fire_later m (Some (s (a - 1))) (list_from s a (i - a)) (list_from s i (e - i)) (omega (arith, list_length s a (i - a)))
        ∙ ap₂ (λ (x : ℕ) (q : Option ℕ). x + first_fire m q (list_from s i (e - i))) (list_length s a (i - a)) (last_after s (i - a) a ∙ ap (λ (x : ℕ). Some (s x)) at))
        ∙ whole (first_fire m (Some (s (i - 1))) (list_from s i (e - i)))
      where
        at : a + (i - a) - 1 ≡ i - 1
        at = omega arith

        whole : (x : ℕ) → a + ((i - a) + x) ≡ i + x
        whole x = omega arith

  -- ---- a block: whether one of the places a to i fires, and then i
  pub any_turn : (a i : ℕ) (any hit : Bool) → a ≤ i → any ≡ ltb (fire_from m s (s (a - 1)) a i) i → hit ≡ matches m (s (i - 1)) (s i) → (any || hit) ≡ ltb (fire_from m s (s (a - 1)) a (i + 1)) (i + 1)
  any_turn a i any hit h ea eh = ap₂ (λ (x y : Bool). x || y) ea eh ∙ go (dec_lt (fire_from m s (s (a - 1)) a i) i)
    where
      here : (b : Bool) → matches m (s (i - 1)) (s i) ≡ b → b ≡ ltb (fire_from m s (s (i - 1)) i (i + 1)) (i + 1)
      here true t = sym (lt-ltb _ (i + 1) (omega (arith, fire_here (s (i - 1)) i (i + 1) (omega arith) t)))
      here false t = sym (le-ltb _ (i + 1) (omega (arith, fire_on (s (i - 1)) i (i + 1) (omega arith) t, fire_end (s i) (i + 1) (i + 1) (omega arith))))

      go : Dec (fire_from m s (s (a - 1)) a i < i) → (ltb (fire_from m s (s (a - 1)) a i) i || matches m (s (i - 1)) (s i)) ≡ ltb (fire_from m s (s (a - 1)) a (i + 1)) (i + 1)
      go (yes d) = ap (λ (b : Bool). b || matches m (s (i - 1)) (s i)) (lt-ltb _ i d) ∙ sym (lt-ltb _ (i + 1) (omega (arith, fire_before a i (i + 1) h (omega arith) (s (a - 1)) d)))
      go (no d) =
          ap (λ (b : Bool). b || matches m (s (i - 1)) (s i)) (le-ltb _ i (omega arith))
          ∙ here (matches m (s (i - 1)) (s i)) refl
          ∙ ap (λ (x : ℕ). ltb x (i + 1)) (sym (fire_after a i (i + 1) h (omega arith) (omega (arith, fire_most (s (a - 1)) a i h))))

  -- ---- the scan by blocks, which has come to a
  module _ (a e n : ℕ) (any : Bool) (h : a ≤ e) (l : e ≤ n) (t : any ≡ ltb (fire_from m s (s (a - 1)) a e) e) where
    pub block_hit : any ≡ true → fire_from m s (s (a - 1)) a e ≡ fire_from m s (s (a - 1)) a n
    block_hit f = sym (fire_before a e n h l (s (a - 1)) (ltb-true _ e (sym t ∙ f)))

    pub block_miss : any ≡ false → fire_from m s (s (e - 1)) e n ≡ fire_from m s (s (a - 1)) a n
    block_miss f = sym (fire_after a e n h l (omega (arith, fire_most (s (a - 1)) a e h, ltb-false _ e (sym t ∙ f))))
