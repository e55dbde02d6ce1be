-- A walk on its way, in either direction: what a loop that follows it knows, and what each of its steps leaves.
use Prim.Native.Nat.{ℕ, suc, ◌+◌, ◌-◌, ◌≤◌, ◌<◌}
use mathlib.Core.Path.{◌≡◌, sym, ap, ap₂, ◌∙◌}
use mathlib.Core.Bool.{true, false}
use Rattle.std.specs.Prelude.{Option, None, Some}
use native.Mathlib.Nat.{le_refl}
use native.Mathlib.Omega.{arith}
use Rattle.rules.specs.Node.{Node, quiet, top_level}
use Rattle.rules.specs.Walk.{Walked, nothing, Way, best, walk, walk_from}
use Rattle.rules.proofs.Walk.{counted, walk_ended, walk_past, walk_found, walk_lower}

-- ---- counting
-- what is found, and the steps to it
abbrev pub told : Option ℕ → ℕ → Walked
told x n = record { found = x; steps = n }

-- a walk with its steps counted from n on
abbrev pub counted_from : ℕ → Walked → Walked
counted_from n r = told r.found (n + r.steps)

pub from_none : (r : Walked) → counted_from 0 r ≡ r
from_none r = ap (told r.found) (omega arith)

pub from_end : (n : ℕ) → counted_from n nothing ≡ told None n
from_end n = ap (told None) (omega arith)

-- m more of them, and one more
pub from_more : (n m : ℕ) (r : Walked) → counted_from (n + m) r ≡ counted_from n (counted_from m r)
from_more n m r = ap (told r.found) (omega arith)

from_counted : (n n' : ℕ) → n' ≡ n + 1 → (r : Walked) → counted_from n' r ≡ counted_from n (counted r)
from_counted n n' e r = ap (told r.found) (omega arith)

-- ---- on its way
-- a walk that has come to p in `count` steps, with the steps that are left, is the whole walk
pub record Going (w : Way) (mask : ℕ) (whole : Walked) (count p cap v : ℕ) : Type 0 where
  pub capped : cap ≤ top_level
  pub fuel : ℕ
  pub enough : w.left p + cap ≤ fuel
  pub same : counted_from count (walk w mask (suc fuel) p cap v) ≡ whole

pub going_starts : (w : Way) (mask p v : ℕ) → Going w mask (walk_from w mask p v) 0 p top_level v
going_starts w mask p v = record { capped = le_refl top_level; fuel = w.left p + top_level; enough = le_refl (w.left p + top_level); same = from_none (walk_from w mask p v) }

module _ {w : Way} {mask : ℕ} {whole : Walked} {count p cap v : ℕ} (g : Going w mask whole count p cap v) where
  one_less : 0 < w.left p → suc (g.fuel - 1) ≡ g.fuel
  one_less h = omega (arith, g.enough)

  pub going_end : w.left p ≡ 0 → told None count ≡ whole
  going_end h = sym (from_end count) ∙ sym (ap (counted_from count) (walk_ended w mask (suc g.fuel) p cap v h)) ∙ g.same

  -- at level l, whose node is n
  module _ {l : ℕ} {n : Node} (h : 0 < w.left p) (el : l ≡ best (λ (l : ℕ). w.takes l p) cap) (en : n ≡ w.node l p) {count' : ℕ} (ec : count' ≡ count + 1) where
    pub going_past : {p' : ℕ} → p' ≡ w.past l p → w.left p' < w.left p → quiet n v mask ≡ true → Going w mask whole count' p' cap n.last
    going_past {p'} e f q = record {
      capped = g.capped;
      fuel = g.fuel - 1;
      enough = omega (arith, g.enough);
      same =
          ap₂ (λ (k x : ℕ). counted_from count' (walk w mask k x cap n.last)) (one_less h) e
          ∙ from_counted count count' ec (walk w mask g.fuel (w.past l p) cap n.last)
          ∙ sym (ap (counted_from count) (walk_past w mask g.fuel p cap v l n h el en q))
          ∙ g.same;
    }

    pub going_lower : l ≤ cap → quiet n v mask ≡ false → (l ≡ 0 → ⊥) → Going w mask whole count' p (l - 1) v
    going_lower hl q z = record {
      capped = omega (arith, g.capped);
      fuel = g.fuel - 1;
      enough = omega (arith, g.enough);
      same =
          ap (λ (k : ℕ). counted_from count' (walk w mask k p (l - 1) v)) (one_less h)
          ∙ from_counted count count' ec (walk w mask g.fuel p (l - 1) v)
          ∙ sym (ap (counted_from count) (walk_lower w mask g.fuel p cap v l n h el en q z))
          ∙ g.same;
    }

    pub going_found : quiet n v mask ≡ false → l ≡ 0 → told (Some p) (count + 1) ≡ whole
    going_found q z = sym (ap (counted_from count) (walk_found w mask g.fuel p cap v l n h el en q z)) ∙ g.same
