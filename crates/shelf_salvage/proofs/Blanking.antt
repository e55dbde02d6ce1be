-- Zero over stretches, one after the other, and place by place.
use mathlib.Core.Path.{◌≡◌, refl, sym, ap, ap₂, ◌∙◌, subst⁻¹}
use mathlib.Core.Bool.{Bool, true, false, cond, ◌||◌}
use mathlib.Core.List.{List, [], ◌∷◌, ◌++◌, append_assoc}
use Prim.Native.Nat.{ℕ, ◌+◌, ◌-◌, ◌*◌, ◌/◌, ◌≤◌, ◌<◌}
use native.Mathlib.Nat.{add-mul, mul-le-mul, mul-le-mul_right, div-lt_iff_lt-mul, le-div_iff_mul-le}
use native.Mathlib.Decide.{dec_lt}
use native.Mathlib.Omega.{arith}
use lib.ListN.{length, get_or, take, drop, length-take, get_or-replicate, length-replicate, length-drop}
use lib.Seq.{paste, length-paste, take_all, drop-drop}
use Rattle.rules.specs.Sample.{UnitSize}
use Rattle.rules.specs.Block.{zeros}
use Rattle.rules.specs.Refusal.{most_samples}
use Rattle.rules.specs.Stretches.{Stretch, covers, apart, pairs_in}
use Rattle.rules.proofs.Stretches.{among, among_yes, among_before, among_behind, Front, front, pairs_next}
use Rattle.store.proofs.Bytes.{paste_before, paste_inside, paste_after}
use Rattle.shelf_salvage.specs.Salvage.{zeroed, blanked, BlankRoom}

-- ---- one stretch
module _ {u : ℕ} (r : UnitSize u) (s : Stretch) (b : List ℕ) (inside : s.first * u + s.count * u ≤ length b) where
  abbrev from : ℕ
  from = s.first * u

  abbrev many : ℕ
  many = s.count * u

  abbrev zero_bytes : List ℕ
  zero_bytes = zeros many

  zero_size : length zero_bytes ≡ many
  zero_size = length-replicate many 0

  zeroed_paste : zeroed u s b ≡ paste b from zero_bytes many
  zeroed_paste =
      ap (λ (x : List ℕ). take from b ++ (x ++ drop (from + many) b)) (sym (take_all many zero_bytes (omega (arith, zero_size))))
      ∙ sym (append_assoc (take from b) (take many zero_bytes) (drop (from + many) b))

  zeroed_length : length (zeroed u s b) ≡ length b
  zeroed_length = ap length zeroed_paste ∙ length-paste b from zero_bytes many inside (omega (arith, zero_size))

  -- by the place of the sample that byte j is of
  zeroed_at : (j : ℕ) → get_or (zeroed u s b) j 0 ≡ cond (among s.first s.count (j / u)) 0 (get_or b j 0)
  zeroed_at j = ap (λ (x : List ℕ). get_or x j 0) zeroed_paste ∙ go (dec_lt j from) (dec_lt j (from + many))
    where
      room : many ≤ length zero_bytes
      room = omega (arith, zero_size)

      u_pos : 0 < u
      u_pos = omega (arith, r.least)

      go : Dec (j < from) → Dec (j < from + many) → get_or (paste b from zero_bytes many) j 0 ≡ cond (among s.first s.count (j / u)) 0 (get_or b j 0)
      go (yes l) m =
          paste_before b from zero_bytes many inside room j l
          ∙ sym (ap (λ (t : Bool). cond t 0 (get_or b j 0)) (among_before s.first s.count (j / u) ((div-lt_iff_lt-mul u_pos).1 l)))
      go (no l) (yes m) =
          paste_inside b from zero_bytes many inside room j (omega (arith, l)) m
          ∙ get_or-replicate many (j - from) 0 0 (omega (arith, l, m))
          ∙ sym (ap (λ (t : Bool). cond t 0 (get_or b j 0)) (among_yes s.first s.count (j / u) ((le-div_iff_mul-le u_pos).1 (omega (arith, l))) ((div-lt_iff_lt-mul u_pos).1 (omega (arith, m, add-mul s.first s.count u)))))
      go (no l) (no m) =
          paste_after b from zero_bytes many inside room j (omega (arith, m))
          ∙ sym (ap (λ (t : Bool). cond t 0 (get_or b j 0)) (among_behind s.first s.count (j / u) ((le-div_iff_mul-le u_pos).1 (omega (arith, m, add-mul s.first s.count u)))))

-- a stretch lies in what memory holds
inside_memory : {len size : ℕ} (u : ℕ) (s : Stretch) → s.first + s.count ≤ len → len * u ≤ size → s.first * u + s.count * u ≤ size
inside_memory u s h room = omega (arith, add-mul s.first s.count u, mul-le-mul_right u h, room)

-- ---- several
module _ {u : ℕ} (r : UnitSize u) (len : ℕ) where
  pub blanked_length : (p : ℕ) (ss : List Stretch) (b : List ℕ) → apart p len ss ≡ true → len * u ≤ length b → length (blanked u ss b) ≡ length b
  unfolding blanked
  blanked_length p [] b e h = refl
  blanked_length p (s ∷ ss) b e h =
      let f = front p len s ss e in
      let same = zeroed_length r s b (inside_memory u s f.inside h) in
      blanked_length (s.first + s.count + 1) ss (zeroed u s b) f.rest (omega (arith, h, same)) ∙ same

  pub blanked_at : (p : ℕ) (ss : List Stretch) (b : List ℕ) (j : ℕ) → apart p len ss ≡ true → len * u ≤ length b → get_or (blanked u ss b) j 0 ≡ cond (covers ss (j / u)) 0 (get_or b j 0)
  unfolding blanked covers
  blanked_at p [] b j e h = refl
  blanked_at p (s ∷ ss) b j e h =
      let f = front p len s ss e in
      let inside = inside_memory u s f.inside h in
      blanked_at (s.first + s.count + 1) ss (zeroed u s b) j f.rest (omega (arith, h, zeroed_length r s b inside))
      ∙ ap (cond (covers ss (j / u)) 0) (zeroed_at r s b inside j)
      ∙ twice (among s.first s.count (j / u)) (covers ss (j / u))
    where
      twice : (a c : Bool) → cond c 0 (cond a 0 (get_or b j 0)) ≡ cond (a || c) 0 (get_or b j 0)
      twice true true = refl
      twice true false = refl
      twice false c = refl

-- ---- as a loop: i stretches are done, and the others would follow
pub record Blanks (u : ℕ) (list samples₀ : List ℕ) (samples : List ℕ) (i : ℕ) : Type 0 where
  pub room : BlankRoom u list (length samples₀)
  pub size : length samples ≡ length samples₀
  pub next : ℕ
  pub in_order : apart next room.len (pairs_in (drop (2 * i) list)) ≡ true
  pub same : blanked u (pairs_in (drop (2 * i) list)) samples ≡ blanked u (pairs_in list) samples₀

-- one number is no pair
no_pair : (l : List ℕ) → length l ≤ 1 → pairs_in l ≡ []
unfolding pairs_in
no_pair [] h = refl
no_pair (x ∷ []) h = refl
no_pair (x ∷ y ∷ l) h = absurd (omega (arith, h))

module _ {u : ℕ} {list : List ℕ} where
  pub blanks_start : (samples : List ℕ) → BlankRoom u list (length samples) → Blanks u list samples samples 0
  blanks_start samples t = record { room = t; size = refl; next = 0; in_order = t.in_order; same = refl }

  module _ {samples₀ samples : List ℕ} {i : ℕ} (s : Blanks u list samples₀ samples i) where
    abbrev t : BlankRoom u list (length samples₀)
    t = s.room

    module _ (h : 2 * i + 1 < length list) where
      abbrev this : Stretch
      this = record { first = get_or list (2 * i) 0; count = get_or list (2 * i + 1) 0 }

      there_is : pairs_in (drop (2 * i) list) ≡ this ∷ pairs_in (drop (2 * (i + 1)) list)
      there_is = pairs_next list i h

      fronts : Front s.next t.len this (pairs_in (drop (2 * (i + 1)) list))
      fronts = front s.next t.len this (pairs_in (drop (2 * (i + 1)) list)) (subst⁻¹ (λ (x : List Stretch). apart s.next t.len x ≡ true) (sym there_is) s.in_order)

      pub this_inside : this.first * u + this.count * u ≤ length samples
      this_inside = inside_memory u this fronts.inside (omega (arith, t.holds, s.size))

      pub this_small : this.first * u + this.count * u ≤ most_samples * 2
      this_small = inside_memory u this fronts.inside (mul-le-mul {n₁ = t.len} {m₁ = u} {n₂ = most_samples} {m₂ = 2} t.few t.unit_size.most)

      abbrev at : ℕ
      at = this.first * u

      abbrev end : ℕ
      end = this.first * u + this.count * u

      -- the part is lent, and comes back with zeros
      pub blanks_on : (part : List ℕ) → part ≡ zeros (length (take (end - at) (drop at samples))) → Blanks u list samples₀ (take at samples ++ (part ++ drop (end - at) (drop at samples))) (i + 1)
      unfolding blanked
      blanks_on part e = record {
        room = t;
        size = ap length zeroes ∙ zeroed_length t.unit_size this samples this_inside ∙ s.size;
        next = this.first + this.count + 1;
        in_order = fronts.rest;
        same = ap (blanked u (pairs_in (drop (2 * (i + 1)) list))) zeroes ∙ ap (λ (x : List Stretch). blanked u x samples) (sym there_is) ∙ s.same;
      }
        where
          cut : end - at ≡ this.count * u
          cut = omega arith

          many : length (take (end - at) (drop at samples)) ≡ this.count * u
          many = simp (length-take, length-drop) (omega (arith, this_inside))

          zeroes : take at samples ++ (part ++ drop (end - at) (drop at samples)) ≡ zeroed u this samples
          zeroes = ap₂ (λ (x y : List ℕ). take at samples ++ (x ++ y)) (e ∙ ap zeros many) (ap (λ (k : ℕ). drop k (drop at samples)) cut ∙ drop-drop (this.count * u) at samples)

    pub blanks_end : length list ≤ 2 * i + 1 → samples ≡ blanked u (pairs_in list) samples₀
    unfolding blanked
    blanks_end h = ap (λ (x : List Stretch). blanked u x samples) (sym (no_pair (drop (2 * i) list) (omega (arith, length-drop (2 * i) list, h)))) ∙ s.same
