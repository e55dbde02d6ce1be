-- Places on the way of a search: where it stands, how far it can move, and at which places it stays at a level.
use Prim.Native.Nat.{ℕ, suc, ◌+◌, ◌-◌, ◌*◌, ◌/◌, ◌%◌, ◌≤◌, ◌<◌, min}
use mathlib.Core.Path.{◌≡◌, refl, sym, ap, ◌∙◌, subst, subst₂}
use mathlib.Core.Bool.{Bool, true, false, true≢false, false≢true}
use native.Mathlib.Nat.{pow-suc, suc-mul, add-mul, mul-le-mul_right, mul-mod_left, div-add-mod', div-mul-le_self, le-div_iff_mul-le, mod-eq-zero_of_dvd, dvd_of_mod-eq-zero, dvd_of_mul-dvd-mul_left, mul_comm}
use native.Mathlib.Decide.{ℕ_discrete}
use native.Mathlib.Omega.{arith}
use Rattle.rules.specs.Node.{Node, span}
use Rattle.rules.specs.Walk.{best}
use Rattle.rules.proofs.Walk.{span_pos}
use Rattle.level.specs.Best.{Best}
use Rattle.level.proofs.Best.{best_of, best_ahead, best_behind}
use Rattle.find.specs.Way.{way_in, moved, left_in, to_border}

-- a search stands at pos, with room left
pub record Placed (back : Bool) (base hi pos room : ℕ) : Type 0 where
  pub low : base ≤ pos
  pub high : pos ≤ hi
  pub room_is : room ≡ left_in back base hi pos

module _ (back : Bool) (base hi pos room : ℕ) where
  -- it can move
  pub moves_fit : Placed back base hi pos room → (d : ℕ) → d ≤ room → hi < 18446744073709551616 → (back ≡ true → d ≤ pos) × (back ≡ false → pos + d < 18446744073709551616)
  moves_fit p d h m = go back p.low p.high p.room_is
    where
      go : (b : Bool) → base ≤ pos → pos ≤ hi → room ≡ left_in b base hi pos → (b ≡ true → d ≤ pos) × (b ≡ false → pos + d < 18446744073709551616)
      go true i j e = (λ _. omega arith, λ z. absurd (true≢false z))
      go false i j e = (λ z. absurd (false≢true z), λ _. omega arith)

  pub placed_moved : Placed back base hi pos room → (d : ℕ) → d ≤ room → Placed back base hi (moved back pos d) (room - d)
  placed_moved p d h = go back p.low p.high p.room_is
    where
      go : (b : Bool) → base ≤ pos → pos ≤ hi → room ≡ left_in b base hi pos → Placed b base hi (moved b pos d) (room - d)
      go true i j e = record { low = omega arith; high = omega arith; room_is = omega arith }
      go false i j e = record { low = omega arith; high = omega arith; room_is = omega arith }

-- what the walk has left there, and its level
pub left_is : (back : Bool) (reader : ℕ → ℕ → Node) (base hi p : ℕ) → (way_in back reader base hi).left p ≡ left_in back base hi p
left_is true reader base hi p = refl
left_is false reader base hi p = refl

pub level_is : (back : Bool) (reader : ℕ → ℕ → Node) (base hi p room cap l : ℕ) → Placed back base hi p room → Best p room cap l → l ≡ best (λ (l : ℕ). (way_in back reader base hi).takes l p) cap
level_is true reader base hi p room cap l h b = best_behind reader p cap l base h.low (subst (λ (x : ℕ). Best p x cap l) h.room_is b)
level_is false reader base hi p room cap l h b = best_ahead reader p cap l hi h.high (subst (λ (x : ℕ). Best p x cap l) h.room_is b)

-- ---- a run of nodes
-- at pos the walk takes level l, whose nodes have s samples; n of them fit, and reach no border of the level above
pub record Stretch (back : Bool) (pos room cap l s n : ℕ) : Type 0 where
  pub takes : Best pos room cap l
  pub span_is : s ≡ span l
  pub border : n ≤ to_border back (pos / s)
  pub fits : n * s ≤ room

-- a multiple of a level's span that is one of the next level's too has a number that is a multiple of 32
border_number : (l q : ℕ) → q * span l % span (suc l) ≡ 0 → q % 32 ≡ 0
border_number l q e =
    mod-eq-zero_of_dvd 32 (dvd_of_mul-dvd-mul_left {k = span l} 32 (span_pos l)
    (dvd_of_mod-eq-zero (span l * 32) (subst (λ (x : ℕ). x % (span l * 32) ≡ 0) (mul_comm q (span l)) (subst (λ (x : ℕ). q * span l % x ≡ 0) (pow-suc 32 l) e))))

-- away from the borders of the level above, a level that fits is the one taken
pub best_within : (p room cap l q : ℕ) → p ≡ q * span l → (q % 32 ≡ 0 → ⊥) → span l ≤ room → l ≤ cap → Best p room cap l
best_within p room cap l q e h f c =
    best_of p room cap l c
    (record { aligned = ap (λ (x : ℕ). x % span l) e ∙ mul-mod_left q (span l); small = f })
    (λ _ g. h (border_number l q (ap (λ (x : ℕ). x % span (suc l)) (sym e) ∙ g.aligned)))

pub stretch_of : (back : Bool) (pos room cap l s n : ℕ) → Best pos room cap l → s ≡ span l → n ≡ min (to_border back (pos / s)) (room / s) → Stretch back pos room cap l s n
stretch_of back pos room cap l s n b es en = record { takes = b; span_is = es; border = omega arith; fits = omega (arith, mul-le-mul_right {m = n} {n = room / s} s (omega arith), div-mul-le_self room s) }

pub stretch_some : (back : Bool) (pos room cap l s n : ℕ) → Best pos room cap l → s ≡ span l → n ≡ min (to_border back (pos / s)) (room / s) → 1 ≤ n
stretch_some back pos room cap l s n b es en = go back en
  where
    one : 1 ≤ room / s
    one = (le-div_iff_mul-le {k = s} {x = 1} {y = room} (omega (arith, es, span_pos l))).1 (omega (arith, es, b.fits))

    go : (b : Bool) → n ≡ min (to_border b (pos / s)) (room / s) → 1 ≤ n
    go true e = omega (arith, one)
    go false e = omega (arith, one)

module _ (back : Bool) (base hi pos room cap l s n : ℕ) (p : Placed back base hi pos room) (t : Stretch back pos room cap l s n) where
  pub some_samples : 1 ≤ s
  some_samples = omega (arith, t.span_is, span_pos l)

  -- j of the nodes and one more
  pub room_for : (j : ℕ) → j < n → j * s + s ≤ room
  room_for j h = omega (arith, t.fits, suc-mul j s, mul-le-mul_right {m = suc j} {n = n} s h)

  -- the place after j of them
  abbrev pub place_after : ℕ → ℕ
  place_after j = moved back pos (j * s)

  pub placed_after : (j : ℕ) → j * s ≤ room → Placed back base hi (place_after j) (room - j * s)
  placed_after j h = placed_moved back base hi pos room p (j * s) h

  -- pos is a border of the level
  at_border : pos / s * s ≡ pos
  at_border = omega (arith, div-add-mod' pos s, subst (λ (x : ℕ). pos % x ≡ 0) (sym t.span_is) t.takes.aligned)

  -- so are the places after, and none but the first is one of the level above
  module _ (j : ℕ) (h : j < n) where
    inside : (b : Bool) → room ≡ left_in b base hi pos → b ≡ true → j ≤ pos / s
    inside true e z = (le-div_iff_mul-le some_samples).1 (omega (arith, room_for j h))
    inside false e z = absurd (false≢true z)

    number_after : (b : Bool) → room ≡ left_in b base hi pos → moved b pos (j * s) ≡ moved b (pos / s) j * s
    number_after true e = let k : pos / s - j + j ≡ pos / s = omega (arith, inside true e refl) in omega (arith, at_border, add-mul (pos / s - j) j s, ap (λ (x : ℕ). x * s) k)
    number_after false e = omega (arith, at_border, add-mul (pos / s) j s)

    no_border : 0 < j → (b : Bool) → room ≡ left_in b base hi pos → n ≤ to_border b (pos / s) → moved b (pos / s) j % 32 ≡ 0 → ⊥
    no_border i true e m z = omega (arith, inside true e refl)
    no_border i false e m z = omega arith

    stays : Best (place_after j) (room - j * s) cap l
    stays = go (ℕ_discrete j 0)
      where
        go : Dec (j ≡ 0) → Best (place_after j) (room - j * s) cap l
        go (yes z) = subst₂ (λ (x y : ℕ). Best x y cap l) (none back) same t.takes
          where
            same : room ≡ room - j * s
            same = omega (arith, ap (λ (k : ℕ). k * s) z)

            none : (b : Bool) → pos ≡ moved b pos (j * s)
            none true = omega (arith, ap (λ (k : ℕ). k * s) z)
            none false = omega (arith, ap (λ (k : ℕ). k * s) z)
        go (no z) =
            best_within (place_after j) (room - j * s) cap l (moved back (pos / s) j)
            (number_after back p.room_is ∙ ap (λ (x : ℕ). moved back (pos / s) j * x) t.span_is)
            (no_border (omega arith) back p.room_is t.border) (omega (arith, t.span_is, room_for j h)) t.takes.below

    -- the walk takes the level there
    pub level_after_lem : (reader : ℕ → ℕ → Node) → l ≡ best (λ (l : ℕ). (way_in back reader base hi).takes l (place_after j)) cap
    level_after_lem reader = level_is back reader base hi (place_after j) (room - j * s) cap l (placed_after j (omega (arith, room_for j h))) stays
