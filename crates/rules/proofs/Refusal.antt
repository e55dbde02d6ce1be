-- No refusal, as bounds: what rows 1 and 2 of the table let pass, in the form that callers reason with, and that nothing else passes.
use mathlib.Core.Path.{◌≡◌, refl, ap, ◌∙◌, subst}
use mathlib.Core.Bool.{Bool, true, false, cond, not, ◌&&◌, ◌||◌, and-false}
use mathlib.Core.List.Memᴰ
use mathlib.Core.List.{List, [], ◌∷◌, Memᴰ}
use mathlib.Core.Logic.{◌↔◌, ◌⊎◌, inl, inr}
use Rattle.std.specs.Prelude.{Option, None, Some}
use Rattle.rules.proofs.Options.{none-ne-some}
use Prim.Native.Nat.{ℕ, zero, suc, ◌+◌, ◌≤◌, ◌<◌, max}
use native.Mathlib.Decide.{dec_lt}
use native.Mathlib.Omega.{arith}
use lib.Dec.{ltb, leb, eqb}
use borrow.Author.Tests.{ltb-false, le-ltb, leb-false, lt-leb, eqb-true, eqb-false, eq-eqb, ne_eqb, not-false}
use Rattle.rules.specs.Sample.{UnitSize}
use Rattle.rules.specs.Node.{top_level}
use Rattle.rules.specs.Refusal.{Store, most_samples, Lent, Row, first_of, unit_wrong, mark_wrong, store_wrong, samples_need, level_need, level_short, lent_short, store_rows, store_refusal, Recorder, place_wrong, setting_wrong, recorder_wrong, ring_need, ring_short, recorder_rows, room_row}
use Rattle.rules.proofs.Sample.{unit_cases}

-- ---- rows in order
-- a row that is passed
pub row_passed : (number rest : ℕ) (holds : Bool) → 0 < number → (cond holds number rest ≡ 0) ↔ ((holds ≡ false) × (rest ≡ 0))
row_passed number rest true h = (λ e. absurd (omega arith), λ t. absurd (let z : ◌≡◌ {A = ℕ} 0 1 = cc t.0 in omega arith))
row_passed number rest false h = (λ e. (refl, e), λ t. t.1)

holds_cons : (r : Row) (rows : List Row) → 0 < r.number → (first_of rows ≡ 0) ↔ ((row : Row) → Memᴰ row rows → row.holds ≡ false)
    → (first_of (r ∷ rows) ≡ 0) ↔ ((row : Row) → Memᴰ row (r ∷ rows) → row.holds ≡ false)
holds_cons r rows p rest = (λ e row l. go (first.0 e) row (Memᴰ.cases_cons l), λ f. first.1 (f r (Memᴰ.head refl), rest.1 (λ row l. f row (Memᴰ.tail l))))
  where
    first : (first_of (r ∷ rows) ≡ 0) ↔ ((r.holds ≡ false) × (first_of rows ≡ 0))
    first = row_passed r.number (first_of rows) r.holds p

    go : (r.holds ≡ false) × (first_of rows ≡ 0) → (row : Row) → (row ≡ r) ⊎ Memᴰ row rows → row.holds ≡ false
    go t row (inl e) = ap (λ (x : Row). x.holds) e ∙ t.0
    go t row (inr l) = rest.0 t.1 row l

-- first_of gives 0 exactly when no row holds
pub none_holds : (rows : List Row) → ((row : Row) → Memᴰ row rows → 0 < row.number) → (first_of rows ≡ 0) ↔ ((row : Row) → Memᴰ row rows → row.holds ≡ false)
none_holds [] h = (λ e row l. absurd (Memᴰ.not-nil l), λ f. refl)
none_holds (r ∷ rows) h = holds_cons r rows (h r (Memᴰ.head refl)) (none_holds rows (λ row l. h row (Memᴰ.tail l)))

-- ---- tests that do not hold
pub neither : (a b : Bool) → ((a || b) ≡ false) ↔ ((a ≡ false) × (b ≡ false))
neither true b = (λ e. (e, cc), λ t. t.0)
neither false b = (λ e. (refl, e), λ t. t.1)

not_less : (a b : ℕ) → (ltb a b ≡ false) ↔ (b ≤ a)
not_less a b = (ltb-false a b, le-ltb a b)

not_zero : (a : ℕ) → (eqb a 0 ≡ false) ↔ (0 < a)
not_zero a = (λ e. omega (arith, eqb-false a 0 e), λ h. ne_eqb a 0 (λ e. omega arith))

pub unit_right : (u : ℕ) → (unit_wrong u ≡ false) ↔ UnitSize u
unit_right u = (λ e. go (eqb u 1) refl (not-false _ e), λ h. by (unit_cases h))
  where
    go : (b : Bool) → eqb u 1 ≡ b → (b || eqb u 2) ≡ true → UnitSize u
    go true e t = record { least = omega (arith, eqb-true u 1 e); most = omega (arith, eqb-true u 1 e) }
    go false e t = record { least = omega (arith, eqb-true u 2 t); most = omega (arith, eqb-true u 2 t) }

    by : (u ≡ 1) ⊎ (u ≡ 2) → unit_wrong u ≡ false
    by (inl e) = rw (eq-eqb u 1 e)
    by (inr e) = rw (ne_eqb u 1 (λ z. omega arith), eq-eqb u 2 e)

pub mark_right : (mark : Option ℕ) (len : ℕ) → (mark_wrong mark len ≡ false) ↔ ((k : ℕ) → mark ≡ Some k → k ≤ len)
mark_right None len = (λ e k q. absurd (none-ne-some k q), λ f. refl)
mark_right (Some j) len = (λ e k q. let same : j ≡ k = cc in omega (arith, ltb-false len j e), λ f. le-ltb len j (f j refl))

levels_right : (st : Store) (level : ℕ → ℕ) (n : ℕ) → (level_short st level n ≡ false) ↔ ((l : ℕ) → 1 ≤ l → l ≤ n → level_need st l ≤ level l)
unfolding level_short
levels_right st level zero = (λ e l p q. absurd (omega arith), λ f. refl)
levels_right st level (suc n) = level_cons (levels_right st level n)
  where
    level_cons : (level_short st level n ≡ false) ↔ ((l : ℕ) → 1 ≤ l → l ≤ n → level_need st l ≤ level l)
        → ((level_short st level n || ltb (level (suc n)) (level_need st (suc n))) ≡ false) ↔ ((l : ℕ) → 1 ≤ l → l ≤ suc n → level_need st l ≤ level l)
    level_cons ih = (λ e l p q. go l p q ((neither _ _).0 e) (dec_lt l (suc n)), λ f. (neither _ _).1 (ih.1 (λ l p q. f l p (omega arith)), (not_less _ _).1 (f (suc n) (omega arith) (omega arith))))
      where
        go : (l : ℕ) → 1 ≤ l → l ≤ suc n → (level_short st level n ≡ false) × (ltb (level (suc n)) (level_need st (suc n)) ≡ false) → Dec (l < suc n) → level_need st l ≤ level l
        go l p q t (yes h) = ih.0 t.0 l p (omega arith)
        go l p q t (no h) = subst (λ (x : ℕ). level_need st x ≤ level x) last (ltb-false _ _ t.1)
          where
            last : suc n ≡ l
            last = omega arith

-- ---- rows 1 and 2
-- the bounds of a store and of the memory that is lent with it
pub record Sound (st : Store) (lent : Lent) : Type 0 where
  pub unit_size : UnitSize st.unit
  pub capacity_least : 1 ≤ st.capacity
  pub capacity_most : st.capacity ≤ most_samples
  pub len_most : st.len ≤ st.capacity
  pub samples : samples_need st ≤ lent.samples
  pub level : (l : ℕ) → 1 ≤ l → l ≤ top_level → level_need st l ≤ lent.level l

-- "mark (absent, or a place at most len)"
abbrev pub MarkInside : Store → Type 0
MarkInside st = (k : ℕ) → st.mark ≡ Some k → k ≤ st.len

-- row 1 alone
pub record Ranged (st : Store) : Type 0 where
  pub unit_size : UnitSize st.unit
  pub capacity_least : 1 ≤ st.capacity
  pub capacity_most : st.capacity ≤ most_samples
  pub len_most : st.len ≤ st.capacity
  pub mark_inside : MarkInside st

pub ranged : (st : Store) → store_wrong st ≡ false → Ranged st
ranged st e =
    let t4 = (neither (unit_wrong st.unit || eqb st.capacity 0 || ltb most_samples st.capacity || ltb st.capacity st.len) (mark_wrong st.mark st.len)).0 e in
    let t3 = (neither (unit_wrong st.unit || eqb st.capacity 0 || ltb most_samples st.capacity) (ltb st.capacity st.len)).0 t4.0 in
    let t2 = (neither (unit_wrong st.unit || eqb st.capacity 0) (ltb most_samples st.capacity)).0 t3.0 in
    let t1 = (neither (unit_wrong st.unit) (eqb st.capacity 0)).0 t2.0 in
    record {
      unit_size = (unit_right st.unit).0 t1.0;
      capacity_least = (not_zero st.capacity).0 t1.1;
      capacity_most = (not_less most_samples st.capacity).0 t2.1;
      len_most = (not_less st.capacity st.len).0 t3.1;
      mark_inside = (mark_right st.mark st.len).0 t4.1;
    }

module _ (st : Store) (lent : Lent) where
  pub rows_then : store_wrong st ≡ false → lent_short st lent ≡ false → Sound st lent × MarkInside st
  rows_then e f =
      let r = ranged st e in
      let l = (neither (ltb lent.samples (samples_need st)) (level_short st lent.level top_level)).0 f in (
        record {
          unit_size = r.unit_size;
          capacity_least = r.capacity_least;
          capacity_most = r.capacity_most;
          len_most = r.len_most;
          samples = (not_less lent.samples (samples_need st)).0 l.0;
          level = (levels_right st lent.level top_level).0 l.1;
        },
        r.mark_inside,
      )

  then_row_1 : Sound st lent → MarkInside st → store_wrong st ≡ false
  then_row_1 s m =
      (neither _ _).1 (
        (neither _ _).1 (
          (neither _ _).1 (
            (neither _ _).1 (
              (unit_right st.unit).1 s.unit_size,
              (not_zero st.capacity).1 s.capacity_least,
            ),
            (not_less _ _).1 s.capacity_most,
          ),
          (not_less _ _).1 s.len_most,
        ),
        (mark_right st.mark st.len).1 m,
      )

  then_row_2 : Sound st lent → lent_short st lent ≡ false
  then_row_2 s = (neither _ _).1 ((not_less _ _).1 s.samples, (levels_right st lent.level top_level).1 s.level)

  -- where the bounds hold, a call's further rows decide
  pub rows_rest : Sound st lent → MarkInside st → (rest : List Row) → first_of (store_rows st lent rest) ≡ first_of rest
  rows_rest s m rest = rw (then_row_1 s m, then_row_2 s)

  -- every call on a store but Raw: none of its rows holds exactly when the bounds hold and none of its further rows does
  pub rows_passed : (rest : List Row) → (first_of (store_rows st lent rest) ≡ 0) ↔ (Sound st lent × MarkInside st × (first_of rest ≡ 0))
  rows_passed rest = (down, λ t. rows_rest t.0 t.1 rest ∙ t.2)
    where
      down : first_of (store_rows st lent rest) ≡ 0 → Sound st lent × MarkInside st × (first_of rest ≡ 0)
      down e =
          let t1 = (row_passed 1 (cond (lent_short st lent) 2 (first_of rest)) (store_wrong st) (omega arith)).0 e in
          let t2 = (row_passed 2 (first_of rest) (lent_short st lent) (omega arith)).0 t1.1 in
          let s = rows_then t1.0 t2.0 in
          (s.0, s.1, t2.1)

  -- where rows 1 and 2 pass, the further rows decide
  pub rows_left : store_refusal st lent ≡ 0 → (rest : List Row) → first_of (store_rows st lent rest) ≡ first_of rest
  rows_left e rest = let p = (rows_passed []).0 e in rows_rest p.0 p.1 rest

  pub sound : store_refusal st lent ≡ 0 → Sound st lent
  sound e = ((rows_passed []).0 e).0

  pub none_refused : Sound st lent → MarkInside st → store_refusal st lent ≡ 0
  none_refused s m = (rows_passed []).1 (s, m, refl)

-- ---- a push
-- the bounds of a recorder, of the memory of its store, and of the ring, of which `size` bytes are lent
pub record SoundRecorder (r : Recorder) (lent : Lent) (size : ℕ) : Type 0 where
  pub store : Sound r.store lent
  pub mark : MarkInside r.store
  pub limit_most : r.limit ≤ r.store.capacity
  pub pre_most : r.pre < r.store.capacity
  pub kept_most : r.kept ≤ r.pre
  -- below pre, or both 0
  pub place_inside : r.place < max r.pre 1
  pub len_limit : 0 < r.limit → r.store.len ≤ r.limit
  pub ring : ring_need r.pre r.store.unit ≤ size

place_right : (pre place : ℕ) → (place_wrong pre place ≡ false) ↔ (place < max pre 1)
place_right pre place = (λ e. go (leb pre place) refl (eqb pre 0) refl (eqb place 0) refl e, back (dec_lt place pre))
  where
    go : (b : Bool) → leb pre place ≡ b → (c : Bool) → eqb pre 0 ≡ c → (d : Bool) → eqb place 0 ≡ d → (b && not (c && d)) ≡ false → place < max pre 1
    go false eb c ec d ed e = omega (arith, leb-false pre place eb)
    go true eb true ec true ed e = omega (arith, eqb-true place 0 ed)
    go true eb true ec false ed e = absurd (let z : ◌≡◌ {A = ℕ} 0 1 = cc in omega arith)
    go true eb false ec d ed e = absurd (let z : ◌≡◌ {A = ℕ} 0 1 = cc in omega arith)

    back : Dec (place < pre) → place < max pre 1 → (leb pre place && not (eqb pre 0 && eqb place 0)) ≡ false
    back (yes l) h = rw (lt-leb pre place l)
    back (no l) h = rw (eq-eqb pre 0 (omega arith), eq-eqb place 0 (omega arith)) (and-false (leb pre place))

limit_right : (limit len : ℕ) → ((not (eqb limit 0) && ltb limit len) ≡ false) ↔ (0 < limit → len ≤ limit)
limit_right limit len = (λ e h. ltb-false limit len (rw (ne_eqb limit 0 (λ z. omega arith)) at e), back (dec_lt 0 limit))
  where
    back : Dec (0 < limit) → (0 < limit → len ≤ limit) → (not (eqb limit 0) && ltb limit len) ≡ false
    back (yes h) f = rw (ne_eqb limit 0 (λ z. omega arith), le-ltb limit len (f h))
    back (no h) f = rw (eq-eqb limit 0 (omega arith))

module _ (r : Recorder) (lent : Lent) (size : ℕ) where
  -- the recorder's half of row 1
  setting_right : (setting_wrong r ≡ false) ↔ ((r.limit ≤ r.store.capacity) × (r.pre < r.store.capacity) × (r.kept ≤ r.pre) × (r.place < max r.pre 1) × (0 < r.limit → r.store.len ≤ r.limit))
  setting_right = (down, up)
    where
      down : setting_wrong r ≡ false → (r.limit ≤ r.store.capacity) × (r.pre < r.store.capacity) × (r.kept ≤ r.pre) × (r.place < max r.pre 1) × (0 < r.limit → r.store.len ≤ r.limit)
      down e =
          let w4 = (neither _ _).0 e in
          let w3 = (neither _ _).0 w4.0 in
          let w2 = (neither _ _).0 w3.0 in
          let w1 = (neither _ _).0 w2.0 in (
            ltb-false r.store.capacity r.limit w1.0,
            leb-false r.store.capacity r.pre w1.1,
            ltb-false r.pre r.kept w2.1,
            (place_right r.pre r.place).0 w3.1,
            (limit_right r.limit r.store.len).0 w4.1,
          )

      up : (r.limit ≤ r.store.capacity) × (r.pre < r.store.capacity) × (r.kept ≤ r.pre) × (r.place < max r.pre 1) × (0 < r.limit → r.store.len ≤ r.limit) → setting_wrong r ≡ false
      up t =
          (neither _ _).1 (
            (neither _ _).1 (
              (neither _ _).1 ((neither _ _).1 (le-ltb _ _ t.0, lt-leb _ _ t.1), le-ltb _ _ t.2),
              (place_right r.pre r.place).1 t.3,
            ),
            (limit_right r.limit r.store.len).1 t.4,
          )

  -- the bounds are what rows 1 and 2 let pass, and nothing else passes
  recorder_then : recorder_wrong r ≡ false → (lent_short r.store lent || ring_short r size) ≡ false → SoundRecorder r lent size
  recorder_then e f =
      let w = (neither (store_wrong r.store) (setting_wrong r)).0 e in
      let t = setting_right.0 w.1 in
      let l = (neither (lent_short r.store lent) (ring_short r size)).0 f in
      let s = rows_then r.store lent w.0 l.0 in
      record {
        store = s.0;
        mark = s.1;
        limit_most = t.0;
        pre_most = t.1;
        kept_most = t.2;
        place_inside = t.3;
        len_limit = t.4;
        ring = ltb-false size (ring_need r.pre r.store.unit) l.1;
      }

  then_recorder_1 : SoundRecorder r lent size → recorder_wrong r ≡ false
  then_recorder_1 s =
      (neither _ _).1 (
        then_row_1 r.store lent s.store s.mark,
        setting_right.1 (s.limit_most, s.pre_most, s.kept_most, s.place_inside, s.len_limit),
      )

  then_recorder_2 : SoundRecorder r lent size → (lent_short r.store lent || ring_short r size) ≡ false
  then_recorder_2 s = (neither _ _).1 (then_row_2 r.store lent s.store, le-ltb _ _ s.ring)

  -- where the bounds hold, the further rows decide
  pub recorder_rest : SoundRecorder r lent size → (rest : List Row) → first_of (recorder_rows r lent size rest) ≡ first_of rest
  recorder_rest s rest = rw (then_recorder_1 s, then_recorder_2 s)

  pub recorder_passed : (rest : List Row) → (first_of (recorder_rows r lent size rest) ≡ 0) ↔ (SoundRecorder r lent size × (first_of rest ≡ 0))
  recorder_passed rest = (down, λ t. recorder_rest t.0 rest ∙ t.1)
    where
      down : first_of (recorder_rows r lent size rest) ≡ 0 → SoundRecorder r lent size × (first_of rest ≡ 0)
      down e =
          let t1 = (row_passed 1 (cond (lent_short r.store lent || ring_short r size) 2 (first_of rest)) (recorder_wrong r) (omega arith)).0 e in
          let t2 = (row_passed 2 (first_of rest) (lent_short r.store lent || ring_short r size) (omega arith)).0 t1.1 in
          (recorder_then t1.0 t2.0, t2.1)

  -- 1, 2 and 8 let n samples pass to the store exactly when the bounds hold and they have room
  pub room_passed : (n : ℕ) → (first_of (recorder_rows r lent size (room_row r.store n ∷ [])) ≡ 0) ↔ (SoundRecorder r lent size × (r.store.len + n ≤ r.store.capacity))
  room_passed n = (
    λ e. let t = (recorder_passed (room_row r.store n ∷ [])).0 e in (t.0, ltb-false _ _ ((row_passed 8 0 (ltb r.store.capacity (r.store.len + n)) (omega arith)).0 t.1).0),
    λ t. (recorder_passed (room_row r.store n ∷ [])).1 (t.0, (row_passed 8 0 (ltb r.store.capacity (r.store.len + n)) (omega arith)).1 (le-ltb _ _ t.1, refl)),
  )
