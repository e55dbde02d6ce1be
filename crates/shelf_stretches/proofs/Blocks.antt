-- The places of a block, and the loop over a file's blocks.
use mathlib.Core.Path.{◌≡◌, refl, sym, ap, ap₂, ◌∙◌, subst, subst⁻¹}
use mathlib.Core.Bool.{Bool, true, false}
use mathlib.Core.List.{List}
use mathlib.Core.Logic.{◌⊎◌, inl, inr}
use Prim.Native.Nat.{ℕ, ◌+◌, ◌-◌, ◌*◌, ◌/◌, ◌^◌, ◌≤◌, ◌<◌, min}
use native.Mathlib.Nat.{div-add-mod', mod-lt, add-mul, mul_assoc, mul-le-mul, mul-le-mul_right, lt_of_mul-lt-mul_right, le_of_mul-le-mul_right}
use native.Mathlib.Decide.{ℕ_discrete}
use native.Mathlib.Omega.{arith}
use lib.ListN.{length}
use Rattle.rules.specs.Sample.{UnitSize}
use Rattle.rules.specs.Refusal.{most_samples}
use Rattle.rules.specs.Block.{payload_most}
use Rattle.rules.specs.Shelf.{blocks_for, bytes_for, heading_in, head_test}
use Rattle.rules.specs.Shelf as rule
use Rattle.rules.specs.Salvage.{block_in, good_in, good_at, block_of_byte, is_known, stretches_of, replaced_in}
use Rattle.rules.proofs.Sample.{unit_cases}
use Rattle.rules.proofs.ShelfBlocks.{blocks_hold, block_begins}
use Rattle.rules.proofs.ShelfHead.{heading_headed}
use Rattle.rules.proofs.Stretches.{stretches_places}
use Rattle.shelf_head.specs.declared.Heading.{Heading}
use Rattle.shelf_head.specs.Head.{heading_as}
use Rattle.shelf_stretches.specs.declared.Run.{Run}
use Rattle.std.specs.Prelude.{Some}
use Rattle.shelf_stretches.specs.Measured.{Measured}
use Rattle.shelf_stretches.specs.Told.{StretchRoom, told_to, closed, closed_list, stepped, stepped_list, Tallied, Surveys}
use Rattle.shelf_stretches.proofs.Told.{told_length}
use Rattle.shelf_stretches.proofs.Surveying.{Survey, fresh, survey_starts, closed_none, closed_one, known_on, unknown_on, survey_ends}

-- how many samples a block holds
abbrev pub per_block : ℕ → ℕ
per_block u = payload_most / u

per_whole : {u : ℕ} → UnitSize u → per_block u * u ≡ payload_most
per_whole {u} r = go (unit_cases r)
  where
    go : (u ≡ 1) ⊎ (u ≡ 2) → payload_most / u * u ≡ payload_most
    go (inl e) = ap (λ (v : ℕ). payload_most / v * v) e
    go (inr e) = ap (λ (v : ℕ). payload_most / v * v) e

module _ (file : List ℕ) (r : UnitSize (heading_in file).unit) where
  abbrev len : ℕ
  len = (heading_in file).len

  abbrev u : ℕ
  u = (heading_in file).unit

  abbrev n : ℕ
  n = bytes_for (heading_in file)

  abbrev per : ℕ
  per = per_block u

  -- where i blocks end
  abbrev pub place_of : ℕ → ℕ
  place_of i = min (i * per) len

  in_bytes : (i : ℕ) → i * per * u ≡ i * payload_most
  in_bytes i = mul_assoc i per u ∙ ap (λ (k : ℕ). i * k) (per_whole r)

  pub ends_at : {i : ℕ} → blocks_for n ≤ i → place_of i ≡ len
  ends_at {i} h = omega (arith, le_of_mul-le-mul_right {m = len} {n = i * per} {k = u} (omega (arith, in_bytes i, blocks_hold n, h)) u_pos)
    where
      u_pos : 0 < u
      u_pos = omega (arith, r.least)

  module _ {i : ℕ} (h : i < blocks_for n) where
    pub begins : i * per < len
    begins = lt_of_mul-lt-mul_right u {m = i * per} {n = len} (omega (arith, in_bytes i, block_begins n i h))

    pub begins_is : place_of i ≡ i * per
    begins_is = omega (arith, begins)

    abbrev pub many : ℕ
    many = min per (len - i * per)

    pub per_some : 0 < per
    per_some = lt_of_mul-lt-mul_right u {m = 0} {n = per} (omega (arith, per_whole r))

    pub next_is : i * per + many ≡ place_of (i + 1)
    next_is = omega (arith, begins, add-mul i 1 per)

    home : (q : ℕ) → q < many → block_of_byte ((i * per + q) * u) ≡ i + 1
    home q l =
        omega (
          arith,
          add-mul (i * per) q u,
          in_bytes i,
          inner,
          div-add-mod' ((i * per + q) * u) payload_most,
          mod-lt ((i * per + q) * u) {m = payload_most} (omega arith),
        )
      where
        inner : q * u < payload_most
        inner = omega (arith, mul-le-mul_right {m = q + 1} {n = per} u (omega (arith, l)), add-mul q 1 u, per_whole r, r.least)

    -- they are known, all of them or none
    pub places_known : (q : ℕ) → q < many → is_known file (i * per + q) ≡ good_at file (i + 1)
    places_known q l = ap (good_at file) (home q l)

-- ---- the loop
pub record Loop (file list₀ : List ℕ) (i : ℕ) (run : Run) (list : List ℕ) : Type 0 where
  pub inside : i ≤ blocks_for (bytes_for (heading_in file))
  pub survey : Survey (is_known file) (heading_in file).len list₀ (min (i * per_block (heading_in file).unit) (heading_in file).len) run list
  pub size : length list ≡ length list₀
  pub few : run.stretches ≤ i

-- a turn is told by its survey
loop_of : {file list₀ : List ℕ} {i : ℕ} {run : Run} {list : List ℕ} → i ≤ blocks_for (bytes_for (heading_in file)) → Survey (is_known file) (heading_in file).len list₀ (min (i * per_block (heading_in file).unit) (heading_in file).len) run list
    → run.stretches ≤ i → Loop file list₀ i run list
loop_of {file} {list₀} h s f = record { inside = h; survey = s; size = ap length s.list_is ∙ told_length s.done list₀; few = f }

pub loop_starts : (file list : List ℕ) → Loop file list 0 fresh list
loop_starts file list =
    loop_of (omega arith) (subst (λ (p : ℕ). Survey (is_known file) (heading_in file).len list p fresh list) first (survey_starts (is_known file) (heading_in file).len list)) (omega arith)
  where
    first : 0 ≡ min (0 * per_block (heading_in file).unit) (heading_in file).len
    first = omega arith

-- at most one stretch is told for a block
closed_few : (run : Run) (i : ℕ) → run.stretches ≤ i → (closed run).stretches ≤ i + 1
closed_few run i h = go (ℕ_discrete run.count 0)
  where
    Few : Run → Type 0
    Few x = x.stretches ≤ i + 1

    go : Dec (run.count ≡ 0) → Few (closed run)
    go (yes z) = subst⁻¹ Few (closed_none run z) (omega (arith, h))
    go (no z) = subst⁻¹ Few (closed_one run z) (omega (arith, h))

module _ {file list₀ : List ℕ} (r : UnitSize (heading_in file).unit) {i : ℕ} {run : Run} {list : List ℕ} (s : Loop file list₀ i run list) (h : i < blocks_for (bytes_for (heading_in file))) where
  here : Survey (is_known file) (len file r) list₀ (i * per file r) run list
  here = subst (λ (p : ℕ). Survey (is_known file) (len file r) list₀ p run list) (begins_is file r h) s.survey

  some_places : 0 < many file r h
  some_places = omega (arith, begins file r h, per_some file r h)

  room : i * per file r + many file r h ≤ len file r
  room = omega (arith, begins file r h)

  pub step_room : len file r ≤ most_samples → i < 2 ^ 32 → StretchRoom run (i * per file r)
  step_room f l = record { stretches = omega (arith, s.few, l); sum = here.sum; small = omega (arith, begins file r h, f) }

  pub loop_on : (b : Bool) → b ≡ good_at file (i + 1) → Loop file list₀ (i + 1) (stepped run b (many file r h)) (stepped_list run (i * per file r) b list)
  loop_on true g =
      loop_of (omega (arith, h))
      (subst (λ (p : ℕ). Survey (is_known file) (len file r) list₀ p (closed run) (closed_list run (i * per file r) list)) (next_is file r h) (known_on here some_places room (λ q b. places_known file r h q b ∙ sym g)))
      (closed_few run i s.few)
  loop_on false g =
      loop_of (omega (arith, h))
      (subst (λ (p : ℕ). Survey (is_known file) (len file r) list₀ p (record { stretches = run.stretches; replaced = run.replaced; count = run.count + many file r h }) list) (next_is file r h)
      (unknown_on here some_places room (λ q b. places_known file r h q b ∙ sym g)))
      (omega (arith, s.few))

module _ {file list₀ : List ℕ} (r : UnitSize (heading_in file).unit) {i : ℕ} {run : Run} {list : List ℕ} (s : Loop file list₀ i run list) (h : blocks_for (bytes_for (heading_in file)) ≤ i) where
  end : Survey (is_known file) (len file r) list₀ (len file r) run list
  end = subst (λ (p : ℕ). Survey (is_known file) (len file r) list₀ p run list) (ends_at file r h) s.survey

  pub loop_ends : Tallied file (record { stretches = (closed run).stretches; replaced = (closed run).replaced }) × (closed_list run (len file r) list ≡ told_to (stretches_of file) list₀)
  unfolding stretches_of replaced_in
  loop_ends = let t = survey_ends end in (record { stretches_are = t.0; replaced_are = t.1 ∙ stretches_places (is_known file) 0 (len file r) }, t.2)

-- ---- as the code has it: the numbers of block 0 were taken once
pub measured : (file : List ℕ) → head_test file ≡ true → (h : Heading) → heading_as h ≡ heading_in file → Measured file (h.len * h.unitsize) h.len (payload_most / h.unitsize)
measured file e h h-is =
    let r = heading_headed file e in
    record {
      unit_size = r.unit_size;
      bytes = ap bytes_for h-is;
      samples = ap (λ (x : rule.Heading). x.len) h-is;
      in_a_block = ap (λ (x : rule.Heading). payload_most / x.unit) h-is;
      few = omega (arith, ap (λ (x : rule.Heading). x.len) h-is, r.len_most);
    }

pub unit_some : (file : List ℕ) → head_test file ≡ true → (h : Heading) → heading_as h ≡ heading_in file → 1 ≤ h.unitsize
unit_some file e h h-is = omega (arith, ap (λ (x : rule.Heading). x.unit) h-is, (heading_headed file e).unit_size.least)

module _ {file : List ℕ} {n len per : ℕ} (t : Measured file n len per) where
  pub bytes_few : n < 2 ^ 32
  bytes_few = omega (arith, t.bytes, mul-le-mul {n₁ = (heading_in file).len} {m₁ = (heading_in file).unit} {n₂ = most_samples} {m₂ = 2} (omega (arith, t.samples, t.few)) t.unit_size.most)

  pub blocks_few : blocks_for n < 2 ^ 32
  blocks_few = omega (arith, bytes_few, div-add-mod' (n + (payload_most - 1)) payload_most)

-- the blocks that a file calls for are few
pub blocks_file : (file : List ℕ) → head_test file ≡ true → blocks_for (bytes_for (heading_in file)) < 2 ^ 32
blocks_file file e =
    let r = heading_headed file e in
    blocks_few {file = file} {len = (heading_in file).len} {per = payload_most / (heading_in file).unit} (record { unit_size = r.unit_size; bytes = refl; samples = refl; in_a_block = refl; few = r.len_most })

module _ {file : List ℕ} {n len per : ℕ} (t : Measured file n len per) {list₀ : List ℕ} {i : ℕ} {run : Run} {list : List ℕ} (s : Loop file list₀ i run list) where
  module _ (h : i < blocks_for n) where
    inside_here : i < blocks_for (bytes_for (heading_in file))
    inside_here = subst (λ (k : ℕ). i < blocks_for k) t.bytes h

    place_is : i * per ≡ i * per_block (heading_in file).unit
    place_is = ap (λ (k : ℕ). i * k) t.in_a_block

    pub block_inside : i * per < len
    block_inside = omega (arith, place_is, t.samples, begins file t.unit_size inside_here)

    pub on_room : StretchRoom run (i * per)
    on_room = subst⁻¹ (StretchRoom run) place_is (step_room t.unit_size s inside_here (omega (arith, t.samples, t.few)) (omega (arith, h, blocks_few t)))

    pub next_block : {known : Bool} {m : ℕ} {run' : Run} {list' : List ℕ} → known ≡ good_in n (i + 1) (block_in (i + 1) file) → m ≡ min per (len - i * per)
        → run' ≡ stepped run known m → list' ≡ stepped_list run (i * per) known list → Loop file list₀ (i + 1) run' list'
    next_block {known} {m} {run'} {list'} k-is m-is run_is list_is =
        subst⁻¹ (λ (x : Run). Loop file list₀ (i + 1) x list') (run_is ∙ ap (stepped run known) many_is)
        (subst⁻¹ (Loop file list₀ (i + 1) (stepped run known (many file t.unit_size inside_here))) (list_is ∙ ap (λ (p : ℕ). stepped_list run p known list) place_is)
        (loop_on t.unit_size s inside_here known (k-is ∙ ap (λ (x : ℕ). good_in x (i + 1) (block_in (i + 1) file)) t.bytes)))
      where
        many_is : m ≡ many file t.unit_size inside_here
        many_is = m-is ∙ ap₂ min t.in_a_block (ap₂ ◌-◌ t.samples place_is)

  module _ (h : blocks_for n ≤ i) where
    all_done : blocks_for (bytes_for (heading_in file)) ≤ i
    all_done = subst (λ (k : ℕ). blocks_for k ≤ i) t.bytes h

    pub surveyed : (numbers : ℕ) {last : Run} {list' : List ℕ} → last ≡ closed run → list' ≡ closed_list run len list
        → Surveys numbers file list₀ (Some (record { stretches = last.stretches; replaced = last.replaced })) list'
    surveyed numbers {last} {list'} last_is list_is =
        let e = loop_ends t.unit_size s all_done in (
          subst⁻¹ (λ (x : Run). Tallied file (record { stretches = x.stretches; replaced = x.replaced })) last_is e.0,
          list_is ∙ ap (λ (p : ℕ). closed_list run p list) t.samples ∙ e.1,
        )
