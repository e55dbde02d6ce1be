-- Block 0 of a shelf file: what it says reads back, and it passes its test exactly when it is that of some heading. 02: CR 7.
use mathlib.Core.Path.{◌≡◌, refl, sym, ap, ap₂, ◌∙◌}
use mathlib.Core.Bool.{Bool, true, false, cond, not, ◌||◌}
use mathlib.Core.List.{List, ◌∷◌, ◌++◌, append_assoc}
use Rattle.std.specs.Prelude.{Option, None, Some}
use Prim.Native.Nat.{ℕ, suc, ◌+◌, ◌-◌, ◌^◌, ◌≤◌, ◌<◌}
use native.Mathlib.Omega.{arith}
use lib.Dec.{ltb, leb, eqb}
use lib.ListN.{length, get_or, take, drop, length-append}
use lib.Seq.{take_at, drop_at, drop-cons, drop-drop, drop-append-le, length-take-le, get_or-drop, take-take, take-add}
use borrow.Author.Tests.{ltb-false, le-ltb, leb-true, le-leb, eqb-true, eq-eqb, ne_eqb, not-true}
use Rattle.rules.specs.Sample.{UnitSize, little}
use Rattle.rules.specs.SampleBytes.{sample_bytes, Bytes}
use Rattle.rules.specs.Refusal.{most_samples, mark_flag, mark_place, unit_wrong, mark_wrong}
use Rattle.rules.specs.Block.{block_size, payload_at, payload_most, zeros, block_of, same_bytes, good_block}
use Rattle.rules.specs.Shelf.{Heading, head_size, head_bytes, flag_in, heading_in, heading_wrong, mark_bytes_right, head_test}
use Rattle.rules.proofs.Sample.{little_same}
use Rattle.rules.proofs.SampleBytes.{sample_bytes_length, little_back, bytes_again, bytes_more, bytes_append, sample_are}
use Rattle.rules.proofs.ShelfBlocks.{drop_take}
use Rattle.rules.proofs.Refusal.{neither, unit_right}
use Rattle.rules.proofs.Block.{both, four, same_is, is_same, zeros_are, block_length, block_payload, made_good, good_block_lem}

-- ---- headings that there are
pub record Headed (h : Heading) : Type 0 where
  pub unit_size : UnitSize h.unit
  pub len_most : h.len ≤ most_samples
  pub mark_inside : mark_wrong h.mark h.len ≡ false

pub headed : (h : Heading) → heading_wrong h ≡ false → Headed h
headed h e =
    let t = (neither (unit_wrong h.unit) (ltb most_samples h.len || mark_wrong h.mark h.len)).0 e in
    let u = (neither (ltb most_samples h.len) (mark_wrong h.mark h.len)).0 t.1 in
    record { unit_size = (unit_right h.unit).0 t.0; len_most = ltb-false most_samples h.len u.0; mark_inside = u.1 }

pub not_wrong : (h : Heading) → Headed h → heading_wrong h ≡ false
not_wrong h r =
    (neither (unit_wrong h.unit) (ltb most_samples h.len || mark_wrong h.mark h.len)).1
    ((unit_right h.unit).1 r.unit_size, (neither (ltb most_samples h.len) (mark_wrong h.mark h.len)).1 (le-ltb most_samples h.len r.len_most, r.mark_inside))

mark_small : (m : Option ℕ) (len : ℕ) → mark_wrong m len ≡ false → len ≤ most_samples → mark_place m < 256 ^ 8
mark_small None len e h = omega arith
mark_small (Some k) len e h = omega (arith, ltb-false len k e)

pub head_length : (h : Heading) → length (head_bytes h) ≡ head_size
unfolding head_bytes
head_length h = ap (λ (n : ℕ). suc (suc n)) (length-append (sample_bytes 8 h.len) (sample_bytes 8 (mark_place h.mark)) ∙ ap₂ ◌+◌ (sample_bytes_length 8 h.len) (sample_bytes_length 8 (mark_place h.mark)))

pub flag_small : (m : Option ℕ) → mark_flag m < 256
flag_small None = omega arith
flag_small (Some k) = omega arith

pub head_bytes_lem : (h : Heading) → Headed h → Bytes (head_bytes h)
unfolding head_bytes
head_bytes_lem h r =
    bytes_more h.unit (mark_flag h.mark ∷ (sample_bytes 8 h.len ++ sample_bytes 8 (mark_place h.mark))) (omega (arith, r.unit_size.most))
    (bytes_more (mark_flag h.mark) (sample_bytes 8 h.len ++ sample_bytes 8 (mark_place h.mark)) (flag_small h.mark)
    (bytes_append (sample_bytes 8 h.len) (sample_bytes 8 (mark_place h.mark)) (sample_are 8 h.len) (sample_are 8 (mark_place h.mark))))

-- ---- what stands in a made block 0, whatever follows it
module _ (h : Heading) (rest : List ℕ) where
  abbrev file : List ℕ
  file = block_of 0 (head_bytes h) ++ rest

  size : length (block_of 0 (head_bytes h)) ≡ block_size
  size = block_length 0 (head_bytes h) (omega (arith, head_length h))

  abbrev behind : List ℕ
  behind = zeros (payload_most - length (head_bytes h)) ++ rest

  payload : drop payload_at file ≡ head_bytes h ++ behind
  payload =
      drop-append-le payload_at (block_of 0 (head_bytes h)) rest (omega (arith, size))
      ∙ ap (λ (l : List ℕ). l ++ rest) (block_payload 0 (head_bytes h) (omega (arith, head_length h)))
      ∙ append_assoc (head_bytes h) (zeros (payload_most - length (head_bytes h))) rest

  at : (k : ℕ) → get_or file (payload_at + k) 0 ≡ get_or (head_bytes h ++ behind) k 0
  at k = sym (get_or-drop payload_at file k 0) ∙ ap (λ (l : List ℕ). get_or l k 0) payload

  unit_at_lem : get_or file payload_at 0 ≡ h.unit
  unfolding head_bytes
  unit_at_lem = at 0

  flag_at : flag_in file ≡ mark_flag h.mark
  unfolding head_bytes
  flag_at = at 1

  from_14 : drop 14 file ≡ sample_bytes 8 h.len ++ (sample_bytes 8 (mark_place h.mark) ++ behind)
  unfolding head_bytes
  from_14 = sym (drop-drop 2 payload_at file) ∙ ap (drop 2) payload ∙ append_assoc (sample_bytes 8 h.len) (sample_bytes 8 (mark_place h.mark)) behind

  from_22 : drop 22 file ≡ sample_bytes 8 (mark_place h.mark) ++ behind
  from_22 = sym (drop-drop 8 14 file) ∙ ap (drop 8) from_14 ∙ drop_at (sample_bytes 8 h.len) (sample_bytes 8 (mark_place h.mark) ++ behind) 8 (sample_bytes_length 8 h.len)

-- a number in a list, read from where it stands
little_drop : (u : ℕ) (l : List ℕ) (k : ℕ) → little u l k ≡ little u (drop k l) 0
little_drop u l k = little_same u l (drop k l) k 0 (λ i h. ap (λ (j : ℕ). get_or l (k + j) 0) (zero_plus i) ∙ sym (get_or-drop k l (0 + i) 0))
  where
    zero_plus : (i : ℕ) → i ≡ 0 + i
    zero_plus i = omega arith

-- a mark by its flag and its place
mark_told : (m : Option ℕ) (flag v : ℕ) → flag ≡ mark_flag m → v ≡ mark_place m → cond (eqb flag 0) None (Some v) ≡ m
mark_told None flag v f e = ap (λ (b : Bool). cond b None (Some v)) (eq-eqb flag 0 f)
mark_told (Some k) flag v f e = ap (λ (b : Bool). cond b None (Some v)) (ne_eqb flag 0 (λ z. omega (arith, f, z))) ∙ ap Some e

pub heading_back : (h : Heading) (rest : List ℕ) → Headed h → heading_in (block_of 0 (head_bytes h) ++ rest) ≡ h
unfolding heading_in
heading_back h rest r = λ i. record { unit = unit_at_lem h rest i; mark = mark_told h.mark (flag_in (file h rest)) (little 8 (file h rest) 22) (flag_at h rest) place i; len = lens i }
  where
    lens : little 8 (file h rest) 14 ≡ h.len
    lens =
        little_drop 8 (file h rest) 14
        ∙ ap (λ (l : List ℕ). little 8 l 0) (from_14 h rest)
        ∙ little_back 8 h.len (sample_bytes 8 (mark_place h.mark) ++ behind h rest) (omega (arith, r.len_most))

    place : little 8 (file h rest) 22 ≡ mark_place h.mark
    place =
        little_drop 8 (file h rest) 22
        ∙ ap (λ (l : List ℕ). little 8 l 0) (from_22 h rest)
        ∙ little_back 8 (mark_place h.mark) (behind h rest) (mark_small h.mark h.len r.mark_inside r.len_most)

-- ---- a made block 0 passes
mark_passes : (m : Option ℕ) (flag : ℕ) (l : List ℕ) → flag ≡ mark_flag m → l ≡ sample_bytes 8 (mark_place m) → cond (eqb flag 0) (same_bytes l (zeros 8)) (eqb flag 1) ≡ true
mark_passes None flag l f e = ap (λ (b : Bool). cond b (same_bytes l (zeros 8)) (eqb flag 1)) (eq-eqb flag 0 f) ∙ is_same l (zeros 8) (e ∙ zeros_are 8)
mark_passes (Some k) flag l f e = ap (λ (b : Bool). cond b (same_bytes l (zeros 8)) (eqb flag 1)) (ne_eqb flag 0 (λ z. omega (arith, f, z))) ∙ eq-eqb flag 1 f

pub head_made : (h : Heading) (rest : List ℕ) → Headed h → head_test (block_of 0 (head_bytes h) ++ rest) ≡ true
unfolding head_test
head_made h rest r =
    (both _ _).1 (
      le-leb block_size (length (file h rest)) (room (length-append (block_of 0 (head_bytes h)) rest)),
      (both _ _).1 (
        good,
        (both _ _).1 (
          mark_passes h.mark (flag_in (file h rest)) (take 8 (drop 22 (file h rest))) (flag_at h rest) stands,
          ap (λ (x : Heading). not (heading_wrong x)) (heading_back h rest r) ∙ ap not (not_wrong h r),
        ),
      ),
    )
  where
    room : length (file h rest) ≡ length (block_of 0 (head_bytes h)) + length rest → block_size ≤ length (file h rest)
    room e = omega (arith, e, size h rest)

    good : good_block 0 head_size (take block_size (file h rest)) ≡ true
    good =
        ap₂ (good_block 0) (sym (head_length h)) (take_at (block_of 0 (head_bytes h)) rest block_size (size h rest))
        ∙ made_good 0 (head_bytes h) (omega (arith, head_length h))

    stands : take 8 (drop 22 (file h rest)) ≡ sample_bytes 8 (mark_place h.mark)
    stands = ap (take 8) (from_22 h rest) ∙ take_at (sample_bytes 8 (mark_place h.mark)) (behind h rest) 8 (sample_bytes_length 8 (mark_place h.mark))

-- ---- and one that passes is made of what it says
mark_said : (flag v : ℕ) (l : List ℕ) → l ≡ sample_bytes 8 v → cond (eqb flag 0) (same_bytes l (zeros 8)) (eqb flag 1) ≡ true
    → (flag ≡ mark_flag (cond (eqb flag 0) None (Some v))) × (l ≡ sample_bytes 8 (mark_place (cond (eqb flag 0) None (Some v))))
mark_said flag v l e = go (eqb flag 0) refl
  where
    go : (b : Bool) → eqb flag 0 ≡ b → cond b (same_bytes l (zeros 8)) (eqb flag 1) ≡ true
        → (flag ≡ mark_flag (cond b None (Some v))) × (l ≡ sample_bytes 8 (mark_place (cond b None (Some v))))
    go true f t = (eqb-true flag 0 f, same_is l (zeros 8) t ∙ sym (zeros_are 8))
    go false f t = (eqb-true flag 1 t, e)

pub heading_headed : (f : List ℕ) → head_test f ≡ true → Headed (heading_in f)
unfolding head_test
heading_headed f e = headed (heading_in f) (not-true (heading_wrong (heading_in f)) (four (leb block_size (length f)) (good_block 0 head_size (take block_size f)) (mark_bytes_right f) (not (heading_wrong (heading_in f))) e).3)

pub record Says (f : List ℕ) : Type 0 where
  pub room : block_size ≤ length f
  pub heading : Headed (heading_in f)
  pub block : take block_size f ≡ block_of 0 (head_bytes (heading_in f))

pub head_says : (f : List ℕ) → Bytes f → head_test f ≡ true → Says f
unfolding head_test heading_in head_bytes
head_says f b e = record {
  room = room;
  heading = heading_headed f e;
  block = good_block_lem 0 head_size (take block_size f) (length-take-le block_size f room) (omega arith) told.1 ∙ ap (block_of 0) eighteen;
}
  where
    told : (leb block_size (length f) ≡ true) × (good_block 0 head_size (take block_size f) ≡ true) × (mark_bytes_right f ≡ true) × (not (heading_wrong (heading_in f)) ≡ true)
    told = four _ _ _ _ e

    room : block_size ≤ length f
    room = leb-true block_size (length f) told.0

    marks : (flag_in f ≡ mark_flag (heading_in f).mark) × (take 8 (drop 22 f) ≡ sample_bytes 8 (mark_place (heading_in f).mark))
    marks = mark_said (flag_in f) (little 8 f 22) (take 8 (drop 22 f)) (sym (bytes_again 8 f 22 b (omega (arith, room)))) told.2

    eighteen : take head_size (drop payload_at (take block_size f)) ≡ head_bytes (heading_in f)
    eighteen =
        ap (take head_size) (drop_take f room)
        ∙ take-take head_size payload_most (drop payload_at f) (omega arith)
        ∙ ap (take head_size) (drop-cons f 12 0 (omega (arith, room)) ∙ ap (λ (l : List ℕ). get_or f 12 0 ∷ l) (drop-cons f 13 0 (omega (arith, room))))
        ∙ ap₂ (λ (x : ℕ) (l : List ℕ). get_or f 12 0 ∷ x ∷ l) marks.0 sixteen
      where
        sixteen : take 16 (drop 14 f) ≡ sample_bytes 8 (little 8 f 14) ++ sample_bytes 8 (mark_place (heading_in f).mark)
        sixteen =
            take-add 8 8 (drop 14 f)
            ∙ ap₂ (λ (x y : List ℕ). x ++ y) (sym (bytes_again 8 f 14 b (omega (arith, room)))) (ap (take 8) (drop-drop 8 14 f) ∙ marks.1)
