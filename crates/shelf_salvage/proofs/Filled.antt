-- What is known of a file in sample memory, and zero for the rest: what append of the salvaged samples leaves.
use mathlib.Core.Path.{◌≡◌, refl, sym, ap, ap₂, ◌∙◌, subst, subst⁻¹}
use mathlib.Core.Bool.{Bool, true, false, cond, not}
use mathlib.Core.List.{List}
use Prim.Native.Nat.{ℕ, ◌+◌, ◌-◌, ◌*◌, ◌/◌, ◌%◌, ◌≤◌, ◌<◌}
use native.Mathlib.Nat.{mul-le-mul, div-add-mod', mod-lt, div-lt_iff_lt-mul, le-div_iff_mul-le}
use native.Mathlib.Decide.{dec_lt}
use native.Mathlib.Omega.{arith}
use lib.ListN.{length, get_or}
use lib.Seq.{paste, length-paste, ext_get_or}
use Rattle.rules.specs.Sample.{UnitSize}
use Rattle.rules.specs.Refusal.{Store, most_samples}
use Rattle.rules.specs.Shelf.{Heading, bytes_for, heading_in, bytes_in}
use Rattle.rules.specs.Stretches.{Stretch, covers, apart, pairs_of, pairs_in}
use Rattle.rules.specs.Salvage.{block_in, good_at, block_of_byte, salvaged_byte, salvaged_bytes, stretches_of}
use Rattle.rules.proofs.Sample.{list_at}
use Rattle.rules.proofs.ShelfHead.{Headed, heading_headed}
use Rattle.rules.proofs.Stretches.{pairs_back}
use Rattle.rules.proofs.Salvage.{in_one, there_room, good_there, byte_there, salvaged_length, unknown_in_lem, past_in, list_apart}
use Rattle.store.proofs.Bytes.{paste_inside, paste_after}
use Rattle.shelf_salvage.specs.Salvage.{Gathers, blanked, BlankRoom, Opened}
use Rattle.shelf_salvage.proofs.Blanking.{blanked_length, blanked_at}

module _ {file : List ℕ} {st : Store} {size : ℕ} (o : Opened file st size) where
  abbrev h : Heading
  h = heading_in file

  abbrev n : ℕ
  n = bytes_for h

  headed_here : Headed h
  headed_here = heading_headed file o.head

  r : UnitSize h.unit
  r = headed_here.unit_size

  bytes_are : st.len * st.unit ≡ n
  bytes_are = ap bytes_for o.says

  pub bytes_small : st.len * st.unit ≤ most_samples * 2
  bytes_small = omega (arith, bytes_are, mul-le-mul {n₁ = h.len} {m₁ = h.unit} {n₂ = most_samples} {m₂ = 2} headed_here.len_most r.most)

  pub blank_room : {list : List ℕ} {room : ℕ} → list ≡ pairs_of (stretches_of file) → room ≡ size → BlankRoom st.unit list room
  blank_room {list} {room} l e = record {
    len = st.len;
    unit_size = subst⁻¹ (λ (x : Heading). UnitSize x.unit) o.says r;
    few = omega (arith, ap (λ (x : Heading). x.len) o.says, headed_here.len_most);
    holds = omega (arith, o.holds, e);
    in_order = subst⁻¹ (λ (x : Heading). apart 0 x.len (pairs_in list) ≡ true) o.says (subst⁻¹ (λ (x : List Stretch). apart 0 h.len x ≡ true) (ap pairs_in l ∙ pairs_back (stretches_of file)) (list_apart file));
  }

  -- the two steps
  module _ {samples one : List ℕ} (size_is : length samples ≡ size) (g : Gathers n file samples one) where
    room : n ≤ length samples
    room = omega (arith, o.holds, bytes_are, size_is)

    salvaged_size : length (salvaged_bytes file) ≡ n
    salvaged_size = salvaged_length file r

    -- a byte of the samples
    at_byte : (j : ℕ) → j < n → cond (covers (stretches_of file) (j / h.unit)) 0 (get_or one j 0) ≡ get_or (salvaged_bytes file) j 0
    unfolding salvaged_bytes
    at_byte j l =
        ap (λ (b : Bool). cond b 0 (get_or one j 0)) (unknown_in_lem file (j / h.unit) early ∙ ap not (ap (good_at file) home))
        ∙ go (good_at file (block_of_byte j)) refl
        ∙ ap (salvaged_byte file) from_0
        ∙ sym (list_at (salvaged_byte file) 0 n j l)
      where
        early : j / h.unit < h.len
        early = (div-lt_iff_lt-mul {k = h.unit} {x = j} {y = h.len} (omega (arith, r.least))).1 l

        cut : j ≡ j / h.unit * h.unit + j % h.unit
        cut = omega (arith, div-add-mod' j h.unit)

        home : block_of_byte (j / h.unit * h.unit) ≡ block_of_byte j
        home = sym (ap block_of_byte cut ∙ in_one r (j / h.unit) (j % h.unit) (mod-lt j (omega (arith, r.least))))

        from_0 : j ≡ 0 + j
        from_0 = omega arith

        go : (b : Bool) → good_at file (block_of_byte j) ≡ b → cond (not b) 0 (get_or one j 0) ≡ cond b (get_or (bytes_in file) j 0) 0
        go true e =
            let there = there_room (block_of_byte j) file (good_there n (block_of_byte j) (block_in (block_of_byte j) file) e).0 in
            g.inside j l there ∙ sym (byte_there file j l there)
        go false e = refl

    pub filled : {two : List ℕ} → two ≡ blanked h.unit (stretches_of file) one → two ≡ paste samples 0 (salvaged_bytes file) n
    filled {two} e = ext_get_or 0 two (paste samples 0 (salvaged_bytes file) n) (lengths ∙ sym pasted) at
      where
        apart_here : apart 0 h.len (stretches_of file) ≡ true
        apart_here = list_apart file

        holds_one : h.len * h.unit ≤ length one
        holds_one = omega (arith, room, g.size)

        lengths : length two ≡ length samples
        lengths = ap length e ∙ blanked_length r h.len 0 (stretches_of file) one apart_here holds_one ∙ g.size

        pasted : length (paste samples 0 (salvaged_bytes file) n) ≡ length samples
        pasted = length-paste samples 0 (salvaged_bytes file) n (omega (arith, room)) (omega (arith, salvaged_size))

        here : (j : ℕ) → get_or two j 0 ≡ cond (covers (stretches_of file) (j / h.unit)) 0 (get_or one j 0)
        here j = ap (λ (x : List ℕ). get_or x j 0) e ∙ blanked_at r h.len 0 (stretches_of file) one j apart_here holds_one

        at : (j : ℕ) → j < length two → get_or two j 0 ≡ get_or (paste samples 0 (salvaged_bytes file) n) j 0
        at j l = here j ∙ go (dec_lt j n)
          where
            go : Dec (j < n) → cond (covers (stretches_of file) (j / h.unit)) 0 (get_or one j 0) ≡ get_or (paste samples 0 (salvaged_bytes file) n) j 0
            go (yes m) =
                at_byte j m
                ∙ ap (λ (k : ℕ). get_or (salvaged_bytes file) k 0) from_0
                ∙ sym (paste_inside samples 0 (salvaged_bytes file) n (omega (arith, room)) (omega (arith, salvaged_size)) j (omega arith) (omega (arith, m)))
              where
                from_0 : j ≡ j - 0
                from_0 = omega arith
            go (no m) =
                ap (λ (b : Bool). cond b 0 (get_or one j 0)) (past_in file (j / h.unit) ((le-div_iff_mul-le (omega (arith, r.least))).1 (omega (arith, m))))
                ∙ g.behind j (omega (arith, m))
                ∙ sym (paste_after samples 0 (salvaged_bytes file) n (omega (arith, room)) (omega (arith, salvaged_size)) j (omega (arith, m)))

  -- as the code has it: by the record, and by the list
  pub filled_store : {list : List ℕ} → list ≡ pairs_of (stretches_of file) → {samples one two : List ℕ} → length samples ≡ size → Gathers (st.len * st.unit) file samples one
      → two ≡ blanked st.unit (pairs_in list) one → two ≡ paste samples 0 (salvaged_bytes file) (st.len * st.unit)
  filled_store {list} l {samples} {one} {two} size_is g e =
      filled size_is (subst (λ (k : ℕ). Gathers k file samples one) bytes_are g) (e ∙ ap₂ (λ (u : ℕ) (ss : List Stretch). blanked u ss one) (ap (λ (x : Heading). x.unit) o.says) (ap pairs_in l ∙ pairs_back (stretches_of file)))
      ∙ ap (paste samples 0 (salvaged_bytes file)) (sym bytes_are)
