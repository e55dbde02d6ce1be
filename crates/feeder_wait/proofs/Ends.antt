-- Some bytes copied as a run at either end, one run after the other in any order.
use Prim.Native.Nat.{ℕ, zero, suc, ◌+◌, ◌-◌, ◌≤◌, ◌<◌, min, max}
use mathlib.Core.Path.{◌≡◌, refl, sym, ap, ap₂, ◌∙◌}
use mathlib.Core.List.{List, ◌∷◌, ◌++◌}
use native.Mathlib.Numerals.{add-one}
use native.Mathlib.Decide.{dec_lt}
use native.Mathlib.Omega.{arith}
use lib.ListN.{length, take, drop, get_or, length-drop}
use lib.Seq.{drop-cons, get_or-drop, ext_get_or, length-take-le, sets, sets-eq, paste, length-paste}
use Rattle.rules.specs.Sample.{list_from}
use Rattle.store.proofs.Bytes.{paste_before, paste_inside, paste_after}

-- m bytes that are read one by one, from place e on
reads : (b : List ℕ) (m e : ℕ) → e + m ≤ length b → take m (drop e b) ≡ list_from (λ (i : ℕ). get_or b i 0) e m
unfolding list_from
reads b zero e h = refl
reads b (suc m) e h =
    ap (take (suc m)) (drop-cons b e 0 (omega arith))
    ∙ ap (λ (l : List ℕ). get_or b e 0 ∷ l) (ap (λ (x : ℕ). take m (drop x b)) (sym (add-one e)) ∙ reads b m (e + 1) (omega arith))

-- and written one by one, from place p on
run_is : (g b : List ℕ) (p e m : ℕ) → p + m ≤ length g → e + m ≤ length b → sets g p (list_from (λ (i : ℕ). get_or b i 0) e m) ≡ paste g p (drop e b) m
run_is g b p e m h l =
    ap (sets g p) (sym (reads b m e l))
    ∙ sets-eq (take m (drop e b)) g p (omega (arith, count))
    ∙ ap (λ (x : ℕ). take p g ++ take m (drop e b) ++ drop (p + x) g) count
  where
    count : length (take m (drop e b)) ≡ m
    count = length-take-le m (drop e b) (simp length-drop (omega arith))

module _ (b : List ℕ) (at k m : ℕ) (hb : k ≤ length b) where
  -- a run of m bytes from byte i on, within k bytes
  module _ (i : ℕ) (hi : i + m ≤ k) (r : List ℕ) (hr : at + k ≤ length r) where
    abbrev run : List ℕ
    run = paste r (at + i) (drop i b) m

    room : at + i + m ≤ length r
    room = omega arith

    held : m ≤ length (drop i b)
    held = simp length-drop (omega arith)

    run_length : length run ≡ length r
    run_length = length-paste r (at + i) (drop i b) m room held

    before : (q : ℕ) → q < at + i → get_or run q 0 ≡ get_or r q 0
    before = paste_before r (at + i) (drop i b) m room held

    inside : (q : ℕ) → at + i ≤ q → q < at + i + m → get_or run q 0 ≡ get_or b (q - at) 0
    inside q h l =
        paste_inside r (at + i) (drop i b) m room held q h l
        ∙ get_or-drop i b (q - (at + i)) 0
        ∙ ap (λ (x : ℕ). get_or b x 0) same
      where
        same : i + (q - (at + i)) ≡ q - at
        same = omega arith

    after : (q : ℕ) → at + i + m ≤ q → get_or run q 0 ≡ get_or r q 0
    after = paste_after r (at + i) (drop i b) m room held

  -- one of the two runs begins with the first byte and the other ends with the last, and they leave none out
  module _ (i j : ℕ) (first : min i j ≡ 0) (last : max i j + m ≡ k) (all : k ≤ m + m) (g : List ℕ) (hg : at + k ≤ length g) where
    abbrev one : List ℕ
    one = paste g (at + i) (drop i b) m

    hi : i + m ≤ k
    hi = omega arith

    hj : j + m ≤ k
    hj = omega arith

    h₁ : at + k ≤ length one
    h₁ = omega (arith, run_length i hi g hg)

    two_ends : paste one (at + j) (drop j b) m ≡ paste g at b k
    two_ends = ext_get_or 0 _ _ (run_length j hj one h₁ ∙ run_length i hi g hg ∙ sym (length-paste g at b k hg hb)) each
      where
        go : (q : ℕ) → Dec (q < at) → Dec (q < at + k) → Dec (q < at + j) → Dec (q < at + j + m) → get_or (paste one (at + j) (drop j b) m) q 0 ≡ get_or (paste g at b k) q 0
        go q (yes d) _ _ _ = before j hj one h₁ q (omega arith) ∙ before i hi g hg q (omega arith) ∙ sym (paste_before g at b k hg hb q d)
        go q (no d) (no p) _ _ = after j hj one h₁ q (omega arith) ∙ after i hi g hg q (omega arith) ∙ sym (paste_after g at b k hg hb q (omega arith))
        go q (no d) (yes p) (yes e) _ = before j hj one h₁ q e ∙ inside i hi g hg q (omega arith) (omega arith) ∙ sym (paste_inside g at b k hg hb q (omega arith) p)
        go q (no d) (yes p) (no e) (yes f) = inside j hj one h₁ q (omega arith) f ∙ sym (paste_inside g at b k hg hb q (omega arith) p)
        go q (no d) (yes p) (no e) (no f) = after j hj one h₁ q (omega arith) ∙ inside i hi g hg q (omega arith) (omega arith) ∙ sym (paste_inside g at b k hg hb q (omega arith) p)

        each : (q : ℕ) → q < length (paste one (at + j) (drop j b) m) → get_or (paste one (at + j) (drop j b) m) q 0 ≡ get_or (paste g at b k) q 0
        each q h = go q (dec_lt q at) (dec_lt q (at + k)) (dec_lt q (at + j)) (dec_lt q (at + j + m))

    -- as the code leaves it, p and q the places of the two runs
    pub copied : (p q : ℕ) → p ≡ at + i → q ≡ at + j → (g₁ g₂ : List ℕ) → g₁ ≡ sets g p (list_from (λ (x : ℕ). get_or b x 0) i m) → g₂ ≡ sets g₁ q (list_from (λ (x : ℕ). get_or b x 0) j m) → g₂ ≡ paste g at b k
    copied p q ep eq g₁ g₂ e₁ e₂ =
        e₂
        ∙ ap₂ (λ (x : List ℕ) (y : ℕ). sets x y (list_from (λ (x : ℕ). get_or b x 0) j m)) (e₁ ∙ ap (λ (y : ℕ). sets g y (list_from (λ (x : ℕ). get_or b x 0) i m)) ep ∙ run_is g b (at + i) i m (omega arith) (omega arith)) eq
        ∙ run_is one b (at + j) j m (omega (arith, h₁)) (omega arith)
        ∙ two_ends
