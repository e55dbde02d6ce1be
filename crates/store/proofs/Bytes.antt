-- Laws of bytes that are copied into memory.
use Prim.Native.Nat.{ℕ, ◌+◌, ◌-◌, ◌≤◌, ◌<◌}
use mathlib.Core.Path.{◌≡◌, sym, ap, ap₂, ◌∙◌}
use mathlib.Core.List.{List, ◌++◌, append_assoc}
use native.Mathlib.Nat.{le_refl}
use native.Mathlib.Omega.{arith}
use lib.ListN.{length, take, drop, get_or, length-append, length-take, get_or-append}
use lib.Seq.{paste, take-paste, drop-paste, take-take, take-length, take-append-add, drop-drop, length-take-le, get_or-append-add, get_or-take, get_or-drop}

-- ---- three parts in a row

module _ (p q r : List ℕ) where
  row_first : (i : ℕ) → i < length p → get_or (p ++ q ++ r) i 0 ≡ get_or p i 0
  row_first i h = get_or-append (p ++ q) r 0 i (simp length-append (omega arith)) ∙ get_or-append p q 0 i h

  row_second : (i : ℕ) → length p ≤ i → i < length p + length q → get_or (p ++ q ++ r) i 0 ≡ get_or q (i - length p) 0
  row_second i h k =
      get_or-append (p ++ q) r 0 i (simp length-append (omega arith))
      ∙ ap (λ (x : ℕ). get_or (p ++ q) x 0) at
      ∙ get_or-append-add p q (i - length p) 0
    where
      at : i ≡ length p + (i - length p)
      at = omega arith

  row_third : (i : ℕ) → length p + length q ≤ i → get_or (p ++ q ++ r) i 0 ≡ get_or r (i - (length p + length q)) 0
  row_third i h =
      ap (λ (x : ℕ). get_or (p ++ q ++ r) x 0) at
      ∙ get_or-append-add (p ++ q) r (i - (length p + length q)) 0
    where
      at : i ≡ length (p ++ q) + (i - (length p + length q))
      at = rw (length-append p q) (omega arith)

-- ---- the bytes of a copy

module _ (d : List ℕ) (at : ℕ) (s : List ℕ) (n : ℕ) (hd : at + n ≤ length d) (hs : n ≤ length s) where
  la : length (take at d) ≡ at
  la = simp length-take (omega arith)

  ls : length (take n s) ≡ n
  ls = simp length-take (omega arith)

  pub paste_before : (i : ℕ) → i < at → get_or (paste d at s n) i 0 ≡ get_or d i 0
  paste_before i h = row_first (take at d) (take n s) (drop (at + n) d) i (omega (arith, la)) ∙ get_or-take at d i 0 h

  pub paste_inside : (i : ℕ) → at ≤ i → i < at + n → get_or (paste d at s n) i 0 ≡ get_or s (i - at) 0
  paste_inside i h k =
      row_second (take at d) (take n s) (drop (at + n) d) i (omega (arith, la)) (omega (arith, la, ls))
      ∙ ap (λ (x : ℕ). get_or (take n s) (i - x) 0) la
      ∙ get_or-take n s (i - at) 0 (omega arith)

  pub paste_after : (i : ℕ) → at + n ≤ i → get_or (paste d at s n) i 0 ≡ get_or d i 0
  paste_after i h =
      row_third (take at d) (take n s) (drop (at + n) d) i (omega (arith, la, ls))
      ∙ ap₂ (λ (x y : ℕ). get_or (drop (at + n) d) (i - (x + y)) 0) la ls
      ∙ get_or-drop (at + n) d (i - (at + n)) 0
      ∙ ap (λ (x : ℕ). get_or d x 0) back
    where
      back : at + n + (i - (at + n)) ≡ i
      back = omega arith

-- ---- copies in a row
-- a copy of the first n bytes
pub paste_first : (d : List ℕ) (at : ℕ) (s : List ℕ) (n : ℕ) → n ≤ length s → paste d at (take n s) (length (take n s)) ≡ paste d at s n
paste_first d at s n h = ap (paste d at (take n s)) (length-take-le n s h) ∙ ap (λ (x : List ℕ). take at d ++ x ++ drop (at + n) d) (take-take n n s (le_refl n))

-- two are one
pub paste_twice : (d a b : List ℕ) (at y : ℕ) → at ≤ length d → paste (paste d at a (length a)) (at + length a) b y ≡ paste d at (a ++ b) (length a + y)
paste_twice d a b at y h =
    ap₂ (λ (x z : List ℕ). x ++ take y b ++ z) head rest
    ∙ ap (λ (x : List ℕ). x ++ drop (at + (length a + y)) d) (append_assoc (take at d) a (take y b) ∙ ap (λ (x : List ℕ). take at d ++ x) (sym (take-append-add a b y)))
  where
    once : List ℕ
    once = paste d at a (length a)

    head : take (at + length a) once ≡ take at d ++ a
    head = take-paste d at a (length a) h (le_refl (length a)) ∙ ap (λ (x : List ℕ). take at d ++ x) (take-length a)

    rest : drop (at + length a + y) once ≡ drop (at + (length a + y)) d
    rest =
        sym (drop-drop y (at + length a) once)
        ∙ ap (drop y) (drop-paste d at a (length a) h (le_refl (length a)))
        ∙ drop-drop y (at + length a) d
        ∙ ap (λ (k : ℕ). drop k d) both
      where
        both : at + length a + y ≡ at + (length a + y)
        both = omega arith

-- and three
pub paste_thrice : (d a b c : List ℕ) (at n : ℕ) → at ≤ length d → length a + length b + length c ≡ n
    → paste (paste (paste d at a (length a)) (at + length a) b (length b)) (at + length a + length b) c (length c) ≡ paste d at (a ++ b ++ c) n
paste_thrice d a b c at n h e =
    ap₂ (λ (x : List ℕ) (k : ℕ). paste x k c (length c)) (paste_twice d a b at (length b) h ∙ ap (paste d at (a ++ b)) (sym (length-append a b))) behind
    ∙ paste_twice d (a ++ b) c at (length c) h
    ∙ ap (paste d at (a ++ b ++ c)) (ap (λ (k : ℕ). k + length c) (length-append a b) ∙ e)
  where
    behind : at + length a + length b ≡ at + length (a ++ b)
    behind = simp length-append (omega arith)
