-- Bytes of a push copied to the ring, in the form that a lent part of it leaves.
use Prim.Native.Nat.{ℕ, ◌+◌, ◌≤◌}
use mathlib.Core.Path.{◌≡◌, sym, ap, ◌∙◌}
use mathlib.Core.List.{List, ◌++◌, append_assoc}
use native.Mathlib.Omega.{arith}
use lib.ListN.{length, take, drop, length-drop}
use lib.Seq.{drop-drop, length-take-le, paste}
use Rattle.rules.specs.Ring.{written}

pub copy_end : (g bytes : List ℕ) (at from n : ℕ) → from + n ≤ length bytes → paste g at (drop from bytes) n ≡ written g at (take n (drop from bytes))
copy_end g bytes at from n l =
    append_assoc (take at g) (take n (drop from bytes)) (drop (at + n) g)
    ∙ ap (λ (x : List ℕ). take at g ++ (take n (drop from bytes) ++ x)) (sym (drop-drop (length (take n (drop from bytes))) at g ∙ ap (λ (x : ℕ). drop (at + x) g) (length-take-le n (drop from bytes) (simp length-drop (omega arith)))))
