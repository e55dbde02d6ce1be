-- Words that every claim about captures uses: lent memory, what a call may answer, the ranges of arguments, and runs that are the same to a viewer.
use Rattle.std.specs.Prelude.{◌≡◌, true, List, [], ◌∷◌, ℕ, ◌+◌, ◌^◌, ◌≤◌, ◌<◌, Float, length, get_or}
use Rattle.std.specs.Prelude.{Option}
use Rattle.std.specs.Float.{binary64}
use Rattle.std.specs.Float.Ieee.{fits}
use denote.Ref.{Bor, MutBor, at_last}
use Rattle.rules.specs.SampleBytes.{Bytes}
use Rattle.rules.specs.Cutting.{Rising, cut_end, parts_sum, borders_sum}
use Rattle.claim_alike.specs.Alike as alike
use Rattle.node.specs.Memory.{level_of}
use Rattle.node.specs.declared.Memory as node

-- ---- memory
-- what is lent to a question
pub record Memory : Type 0 where
  pub samples : List ℕ
  pub l1 : List ℕ
  pub l2 : List ℕ
  pub l3 : List ℕ
  pub l4 : List ℕ

abbrev pub levels : Memory → ℕ → List ℕ
levels m = level_of m.l1 m.l2 m.l3 m.l4

-- the references by which a caller lends it, to wherever they point
abbrev pub Ref : Type 0
Ref = MutBor (List ℕ)

abbrev pub Shown : Type 0
Shown = Bor (List ℕ)

pub record Places : Type 0 where
  pub samples : Ref
  pub l1 : Ref
  pub l2 : Ref
  pub l3 : Ref
  pub l4 : Ref

-- what a `&` lends at such a reference: where it points, and what stands there; what a `&mut` lends is `at_last`
abbrev pub shown_at : {X : Type 0} → MutBor X → X → Bor X
shown_at r x = record { ref_ptr = r.ref_ptr; now = x }

-- all of it, as a question takes it
abbrev pub shown : Places → Memory → node.Memory
shown p m = record { samples = shown_at p.samples m.samples; levels = record { l1 = shown_at p.l1 m.l1; l2 = shown_at p.l2 m.l2; l3 = shown_at p.l3 m.l3; l4 = shown_at p.l4 m.l4 } }

-- arguments of a call: its record, the memory that is lent, and the others
abbrev pub lending : {A B : Type 0} → A → Places → Memory → B → A × (node.Memory × B)
lending c p m others = (c, (shown p m, others))

-- and those of a call that may change memory, slice by slice
abbrev pub lending_mut : {A B : Type 0} → A → Places → Memory → B → A × (Ref × (Ref × (Ref × (Ref × (Ref × B)))))
lending_mut c p m others = (c, (at_last p.samples m.samples, (at_last p.l1 m.l1, (at_last p.l2 m.l2, (at_last p.l3 m.l3, (at_last p.l4 m.l4, others))))))

-- ---- runs
-- "In their rules s and len are the run's."
abbrev pub at : List ℕ → ℕ → ℕ
at run i = get_or run i 0

-- "their runs have the same length, the same mark and the same chosen lines at every sample"
pub record Same (v : ℕ) (run₁ : List ℕ) (mark₁ : Option ℕ) (run₂ : List ℕ) (mark₂ : Option ℕ) : Type 0 where
  pub marks : mark₁ ≡ mark₂
  pub runs : alike.Same v (at run₁) (length run₁) (at run₂) (length run₂)

-- "Unit 1: one byte .. Unit 2: two bytes" (01, Records): samples are what their unit's bytes hold
abbrev pub OfUnit : ℕ → (ℕ → ℕ) → ℕ → Type 0
OfUnit unit s len = (i : ℕ) → i < len → s i < 256 ^ unit

-- a list of pushes or appends, each of them bytes
abbrev pub AreBytes : List (List ℕ) → Type 0
AreBytes [] = Unit {0}
AreBytes (b ∷ bs) = Bytes b × AreBytes bs

-- 02, CR 5: "Over any cutting of a stored range into parts of at least one sample, the parts and their borders add up to the whole."; `part x y` is that of [x, y)
abbrev pub AddUp : List ℕ → (ℕ → ℕ → ℕ) → Type 0
AddUp run part =
    (a first : ℕ) (rest : List ℕ) → Rising a (first ∷ rest) → cut_end first rest ≤ length run
    → parts_sum part a (first ∷ rest) + borders_sum (at run) (first ∷ rest) ≡ part a (cut_end first rest)

-- ---- what a call may answer
-- whatever a call may answer comes to x, and there is something that it may answer
pub record Answered {X A : Type 0} (may : X → Type 0) (told : X → A) (x : A) : Type 0 where
  pub is : (v : X) → may v → told v ≡ x
  pub answer : X
  pub allowed : may answer

-- the ranges of usize and of f64; a mask's is Word
abbrev pub Usize : ℕ → Type 0
Usize n = n < 2 ^ 64

abbrev pub F64 : Float → Type 0
F64 x = fits binary64 x ≡ true

-- ---- two calls
-- whatever two calls may answer, they are told the same
abbrev pub Agree : {X A : Type 0} → (X → Type 0) → (X → Type 0) → (X → A) → Type 0
Agree {X} may₁ may₂ told = (x y : X) → may₁ x → may₂ y → told x ≡ told y
