-- What a call of the boundary says: a code, and what it writes behind its out pointers.
use Rattle.std.specs.Prelude.{◌≡◌, cond, ℕ, zero, suc, eqb}
use Rattle.std.specs.Prelude.{Option, None, Some}
use Rattle.rules.specs.Answer.{Answer, refused, given}

pub record Reply (A : Type 0) : Type 0 where
  pub code : ℕ
  pub written : Option A

-- 0 is yes, a refusal is its number, and this is no: there is none, or not whole
abbrev pub none_code : ℕ
none_code = 100

-- nothing is written
abbrev pub only : {A : Type 0} → ℕ → Reply A
only n = record { code = n; written = None }

abbrev pub wrote : {A : Type 0} → ℕ → A → Reply A
wrote n a = record { code = n; written = Some a }

-- an answer that is always there unless a row refuses
abbrev pub plain : {A : Type 0} → Answer A → Reply A
plain (refused n) = only n
plain (given a) = wrote 0 a

-- one that may be none
abbrev pub perhaps : {A : Type 0} → Answer (Option A) → Reply A
perhaps (refused n) = only n
perhaps (given None) = only none_code
perhaps (given (Some a)) = wrote 0 a

-- and how it is read, with what stands behind the pointers
abbrev pub perhaps_in : {A : Type 0} → ℕ → A → Answer (Option A)
perhaps_in zero a = given (Some a)
perhaps_in (suc n) a = cond (eqb (suc n) none_code) (given None) (refused (suc n))

-- whole: what is written is the wrong node, so none of them is yes
abbrev pub fault : {A : Type 0} → Answer (Option A) → Reply A
fault (refused n) = only n
fault (given None) = only 0
fault (given (Some a)) = wrote none_code a

-- what stands behind a pointer afterwards: `write a old`, or what was there
abbrev pub behind : {A B : Type 0} → (A → B → B) → Option A → B → B
behind write None old = old
behind write (Some a) old = write a old

pub record Out {A B : Type 0} (write : A → B → B) (reply : Reply A) (code : ℕ) (old new : B) : Type 0 where
  pub code_is : code ≡ reply.code
  pub value_is : new ≡ behind write reply.written old
