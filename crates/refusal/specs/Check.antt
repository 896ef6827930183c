-- What a check says, and which of several checks decides: rules G13 and G14 of docs/RULES.md, where all rules are.
use Rattle.std.specs.Prelude.{Bool, true, false, ℕ, zero, suc, Result, Ok, Err}
use Rattle.refusal.specs.declared.Refusal.{Refusal}
use Rattle.refusal.specs.Number.{number_of}

-- A check passes, or refuses with a number and a place (rule G13).
pub data Check : Type 0 where
  silent : Check
  refused : (number place : ℕ) → Check

-- A refusal with this number and place exactly where the test holds.
unfoldable pub refused_if : Bool → ℕ → ℕ → Check
refused_if true number place = refused number place
refused_if false number place = silent

-- The first of two checks that refuses (rule G14).
unfoldable pub first : Check → Check → Check
first silent later = later
first (refused number place) later = refused number place

-- What a result says as a check: nothing where it is answered, else the refusal's number and place.
abbrev pub check_of : {T : Type 0} → Result T Refusal → Check
check_of (Ok _) = silent
check_of (Err r) = refused (number_of r.reason) r.place

-- The first that refuses of n numbered checks, from number i on (rule G14).
unfoldable pub first_from : (ℕ → Check) → ℕ → ℕ → Check
first_from check i zero = silent
first_from check i (suc n) = first (check i) (first_from check (suc i) n)
