-- A decimal text tells its number: 20 digits are enough for any number of 64 bits.
use mathlib.Core.Path.{◌≡◌, refl}
use mathlib.Core.Bool.{Bool, true, false, cond}
use mathlib.Core.List.{List, [], ◌∷◌, ◌++◌}
use Prim.Native.Nat.{ℕ, zero, suc, ◌+◌, ◌-◌, ◌*◌, ◌/◌, ◌%◌, ◌^◌, ◌<◌}
use native.Mathlib.Nat.{pow-suc}
use native.Mathlib.Omega.{arith}
use lib.Dec.{ltb}
use borrow.Author.Tests.{ltb-true}
use Rattle.text.specs.Text.{decimal_digits, decimal, reads}

pub reads-append : (n : ℕ) (a b : List ℕ) → reads n (a ++ b) ≡ reads (reads n a) b
unfolding reads
reads-append n [] b = refl
reads-append n (d ∷ a) b = reads-append (n * 10 + (d - 48)) a b

-- the last digit, after those of the tenth part where there is one
last-read : (n : ℕ) (s : List ℕ) (b : Bool) → ltb n 10 ≡ b → reads 0 s ≡ n / 10 → reads 0 (cond b [] s ++ ((48 + n % 10) ∷ [])) ≡ n
unfolding reads
last-read n s true t e = omega (arith, ltb-true n 10 t)
last-read n s false t e = rw (reads-append 0 s ((48 + n % 10) ∷ []), e) (omega arith)

digits-read : (f n : ℕ) → n < 10 ^ f → reads 0 (decimal_digits f n) ≡ n
unfolding reads decimal_digits
digits-read zero n h = omega arith
digits-read (suc f) n h =
    last-read n (decimal_digits f (n / 10)) (ltb n 10) refl (digits-read f (n / 10) (omega (arith, pow-suc 10 f)))

pub decimal-read : (n : ℕ) → n < 2 ^ 64 → reads 0 (decimal n) ≡ n
decimal-read n h = digits-read 20 n (omega arith)
