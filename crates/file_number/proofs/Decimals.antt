-- A file number and its decimal text: rule D13.
use mathlib.Core.Path.{◌≡◌, refl, sym, ap, subst, ◌∙◌}
use mathlib.Core.Bool.{Bool, true, false, cond}
use mathlib.Core.List.{List, [], ◌∷◌, ◌++◌, append_assoc, append-nil}
use Prim.Native.Nat.{ℕ, zero, suc, ◌+◌, ◌-◌, ◌*◌, ◌/◌, ◌%◌, ◌^◌, ◌≤◌, ◌<◌}
use native.Mathlib.Nat.{add-zero, zero-add, not-suc-le-zero, le_of_suc-le-suc, le_trans, le_refl, pow-suc, pow-le-pow_right}
use native.Mathlib.Omega.{arith}
use borrow.Author.Tests.{lt-ltb, le-ltb, le-leb, ltb-true, ltb-false, leb-true, eqb-false}
use lib.Dec.{ltb, leb, eqb}
use lib.ListN.{length, length-append, get_or-append}
use Rattle.parts.specs.Part.{byte_at}
use Rattle.parts.proofs.Laws.{by-test}
use Rattle.numbers.proofs.Laws.{within-inside}
use Rattle.refusal.specs.Outcome.{Outcome, answered}
use Rattle.text.specs.Text.{decimal_digits, decimal, reads}
use Rattle.text.proofs.Decimal.{decimal-read}
use Prim.{tt}
use Rattle.std.specs.Prelude.{Result, Ok, Err, IfOk}
use Rattle.file_number.specs.declared.Fault.{Fault}
use Rattle.file_number.specs.FileNumber as spec
use Rattle.file_number.specs.FileNumber.{most_number, wrong_at, is_digit, digits_of, fitting, bounded_number, has_leading_zero, file_number_of, outcome}
use Rattle.file_number.proofs.Laws.{Digit, digit-range, one_byte, other_byte, told-number}

-- ---- numbers of digits

reads-least : (s : List ℕ) (n : ℕ) → n ≤ reads n s
unfolding reads
reads-least [] n = le_refl n
reads-least (d ∷ s) n = le_trans (omega arith) (reads-least s (n * 10 + (d - 48)))

-- a number with a digit that is not 0 in front has a lower bound by the count of its digits
reads-long : (s : List ℕ) (n m : ℕ) → 10 ^ m ≤ n → 10 ^ (m + length s) ≤ reads n s
unfolding reads
reads-long [] n m h = rw add-zero h
reads-long (d ∷ s) n m h =
    let e : m + suc (length s) ≡ suc m + length s = omega arith in
    rw e (reads-long s (n * 10 + (d - 48)) (suc m) (omega (arith, pow-suc 10 m)))

short : (s : List ℕ) (n : ℕ) → 1 ≤ n → reads n s ≤ most_number → length s < 20
short s n h k =
    by-test (ltb (length s) 20) (ltb-true (length s) 20)
    (λ e.
    let long : 20 ≤ 0 + length s = omega (arith, ltb-false (length s) 20 e) in
    absurd (omega (arith, reads-long s n 0 h, pow-le-pow_right {n = 10} (omega arith) long)))

-- where all digits fit, the number does, and where it does, they do
fitting-most : (s : List ℕ) (n : ℕ) → n ≤ most_number → length s ≤ fitting n s → reads n s ≤ most_number
unfolding fitting reads
fitting-most [] n h l = h
fitting-most (d ∷ s) n h l =
    by-test (leb (n * 10 + (d - 48)) most_number)
    (λ e. fitting-most s (n * 10 + (d - 48)) (leb-true (n * 10 + (d - 48)) most_number e) (le_of_suc-le-suc (rw e at l)))
    (λ e. absurd (not-suc-le-zero (rw e at l)))

most-fitting : (s : List ℕ) (n : ℕ) → reads n s ≤ most_number → length s ≤ fitting n s
unfolding fitting reads
most-fitting [] n h = omega arith
most-fitting (d ∷ s) n h =
    let m : n * 10 + (d - 48) ≤ most_number = le_trans (reads-least s (n * 10 + (d - 48))) h in
    rw (le-leb (n * 10 + (d - 48)) most_number m) (omega (arith, most-fitting s (n * 10 + (d - 48)) h))

-- ---- the decimal text of what was read

one-digit : (f n : ℕ) → 1 ≤ f → n < 10 → decimal_digits f n ≡ (48 + n) ∷ []
unfolding decimal_digits
one-digit zero n h l = absurd (not-suc-le-zero h)
one-digit (suc f) n h l =
    let e : n % 10 ≡ n = omega arith in
    rw (lt-ltb n 10 l, e)

next-digit : (f n d : ℕ) → 1 ≤ n → 48 ≤ d → d ≤ 57 → decimal_digits (suc f) (n * 10 + (d - 48)) ≡ decimal_digits f n ++ (d ∷ [])
unfolding decimal_digits
next-digit f n d h l m =
    let tenth : (n * 10 + (d - 48)) / 10 ≡ n = omega arith in
    let last : 48 + (n * 10 + (d - 48)) % 10 ≡ d = omega arith in
    rw (le-ltb (n * 10 + (d - 48)) 10 (omega arith), tenth, last)

-- digits behind a number that is not 0
digits-behind : (s : List ℕ) (n g : ℕ) → 1 ≤ n → ((i : ℕ) → i < length s → Digit (byte_at s i))
    → decimal_digits (length s + g) (reads n s) ≡ decimal_digits g n ++ s
unfolding reads
digits-behind [] n g h r = rw (zero-add g) (sym (append-nil (decimal_digits g n)))
digits-behind (d ∷ s) n g h r =
    let fuel : suc (length s) + g ≡ length s + suc g = omega arith in
    let first : Digit d = r 0 (omega arith) in
    rw fuel
    (digits-behind s (n * 10 + (d - 48)) (suc g) (omega arith) (λ i l. r (suc i) (omega arith))
    ∙ ap (λ a. a ++ s) (next-digit g n d h first.0 first.1)
    ∙ append_assoc (decimal_digits g n) (d ∷ []) s)

-- the first digit
first-of : (f d : ℕ) → 1 ≤ f → Digit d → decimal_digits f (0 * 10 + (d - 48)) ≡ d ∷ []
first-of f d h r =
    let same : 48 + (0 * 10 + (d - 48)) ≡ d = omega arith in
    one-digit f (0 * 10 + (d - 48)) h (omega arith) ∙ ap (λ x. x ∷ []) same

not-zero : (d : ℕ) → Digit d → eqb d 48 ≡ false → 1 ≤ 0 * 10 + (d - 48)
not-zero d r e = by-test (ltb d 49) (λ t. absurd (eqb-false d 48 e (omega (arith, ltb-true d 49 t)))) (λ t. omega (arith, ltb-false d 49 t))

decimal-text : (text : List ℕ) → 1 ≤ length text → has_leading_zero text ≡ false → length text ≤ digits_of text → reads 0 text ≤ most_number
    → decimal (reads 0 text) ≡ text
unfolding reads
decimal-text [] h z l m = absurd (not-suc-le-zero h)
decimal-text (d ∷ []) h z l m = first-of 20 d (omega arith) (digit-range (d ∷ []) l 0 (omega arith))
decimal-text (d ∷ e ∷ s) h z l m =
    let range = digit-range (d ∷ e ∷ s) l in
    let n = 0 * 10 + (d - 48) in
    let g = 20 - length (e ∷ s) in
    let other : 1 ≤ n = not-zero d (range 0 (omega arith)) (rw (lt-ltb 1 (suc (suc (length s))) (omega arith)) at z) in
    let few : length (e ∷ s) < 20 = short (e ∷ s) n other m in
    let fuel : length (e ∷ s) + g ≡ 20 = omega arith in
    ap (λ f. decimal_digits f (reads n (e ∷ s))) (sym fuel)
    ∙ digits-behind (e ∷ s) n g other (λ i k. range (suc i) (omega arith))
    ∙ ap (λ a. a ++ (e ∷ s)) (first-of g d (omega arith) (range 0 (omega arith)))

-- a number is told where each test is passed
passed : (b : Bool) (what place : ℕ) (o : Outcome) (values : List ℕ) → cond b (wrong_at what place) o ≡ answered values
    → (b ≡ false) × (o ≡ answered values)
passed true what place o values e = absurd (let z : ◌≡◌ {A = ℕ} 0 1 = cc in omega arith)
passed false what place o values e = (refl, e)

pub written : (text : List ℕ) (n : ℕ) → file_number_of text ≡ answered (n ∷ []) → (decimal n ≡ text) × (n ≤ most_number)
written text n e =
    let a = passed (ltb (length text) 1) _ _ _ _ e in
    let b = passed (has_leading_zero text) _ _ _ _ a.1 in
    let d = passed (ltb (digits_of text) (length text)) _ _ _ _ b.1 in
    let f = passed (ltb (fitting 0 text) (length text)) _ _ _ _ d.1 in
    let digits = ltb-false (digits_of text) (length text) d.0 in
    let most = fitting-most text 0 (omega arith) (ltb-false (fitting 0 text) (length text) f.0) in
    let same : reads 0 text ≡ n = let h = f.1 in cc in (
      ap decimal (sym same) ∙ decimal-text text (ltb-false (length text) 1 a.0) b.0 digits most,
      subst (λ m. m ≤ most_number) same most,
    )

pub told_written : (text : List ℕ) (r : Result ℕ Fault) → outcome r ≡ file_number_of text → IfOk r (λ n. (decimal n ≡ text) × (n ≤ most_number))
told_written text (Ok n) e = written text n (sym e)
told_written text (Err f) e = tt

-- ---- the number of a decimal text

digits_append : (a b : List ℕ) → length a ≤ digits_of a → length b ≤ digits_of b → length (a ++ b) ≤ digits_of (a ++ b)
unfolding digits_of
digits_append [] b h l = l
digits_append (d ∷ a) b h l =
    by-test (is_digit d)
    (λ e. rw e (omega (arith, digits_append a b (le_of_suc-le-suc (rw e at h)) l)))
    (λ e. absurd (not-suc-le-zero (rw e at h)))

last-digit : (n : ℕ) → length ((48 + n % 10) ∷ []) ≤ digits_of ((48 + n % 10) ∷ [])
unfolding digits_of
last-digit n = rw (within-inside 48 57 (48 + n % 10) (omega arith) (omega arith)) (omega arith)

none_or : (b : Bool) (s : List ℕ) → length s ≤ digits_of s → length (cond b [] s) ≤ digits_of (cond b [] s)
none_or true s h = omega arith
none_or false s h = h

all_digits : (f n : ℕ) → length (decimal_digits f n) ≤ digits_of (decimal_digits f n)
unfolding decimal_digits
all_digits zero n = omega arith
all_digits (suc f) n =
    let before = decimal_digits f (n / 10) in
    digits_append (cond (ltb n 10) [] before) ((48 + n % 10) ∷ []) (none_or (ltb n 10) before (all_digits f (n / 10))) (last-digit n)

some-digit : (f n : ℕ) → 1 ≤ f → 1 ≤ length (decimal_digits f n)
unfolding decimal_digits
some-digit zero n h = absurd (not-suc-le-zero h)
some-digit (suc f) n h = rw (length-append (cond (ltb n 10) [] (decimal_digits f (n / 10))) ((48 + n % 10) ∷ [])) (omega arith)

some-fuel : (f n : ℕ) → 1 ≤ n → n < 10 ^ f → 1 ≤ f
some-fuel zero n h l = absurd (omega arith)
some-fuel (suc f) n h l = omega arith

-- the first digit of a number that is not 0
first-digit : (f n : ℕ) → 1 ≤ n → n < 10 ^ f → byte_at (decimal_digits f n) 0 ≡ 48 → ⊥
unfolding decimal_digits
first-digit zero n h l e = omega arith
first-digit (suc f) n h l e =
    by-test (ltb n 10) (λ t. omega (arith, ltb-true n 10 t, rw t at e))
    (λ t.
    let more : 10 ≤ n = ltb-false n 10 t in
    let tenth : n / 10 < 10 ^ f = omega (arith, pow-suc 10 f) in
    let one : 1 ≤ f = some-fuel f (n / 10) (omega arith) tenth in
    let there : 0 < length (decimal_digits f (n / 10)) = some-digit f (n / 10) one in
    first-digit f (n / 10) (omega arith) tenth (sym (get_or-append (decimal_digits f (n / 10)) _ 0 0 there) ∙ rw t at e))

no-leading-zero : (n : ℕ) → n ≤ most_number → has_leading_zero (decimal n) ≡ false
unfolding decimal_digits
no-leading-zero n h =
    by-test (ltb n 10) (λ t. one_byte (decimal n) (rw t (omega arith)))
    (λ t. other_byte (decimal n) (first-digit 20 n (omega (arith, ltb-false n 10 t)) (omega arith)))

pub read_back : (n : ℕ) → n ≤ most_number → file_number_of (decimal n) ≡ answered (n ∷ [])
read_back n h =
    let same : reads 0 (decimal n) ≡ n = decimal-read n (omega arith) in
    let fits : length (decimal n) ≤ fitting 0 (decimal n) = most-fitting (decimal n) 0 (subst (λ m. m ≤ most_number) (sym same) h) in
    sym (told-number (decimal n) (some-digit 20 n (omega arith)) (no-leading-zero n h) (all_digits 20 n))
    ∙ rw (le-ltb (fitting 0 (decimal n)) (length (decimal n)) fits) (ap (λ m. answered (m ∷ [])) same)

pub decimals : spec.Decimals
decimals = record { written = written; read_back = read_back }
