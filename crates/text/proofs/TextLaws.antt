-- Laws of decimal and hex digits.
use mathlib.Core.Path.{◌≡◌, refl, sym, ap, ◌∙◌}
use mathlib.Core.Bool.{Bool, true, false, cond}
use mathlib.Core.List.{List, [], ◌∷◌, ◌++◌, append_assoc}
use Prim.Native.Nat.{ℕ, zero, suc, ◌+◌, ◌-◌, ◌*◌, ◌/◌, ◌%◌, ◌^◌, ◌≤◌, ◌<◌, zero-le}
use native.Mathlib.Nat.{le_refl, not-suc-le-zero, le_of_suc-le-suc, suc-add, pow-suc, mod-eq_of_lt}
use native.Mathlib.Numerals.{add-one}
use native.Mathlib.Omega.{arith}
use lib.Dec.{ltb}
use lib.ListN.{length, take, drop, set, get_or, length-append, length-set}
use lib.Seq.{drop-cons, drop-set-lt, get_or-set_same}
use borrow.Author.Tests.{lt-ltb, le-ltb}
use Rattle.parts.proofs.Laws.{part_to_end}
use Rattle.text.specs.Text.{decimal_digits, decimal, hex_digit_of, hex}
use Rattle.text.proofs.PutLaws.{Put, put_next}

-- ---- decimal

none_or : (b : Bool) (l : List ℕ) → length (cond b [] l) ≤ length l
none_or true l = zero-le
none_or false l = le_refl (length l)

digits-most : (f n : ℕ) → length (decimal_digits f n) ≤ f
unfolding decimal_digits
digits-most zero n = zero-le
digits-most (suc f) n =
    rw (length-append (cond (ltb n 10) [] (decimal_digits f (n / 10))) ((48 + n % 10) ∷ []))
    (omega (arith, none_or (ltb n 10) (decimal_digits f (n / 10)), digits-most f (n / 10)))

pub decimal-most : (n : ℕ) → length (decimal n) ≤ 20
decimal-most n = digits-most 20 n

set_front : (d : List ℕ) (i v : ℕ) → i < length d → drop i (set d i v) ≡ v ∷ drop (i + 1) d
set_front d i v h =
    let k : i < length (set d i v) = rw (length-set d i v) h in
    rw (drop-cons (set d i v) i 0 k, get_or-set_same d i v 0 h, drop-set-lt (suc i) d i v (omega arith), add-one i)

-- a digit more in front of those so far
pub digit-turn : (n first rest : ℕ) (d : List ℕ) → 10 ≤ rest → 1 ≤ first → first < length d → decimal n ≡ decimal_digits (first + 1) rest ++ drop (first + 1) d
    → decimal n ≡ decimal_digits (first - 1 + 1) (rest / 10) ++ drop (first - 1 + 1) (set d first (48 + rest % 10))
unfolding decimal_digits
digit-turn n first rest d h k l e =
    let i : first - 1 + 1 ≡ first = omega arith in
    let more : decimal_digits (first + 1) rest ≡ decimal_digits first (rest / 10) ++ ((48 + rest % 10) ∷ []) = rw (add-one first, le-ltb rest 10 h) in
    e
    ∙ ap (λ r. r ++ drop (first + 1) d) more
    ∙ append_assoc (decimal_digits first (rest / 10)) ((48 + rest % 10) ∷ []) (drop (first + 1) d)
    ∙ rw (i, set_front d first (48 + rest % 10) l)

-- the first digit
pub digit-last : (n first rest : ℕ) (d : List ℕ) → rest < 10 → first < 20 → length d ≡ 20
    → decimal n ≡ decimal_digits (first + 1) rest ++ drop (first + 1) d
    → take (20 - first) (drop first (set d first (48 + rest))) ≡ decimal n
unfolding decimal_digits
digit-last n first rest d h k l e =
    let last : decimal_digits (first + 1) rest ≡ (48 + rest) ∷ [] = rw (add-one first, lt-ltb rest 10 h, mod-eq_of_lt h) in
    let size : length (set d first (48 + rest)) ≡ 20 = length-set d first (48 + rest) ∙ l in
    ap (λ m. take (m - first) (drop first (set d first (48 + rest)))) (sym size)
    ∙ part_to_end first (set d first (48 + rest))
    ∙ set_front d first (48 + rest) (omega arith)
    ∙ sym (e ∙ ap (λ r. r ++ drop (first + 1) d) last)

-- a number of two digits has room for two
pub two-left : (first rest : ℕ) → 10 ≤ rest → rest < 10 ^ (first + 1) → 1 ≤ first
two-left zero rest h k = absurd (omega arith)
two-left (suc first) rest h k = omega arith

pub tenth-fits : (first rest : ℕ) → 1 ≤ first → rest < 10 ^ (first + 1) → rest / 10 < 10 ^ (first - 1 + 1)
tenth-fits first rest h k =
    let i : first - 1 + 1 ≡ first = omega arith in
    let p : 10 ^ (first + 1) ≡ 10 ^ first * 10 = rw (add-one first) (pow-suc 10 first) in
    rw i (omega arith)

-- ---- hex

pub hex-length : (s : List ℕ) → length (hex s) ≡ 2 * length s
unfolding hex
hex-length [] = refl
hex-length (b ∷ s) = omega (arith, hex-length s)

hex-more : (s : List ℕ) (i : ℕ) → i < length s
    → hex (take (i + 1) s) ≡ hex (take i s) ++ (hex_digit_of (get_or s i 0 / 16) ∷ hex_digit_of (get_or s i 0 % 16) ∷ [])
unfolding hex
hex-more [] i h = absurd (not-suc-le-zero h)
hex-more (b ∷ s) zero h = refl
hex-more (b ∷ s) (suc i) h = rw (suc-add i 1) (ap (λ (r : List ℕ). hex_digit_of (b / 16) ∷ hex_digit_of (b % 16) ∷ r) (hex-more s i (le_of_suc-le-suc h)))

pub hex-turn : (s : List ℕ) (i v w : ℕ) {out then after : List ℕ} {at to end : ℕ} → length out < 2 ^ 64 → i < length s → v ≡ hex_digit_of (get_or s i 0 / 16)
    → w ≡ hex_digit_of (get_or s i 0 % 16) → Put out at (hex (take i s)) then to → Put then to (v ∷ w ∷ []) after end → Put out at (hex (take (i + 1) s)) after end
hex-turn s i v w r h e f p q = rw (hex-more s i h, ← e, ← f) (put_next r p q)
