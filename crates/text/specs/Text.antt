-- Text as its bytes, with numbers in decimal and bytes in hex: rule T8.
use Rattle.std.specs.Prelude.{cond, List, [], ◌∷◌, ◌++◌, ℕ, zero, suc, ◌+◌, ◌-◌, ◌*◌, ◌/◌, ◌%◌, ltb}
use Prim.Native.Char.{code}
use Prim.Native.String as string
use Prim.Native.String.{String}

-- The bytes of a quoted text of ASCII characters.
unfoldable pub ascii : String → List ℕ
ascii string.[] = []
ascii (string.◌∷◌ c s) = code c ∷ ascii s

-- The decimal digits of a number, at most f of them, with no zero in front: those of its tenth part, then its last one.
unfoldable pub decimal_digits : ℕ → ℕ → List ℕ
decimal_digits zero n = []
decimal_digits (suc f) n = cond (ltb n 10) [] (decimal_digits f (n / 10)) ++ ((48 + n % 10) ∷ [])

-- A number in decimal. A number of 64 bits has at most 20 digits.
abbrev pub decimal : ℕ → List ℕ
decimal n = decimal_digits 20 n

-- The number that a text of digits tells, behind others that told n.
unfoldable pub reads : ℕ → List ℕ → ℕ
reads n [] = n
reads n (d ∷ s) = reads (n * 10 + (d - 48)) s

-- A word, and a number in decimal after it.
abbrev pub numbered : String → ℕ → List ℕ
numbered word n = ascii word ++ decimal n

-- A hex digit, in lower case.
abbrev pub hex_digit_of : ℕ → ℕ
hex_digit_of d = cond (ltb d 10) (48 + d) (87 + d)

-- Bytes in hex, each as two digits, the higher first.
unfoldable pub hex : List ℕ → List ℕ
hex [] = []
hex (b ∷ s) = hex_digit_of (b / 16) ∷ hex_digit_of (b % 16) ∷ hex s
