-- The test suite of RFC 1321, section A.5: the definition gives the seven digests.
use mathlib.Core.Path.{◌≡◌, refl}
use mathlib.Core.List.{List, [], ◌∷◌, ◌++◌, map, reverse}
use Prim.Native.Nat.{ℕ, zero, suc, ◌+◌}
use Rattle.md5_block.specs.Block.{addends, shifts, mixed, word_number, turned, step, steps, word, words_of, sum, block, blocks}
use Rattle.md5_digest.specs.Message.{little_bytes, padding, initial, digest_of, md5}

-- n characters from c on, in the order of their codes
abbrev run : ℕ → ℕ → List ℕ
run c zero = []
run c (suc n) = c ∷ run (c + 1) n

abbrev lower : List ℕ
lower = run 97 26

abbrev upper : List ℕ
upper = run 65 26

-- "1234567890"
abbrev numerals : List ℕ
numerals = run 49 9 ++ (48 ∷ [])

-- "message digest"
abbrev phrase : List ℕ
phrase = 109 ∷ 101 ∷ 115 ∷ 115 ∷ 97 ∷ 103 ∷ 101 ∷ 32 ∷ 100 ∷ 105 ∷ 103 ∷ 101 ∷ 115 ∷ 116 ∷ []

abbrev pub strings : List (List ℕ)
strings =
    [] ∷ run 97 1 ∷ run 97 3 ∷ phrase ∷ lower ∷ (upper ++ lower ++ run 48 10)
    ∷ (numerals ++ numerals ++ numerals ++ numerals ++ numerals ++ numerals ++ numerals ++ numerals) ∷ []

abbrev pub digests : List ℕ
digests =
    0xd41d8cd98f00b204e9800998ecf8427e ∷ 0x0cc175b9c0f1b6a831c399e269772661 ∷ 0x900150983cd24fb0d6963f7d28e17f72 ∷ 0xf96b697d7cb7938d525a2f31aaf161d0
    ∷ 0xc3fcd3d76192e4007dfb496cca67e13b ∷ 0xd174ab98d277d9f5a5611c2c9f419d9f ∷ 0x57edf4a22be3c955ac49da2e2107b67a ∷ []

-- a digest as the number that its text writes
abbrev pub sixteen_bytes : ℕ → List ℕ
sixteen_bytes x = reverse (little_bytes 16 x)

pub suite : map md5 strings ≡ map sixteen_bytes digests
unfolding addends shifts mixed word_number turned step steps word words_of sum block blocks little_bytes padding initial digest_of md5
suite = refl
