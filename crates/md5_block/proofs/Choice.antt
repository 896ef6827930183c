-- F of RFC 1321, bit by bit: where b's bit is set the bit of c, else that of d.
use Rattle.std.proofs.Common.{◌≡◌, ℕ, zero, suc, ◌+◌, ◌-◌, ◌*◌, ◌/◌, ◌%◌, ◌^◌, ◌<◌, max, sym, refl, ap, ◌∙◌, ap₂, pow-suc, arith}
use mathlib.Core.Path.{subst₃}
use lib.Arith.{lt-one}
use lib.Bits.{bit_and, bit_or, bit_xor, differ, or_step, xor_step, and_shr, and_mod, xor_shr, xor_mod}

-- one bit
bit : (x y z : ℕ) → x < 2 → y < 2 → z < 2 → max (bit_and x y) (bit_and (1 - x) z) ≡ differ z (bit_and x (bit_xor y z))
bit zero zero zero p q r = refl
bit zero zero (suc zero) p q r = refl
bit zero (suc zero) zero p q r = refl
bit zero (suc zero) (suc zero) p q r = refl
bit (suc zero) zero zero p q r = refl
bit (suc zero) zero (suc zero) p q r = refl
bit (suc zero) (suc zero) zero p q r = refl
bit (suc zero) (suc zero) (suc zero) p q r = refl
bit (suc (suc x)) y z p q r = absurd (omega arith)
bit zero (suc (suc y)) z p q r = absurd (omega arith)
bit (suc zero) (suc (suc y)) z p q r = absurd (omega arith)
bit zero zero (suc (suc z)) p q r = absurd (omega arith)
bit zero (suc zero) (suc (suc z)) p q r = absurd (omega arith)
bit (suc zero) zero (suc (suc z)) p q r = absurd (omega arith)
bit (suc zero) (suc zero) (suc (suc z)) p q r = absurd (omega arith)

none : {b c d : ℕ} → b ≡ 0 → c ≡ 0 → d ≡ 0 → bit_xor d (bit_and b (bit_xor c d)) ≡ bit_or (bit_and b c) (bit_and (1 - 1 - b) d)
none p q r = subst₃ (λ (b c d : ℕ). bit_xor d (bit_and b (bit_xor c d)) ≡ bit_or (bit_and b c) (bit_and (1 - 1 - b) d)) (sym p) (sym q) (sym r) refl

join : {x y u v : ℕ} → x ≡ y → u ≡ v → x * 2 + u ≡ y * 2 + v
join p q = ap₂ (λ x u. x * 2 + u) p q

-- both sides, halved
left : (b c d : ℕ) → bit_xor d (bit_and b (bit_xor c d))
    ≡ bit_xor (d / 2) (bit_and (b / 2) (bit_xor (c / 2) (d / 2))) * 2 + differ (d % 2) (bit_and (b % 2) (bit_xor (c % 2) (d % 2)))
left b c d =
    xor_step d (bit_and b (bit_xor c d))
    ∙ join (ap (bit_xor (d / 2)) (and_shr b (bit_xor c d) 1 ∙ ap (bit_and (b / 2)) (xor_shr c d 1)))
    (ap (differ (d % 2)) (and_mod b (bit_xor c d) 1 ∙ ap (bit_and (b % 2)) (xor_mod c d 1)))

right : (b c d n h o : ℕ) → n / 2 ≡ h → n % 2 ≡ o
    → bit_or (bit_and b c) (bit_and n d) ≡ bit_or (bit_and (b / 2) (c / 2)) (bit_and h (d / 2)) * 2 + max (bit_and (b % 2) (c % 2)) (bit_and o (d % 2))
right b c d n h o p q =
    or_step (bit_and b c) (bit_and n d)
    ∙ join (ap₂ bit_or (and_shr b c 1) (and_shr n d 1 ∙ ap (λ x. bit_and x (d / 2)) p)) (ap₂ max (and_mod b c 1) (and_mod n d 1 ∙ ap (λ x. bit_and x (d % 2)) q))

-- k bits
pub choice : (k b c d : ℕ) → b < 2 ^ k → c < 2 ^ k → d < 2 ^ k → bit_xor d (bit_and b (bit_xor c d)) ≡ bit_or (bit_and b c) (bit_and (2 ^ k - 1 - b) d)
choice zero b c d p q r = none (lt-one p) (lt-one q) (lt-one r)
choice (suc k) b c d p q r =
    let e : 2 ^ suc k ≡ 2 ^ k * 2 = pow-suc 2 k in
    let half : (2 ^ suc k - 1 - b) / 2 ≡ 2 ^ k - 1 - b / 2 = omega arith in
    let odd : (2 ^ suc k - 1 - b) % 2 ≡ 1 - b % 2 = omega arith in
    let halves = choice k (b / 2) (c / 2) (d / 2) (omega arith) (omega arith) (omega arith) in
    let bits = bit (b % 2) (c % 2) (d % 2) (omega arith) (omega arith) (omega arith) in
    left b c d ∙ join halves (sym bits)
    ∙ sym (right b c d (2 ^ suc k - 1 - b) (2 ^ k - 1 - b / 2) (1 - b % 2) half odd)
