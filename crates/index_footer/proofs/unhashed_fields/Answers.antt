-- `index_footer::unhashed_fields`: twelve bytes, and eight zeros.
use mathlib.Core.Path.{◌≡◌, refl}
use Prim.Native.Nat.{ℕ, ◌/◌}
use native.Mathlib.Omega.{arith}
use Rattle.std.specs.Int.{w32, to_le_bytes}
use Rattle.md5_digest.specs.Message.{little_bytes}
use Rattle.index_footer.specs.Footer.{fields}
use Rattle.index_footer.proofs.unhashed_fields.Goals as goal

four-bytes : (n : ℕ) → to_le_bytes w32 n ≡ little_bytes 4 n
unfolding little_bytes
four-bytes n =
    let two : n / 256 / 256 ≡ n / 65536 = omega arith in
    let three : n / 65536 / 256 ≡ n / 16777216 = omega arith in
    rw (two, three)

pub returns : goal.returns
unfolding fields
returns c = rw (← four-bytes c.args.l.entries) (rw c.to_le_bytes.ensures refl)
