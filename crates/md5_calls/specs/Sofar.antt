-- The state after the beginning of a message: rules H10 and H13.
use Rattle.std.specs.Prelude.{◌≡◌, List, ℕ, ◌≤◌, length, take}
use Rattle.md5_digest.specs.declared.Md5.{Md5}
use Rattle.md5_digest.specs.Message.{state_after}

-- The state is that of as many bytes of the message as it counts.
pub record Sofar (message : List ℕ) (s : Md5) : Type 0 where
  pub inside : s.count ≤ length message
  pub state : s ≡ state_after (take s.count message)
