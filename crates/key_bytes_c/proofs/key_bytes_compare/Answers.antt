-- `key_bytes::key_bytes_compare`: what `key_bytes::compare` answers, as a number.
use mathlib.Core.Path.{ap, ◌∙◌}
use Rattle.key_bytes.specs.Told.{order_number}
use Rattle.key_bytes_c.proofs.key_bytes_compare.Goals as goal

pub returns : goal.returns
returns c = c.tell_order.ensures ∙ ap order_number c.compare.ensures
