-- `index_list_entry::judge`: each refusal in its turn.
use mathlib.Core.Path.{sym, ◌∙◌}
use native.Mathlib.Omega.{arith}
use Rattle.std.proofs.lemmas.Grind.{common_steps}
use Rattle.refusal.specs.Check.{first, refused_if}
use Rattle.index_layout.specs.Layout.{entry_size}
use Rattle.index_writer.specs.Write.{list_entry_size}
use Rattle.index_writer.proofs.Passed.{right}
use Rattle.index_list_entry.specs.Put.{put_check}
use Rattle.index_list_entry.proofs.judge.Goals as goal

pub returns-then-not-settings_right : goal.returns-then-not-settings_right
unfolding first refused_if put_check
returns-then-not-settings_right c = grind (arith, common_steps)

pub location_right-requires : goal.location_right-requires
location_right-requires c = (right c.args.settings (sym c.settings_right.ensures ∙ c.if-not-settings_right.false)).1.0

pub returns-then-not-location_right : goal.returns-then-not-location_right
unfolding first refused_if put_check
returns-then-not-location_right c = grind (arith, common_steps)

pub returns-then-key-length : goal.returns-then-key-length
unfolding first refused_if put_check
returns-then-key-length c = grind (arith, common_steps)

pub returns-then-room-length : goal.returns-then-room-length
unfolding first refused_if put_check list_entry_size entry_size
returns-then-room-length c = grind (arith, common_steps)

pub returns : goal.returns
unfolding first refused_if put_check list_entry_size entry_size
returns c = grind (arith, common_steps)
