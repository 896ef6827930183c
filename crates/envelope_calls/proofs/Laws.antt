-- What the answers of `content_length` and `open` tell of a file.
use mathlib.Core.Path.{◌≡◌, sym, ap, ap₂, ◌∙◌}
use mathlib.Core.List.{List, [], ◌∷◌}
use Prim.Native.Nat.{ℕ}
use lib.ListN.{length}
use Rattle.std.specs.Prelude.{Result, Ok, Err, IfOk}
use Rattle.refusal.specs.declared.Refusal.{Refusal}
use Rattle.refusal.specs.Outcome.{answered, after, written_outcome}
use Rattle.refusal.specs.Output.{filled}
use Rattle.refusal.proofs.Laws.{skip, answered-after}
use Rattle.envelope.specs.Envelope.{content, content_check, open_check, length_outcome, open_outcome}
use Rattle.envelope.specs.Content.{joined}
use Rattle.envelope.proofs.Opened.{contents_of, opens, opens-table}
use Rattle.envelope_calls.specs.Opened.{room_for, Opened}

module _ (s key lent left : List ℕ) (opened : Result ℕ Refusal)
    (answer : written_outcome opened ≡ open_outcome s key (length lent)) (leaves : left ≡ filled (open_check s key (length lent)) (content s) lent) where
  pub what-opened : (measured : Result ℕ Refusal) → written_outcome measured ≡ length_outcome s key → IfOk measured (λ n. Opened s key lent left n opened)
  what-opened (Ok n) told =
      let known = answered-after (content_check s key) (n ∷ []) (length (content s) ∷ []) told in
      let size : n ≡ length (content s) = cc known.1 in
      let whole = opens s key known.0 in
      let room : open_check s key (length lent) ≡ room_for (joined (contents_of s)) lent =
      skip known.0 (ap (λ c. room_for c lent) whole.content_joined) in
      record {
        contents = contents_of s;
        opens = whole;
        table = opens-table s key known.0;
        measured = size ∙ ap length whole.content_joined;
        answer = answer ∙ ap₂ (λ k m. after k (answered (m ∷ []))) room (sym size);
        output = leaves ∙ ap₂ (λ k c. filled k c lent) room whole.content_joined;
      }
  what-opened (Err r) told = tt
