-- What the chain tells of three files that passed their checks and fit each other: rule C8.
use Rattle.std.specs.Prelude.{◌≡◌, List, ℕ, Ok}
use Rattle.root_block.specs.Block.{size_of_key}
use Rattle.encoding_header.specs.Header.{header_of}
use Rattle.index_layout.specs.declared.Layout.{Layout}
use Rattle.chain.specs.Chain.{told}
use Rattle.chain_agreement.specs.Agreement.{Agrees}
use Rattle.chain_calls.specs.declared.Followed.{Followed}

-- Where all three checks passed, the content keys have the size of the root file's and the encoding keys that of the index's, the
-- chain tells what reading each file from first to last finds, and refuses nothing.
abbrev pub AgreesWhereChecked : (root encoding index : List ℕ) (id locale unwanted : ℕ) → Followed → Type 0
AgreesWhereChecked root encoding index id locale unwanted r =
    (l : Layout)
    → r.root ≡ Ok tt
    → r.encoding ≡ Ok tt
    → r.index ≡ Ok l
    → (header_of encoding).content.key_size ≡ size_of_key
    → (header_of encoding).encoding.key_size ≡ l.key_length
    → Agrees root encoding index id locale unwanted (told r.resolved)
