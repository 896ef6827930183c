-- What the chain tells of three checked files that fit each other (proofs/Agreement.antt): document 01, "From a file number to a
-- place"; rule C8.
use Rattle.std.specs.Prelude.{◌≡◌, List, ℕ, Result, Ok}
use Rattle.refusal.specs.declared.Refusal.{Refusal}
use Rattle.refusal.specs.Check.{silent, check_of}
use Rattle.root_block.specs.Block.{size_of_key}
use Rattle.root.specs.Root.{root_check}
use Rattle.encoding_header.specs.Header.{header_of}
use Rattle.encoding.specs.Check as encoding_file
use Rattle.index_layout.specs.declared.Layout.{Layout}
use Rattle.index_layout.specs.Layout.{layout_of}
use Rattle.index_open.specs.Open.{outcome}
use Rattle.index.specs.Check as index_file
use Rattle.chain.specs.declared.Resolved.{Resolved}
use Rattle.chain.specs.declared.LinkRefusal.{LinkRefusal}
use Rattle.chain.specs.Chain.{Told, refused_at, resolve, told}
use Rattle.chain_agreement.specs.Plain.{plain_resolve}

-- Three files that pass their checks. The encoding file's content keys have the size of the root file's, and its encoding keys that
-- of the index's.
pub record Fit (root encoding index : List ℕ) : Type 0 where
  pub root_passes : root_check root ≡ silent
  pub encoding_passes : encoding_file.full_check encoding ≡ silent
  pub index_passes : index_file.full_check index ≡ silent
  pub content_keys : (header_of encoding).content.key_size ≡ size_of_key
  pub encoding_keys : (header_of encoding).encoding.key_size ≡ (layout_of index).key_length

-- What the chain tells of them.
pub record Agrees (root encoding index : List ℕ) (id locale unwanted : ℕ) (tells : Told) : Type 0 where
  -- Found exactly where the plain readings find, with the same page, slot, size and location and the written rule's comparisons;
  -- absent exactly where one of them finds nothing, with its link, and at the index with the comparisons.
  pub same : tells ≡ plain_resolve root encoding index id locale unwanted
  pub unrefused : (link number place : ℕ) → tells ≡ refused_at link number place → ⊥

-- Calls of the functions on three files, a file number and two masks: what each answered, as its contract says, where the checks
-- passed and the files fit each other.
pub record Calls (root encoding index : List ℕ) (id locale unwanted : ℕ) : Type 0 where
  -- `root::check` answered `root-checked`, `encoding::check` `encoding-checked`, `index::check` `index-checked` and
  -- `chain::resolve` `resolved`.
  pub root_checked : Result Unit Refusal
  pub encoding_checked : Result Unit Refusal
  pub index_checked : Result Layout Refusal
  pub resolved : Result Resolved LinkRefusal
  pub root_ensures : check_of root_checked ≡ root_check root
  pub encoding_ensures : check_of encoding_checked ≡ encoding_file.full_check encoding
  pub index_ensures : outcome index_checked ≡ index_file.check_outcome index
  pub resolve_ensures : told resolved ≡ resolve root encoding index id locale unwanted
  -- The premises.
  pub layout : Layout
  pub root_passed : root_checked ≡ Ok tt
  pub encoding_passed : encoding_checked ≡ Ok tt
  pub index_passed : index_checked ≡ Ok layout
  pub content_keys : (header_of encoding).content.key_size ≡ size_of_key
  pub encoding_keys : (header_of encoding).encoding.key_size ≡ layout.key_length

-- What holds of these calls.
abbrev pub ChainAgrees : (root encoding index : List ℕ) (id locale unwanted : ℕ) → Calls root encoding index id locale unwanted → Type 0
ChainAgrees root encoding index id locale unwanted c = Agrees root encoding index id locale unwanted (told c.resolved)
