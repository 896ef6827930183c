-- The checks of an encoding file s with header h, in their order: rules E11, E12, E15 and E16.
use Rattle.std.specs.Prelude.{Bool, not, List, [], ℕ, zero, suc}
use Rattle.parts.specs.Part.{same_bytes}
use Rattle.md5_digest.specs.Message.{md5}
use Rattle.refusal.specs.Check.{Check, refused_if, first, first_from}
use Rattle.refusal.specs.Number.{encoding_page_hash, entry_over_page, first_key, encoding_order, spec_number}
use Rattle.spec_table.specs.Specs.{count_of}
use Rattle.encoding_header.specs.declared.Kind.{Kind}
use Rattle.encoding_header.specs.declared.Kind.TheVariants.{Content, Encoding}
use Rattle.encoding_header.specs.declared.Header.{Header}
use Rattle.encoding_header.specs.Header.{table_of, page_end, page_of, page_hash, first_key_at, spec_table, header_of, opening}
use Rattle.encoding_page.specs.Entries.{entries_of, key_at, rising, last_key_before, all, spec_known, starts_with, over_end}

-- The last key in the pages before page i (rule E11); before the first key the empty one, which is below every key.
unfoldable pub key_before : List ℕ → Header → Kind → ℕ → List ℕ
key_before s h kind zero = []
key_before s h kind (suc i) = last_key_before (key_at s h kind) (key_before s h kind i) (entries_of s h kind i).entries

-- How many specs the table has.
unfoldable pub specs_of : List ℕ → Header → ℕ
specs_of s h = count_of (spec_table s h)

-- What is found of page i (rules E6, E11, E12, E15): its MD5 is the stored one,
unfoldable pub hash_right : List ℕ → Header → Kind → ℕ → Bool
hash_right s h kind i = same_bytes (md5 (page_of s h kind i)) (page_hash s h kind i)

-- an entry is over its end,
unfoldable pub entry_over : List ℕ → Header → Kind → ℕ → Bool
entry_over s h kind i = over_end s kind (page_end h kind i) (entries_of s h kind i).end

-- the stored first key is that of its first entry; where it has no entry it is not,
unfoldable pub first_key_right : List ℕ → Header → Kind → ℕ → Bool
first_key_right s h kind i = starts_with (key_at s h kind) (first_key_at s h kind i) (entries_of s h kind i).entries

-- each key is above the one before, on the page or at the end of the page before,
unfoldable pub keys_rise : List ℕ → Header → Kind → ℕ → Bool
keys_rise s h kind i = rising (key_at s h kind) (key_before s h kind i) (entries_of s h kind i).entries

-- and each spec number has a spec.
unfoldable pub all_specs_known : List ℕ → Header → Kind → ℕ → Bool
all_specs_known s h kind i = all (spec_known s h kind (specs_of s h)) (entries_of s h kind i).entries

-- 34, 35, 37, 36, 38, in this order, by what is found of page i; the place of 38 is 0 (rule E15).
abbrev pub check_in_order : (i : ℕ) (hashed over starts rises known : Bool) → Check
check_in_order i hashed over starts rises known =
    first (refused_if (not hashed) encoding_page_hash i)
    (first (refused_if over entry_over_page i)
    (first (refused_if (not starts) first_key i)
    (first (refused_if (not rises) encoding_order i)
    (refused_if (not known) spec_number 0))))

-- One page.
unfoldable pub page_check : List ℕ → Header → Kind → ℕ → Check
page_check s h kind i =
    check_in_order i (hash_right s h kind i) (entry_over s h kind i) (first_key_right s h kind i) (keys_rise s h kind i) (all_specs_known s h kind i)

-- The pages of a kind, one after the other.
unfoldable pub pages_check : List ℕ → Header → Kind → Check
pages_check s h kind = first_from (page_check s h kind) 0 (table_of h kind).pages

-- The full check: 30 to 33, then content pages, then encoding pages (rule E16).
abbrev pub full_check : List ℕ → Check
full_check s = first (opening s) (first (pages_check s (header_of s) Content) (pages_check s (header_of s) Encoding))
