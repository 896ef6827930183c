-- The numbers of refusal, under the names of the reasons of src/lib.rt: rule N1.
use Rattle.std.specs.Prelude.{ℕ}
use Rattle.refusal.specs.declared.Reason.{Reason}
use Rattle.refusal.specs.declared.Reason.TheVariants.{IndexShort, FooterHash, EntryCount, IndexLength, IndexPageHash, IndexPadding, IndexOrder, LastKey}
use Rattle.refusal.specs.declared.Reason.TheVariants.{IndexKeyLength, Settings, ListLength, OutputShort, NotBlte, EnvelopeHeader, ChunkSizes, ChunkHash}
use Rattle.refusal.specs.declared.Reason.TheVariants.{ChunkMode, DecodedSize, ContentOutputShort, EnvelopeKey, NotEncoding, EncodingHeader, EncodingCut}
use Rattle.refusal.specs.declared.Reason.TheVariants.{SpecTableOpen, EncodingPageHash, EntryOverPage, EncodingOrder, FirstKey, SpecNumber, EncodingKeyLength}
use Rattle.refusal.specs.declared.Reason.TheVariants.{BlockCut, IdRange, RootHeaderSize, RootHeaderCut, RootVersion, HashLimit, KeyTextLength, HexDigit}
use Rattle.refusal.specs.declared.Reason.TheVariants.{ListingInput, FooterVersion, FooterReserved, FooterPageSize, FooterOffsetWidth, FooterSizeWidth}
use Rattle.refusal.specs.declared.Reason.TheVariants.{FooterKeyLength, FooterHashLength, PathLength, ListFalls}

-- ---- archive index

-- index under 28 bytes
abbrev pub index_short : ℕ
index_short = 1

-- footer hash wrong
abbrev pub footer_hash : ℕ
footer_hash = 3

-- n above 8,388,608
abbrev pub entry_count : ℕ
entry_count = 4

-- file length wrong
abbrev pub index_length : ℕ
index_length = 5

-- page hash wrong; place: page
abbrev pub index_page_hash : ℕ
index_page_hash = 6

-- padding not zero; place: page
abbrev pub index_padding : ℕ
index_padding = 7

-- key not above the one before; place: entry
abbrev pub index_order : ℕ
index_order = 8

-- stored last key wrong; place: page
abbrev pub last_key : ℕ
last_key = 9

-- key not K bytes
abbrev pub index_key_length : ℕ
index_key_length = 10

-- settings wrong
abbrev pub settings : ℕ
settings = 11

-- list not whole entries
abbrev pub list_length : ℕ
list_length = 12

-- output shorter than what is to be written
abbrev pub output_short : ℕ
output_short = 13

-- ---- envelope

-- under 8 bytes, or not BLTE
abbrev pub not_blte : ℕ
not_blte = 20

-- header size, flags or count wrong, no chunk, header past the end
abbrev pub envelope_header : ℕ
envelope_header = 21

-- an empty chunk, or sizes not adding up to the rest
abbrev pub chunk_sizes : ℕ
chunk_sizes = 22

-- chunk hash wrong; place: chunk
abbrev pub chunk_hash : ℕ
chunk_hash = 23

-- mode not N; place: chunk
abbrev pub chunk_mode : ℕ
chunk_mode = 24

-- decoded size not encoded less 1; place: chunk
abbrev pub decoded_size : ℕ
decoded_size = 25

-- output too short for the content
abbrev pub content_output_short : ℕ
content_output_short = 26

-- envelope key not the one given
abbrev pub envelope_key : ℕ
envelope_key = 27

-- ---- encoding file

-- under 22 bytes, or not EN
abbrev pub not_encoding : ℕ
not_encoding = 30

-- header field
abbrev pub encoding_header : ℕ
encoding_header = 31

-- parts run past the end
abbrev pub encoding_cut : ℕ
encoding_cut = 32

-- last spec not closed
abbrev pub spec_table_open : ℕ
spec_table_open = 33

-- page hash; place: page
abbrev pub encoding_page_hash : ℕ
encoding_page_hash = 34

-- entry over page end; place: page
abbrev pub entry_over_page : ℕ
entry_over_page = 35

-- order of keys; place: page
abbrev pub encoding_order : ℕ
encoding_order = 36

-- first key; place: page
abbrev pub first_key : ℕ
first_key = 37

-- spec number past the table
abbrev pub spec_number : ℕ
spec_number = 38

-- key length
abbrev pub encoding_key_length : ℕ
encoding_key_length = 39

-- ---- root file

-- block cut; place: byte offset of the block
abbrev pub block_cut : ℕ
block_cut = 40

-- id outside its range; place: byte offset of the block
abbrev pub id_range : ℕ
id_range = 41

-- a from 16 to 19
abbrev pub root_header_size : ℕ
root_header_size = 42

-- header cut
abbrev pub root_header_cut : ℕ
root_header_cut = 43

-- version 4
abbrev pub root_version : ℕ
root_version = 44

-- ---- hashing

-- more than 2^48 bytes hashed
abbrev pub hash_limit : ℕ
hash_limit = 50

-- ---- key text

-- key text not 2K characters
abbrev pub key_text_length : ℕ
key_text_length = 60

-- not a hex digit; place: digit
abbrev pub hex_digit : ℕ
hex_digit = 61

-- ---- listing

-- listing input above 65,536 bytes
abbrev pub listing_input : ℕ
listing_input = 70

-- ---- fields of an index's footer; place: offset within the footer

-- version
abbrev pub footer_version : ℕ
footer_version = 102

-- a reserved byte
abbrev pub footer_reserved : ℕ
footer_reserved = 103

-- page size
abbrev pub footer_page_size : ℕ
footer_page_size = 104

-- offset width
abbrev pub footer_offset_width : ℕ
footer_offset_width = 105

-- size width
abbrev pub footer_size_width : ℕ
footer_size_width = 106

-- key length
abbrev pub footer_key_length : ℕ
footer_key_length = 107

-- hash length
abbrev pub footer_hash_length : ℕ
footer_hash_length = 108

-- ---- name hash

-- path above 1,024 bytes
abbrev pub path_length : ℕ
path_length = 110

-- ---- lists of file numbers

-- list falls; place: number of the id
abbrev pub list_falls : ℕ
list_falls = 161

-- ---- the number of each reason

abbrev pub number_of : Reason → ℕ
number_of IndexShort = index_short
number_of FooterHash = footer_hash
number_of EntryCount = entry_count
number_of IndexLength = index_length
number_of IndexPageHash = index_page_hash
number_of IndexPadding = index_padding
number_of IndexOrder = index_order
number_of LastKey = last_key
number_of IndexKeyLength = index_key_length
number_of Settings = settings
number_of ListLength = list_length
number_of OutputShort = output_short
number_of NotBlte = not_blte
number_of EnvelopeHeader = envelope_header
number_of ChunkSizes = chunk_sizes
number_of ChunkHash = chunk_hash
number_of ChunkMode = chunk_mode
number_of DecodedSize = decoded_size
number_of ContentOutputShort = content_output_short
number_of EnvelopeKey = envelope_key
number_of NotEncoding = not_encoding
number_of EncodingHeader = encoding_header
number_of EncodingCut = encoding_cut
number_of SpecTableOpen = spec_table_open
number_of EncodingPageHash = encoding_page_hash
number_of EntryOverPage = entry_over_page
number_of EncodingOrder = encoding_order
number_of FirstKey = first_key
number_of SpecNumber = spec_number
number_of EncodingKeyLength = encoding_key_length
number_of BlockCut = block_cut
number_of IdRange = id_range
number_of RootHeaderSize = root_header_size
number_of RootHeaderCut = root_header_cut
number_of RootVersion = root_version
number_of HashLimit = hash_limit
number_of KeyTextLength = key_text_length
number_of HexDigit = hex_digit
number_of ListingInput = listing_input
number_of FooterVersion = footer_version
number_of FooterReserved = footer_reserved
number_of FooterPageSize = footer_page_size
number_of FooterOffsetWidth = footer_offset_width
number_of FooterSizeWidth = footer_size_width
number_of FooterKeyLength = footer_key_length
number_of FooterHashLength = footer_hash_length
number_of PathLength = path_length
number_of ListFalls = list_falls
