-- What is lent after an answer, as the exports state it.
use mathlib.Core.Path.{◌≡◌, refl, sym, ap, ap₂, ◌∙◌}
use mathlib.Core.Bool.{Bool, true, false, cond}
use mathlib.Core.List.{List, [], ◌∷◌, ◌++◌}
use Prim.Native.Nat.{ℕ}
use native.Mathlib.Omega.{arith}
use Rattle.std.specs.Prelude.{Result, Ok, Err, Option, Some, None, IfOk, IfSome}
use Rattle.parts.specs.Part.{part_at}
use Rattle.refusal.specs.declared.Refusal.{Refusal}
use Rattle.refusal.specs.Check.{Check, silent, refused, refused_if, check_of}
use Rattle.refusal.specs.Number.{hash_limit}
use Rattle.refusal.specs.Outcome.{Outcome, answered}
use Rattle.refusal.specs.Output.{filled}
use Rattle.refusal.proofs.Laws.{after-said, after-quiet}
use Rattle.key_text.specs.Text.{text_check, text_bytes, carried}
use Rattle.key_text.proofs.Laws.{carried-key}
use Rattle.index_layout.specs.declared.Layout.{Layout}
use Rattle.index_layout.specs.Layout.{footer_size, index_length_of, layout_of}
use Rattle.index_open.specs.Open as opens
use Rattle.index_open.specs.Open.{footer_reading, layout_values}
use Rattle.index_open.proofs.Laws.{passed-index, refused-index}
use Rattle.root.specs.declared.Found as root
use Rattle.root.specs.Lookup as lookup
use Rattle.root.specs.Lookup.{key_or, key_at}
use Rattle.root.proofs.First.{key-found}
use Rattle.root_find_path.specs.declared.Found as path
use Rattle.root_find_path.specs.Path as paths
use Rattle.root_find_path.proofs.Laws as path-laws
use Rattle.crossing.specs.Crossing.{lent_after, told_or, key_found}
use Rattle.answers.specs.Lent.{footer_told}
use Rattle.dwarnizza.specs.Indexes.{footer_outcome}

-- only what is answered is put
pub told-lent : {A : Type 0} (r : Result A Refusal) (k : Check) (new lent : A) → check_of r ≡ k → IfOk r (λ x. x ≡ new) → told_or r lent ≡ lent_after k new lent
unfolding lent_after
told-lent (Ok x) silent new lent e h = h
told-lent (Ok x) (refused number place) new lent e h = absurd (let z : ◌≡◌ {A = ℕ} 0 1 = cc in omega arith)
told-lent (Err r) silent new lent e h = absurd (let z : ◌≡◌ {A = ℕ} 0 1 = cc in omega arith)
told-lent (Err r) (refused number place) new lent e h = refl

-- a digest, by whether the limit is passed
pub digest-lent : (t : Bool) (digest lent : List ℕ) → lent_after (refused_if t hash_limit 0) digest lent ≡ cond t lent digest
unfolding lent_after refused_if
digest-lent true digest lent = refl
digest-lent false digest lent = refl

-- the content key of a lookup
pub key-lent : (s lent : List ℕ) (r : Result (Option root.Found) Refusal) (o : Outcome) → lookup.outcome r ≡ o
    → IfOk r (λ found. IfSome found (λ f. f.key ≡ key_at s f.at)) → key_found (λ f. f.key) r lent ≡ key_or s lent o
unfolding key_or
key-lent s lent (Ok (Some f)) o e k = key-found s f.key lent f.at o k e
key-lent s lent (Ok None) o e k = ap (key_or s lent) e
key-lent s lent (Err r) o e k = ap (key_or s lent) e

pub path-key-lent : (s lent : List ℕ) (r : Result (Option path.Found) Refusal) (o : Outcome) → paths.outcome r ≡ o
    → IfOk r (λ found. IfSome found (λ f. f.key ≡ key_at s f.at)) → key_found (λ f. f.key) r lent ≡ paths.key_or s lent o
unfolding paths.key_or
path-key-lent s lent (Ok (Some f)) o e k = path-laws.key-found s f.key lent f.id f.at o k e
path-key-lent s lent (Ok None) o e k = ap (paths.key_or s lent) e
path-key-lent s lent (Err r) o e k = ap (paths.key_or s lent) e

-- the key of a text
pub text-lent : (text : List ℕ) (k : ℕ) (key : List ℕ) (r : Result (List ℕ) Refusal) → check_of r ≡ text_check text k → IfOk r (λ b. b ≡ carried text k)
    → filled (check_of r) (part_at (told_or r []) 0 k) key ≡ filled (text_check text k) (text_bytes text) key
unfolding filled
text-lent text k key (Ok b) e h = ap₂ (λ c x. filled c x key) e (ap (λ x. part_at x 0 k) h ∙ carried-key text k (sym e))
text-lent text k key (Err r) e h = ap (λ c. filled c (text_bytes text) key) e

-- what a footer tells
pub footer-told : (s : List ℕ) (v : Result Layout Refusal) → opens.outcome v ≡ opens.footer_outcome s → footer_told v ≡ footer_outcome s
footer-told s (Ok l) e =
    let i = passed-index (footer_reading s) l (layout_of s) (Ok l) e refl in
    ap (λ m. answered (layout_values m ++ (index_length_of m ∷ footer_size ∷ []))) i.1 ∙ sym (after-quiet _ i.0)
footer-told s (Err r) e = sym (after-said _ (refused-index (footer_reading s) (layout_of s) (Err r) e refl))
