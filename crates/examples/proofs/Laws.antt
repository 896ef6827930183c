-- Rows one after another.
use mathlib.Core.Path.{◌≡◌, refl, sym, subst}
use mathlib.Core.Logic.{⊎_elim}
use mathlib.Core.List.Memᴰ
use mathlib.Core.List.{List, [], ◌∷◌, ◌++◌}
use Prim.{Unit}
use Rattle.examples.specs.Examples.{Row, EachHolds}

-- what each row says, row by row
abbrev pub Rows : List Row → Type 0
Rows [] = Unit
Rows (row ∷ rows) = (row.given ≡ row.said) × Rows rows

row_more : (row : Row) (rows : List Row) → row.given ≡ row.said → EachHolds rows → EachHolds (row ∷ rows)
row_more row rows e h =
    record { holds = λ r m. ⊎_elim (λ same. subst (λ (x : Row). x.given ≡ x.said) (sym same) e) (h.holds r) (Memᴰ.cases_cons m) }

pub each : (rows : List Row) → Rows rows → EachHolds rows
each [] h = record { holds = λ row m. absurd (Memᴰ.not-nil m) }
each (row ∷ rows) h = row_more row rows h.0 (each rows h.1)

infixl 4 ◌then◌
pub ◌then◌ : {a b : List Row} → EachHolds a → EachHolds b → EachHolds (a ++ b)
◌then◌ {a = []} h k = k
◌then◌ {a = row ∷ a} {b} h k =
    row_more row (a ++ b) (h.holds row (Memᴰ.head refl)) (record { holds = λ r m. h.holds r (Memᴰ.tail m) } then k)
