-- A book as a list of entries, and what the seats at its table know.
use Rattle.std.specs.Prelude.{◌≡◌, ℕ, ◌==◌, List, [], ◌∷◌, ◌++◌, map, true, false, Option, Some, None, IfSome, if◌then◌else◌}
use mathlib.Core.Option.{some}
use lib.ListN.{get_elem?}
use Rattle.atomic_table.specs.Table.{State, Me, Step}
use Rattle.atomic_table.specs.Seated.{TableId}
use Rattle.books.specs.declared.entry.BookEntry.{BookEntry}
use Rattle.books.specs.declared.view.View.{View}

-- the name of no book
abbrev pub no_table : TableId
no_table = record { words = 0; slots = 0; views_name = 0; atom = 0; block = 0; offset = 0; slot_names = [] }

abbrev pub entry : ℕ → ℕ → ℕ → BookEntry
entry number first second = record { number = number; first = first; second = second }

-- the entry of this number
abbrev pub entry_of : ℕ → List BookEntry → Option BookEntry
entry_of number [] = None
entry_of number (e ∷ es) = if e.number == number then Some e else entry_of number es

-- the entry of the same number becomes this one
abbrev pub replaced : BookEntry → List BookEntry → List BookEntry
replaced new es = map (λ (e : BookEntry). if e.number == new.number then new else e) es

-- it keeps the book, and has the right to an entry or to none
abbrev pub keeper : List BookEntry → Option BookEntry → View
keeper entries claim = record { keeps = true; entries = entries; claim = claim }

-- it has the right to an entry or to none
abbrev pub claimant : Option BookEntry → View
claimant claim = record { keeps = false; entries = []; claim = claim }

abbrev pub with_claim : View → Option BookEntry → View
with_claim v claim = record { keeps = v.keeps; entries = v.entries; claim = claim }

-- what the seat `by` knows: the seat `keeper` alone keeps the book, and the seat `owner n` alone has the right to the entry of the number n
abbrev pub Fits : ℕ → List BookEntry → (ℕ → ℕ) → ℕ → View → Type 0
Fits keeper entries owner by v =
    (v.keeps ≡ true → (by ≡ keeper) × (v.entries ≡ entries))
    × IfSome v.claim (λ c. (owner c.number ≡ by) × (entry_of c.number entries ≡ Some c))

-- each right's entry stands in the book, and no entry has two rights
abbrev pub IsBooked : State ℕ View → Type 0
IsBooked s = (keeper : ℕ) × (entries : List BookEntry) × (owner : ℕ → ℕ) × ((by : ℕ) (v : View) → get_elem? s.views by ≡ some v → Fits keeper entries owner by v)

-- the entry is added, and its right is at the book's seat
abbrev pub Adds : BookEntry → Step ℕ → Me ℕ View → ℕ → Me ℕ View → Type 0
Adds new s v found w = w ≡ (keeper (v.0.entries ++ new ∷ []) (Some new), v.1)

-- the entry whose right is at the book's seat is the book's, and becomes the new one
abbrev pub Changes : BookEntry → Step ℕ → Me ℕ View → ℕ → Me ℕ View → Type 0
Changes new s v found w = (entry_of new.number v.0.entries ≡ v.0.claim) × (w ≡ (keeper (replaced new v.0.entries) (Some new), v.1))
