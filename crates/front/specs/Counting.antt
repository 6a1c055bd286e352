-- The list behind a count, the durable number beside it, and what the seats at them know.
use Rattle.std.specs.Prelude.{◌≡◌, ℕ, List, [], ◌∷◌, ◌++◌, ◌≤◌, max, length, true, false}
use mathlib.Core.Option.{some}
use mathlib.Core.List.{IsPrefix}
use lib.ListN.{get_elem?}
use Rattle.atomic_table.specs.Table.{State, Me, Step}
use Rattle.atomic_table.specs.Seated.{TableId}
use Rattle.front.specs.declared.view.View.{View}

-- the name of no count
abbrev pub no_table : TableId
no_table = record { words = 0; slots = 0; views_name = 0; atom = 0; block = 0; offset = 0; slot_names = [] }

module _ {E : Type 0} where
  -- it adds to the list, all of which it has seen
  abbrev pub leader : List E → List E → ℕ → ℕ → View E
  leader seen told durable heard = record { leads = true; seen = seen; told = told; marks = false; durable = durable; heard = heard }

  -- it stores the durable number
  abbrev pub marker : List E → ℕ → ℕ → View E
  marker told durable heard = record { leads = false; seen = []; told = told; marks = true; durable = durable; heard = heard }

  -- it does both, at the start
  abbrev pub beginner : View E
  beginner = record { leads = true; seen = []; told = []; marks = true; durable = 0; heard = 0 }

  -- it has seen this, and was told of nothing
  abbrev pub follower : List E → ℕ → View E
  follower seen durable = record { leads = false; seen = seen; told = []; marks = false; durable = durable; heard = 0 }

  -- it was told of what the other had seen
  abbrev pub informed : View E → View E → View E
  informed v other = record { leads = v.leads; seen = v.seen; told = other.seen; marks = v.marks; durable = v.durable; heard = other.durable }

  -- What the seat `by` has seen and was told of are beginnings of the list, and numbers that aren't above the durable one.
  -- The seat `front` alone adds to the list, all of which it has seen; the seat `mark` alone stores the number.
  pub record Fits (front mark : ℕ) (list : List E) (number : ℕ) (by : ℕ) (v : View E) : Type 0 where
    pub seen : IsPrefix v.seen list
    pub told : IsPrefix v.told list
    pub leads : v.leads ≡ true → (by ≡ front) × (v.seen ≡ list)
    pub most : v.durable ≤ number
    pub heard : v.heard ≤ number
    pub marks : v.marks ≡ true → (by ≡ mark) × (v.durable ≡ number)

  -- the first word is the length of a list, and the second the durable number, which fit what each seat knows
  pub record IsCounted (s : State ℕ (View E)) : Type 0 where
    pub front : ℕ
    pub mark : ℕ
    pub list : List E
    pub number : ℕ
    pub words : s.words ≡ length list ∷ number ∷ []
    pub fits : (by : ℕ) (v : View E) → get_elem? s.views by ≡ some v → Fits front mark list number by v

  -- the list goes on with these entries
  abbrev pub Advances : List E → Step ℕ → Me ℕ (View E) → ℕ → Me ℕ (View E) → Type 0
  Advances entries s v found w = w ≡ (leader (v.0.seen ++ entries) [] v.0.durable 0, v.1)

  -- the list so far was seen, and its length was found
  abbrev pub Looks : Step ℕ → Me ℕ (View E) → ℕ → Me ℕ (View E) → Type 0
  Looks s v found w = IsPrefix v.0.seen w.0.seen × IsPrefix v.0.told w.0.seen × (found ≡ length w.0.seen) × (w ≡ (follower w.0.seen (max v.0.durable v.0.heard), v.1))

  -- the list begins with what was told
  abbrev pub Checks : Step ℕ → Me ℕ (View E) → ℕ → Me ℕ (View E) → Type 0
  Checks s v found w = IsPrefix v.0.told v.0.seen × (w ≡ (leader v.0.seen [] (max v.0.durable v.0.heard) 0, v.1))

  -- what was told is what was seen
  abbrev pub Learns : Step ℕ → Me ℕ (View E) → ℕ → Me ℕ (View E) → Type 0
  Learns s v found w = w ≡ (follower v.0.told (max v.0.durable v.0.heard), v.1)

  -- the list that was seen stays so, and the one that was told of is forgotten
  abbrev pub Hears : Step ℕ → Me ℕ (View E) → ℕ → Me ℕ (View E) → Type 0
  Hears s v found w = w ≡ (follower v.0.seen (max v.0.durable v.0.heard), v.1)

  -- the durable number was found
  abbrev pub Reads : Step ℕ → Me ℕ (View E) → ℕ → Me ℕ (View E) → Type 0
  Reads s v found w = (v.0.durable ≤ found) × (w ≡ (follower v.0.seen found, v.1))

  -- the durable number is the operand
  abbrev pub Stores : Step ℕ → Me ℕ (View E) → ℕ → Me ℕ (View E) → Type 0
  Stores s v found w = w ≡ (marker [] s.first 0, v.1)

  -- the number that was told isn't above the one that was stored
  abbrev pub Confirms : Step ℕ → Me ℕ (View E) → ℕ → Me ℕ (View E) → Type 0
  Confirms s v found w = (v.0.heard ≤ v.0.durable) × (w ≡ (marker [] v.0.durable 0, v.1))
