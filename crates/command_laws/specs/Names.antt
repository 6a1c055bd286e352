-- The active transactions of a life, by name.
use Rattle.std.specs.Prelude.{◌≡◌, ◌==◌, ℕ, List, [], ◌∷◌, Option, Some, None, is_some, Bool, if◌then◌else◌, IsTrue}
use Rattle.std.specs.List.{list_any}
use Rattle.script.specs.Word.{same_text}
use Rattle.wal_record.specs.History.{Live, phase}
use Rattle.wal_record.specs.declared.entry.Entry.{Entry}
use Rattle.wal_record.specs.declared.entry.Entry.TheVariants.{Began}

-- a name, and the session and the transaction that it stands for
pub record Active : Type 0 where
  pub name : List ℕ
  pub session : ℕ
  pub tx : ℕ

-- what a name stands for
abbrev pub active_of : List Active → List ℕ → Option Active
active_of [] name = None
active_of (a ∷ more) name = if same_text name a.name then Some a else active_of more name

abbrev pub is_active : List Active → List ℕ → Bool
is_active active name = is_some (active_of active name)

-- the others, in their order
abbrev pub without : List Active → List ℕ → List Active
without [] name = []
without (a ∷ more) name = if same_text name a.name then more else a ∷ without more name

-- the transactions that these entries begin, by this name
abbrev pub began : List ℕ → List Entry → List Active
began name [] = []
began name (Began session tx ∷ es) = record { name = name; session = session; tx = tx } ∷ began name es
began name (_ ∷ es) = began name es

-- each transaction that is live has a name
abbrev pub AreNamed : List Entry → List Active → Type 0
AreNamed h active = (t : ℕ) → phase h t ≡ Live → IsTrue (list_any (λ (a : Active). t == a.tx) active)
