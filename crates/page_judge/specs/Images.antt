-- The pages of a log as they are kept.
use Rattle.std.specs.Prelude.{◌≡◌, ℕ, List, Option, Some, None, is_some, IsTrue, ◌==◌, if◌then◌else◌}
use Rattle.std.specs.Ordering.{nat_cmp}
use Rattle.std.specs.BTreeMap.{BTreeMap, get}
use Rattle.wal_record.specs.Chains.{names}
use Rattle.wal_record.specs.Images.{IsApplicable, applied, image}
use Rattle.wal_record.specs.declared.page.PageState.{PageState}
use Rattle.wal_record.specs.declared.record.Record.{Record}
use Rattle.page_rows.specs.Redo.{IsRedoable}
use Rattle.page_judge.specs.Names.{first_page, second_page}
use Rattle.page_judge.specs.declared.changed.Changed.{Changed}
use Rattle.page_judge.specs.declared.changed.Named.{Named}
use Rattle.page_judge.specs.declared.changed.PageImage.{PageImage}
use Rattle.page_judge.specs.declared.images.PageImages.{PageImages}

-- ---- what the map has

abbrev pub state_at : Option (Option PageState) → Option PageState
state_at None = None
state_at (Some o) = o

abbrev pub Places : Type 0
Places = BTreeMap ℕ (Option PageState)

-- the state of a page, if it has an image
abbrev pub state_in : Places → ℕ → Option PageState
state_in m p = state_at (get nat_cmp m p)

-- the page has a place there, with an image or without
abbrev pub HasPlace : Places → Option PageImage → Type 0
HasPlace m None = Unit {0}
HasPlace m (Some y) = IsTrue (is_some (get nat_cmp m y.page))

-- each page has the image that the log makes of it
unfoldable pub AreImagesOf : List Record → PageImages → Type 0
AreImagesOf log x = (p : ℕ) → image log p ≡ state_in x.places p

-- ---- what a record makes of pages

-- a page that the record names, if there is one
abbrev pub IsNamed : Record → Option ℕ → Type 0
IsNamed r None = Unit {0}
IsNamed r (Some p) = IsTrue (names p r)

-- the record is redone on this image of the page, or isn't redoable
abbrev pub IsAfter : Record → ℕ → Option PageState → Option PageState → Type 0
IsAfter r p old None = IsRedoable r p old → ⊥
IsAfter r p old (Some s) = IsRedoable r p old × (applied r p old ≡ Some s)

-- the record is applicable to that page, if there is one
abbrev pub IsApplicableAt : (ℕ → Option PageState) → Record → Option ℕ → Type 0
IsApplicableAt states r None = Unit {0}
IsApplicableAt states r (Some p) = IsApplicable r p (states p)

-- what it makes of that page
abbrev pub Tells : (ℕ → Option PageState) → Record → Option ℕ → Option PageImage → Type 0
Tells states r None None = Unit {0}
Tells states r None (Some y) = ⊥
Tells states r (Some p) None = ⊥
Tells states r (Some p) (Some y) = (y.page ≡ p) × (applied r p (states p) ≡ Some y.image)

abbrev pub IsChange : (ℕ → Option PageState) → Record → Option ℕ → Option Named → Type 0
IsChange states r page None = IsApplicableAt states r page → ⊥
IsChange states r page (Some x) = IsApplicableAt states r page × Tells states r page x.made

abbrev pub both_of : Option Named → Option Named → Option Changed
both_of None b = None
both_of (Some a) None = None
both_of (Some a) (Some b) = Some (record { first = a.made; second = b.made })

-- the record is applicable to the images of the pages that it names
abbrev pub AreApplicable : List Record → Record → Type 0
AreApplicable log r = (p : ℕ) → IsTrue (names p r) → IsApplicable r p (image log p)

-- these are the pages that the record names, with what it makes of them
abbrev pub IsMadeBy : List Record → Record → Changed → Type 0
IsMadeBy log r x = Tells (image log) r (first_page r) x.first × Tells (image log) r (second_page r) x.second

abbrev pub IsChanged : List Record → Record → Option Changed → Type 0
IsChanged log r None = AreApplicable log r → ⊥
IsChanged log r (Some x) = AreApplicable log r × IsMadeBy log r x

-- a page's state after a change, if it is the page that changes
abbrev pub changed_to : Option PageImage → ℕ → Option PageState → Option PageState
changed_to None p s = s
changed_to (Some y) p s = if y.page == p then Some y.image else s
