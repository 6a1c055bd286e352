-- The fields of a record that the journal fills in, and which numbers they get.
use Rattle.std.specs.Prelude.{◌≡◌, ℕ, List, [], ◌∷◌, Option, Some, None, Bool, true, false}
use Rattle.std.specs.List.{list_any}
use Rattle.log_index.specs.GoingOn.{KnowsLast}
use Rattle.log_index.specs.Listing.{IsListingOf}
use Rattle.log_index.specs.Ready.{is_upkeep, makes_page}
use Rattle.log_index.specs.declared.listing.Listing.{Listing}
use Rattle.page_ops.specs.Groups.{place_of}
use Rattle.wal_record.specs.Chains.{head, pages, Link, link_of, last, finishes}
use Rattle.wal_record.specs.Sound.{AreLawful}
use Rattle.wal_record.specs.declared.record.Record.{Record}
use Rattle.wal_record.specs.declared.record.Record.TheVariants as kinds
use Rattle.group_filling.specs.declared.fields.Fields.{Fields}

abbrev pub no_fields : Fields
no_fields = record { prev = 0; page = 0; page_prev = 0; other_prev = 0; child = 0; pages = 0 }

-- what stands in them
abbrev pub fields_of : Record → Fields
fields_of (kinds.Write w) = record no_fields { prev = w.prev; page = w.page; page_prev = w.page_prev }
fields_of (kinds.Apply a) = record no_fields { prev = a.prev; page = a.page; page_prev = a.page_prev }
fields_of (kinds.Undo u) = record no_fields { prev = u.prev; page = u.page; page_prev = u.page_prev }
fields_of (kinds.End e) = record no_fields { prev = e.prev }
fields_of (kinds.Split s) = record no_fields { page_prev = s.page_prev; child = s.child }
fields_of (kinds.Adopt a) = record no_fields { page_prev = a.parent_prev; other_prev = a.fosterer_prev }
fields_of (kinds.Grow g) = record no_fields { page_prev = g.page_prev; child = g.child }
fields_of (kinds.Purge g) = record no_fields { page_prev = g.page_prev }
fields_of (kinds.Lost l) = record no_fields { pages = l.pages }
fields_of r = no_fields

-- the record with these
abbrev pub with_fields : Fields → Record → Record
with_fields f (kinds.Write w) = kinds.Write (record w { prev = f.prev; page = f.page; page_prev = f.page_prev })
with_fields f (kinds.Apply a) = kinds.Apply (record a { prev = f.prev; page = f.page; page_prev = f.page_prev })
with_fields f (kinds.Undo u) = kinds.Undo (record u { prev = f.prev; page = f.page; page_prev = f.page_prev })
with_fields f (kinds.End e) = kinds.End (record e { prev = f.prev })
with_fields f (kinds.Split s) = kinds.Split (record s { page_prev = f.page_prev; child = f.child })
with_fields f (kinds.Adopt a) = kinds.Adopt (record a { parent_prev = f.page_prev; fosterer_prev = f.other_prev })
with_fields f (kinds.Grow g) = kinds.Grow (record g { page_prev = f.page_prev; child = f.child })
with_fields f (kinds.Purge g) = kinds.Purge (record g { page_prev = f.page_prev })
with_fields f (kinds.Lost l) = kinds.Lost (record l { pages = f.pages })
with_fields f r = r

-- of one record or two
abbrev pub with_two : Fields → Fields → List Record → List Record
with_two f g [] = []
with_two f g (r ∷ []) = with_fields f r ∷ []
with_two f g (r ∷ q ∷ rs) = with_fields f r ∷ with_fields g q ∷ rs

-- ---- in any life

-- the page on whose chain the record comes next, in the log
abbrev pub first_page : Option ℕ → ℕ → Record → ℕ
first_page made child (kinds.Write w) = place_of made child w.page
first_page made child (kinds.Apply a) = place_of made child a.page
first_page made child (kinds.Undo u) = place_of made child u.page
first_page made child (kinds.Split s) = s.page
first_page made child (kinds.Adopt a) = a.parent
first_page made child (kinds.Grow g) = 1
first_page made child (kinds.Purge g) = g.page
first_page made child r = 0

-- and its second page
abbrev pub second_page : Record → ℕ
second_page (kinds.Adopt a) = a.fosterer
second_page r = 0

-- the place is the one in the log, and the new page has this number
pub record ArePlaced (made : Option ℕ) (new : ℕ) (r : Record) (f : Fields) : Type 0 where
  pub page : f.page ≡ first_page made new r
  pub child : f.child ≡ new

-- ---- behind a log

-- the listing is that of a lawful log, and knows the last record of each of these transactions that goes on
pub record IsKnown (goes : ℕ → Bool) (log : List Record) (s : Listing) : Type 0 where
  pub lawful : AreLawful log
  pub listing : IsListingOf log s
  pub noted_last : KnowsLast goes log s

-- the transaction, if there is one, is one of these, and isn't over
abbrev pub IsGoingOn : (ℕ → Bool) → List Record → Option Link → Type 0
IsGoingOn goes log None = Unit {0}
IsGoingOn goes log (Some l) = (goes l.tx ≡ true) × (list_any (finishes l.tx) log ≡ false)

-- they tell what stands before the record
pub record AreChained (log : List Record) (made : Option ℕ) (new : ℕ) (r : Record) (f : Fields) : Type 0 where
  pub prev : (l : Link) → link_of r ≡ Some l → f.prev ≡ last log l.tx
  pub page_prev : f.page_prev ≡ head log (first_page made new r)
  pub other_prev : f.other_prev ≡ head log (second_page r)
  pub count : is_upkeep r ≡ true → f.pages ≡ pages log

-- of two records the first names no transaction, and only it may make a page; neither changes segments or runs as a whole
abbrev pub Joins : List Record → Type 0
Joins [] = Unit {0}
Joins (r ∷ []) = Unit {0}
Joins (r ∷ q ∷ []) = (link_of r ≡ None) × (is_upkeep r ≡ false) × (makes_page q ≡ false) × (is_upkeep q ≡ false)
Joins _ = ⊥
