-- Where no backup and no run is done, the same objects are named.
use Rattle.std.proofs.Common.{◌≡◌, ℕ, List, [], ◌∷◌, ◌++◌, Bool, true, false, refl, sym, ap, ◌∙◌, subst}
use Rattle.std.specs.Prelude.{Option, Some, IfSome, IsSome, None}
use Rattle.std.specs.List.{list_any}
use Rattle.std.proofs.lemmas.List.Folds.{list_any-append}
use Rattle.store_model.proofs.Bools.{or_left, or_right, not_both}
use Rattle.wal_record.specs.Legal.{IsLegal}
use mathlib.Core.List.{IsPrefix}
use Rattle.store_model.specs.declared.object.ObjectName.{ObjectName}
use Rattle.books.specs.Rights.{MaintClaim}
use Rattle.wal_record.specs.Books.{maintenance_book}
use Rattle.wal_record.specs.History.{life_log, log_of}
use Rattle.wal_record.specs.declared.record.Record.{Record}
use Rattle.wal_record.specs.declared.entry.Entry.{Entry}
use Rattle.claim_laws.specs.Upkeep.{is_maintenance}
use Rattle.claim_laws.proofs.Upkeep.{maintenance_law}
use Rattle.page_ops.specs.Claims.{MaintAgrees}
use Rattle.page_ops.specs.Seeing.{IsConsistent}
use Rattle.page_ops.proofs.Staying.{longer_log}
use Rattle.named_objects.specs.Named.{Names, record_of}
use Rattle.named_objects.specs.declared.naming.Naming.{Naming}
use Rattle.named_objects.specs.declared.naming.Naming.TheVariants as namings

-- who names an object is a record of maintenance
naming_kind : (n : Naming) → is_maintenance (record_of n) ≡ true
naming_kind (namings.Backup b) = refl
naming_kind (namings.Run d) = refl

-- a record of a kind stands in no list in which none is of it
pub none_there : (f : Record → Bool) (before : List Record) (r : Record) (behind more : List Record) → before ++ r ∷ behind ≡ more → f r ≡ true → list_any f more ≡ false → ⊥
none_there f before r behind more is own none =
    let there : list_any f (before ++ r ∷ behind) ≡ true = list_any-append f before (r ∷ behind) ∙ or_right (list_any f before) (list_any f (r ∷ behind)) (or_left (f r) (list_any f behind) own) in
    not_both (list_any f more) (sym (ap (list_any f) is) ∙ there) none

-- a record of a kind that comes no more stands in the front
front_of : (f : Record → Bool) (log more before : List Record) (r : Record) (behind : List Record) → log ++ more ≡ before ++ r ∷ behind → f r ≡ true → list_any f more ≡ false → (rest : List Record) × (log ≡ before ++ r ∷ rest)
front_of f [] more before r behind is own none = absurd (none_there f before r behind more (sym is) own none)
front_of f (x ∷ xs) more [] r behind is own none = let first : x ≡ r = cc is in (xs, ap (λ (y : Record). y ∷ xs) first)
front_of f (x ∷ xs) more (b ∷ bs) r behind is own none =
    let first : x ≡ b = cc is in
    let then : xs ++ more ≡ bs ++ r ∷ behind = cc is in
    let rest = front_of f xs more bs r behind then own none in
    (rest.0, λ i. first i ∷ rest.1 i)

-- where no more backup and no more run is done, what is named was named before
named_before : (log more : List Record) (name : ObjectName) (bytes : List ℕ) → list_any is_maintenance more ≡ false → Names (log ++ more) name bytes → Names log name bytes
named_before log more name bytes none n =
    let rest = front_of is_maintenance log more n.before (record_of n.naming) n.behind n.is (naming_kind n.naming) none in
    record { before = n.before; naming = n.naming; behind = rest.0; is = rest.1; named = n.named; tells = n.tells }

-- what is named after a history was named after an earlier one with the same book of maintenance
pub named_still : (opens : List Record → Type 0) (h now : List Entry) (opening : List Record) (name : ObjectName) (bytes : List ℕ) → IsPrefix h now → IsConsistent opens now → maintenance_book now ≡ maintenance_book h
    → opens opening → Names (life_log opening now) name bytes → Names (life_log opening h) name bytes
named_still opens h now opening name bytes begins consistent still stands n =
    let more = begins.0 in
    let legal = subst (IsLegal opening) (sym begins.1) (consistent.legal opening stands) in
    let same : maintenance_book (h ++ more) ≡ maintenance_book h = ap maintenance_book begins.1 ∙ still in
    let none = (maintenance_law opening h more).none legal same in
    let is : life_log opening now ≡ life_log opening h ++ log_of more = ap (life_log opening) (sym begins.1) ∙ longer_log opening h more in
    named_before (life_log opening h) (log_of more) name bytes none (subst (λ (l : List Record). Names l name bytes) is n)

-- ---- a get

-- a right that agrees with two moments
pub agreed : (h now : List Entry) (m : Option MaintClaim) → IsSome m → IfSome m (MaintAgrees h) → IfSome m (MaintAgrees now) → maintenance_book now ≡ maintenance_book h
agreed h now None some then here = absurd (cc some)
agreed h now (Some x) some then here = sym here ∙ then
