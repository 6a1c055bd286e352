-- Between the place that a maker remembers and its own record no object was named.
use Rattle.std.proofs.Common.{◌≡◌, ℕ, List, [], ◌∷◌, ◌++◌, sym, ap, ◌∙◌}
use Rattle.std.specs.Prelude.{Option, IfSome, IsSome}
use Rattle.std.proofs.lemmas.List.{append_cancel_right}
use Rattle.books.specs.Rights.{MaintClaim}
use Rattle.wal_record.specs.Books.{maintenance_book}
use Rattle.wal_record.specs.declared.entry.Entry.{Entry}
use Rattle.wal_record.specs.declared.entry.Entry.TheVariants.{Rec}
use Rattle.page_ops.specs.Claims.{MaintAgrees}
use Rattle.named_objects.specs.Named.{record_of}
use Rattle.named_objects.specs.declared.naming.Naming.{Naming}
use Rattle.named_objects.proofs.SameNames.{agreed}

-- with the right that agreed as its holder looked and as the record came
pub comes_next : (seen moment now : List Entry) (since last lsn : ℕ) (m : Option MaintClaim) (n : Naming) → IsSome m → IfSome m (MaintAgrees seen) → IfSome m (MaintAgrees moment) → last ≡ maintenance_book seen → last ≡ since → now ≡ moment ++ Rec lsn (record_of n) ∷ []
    → (other : List Entry) → now ≡ other ++ Rec lsn (record_of n) ∷ [] → maintenance_book other ≡ since
comes_next seen moment now since last lsn m n some here there place at is other same =
    let e : other ≡ moment = append_cancel_right other moment (Rec lsn (record_of n) ∷ []) (sym same ∙ is) in
    ap maintenance_book e ∙ agreed seen moment m some here there ∙ sym place ∙ at
