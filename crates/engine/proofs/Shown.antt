-- A session whose pass is shown the whole history.
use Rattle.std.proofs.Common.{◌≡◌, Bool, List, [], Option, Some, None, subst, sym}
use Rattle.std.specs.Prelude.{IsSome}
use mathlib.Core.List.{IsPrefix}
use Rattle.books.specs.Rights.{SessionClaim}
use Rattle.front.specs.Seen.{PassSeen}
use Rattle.wal_record.specs.declared.record.Record.{Record}
use Rattle.wal_record.specs.declared.entry.Entry.{Entry}
use Rattle.page_ops.specs.Claims.{session_alone}
use Rattle.page_ops.specs.Names.{LedgerName}
use Rattle.page_ops.specs.Seeing.{Account, Enters, known}
use Rattle.rollback.specs.Owners.{claim_of}
use Rattle.engine.specs.Sittings.{IsSeated, claim_or_none}
use Rattle.engine.proofs.Owned.{owned_later}

module _ (opens : List Record → Type 0) (ledger sessions : LedgerName) (a a' : Account) (t t' : PassSeen Entry) where
  -- the right is there, and the same
  pub shown : (right right' : Option SessionClaim) → IsSome right → right' ≡ right → Enters opens ledger sessions (known a t (claim_of right)) [] (known a' t' (claim_of right'))
      → Enters opens ledger sessions (known a t (session_alone (claim_or_none right))) [] (known a' t' (session_alone (claim_or_none right')))
  shown None right' there same e = absurd (cc there)
  shown (Some s) right' there same e =
      let at = subst (λ (o : Option SessionClaim). Enters opens ledger sessions (known a t (claim_of (Some s))) [] (known a' t' (claim_of o))) same e in
      subst (λ (o : Option SessionClaim). Enters opens ledger sessions (known a t (session_alone s)) [] (known a' t' (session_alone (claim_or_none o)))) (sym same) at

pub seated_shown : (opens : List Record → Type 0) (right right' : Option SessionClaim) (h h' : List Entry) (undecided : Bool) → right' ≡ right → IsPrefix h h' → IsSeated opens right h undecided → IsSeated opens right' h' undecided
seated_shown opens right right' h h' undecided same longer seated = subst (λ (o : Option SessionClaim). IsSeated opens o h' undecided) (sym same) (record {
  there = seated.there;
  number = seated.number;
  owned = λ decided. owned_later opens h h' (claim_or_none right) longer (seated.owned decided);
})
