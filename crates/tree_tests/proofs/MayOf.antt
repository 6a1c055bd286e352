-- In a life of which no opening log is known such a change may be asked for.
use Rattle.std.proofs.Common.{◌≡◌, ℕ, List, Option, Some, None, true, sym, subst, ◌∙◌, refl}
use Rattle.std.specs.Prelude.{IsSome, IfSome, IsTrue}
use Rattle.books.specs.Rights.{SessionClaim}
use Rattle.wal_record.specs.State.{leaf_rows, live}
use Rattle.wal_record.specs.Rules.{is_number}
use Rattle.wal_record.specs.declared.page.PageState.{PageState}
use Rattle.wal_record.specs.declared.record.Record.{Record}
use Rattle.wal_record.specs.declared.entry.Entry.{Entry}
use Rattle.page_ops.specs.Claims.{SessionAgrees}
use Rattle.leaf_writes.specs.MayChange.{IsWriter, MayBy, MayChange}
use Rattle.leaf_writes.specs.declared.change.Change.{Change}
use Rattle.leaf_writes.specs.declared.change.How.{How}
use Rattle.leaf_writes.specs.declared.change.How.TheVariants as hows
use Rattle.tree_tests.specs.ChangesOf.{IsChangeOf, IsHow}

module _ (opens : List Record → Type 0) (untold : (opening : List Record) → opens opening → ⊥) (seen : List Entry) (s : PageState) (key : List ℕ) (old : Option (List ℕ)) (is : old ≡ live (leaf_rows s.rows) key) (o : SessionClaim) (number : is_number o.tx ≡ true) (agrees : SessionAgrees seen o) where
  writer : IsWriter opens seen key o
  writer = record { agrees = agrees; number = number; live = λ opening stands. absurd (untold opening stands); locked = λ opening stands. absurd (untold opening stands) }

  may_by : (how : How) (new : Option (List ℕ)) → IsHow how old new → MayBy how opens seen s o.tx key new (Some o)
  may_by (hows.Write was) new h = ((refl, writer), h.0 ∙ is, h.1)
  may_by (hows.Apply was operator argument) new h = ((refl, writer), h.0 ∙ is, h.1, h.2)
  may_by (hows.Undo undo_next) new h =
      (number, h, record { agrees = agrees; tx = refl; live = λ opening stands. absurd (untold opening stands); last = λ opening stands. absurd (untold opening stands) })

pub may_of : (opens : List Record → Type 0) → ((opening : List Record) → opens opening → ⊥) → (seen : List Entry) (s : PageState) (old : Option (List ℕ)) (owner : Option SessionClaim) (t : ℕ) (key : List ℕ) (c : Change) → old ≡ live (leaf_rows s.rows) key
    → IsSome owner → IfSome owner (λ (o : SessionClaim). (o.tx ≡ t) × IsTrue (is_number o.tx)) → IfSome owner (SessionAgrees seen) → IsChangeOf t key old c → MayChange opens seen s c owner
may_of opens untold seen s old None t key c is some numbers agrees h = absurd (cc some)
may_of opens untold seen s old (Some o) t key c is some numbers agrees h =
    subst (λ (q : ℕ × List ℕ). MayBy c.how opens seen s q.0 q.1 c.new (Some o)) (λ i. ((numbers.0 ∙ sym h.tx) i, sym h.key i)) (may_by opens untold seen s key old is o numbers.1 agrees c.how c.new h.how)
