use Rattle.std.proofs.Common.{List, sym, subst}
use Rattle.page_ops.specs.Asking.{IsLate, IsTimely, WasTimely, can_be_late}
use Rattle.page_ops.specs.Groups.{Each}
use Rattle.std.specs.Prelude.{IsTrue}
use Rattle.std.specs.List.{list_any}
use Rattle.wal_record.specs.declared.entry.Entry.{Entry}
use Rattle.wal_record.specs.declared.record.Record.{Record}
use Rattle.journal.proofs.Lateness.{known_tells}
use Rattle.journal.proofs.Restoring.{none_map, some_map}
use Rattle.journal.proofs.Calls.{history_is}
use Rattle.journal.proofs.journal.Journal.late.Goals as goal

pub returns-clause-none : goal.returns-clause-none
returns-clause-none g c =
    none_map c.first_late.result _ _ (λ all opening stands was.
    let h = c.self.inside.history in
    subst (λ (x : List Entry × List Record). Each (IsTimely opening x.0) x.1) (λ i. ((history_is _ _ c.self.view_is) i, c.as_slice-recs.ensures i))
    (all opening h
    (known_tells g.N.Life.opens h c.args.self.now.history _ _ _ _ _ (history_is _ _ c.self.view_is) c.requires.consistent c.self.invariant.1.life.records c.self.invariant.2 c.self.invariant.3 c.listing.ensures opening stands)
    (subst (λ (x : List Entry × List Record). Each (WasTimely opening x.0) x.1) (λ i. (sym (history_is _ _ c.self.view_is) i, sym c.as_slice-recs.ensures i)) was)))
    c.first_late.ensures.none

pub returns-clause-late : goal.returns-clause-late
returns-clause-late g c =
    some_map c.first_late.result _ _ (λ place late opening stands.
    let h = c.self.inside.history in
    subst (λ (x : List Entry × List Record). IsLate opening x.0 place x.1) (λ i. ((history_is _ _ c.self.view_is) i, c.as_slice-recs.ensures i))
    (late opening h
    (known_tells g.N.Life.opens h c.args.self.now.history _ _ _ _ _ (history_is _ _ c.self.view_is) c.requires.consistent c.self.invariant.1.life.records c.self.invariant.2 c.self.invariant.3 c.listing.ensures opening stands)))
    c.first_late.ensures.late

pub returns-clause-kind : goal.returns-clause-kind
returns-clause-kind g c = some_map c.first_late.result _ _ (λ place kind. subst (λ (rs : List Record). IsTrue (list_any can_be_late rs)) c.as_slice-recs.ensures kind) c.first_late.ensures.kind
