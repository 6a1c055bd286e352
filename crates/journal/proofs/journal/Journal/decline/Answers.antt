use Rattle.std.proofs.Common.{◌++◌, ◌∷◌, [], ◌+◌, List, Option, Some, sym, ap, ◌∙◌, refl, subst}
use Rattle.std.specs.Prelude.{IsSome}
use Rattle.page_ops.specs.Asking.{MayBeDeclined}
use Rattle.page_ops.specs.Groups.{declined_entries}
use Rattle.page_ops.specs.Seeing.{IsConsistent, of_sessions}
use Rattle.page_ops.specs.declared.group.Said.{Said}
use Rattle.store_model.specs.declared.reply.Outcome.TheVariants as outcomes
use Rattle.wal_record.specs.declared.entry.Entry.{Entry}
use Rattle.wal_record.specs.declared.entry.Entry.TheVariants as entries
use Rattle.journal.proofs.Declining.{declined_consistent, speaker_of}
use Rattle.journal.proofs.Living.{kept_entry}
use Rattle.journal.proofs.Locking.{held_still}
use Rattle.journal.proofs.Losing.{losers_entry}
use Rattle.journal.proofs.Restoring.{restored_entry}
use Rattle.journal.proofs.Stopping.{entry_safe}
use Rattle.journal.proofs.Calls.{history_is}
use Rattle.journal.proofs.journal.Journal.decline.Goals as goal

pub enter_declined-requires-clause-consistent : goal.enter_declined-requires-clause-consistent
enter_declined-requires-clause-consistent g c =
    let said = c.in-Some.said in
    let full = c.args.taken.now in
    let was = ap (λ x. x.s) (sym c.rights.view_is) ∙ sym c.take.ensures.value ∙ c.in-Some-take.is in
    let own = speaker_of _ _ c.in-Some-take.s said c.requires.speaker was c.in-Some.is in
    subst (λ (x : Entry × List Entry). IsConsistent g.N.Life.opens (x.1 ++ x.0 ∷ [])) (λ i. (entries.Declined (own.0 i) (own.1 i) said.request (outcomes.Full full.pages full.pending), sym (history_is _ _ c.self.view_is) i))
    (declined_consistent g.N.Life.opens c.args.self.now.history said full c.requires.consistent c.requires.taken (λ opening stands. subst (λ (o : Option Said). MayBeDeclined opening c.args.self.now.history o) c.in-Some.is (c.requires.declines opening stands)))

pub invariant_of-self : goal.invariant_of-self
invariant_of-self g c =
    let k = c.self.invariant.1 in
    let e : Entry = entries.Declined c.in-Some-take.s.session c.in-Some-take.s.tx c.in-Some.said.request (outcomes.Full c.args.taken.now.pages c.args.taken.now.pending) in (
      c.self.invariant.0,
      kept_entry _ _ _ _ _ _ c.self.inside.log.log c.self.inside.log.log c.self.inside.log.listing c.self.inside.log.listing c.self.inside.locks c.self.inside.locks _ c.self.inside.faults.total c.self.inside.faults.total k refl e
          c.enter_declined.ensures.history refl (held_still c.self.inside.history c.self.inside.locks k.life.locks e (λ u ls. refl)) c.enter_declined.ensures.live.0 (λ t p waits. waits),
      restored_entry c.self.inside.history _ c.self.inside.restored e c.self.invariant.2 c.enter_declined.ensures.history (λ s. refl),
      losers_entry g.N.Life.opens c.self.inside.history _ c.self.inside.losers c.self.inside.losers c.self.invariant.3 e c.enter_declined.ensures.history refl (λ t. refl),
      entry_safe g.N.Life.opens g.L.Disk.told g.L.Disk.may_leave c.self.inside.history _ c.self.inside.log.log.log c.self.inside.log.log.log c.self.invariant.4 e c.enter_declined.ensures.history refl (λ t. refl) refl,
      c.self.invariant.5,
    )

pub returns-clause-declined : goal.returns-clause-declined
returns-clause-declined g c =
    let said = c.in-Some.said in
    let full = c.args.taken.now in
    let own = c.enter_declined.ensures in
    let was = ap (λ x. x.s) (sym c.rights.view_is) ∙ sym c.take.ensures.value ∙ c.in-Some-take.is in
    let named = speaker_of _ _ c.in-Some-take.s said c.requires.speaker was c.in-Some.is in
    record {
      some = subst (λ (o : Option Said). IsSome o) (sym c.in-Some.is) refl;
      history =
          own.history
          ∙ (λ i. (history_is _ _ c.self.view_is) i ++ entries.Declined (sym named.0 i) (sym named.1 i) said.request (outcomes.Full full.pages full.pending) ∷ [])
          ∙ (λ i. c.args.self.now.history ++ declined_entries (sym c.in-Some.is i) (outcomes.Full full.pages full.pending));
      place = c.length-2.ensures;
      told = c.requires.taken;
      s = c.in-Some-take.s;
      was = was;
      rights = λ i. record (c.rights.view_is i) { s = Some (own.right i) };
      counted = own.counts;
      belongs = own.counted ∙ ap (λ (h : List Entry). of_sessions h + 1) (history_is _ _ c.self.view_is);
    }
