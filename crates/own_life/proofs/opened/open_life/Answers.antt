use Rattle.std.proofs.Common.{◌≡◌, List, [], length, ap, arith, subst, sym, ◌∙◌}
use Rattle.std.specs.List.{All}
use Rattle.command_laws.proofs.Living.{none_named}
use Rattle.front.specs.Seen.{PassSeen}
use Rattle.journal.specs.State.{JournalState}
use Rattle.named_objects.specs.Named.{AreNamed}
use Rattle.books.specs.Rights.{MaintClaim}
use Rattle.page_ops.specs.Seeing.{Account, Counted}
use Rattle.store_life.specs.SoFar.{HasTransaction, actives}
use Rattle.wal_record.specs.Books.{maintenance_book}
use Rattle.wal_record.specs.declared.entry.Entry.{Entry}
use Rattle.own_life.proofs.Begun.{no_object}
use Rattle.own_life.proofs.opened.open_life.Goals as goal

pub new-objects-requires-clause-right : goal.new-objects-requires-clause-right
new-objects-requires-clause-right g c =
    let begun : c.copy.result.log ≡ [] = ap (λ (p : PassSeen Entry). p.log) c.copy.ensures.copy ∙ c.in-Ok.ensures.pass in
    ap (λ (m : MaintClaim). m.lsn) c.in-Ok.ensures.maint ∙ sym no_object ∙ ap maintenance_book (sym begun)

pub new-objects-requires-clause-named : goal.new-objects-requires-clause-named
new-objects-requires-clause-named g c = λ t.
    let none = ap (λ (p : PassSeen Entry). p.log) c.copy.ensures.copy ∙ c.in-Ok.ensures.pass in
    subst (λ (h : List Entry). AreNamed g.N.Life.opens g.V.Vault.told h c.args.vault) (sym none) (c.requires.objects t)

pub invariant_of-result : goal.invariant_of-result
invariant_of-result g c =
    let same = c.end_seen.ensures.same.1 in
    let told = c.in-Ok.ensures.account in
    let entries = ap (λ (a : Account). a.entries) same ∙ c.vault_share-share.ensures.entries ∙ ap (λ (a : Account). a.entries) told in
    let log_faults = ap (λ (a : Account). a.log_faults) same ∙ c.vault_share-share.ensures.log_faults ∙ ap (λ (a : Account). a.log_faults) told in
    let parts = ap (λ (x : Counted). x.parts) entries in
    let counted = c.end_seen.ensures.seen.totals.all parts in
    let items = c.new-named.ensures.items in
    let names = ap (λ (xs : List _). length xs) items in
    record {
      runs = record {
        alone = record { parts = parts; counted = counted; consistent = c.end_seen.ensures.seen.now.consistent };
        begun = subst (λ (xs : List _). All HasTransaction xs) (sym items) (λ k d less. absurd (omega (arith, less)));
        few = omega (arith, names);
      };
      named = none_named c.end_seen.new.pass.log (actives c.new-named.result.items) (counted ∙ ap (λ (x : Counted). x.amount) entries);
      whole = c.end_seen.ensures.whole ∙ ap (λ (j : JournalState). j.history) (sym c.end_seen.ensures.same.0);
      parts = ap (λ (x : Counted). x.parts) log_faults;
      faults = λ none. ap (λ (x : Counted). x.amount) log_faults;
    }

pub returns-in-Ok-clause-begins : goal.returns-in-Ok-clause-begins
returns-in-Ok-clause-begins g c = record {
  history = c.end_seen.ensures.whole ∙ ap (λ (j : JournalState). j.history) c.vault_share-share.ensures.journal ∙ c.in-Ok.ensures.begins.0;
  durable = λ opening may.
      let same = ap (λ (p : PassSeen Entry). p.durable) c.copy.ensures.same in
      let low = c.in-Ok.ensures.durable opening may in
      let more = c.end_seen.ensures.seen.durable in
      omega (arith, same, low, more);
  active = ap (λ (xs : List _). actives xs) c.new-named.ensures.items;
  ended = ap (λ (a : Account). a.ended) c.end_seen.ensures.same.1 ∙ c.vault_share-share.ensures.ended ∙ ap (λ (a : Account). a.ended) c.in-Ok.ensures.account;
  calls = ap (λ (j : JournalState). j.calls) c.end_seen.ensures.same.0 ∙ ap (λ (j : JournalState). j.calls) c.vault_share-share.ensures.journal ∙ c.in-Ok.ensures.calls;
}
