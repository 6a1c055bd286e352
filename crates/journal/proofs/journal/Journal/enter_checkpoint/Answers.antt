use Rattle.std.proofs.Common.{List, ap, sym, subst, ◌∙◌, ◌++◌, ◌∷◌, []}
use Rattle.log_index.specs.Listing.{IsListingOf}
use Rattle.wal_record.specs.Checkpoints.{checkpoint_of}
use Rattle.wal_record.specs.History.{life_log}
use Rattle.wal_record.specs.declared.entry.Entry.{Entry}
use Rattle.wal_record.specs.declared.record.Record.{Record}
use Rattle.wal_record.specs.declared.record.Record.TheVariants as kinds
use Rattle.journal.specs.Groups.{EntersFilled, GroupFollows}
use Rattle.journal.proofs.Checkpoints.{checkpoint_entered, checkpoint_follows}
use Rattle.journal.proofs.Calls.{history_is}
use Rattle.journal.proofs.journal.Journal.enter_checkpoint.Goals as goal

pub enter_filled-requires-clause-follows : goal.enter_filled-requires-clause-follows
enter_filled-requires-clause-follows g c lsn next =
    let recs = c.as_slice-slice.ensures ∙ c.in_ok-push.ensures.ok ∙ ap (λ (l : List Record). l ++ kinds.Checkpoint c.in_ok-checkpoint.checkpoint ∷ []) c.new-recs.ensures in
    subst (λ (l : List Record). GroupFollows g.N.Life.opens c.args.self.now.history lsn l c.args.group.now.said) (sym recs)
    (checkpoint_follows c.args.group.now c.requires.alone c.in_ok-checkpoint.checkpoint g.N.Life.opens c.args.self.now.history c.requires.consistent c.requires.group
    (λ opening stands.
    c.in_ok-checkpoint.ensures (life_log opening c.self.inside.history) (subst (IsListingOf (life_log opening c.self.inside.history)) (sym c.listing.ensures) (c.self.invariant.1.life.records opening stands).listing)
    ∙ ap (λ (h : List Entry). checkpoint_of (life_log opening h)) (history_is _ _ c.self.view_is))
    c.requires.follows lsn next)

pub returns-in-Ok-clause-entered : goal.returns-in-Ok-clause-entered
returns-in-Ok-clause-entered g c =
    checkpoint_entered c.args.group.now c.requires.alone c.in_ok-checkpoint.checkpoint c.push.new.self c.in-Ok.lsn _ _ _ _ _ _
    (c.in_ok-push.ensures.ok ∙ ap (λ (l : List Record). l ++ kinds.Checkpoint c.in_ok-checkpoint.checkpoint ∷ []) c.new-recs.ensures)
    (subst (λ (l : List Record). EntersFilled l c.args.group.now.said _ c.args.rights.now c.enter_filled.new.rights c.args.counts.now c.enter_filled.new.counts c.args.self.now.history c.enter_filled.new.self.history c.in-Ok.lsn) c.as_slice-slice.ensures c.in-Ok.ensures.entered)
