use Rattle.std.proofs.Common.{ap, sym, subst, ◌++◌, ◌∷◌, [], ℕ, Bool}
use Rattle.std.specs.BTreeMap.{BTreeMap}
use Rattle.wal_record.specs.declared.record.Record.{Record}
use Rattle.chain_judge.specs.Chains.{AreChainsOf, AreKept, is_in, last_in, writes_in}
use Rattle.chain_judge.specs.declared.chain.OpenChange.{OpenChange}
use Rattle.chain_judge.proofs.Keeping.{kept_apply, kept_commit, kept_end, kept_other, kept_undo, kept_write}
use Rattle.chain_judge.proofs.chains.Chains.note.Goals as goal

pub returns-in-Write : goal.returns-in-Write
unfolding AreChainsOf
returns-in-Write c = λ log k is.
    subst (λ (r : Record). AreKept (log ++ r ∷ []) (last_in c.note_open.new.self.running) (is_in c.note_open.new.self.over) (writes_in c.note_open.new.self.running)) (sym c.in-Write.is)
    (kept_write log (last_in c.args.self.now.running) (is_in c.args.self.now.over) (writes_in c.args.self.now.running) k (last_in c.note_open.new.self.running) (is_in c.note_open.new.self.over) (writes_in c.note_open.new.self.running)
    c.args.lsn c.in-Write.write c.change_of_write.result (let x = c.change_of_write.ensures in (ap (λ (y : OpenChange). y.key) x, ap (λ (y : OpenChange). y.old) x, ap (λ (y : OpenChange). y.prev) x)) is (λ t. (c.note_open.ensures.kept t).0) (λ t. ap (λ (m : BTreeMap ℕ Bool). is_in m t) c.note_open.ensures.over) (λ t. (c.note_open.ensures.kept t).1))

pub returns-in-Apply : goal.returns-in-Apply
unfolding AreChainsOf
returns-in-Apply c = λ log k is.
    subst (λ (r : Record). AreKept (log ++ r ∷ []) (last_in c.note_open-in-Apply.new.self.running) (is_in c.note_open-in-Apply.new.self.over) (writes_in c.note_open-in-Apply.new.self.running)) (sym c.in-Apply.is)
    (kept_apply log (last_in c.args.self.now.running) (is_in c.args.self.now.over) (writes_in c.args.self.now.running) k (last_in c.note_open-in-Apply.new.self.running) (is_in c.note_open-in-Apply.new.self.over) (writes_in c.note_open-in-Apply.new.self.running)
    c.args.lsn c.in-Apply.apply c.change_of_apply.result (let x = c.change_of_apply.ensures in (ap (λ (y : OpenChange). y.key) x, ap (λ (y : OpenChange). y.old) x, ap (λ (y : OpenChange). y.prev) x)) is (λ t. (c.note_open-in-Apply.ensures.kept t).0) (λ t. ap (λ (m : BTreeMap ℕ Bool). is_in m t) c.note_open-in-Apply.ensures.over) (λ t. (c.note_open-in-Apply.ensures.kept t).1))

pub returns-in-Undo : goal.returns-in-Undo
unfolding AreChainsOf
returns-in-Undo c = λ log k is.
    subst (λ (r : Record). AreKept (log ++ r ∷ []) (last_in c.note_undo.new.self.running) (is_in c.note_undo.new.self.over) (writes_in c.note_undo.new.self.running)) (sym c.in-Undo.is)
    (kept_undo log (last_in c.args.self.now.running) (is_in c.args.self.now.over) (writes_in c.args.self.now.running) k (last_in c.note_undo.new.self.running) (is_in c.note_undo.new.self.over) (writes_in c.note_undo.new.self.running)
    c.args.lsn c.in-Undo.undo is (λ t. (c.note_undo.ensures.kept t).0) (λ t. ap (λ (m : BTreeMap ℕ Bool). is_in m t) c.note_undo.ensures.over) (λ t. (c.note_undo.ensures.kept t).1))

pub returns-in-Commit : goal.returns-in-Commit
unfolding AreChainsOf
returns-in-Commit c = λ log k is.
    subst (λ (r : Record). AreKept (log ++ r ∷ []) (last_in c.note_over.new.self.running) (is_in c.note_over.new.self.over) (writes_in c.note_over.new.self.running)) (sym c.in-Commit.is)
    (kept_commit log (last_in c.args.self.now.running) (is_in c.args.self.now.over) (writes_in c.args.self.now.running) k (last_in c.note_over.new.self.running) (is_in c.note_over.new.self.over) (writes_in c.note_over.new.self.running)
    c.in-Commit.commit c.note_over.ensures.last c.note_over.ensures.over c.note_over.ensures.writes)

pub returns-in-End : goal.returns-in-End
unfolding AreChainsOf
returns-in-End c = λ log k is.
    subst (λ (r : Record). AreKept (log ++ r ∷ []) (last_in c.note_over-in-End.new.self.running) (is_in c.note_over-in-End.new.self.over) (writes_in c.note_over-in-End.new.self.running)) (sym c.in-End.is)
    (kept_end log (last_in c.args.self.now.running) (is_in c.args.self.now.over) (writes_in c.args.self.now.running) k (last_in c.note_over-in-End.new.self.running) (is_in c.note_over-in-End.new.self.over) (writes_in c.note_over-in-End.new.self.running)
    c.in-End.end c.note_over-in-End.ensures.last c.note_over-in-End.ensures.over c.note_over-in-End.ensures.writes)

pub returns-in_default : goal.returns-in_default
unfolding AreChainsOf
returns-in_default c = λ log k is.
    kept_other log (last_in c.args.self.now.running) (is_in c.args.self.now.over) (writes_in c.args.self.now.running) k c.args.entered.now
    c.in_default.not-Write c.in_default.not-Apply c.in_default.not-Undo c.in_default.not-Commit c.in_default.not-End
