use Rattle.std.proofs.Common.{ap, refl, subst, sym}
use Rattle.wal_record.specs.History.{life_log}
use Rattle.lock_judge.specs.Taken.{AreTaken}
use Rattle.record_judge.proofs.Taking.{changing, contents_of, on_err, ready_still, unchanged}
use Rattle.history_core.specs.declared.judge.Judge.{Judge}
use Rattle.history_core.proofs.Going.{contents_back, record_on, same_on}
use Rattle.history_core.proofs.judge.Judge.take_record.Goals as goal

pub finish-requires-clause-ready : goal.finish-requires-clause-ready
finish-requires-clause-ready g c = ready_still c.prepare.new.self c.note_change.new.self.log (ap (λ (j : Judge). j.log) c.in_ok-note_change.ensures.others) c.args.entered.now c.args.changed c.in_ok-prepare.ensures.ready

pub returns-clause-ok : goal.returns-clause-ok
returns-clause-ok g c = λ opening h k v.
    let log = life_log opening h in
    let r = c.args.entered.now in
    let others = c.in_ok-note_change.ensures.others in
    let same = c.in_ok-prepare.ensures.same log k.log v.0.rule.place in
    let now = c.in_ok-note_change.ensures.ok opening h c.args.lsn (record { phases = k.phases; contents = contents_of log c.prepare.new.self same }) in
    let change = changing c.prepare.new.self c.note_change.new.self.log (ap (λ (j : Judge). j.log) others) log r same (c.in_ok-prepare.ensures.names log k.log v.0.rule.place) (contents_back opening h c.args.lsn r _ now.contents) in
    record_on opening h c.args.self.now _ k c.args.lsn r v.0 now.phases
    (c.note_record.ensures h c.args.lsn (subst (λ (j : Judge). AreTaken h j.locks) (sym others) k.locks))
    (c.finish.ensures log change (v.0.rule.lawful, v.1) v.0.rule.place)
    (ap (λ (j : Judge). j.losers) others)
    (c.untold_record.ensures c.args.lsn) (c.in_ok-split.ensures log c.args.lsn k.log.images)

pub returns-in_err-prepare-clause-err : goal.returns-in_err-prepare-clause-err
returns-in_err-prepare-clause-err g c = λ opening h k place. on_err _ (same_on opening h c.args.self.now _ k k.phases k.locks (c.prepare.ensures.same (life_log opening h) k.log place) refl refl refl)

pub returns-in_err-note_change-clause-err : goal.returns-in_err-note_change-clause-err
returns-in_err-note_change-clause-err g c = λ opening h k place.
    let log = life_log opening h in
    let others = c.in_err-note_change.ensures.others in
    let same = c.in_ok-prepare.ensures.same log k.log place in
    let before = c.in_err-note_change.ensures.err opening h (record { phases = k.phases; contents = contents_of log c.prepare.new.self same }) in
    on_err _ (same_on opening h c.args.self.now _ k before.phases (subst (λ (j : Judge). AreTaken h j.locks) (sym others) k.locks)
    (unchanged c.prepare.new.self c.note_change.new.self.log (ap (λ (j : Judge). j.log) others) log same before.contents)
    (ap (λ (j : Judge). j.losers) others) (ap (λ (j : Judge). j.untold) others) (ap (λ (j : Judge). j.split) others))

pub returns-in_err-split-clause-err : goal.returns-in_err-split-clause-err
returns-in_err-split-clause-err g c = λ opening h k place. on_err _ k
