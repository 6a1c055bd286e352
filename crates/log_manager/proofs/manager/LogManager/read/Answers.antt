use Rattle.std.proofs.Common.{◌≡◌, ◌-◌, ◌++◌, ℕ, List, subst, ap, ◌∙◌, sym, arith, get_or, append_assoc}
use Rattle.std.specs.Prelude.{Option, IfSome}
use Rattle.store_model.specs.declared.fault.Fault.TheVariants as faults
use Rattle.log_blocks.specs.Batch.{numbered}
use Rattle.log_blocks.specs.Log.{IsRun, first_lsn, next_lsn}
use Rattle.log_blocks.specs.LogState.{IsDurable, LogState, lsn_behind, payload_at}
use Rattle.log_blocks.specs.Opening.{places}
use Rattle.log_blocks.specs.declared.header.Place.{Place}
use Rattle.log_blocks.proofs.Whole.{sequence_whole}
use Rattle.log_manager.specs.LastRead.{IsLastRead, IsWithin, ReadBlock}
use Rattle.log_manager.specs.Managed.{HasLsn, IsAt, IsBadIn, IsNoBadLog, IsReadAt, IsRecordOf, IsUnreadAt, Managed, first_kept}
use Rattle.log_manager.specs.Payload.{bytes_of}
use Rattle.log_manager.specs.Records.{IsLogOf}
use Rattle.log_manager.proofs.Finding.{bad_in, block_with, first_same, firsts_all, next_of_all, record_of}
use Rattle.log_manager.proofs.Held.{is_held}
use Rattle.log_manager.proofs.Logs.{inner, reached}
use Rattle.log_manager.proofs.Taking.{answer_map, err_map, ok_map}
use Rattle.log_manager.proofs.manager.LogManager.read.Goals as goal

pub hold-requires-clause-kept : goal.hold-requires-clause-kept
hold-requires-clause-kept g c =
    let whole = c.reach.ensures.same ∙ ap (λ (m : Managed _). m.log) c.self.view_is in
    let first = sym (first_same c.reach.new.log c.reach.new.batch.blocks) ∙ ap (λ (l : LogState _). first_kept l) whole in
    (omega (arith, first, c.requires.kept.0), c.reach.ensures.reached)

pub returns-clause-found : goal.returns-clause-found
returns-clause-found g c tells before s w h =
    let log = c.reach.new.log in
    let lsn = c.args.lsn in
    let read = c.in-Some.read in
    let last = subst (λ (o : Option ReadBlock). IfSome o (IsLastRead g.L.Disk.tells g.L.Disk.told c.hold.new.log)) c.in-Some.is c.hold.ensures.last in
    let within = subst (λ (o : Option ReadBlock). IfSome o (λ r. IsWithin r lsn)) c.in-Some.is c.in_ok-hold.ensures.held.1 in
    let held = is_held g.L.Disk.tells g.L.Disk.told g.L.Disk.may_leave log c.hold.new.log lsn read c.hold.ensures.same c.hold.ensures.durable last within in
    let i = read.block in
    let whole = c.reach.ensures.same ∙ ap (λ (m : Managed _). m.log) c.self.view_is in
    let k = subst (λ (l : LogState _). IsLogOf g.L.Disk.told g.L.Disk.may_leave l before s w) (sym whole) h in
    let first = sym (first_same log c.reach.new.batch.blocks) ∙ ap (λ (l : LogState _). first_kept l) whole in
    let r = reached g.L.Disk.told g.L.Disk.may_leave log c.reach.new.batch.blocks before s w lsn i k held.has c.reach.ensures.reached in
    let payload : read.payload ≡ bytes_of r.own = held.payload tells k.bs (inner g.L.Disk.told g.L.Disk.may_leave log c.reach.new.batch.blocks k.bs k.durable) ∙ r.payload in
    answer_map c.record.result (IsAt r.own (lsn - read.first)) (IsAt (s ++ w) (lsn - first_kept c.args.self.now.log)) (λ fault. fault ≡ faults.Memory) IsNoBadLog
    (c.record.ensures.found r.own r.spelled payload (omega (arith, r.place, held.begins)))
    (λ found at. subst (λ m. IsAt (s ++ w) (lsn - m) found) first (r.at found (subst (λ m. IsAt r.own (lsn - m) found) held.begins at)))
    (λ fault e. subst IsNoBadLog (sym e) tt)

pub returns-clause-bad : goal.returns-clause-bad
returns-clause-bad g c tells bs d =
    let log = c.reach.new.log in
    let lsn = c.args.lsn in
    let read = c.in-Some.read in
    let last = subst (λ (o : Option ReadBlock). IfSome o (IsLastRead g.L.Disk.tells g.L.Disk.told c.hold.new.log)) c.in-Some.is c.hold.ensures.last in
    let within = subst (λ (o : Option ReadBlock). IfSome o (λ r. IsWithin r lsn)) c.in-Some.is c.in_ok-hold.ensures.held.1 in
    let held = is_held g.L.Disk.tells g.L.Disk.told g.L.Disk.may_leave log c.hold.new.log lsn read c.hold.ensures.same c.hold.ensures.durable last within in
    let i = read.block in
    let whole = c.reach.ensures.same ∙ ap (λ (m : Managed _). m.log) c.self.view_is in
    let more = numbered log.next c.reach.new.batch.blocks in
    let here = inner g.L.Disk.told g.L.Disk.may_leave log c.reach.new.batch.blocks bs (subst (λ (l : LogState _). IsDurable g.L.Disk.told g.L.Disk.may_leave l bs) (sym whole) d) in
    let start = (g.L.Disk.told log.device).start in
    let all = bs ++ log.pending in
    let num = c.hold.ensures.numbered in
    let run : IsRun (lsn_behind (places start bs)) log.pending = subst (λ (l : List Place). IsRun (lsn_behind l) log.pending) here.places_are num.run in
    let sequence = sequence_whole start bs log.pending here.stands.sequence run in
    let firsts_is = firsts_all log start bs here.places_are in
    let next : log.next ≡ next_lsn (first_lsn all) all = num.next ∙ ap (λ (l : List Place). next_lsn (lsn_behind l) log.pending) here.places_are ∙ next_of_all start bs log.pending here.stands.sequence run in
    let has = subst (λ (l : List ℕ). HasLsn l lsn i) firsts_is held.has in
    let h = block_with (first_lsn all) lsn i all sequence.run has (omega (arith, c.reach.ensures.reached, next)) in
    let begins : read.first ≡ h.block.first = held.begins ∙ ap (λ (l : List ℕ). get_or l i 0) firsts_is ∙ h.first in
    let pending : bs ++ c.args.self.now.log.pending ≡ all ++ more = ap (λ (l : LogState _). bs ++ l.pending) (sym whole) ∙ sym (append_assoc bs log.pending more) in
    let payload : read.payload ≡ payload_at all i = held.payload tells bs here in
    err_map c.record.result (IsUnreadAt i read.payload (lsn - read.first)) (IsBadIn (bs ++ c.args.self.now.log.pending) lsn) c.record.ensures.refused
    (λ fault bad. bad_in (bs ++ c.args.self.now.log.pending) all more lsn i h pending (omega (arith, has.from, h.first)) read.payload payload fault
    (subst (λ (n : ℕ). IsUnreadAt i read.payload (lsn - n) fault) begins bad))

pub returns-clause-read : goal.returns-clause-read
returns-clause-read g c tells bs d =
    let log = c.reach.new.log in
    let lsn = c.args.lsn in
    let read = c.in-Some.read in
    let last = subst (λ (o : Option ReadBlock). IfSome o (IsLastRead g.L.Disk.tells g.L.Disk.told c.hold.new.log)) c.in-Some.is c.hold.ensures.last in
    let within = subst (λ (o : Option ReadBlock). IfSome o (λ r. IsWithin r lsn)) c.in-Some.is c.in_ok-hold.ensures.held.1 in
    let held = is_held g.L.Disk.tells g.L.Disk.told g.L.Disk.may_leave log c.hold.new.log lsn read c.hold.ensures.same c.hold.ensures.durable last within in
    let i = read.block in
    let whole = c.reach.ensures.same ∙ ap (λ (m : Managed _). m.log) c.self.view_is in
    let more = numbered log.next c.reach.new.batch.blocks in
    let here = inner g.L.Disk.told g.L.Disk.may_leave log c.reach.new.batch.blocks bs (subst (λ (l : LogState _). IsDurable g.L.Disk.told g.L.Disk.may_leave l bs) (sym whole) d) in
    let start = (g.L.Disk.told log.device).start in
    let all = bs ++ log.pending in
    let num = c.hold.ensures.numbered in
    let run : IsRun (lsn_behind (places start bs)) log.pending = subst (λ (l : List Place). IsRun (lsn_behind l) log.pending) here.places_are num.run in
    let sequence = sequence_whole start bs log.pending here.stands.sequence run in
    let firsts_is = firsts_all log start bs here.places_are in
    let next : log.next ≡ next_lsn (first_lsn all) all = num.next ∙ ap (λ (l : List Place). next_lsn (lsn_behind l) log.pending) here.places_are ∙ next_of_all start bs log.pending here.stands.sequence run in
    let has = subst (λ (l : List ℕ). HasLsn l lsn i) firsts_is held.has in
    let h = block_with (first_lsn all) lsn i all sequence.run has (omega (arith, c.reach.ensures.reached, next)) in
    let begins : read.first ≡ h.block.first = held.begins ∙ ap (λ (l : List ℕ). get_or l i 0) firsts_is ∙ h.first in
    let pending : bs ++ c.args.self.now.log.pending ≡ all ++ more = ap (λ (l : LogState _). bs ++ l.pending) (sym whole) ∙ sym (append_assoc bs log.pending more) in
    let payload : read.payload ≡ payload_at all i = held.payload tells bs here in
    ok_map c.record.result (IsReadAt read.payload (lsn - read.first)) (IsRecordOf (bs ++ c.args.self.now.log.pending) lsn) c.record.ensures.read
    (λ r at. record_of (bs ++ c.args.self.now.log.pending) all more lsn i h pending (omega (arith, has.from, h.first)) read.payload payload r
    (subst (λ (n : ℕ). IsReadAt read.payload (lsn - n) r) begins at))
