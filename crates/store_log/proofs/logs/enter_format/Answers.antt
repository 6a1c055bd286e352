use Rattle.std.proofs.Common.{sym, subst, List, [], ◌≤◌, length, arith}
use Rattle.log_manager.specs.Managed.{HasMore}
use Rattle.log_manager.specs.Payload.{bytes_of}
use Rattle.log_manager.specs.Records.{IsLogOf}
use Rattle.wal_record.specs.declared.record.Record.{Record}
use Rattle.store_log.proofs.Openings.{first_flushed, format_size}
use Rattle.store_log.proofs.logs.enter_format.Goals as goal

pub append_group-requires-clause-size : goal.append_group-requires-clause-size
append_group-requires-clause-size g c = subst (λ (rs : List Record). length (bytes_of rs) ≤ 4194304) (sym c.from_ref.ensures.value) (format_size (record { limit = c.args.limit }))

pub returns-in-Ok-flush_to-clause-made : goal.returns-in-Ok-flush_to-clause-made
returns-in-Ok-flush_to-clause-made g c = λ t stands.
    let mid = c.append_group.new.self.log in
    let more = c.in-Ok.ensures in
    let stands_mid = subst (λ (rs : List Record). IsLogOf g.L.Disk.told g.L.Disk.may_leave mid 0 [] rs) c.from_ref.ensures.value (more.records t 0 [] [] stands) in
    first_flushed g.L.Disk c.args.limit c.args.log.now.log mid c.flush_to.new.self.log c.requires.first (subst (λ (rs : List Record). HasMore rs c.args.log.now.log mid) c.from_ref.ensures.value more.added.0) stands stands_mid (c.flush_to.ensures.left t 0 [] _ stands_mid) 1 (omega (arith, c.in-Ok-flush_to.ensures.durable, more.first, c.requires.first))

pub returns-in-Err-LogFault-clause-cut : goal.returns-in-Err-LogFault-clause-cut
returns-in-Err-LogFault-clause-cut g c = λ e t stands.
    let mid = c.append_group.new.self.log in
    let more = c.in-Ok.ensures in
    let stands_mid = subst (λ (rs : List Record). IsLogOf g.L.Disk.told g.L.Disk.may_leave mid 0 [] rs) c.from_ref.ensures.value (more.records t 0 [] [] stands) in
    first_flushed g.L.Disk c.args.limit c.args.log.now.log mid c.flush_to.new.self.log c.requires.first (subst (λ (rs : List Record). HasMore rs c.args.log.now.log mid) c.from_ref.ensures.value more.added.0) stands stands_mid (c.flush_to.ensures.left t 0 [] _ stands_mid) 0 (omega arith)
