use Rattle.std.proofs.Common.{List, ◌≤◌, length, sym, subst}
use Rattle.log_manager.specs.Payload.{bytes_of}
use Rattle.wal_record.specs.declared.record.Record.{Record}
use Rattle.planted_store.proofs.Begun.{format_size}
use Rattle.planted_store.proofs.planting.new_log.Goals as goal

pub append_group-requires-clause-size : goal.append_group-requires-clause-size
append_group-requires-clause-size g c = subst (λ (rs : List Record). length (bytes_of rs) ≤ 4194304) (sym c.from_ref.ensures.value) (format_size (record { limit = c.args.limit }))
