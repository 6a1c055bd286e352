-- The rules of fields as tests, kind by kind.
use Rattle.std.specs.Prelude.{Bool, ◌&&◌}
use Rattle.wal_record.specs.Rules.{is_change, is_lsn_or_none, is_maybe_value, is_number, is_page, is_u8}
use Rattle.wal_record.specs.State.{is_child, is_key, is_text}
use Rattle.wal_record.specs.declared.record.Write.{Write}
use Rattle.wal_record.specs.declared.record.Apply.{Apply}
use Rattle.wal_record.specs.declared.record.Undo.{Undo}
use Rattle.wal_record.specs.declared.record.Adopt.{Adopt}
use Rattle.wal_record.specs.declared.record.RunDone.{RunDone}
use Rattle.wal_record.specs.declared.record.Split.{Split}
use Rattle.wal_record.specs.declared.record.Grow.{Grow}

abbrev pub write_fits : Write → Bool
write_fits r = is_number r.tx && (is_lsn_or_none r.prev && (is_page r.page && (is_lsn_or_none r.page_prev && (is_key r.key && (is_maybe_value r.old && (is_maybe_value r.new && is_change r.old r.new))))))

abbrev pub apply_fits : Apply → Bool
apply_fits r = is_number r.tx && (is_lsn_or_none r.prev && (is_page r.page && (is_lsn_or_none r.page_prev && (is_key r.key && (is_u8 r.operator && (is_text r.argument && is_maybe_value r.old))))))

abbrev pub undo_fits : Undo → Bool
undo_fits r = is_number r.tx && (is_lsn_or_none r.prev && (is_page r.page && (is_lsn_or_none r.page_prev && (is_key r.key && (is_maybe_value r.restores && is_lsn_or_none r.undo_next)))))

abbrev pub adopt_fits : Adopt → Bool
adopt_fits r = is_page r.parent && (is_lsn_or_none r.parent_prev && (is_page r.fosterer && (is_lsn_or_none r.fosterer_prev && (is_child r.child && is_key r.key))))

abbrev pub run_fits : RunDone → Bool
run_fits r = is_number r.run && (is_number r.first && is_number r.last)

-- of all fields but the new page's state
abbrev pub split_fits : Split → Bool
split_fits r = is_page r.page && (is_lsn_or_none r.page_prev && is_child r.child)

abbrev pub grow_fits : Grow → Bool
grow_fits r = is_lsn_or_none r.page_prev && is_child r.child
