-- Tests of fields against the rules of their kinds.
use Rattle.std.specs.Prelude.{◌↔◌, ◌&&◌, IsTrue}
use Rattle.store_model.proofs.Bools.{and_true, both_true}
use Rattle.wal_record.specs.Rules.{KeepsAdopt, KeepsApply, KeepsCommit, KeepsEnd, KeepsFormat, KeepsGrow, KeepsLost, KeepsPurge, KeepsRestored, KeepsRunDone, KeepsSplit, KeepsUndo, KeepsWrite, KeepsWritten, is_change, is_limit, is_lsn_or_none, is_maybe_value, is_number, is_page, is_u32, is_u8}
use Rattle.wal_record.specs.State.{KeepsState, is_child, is_key, is_text}
use Rattle.wal_record.specs.declared.record.Format.{Format}
use Rattle.wal_record.specs.declared.record.Commit.{Commit}
use Rattle.wal_record.specs.declared.record.End.{End}
use Rattle.wal_record.specs.declared.record.Purge.{Purge}
use Rattle.wal_record.specs.declared.record.Written.{Written}
use Rattle.wal_record.specs.declared.record.Lost.{Lost}
use Rattle.wal_record.specs.declared.record.Restored.{Restored}
use Rattle.wal_record.specs.declared.record.Write.{Write}
use Rattle.wal_record.specs.declared.record.Apply.{Apply}
use Rattle.wal_record.specs.declared.record.Undo.{Undo}
use Rattle.wal_record.specs.declared.record.Adopt.{Adopt}
use Rattle.wal_record.specs.declared.record.RunDone.{RunDone}
use Rattle.wal_record.specs.declared.record.Split.{Split}
use Rattle.wal_record.specs.declared.record.Grow.{Grow}
use Rattle.record_form.specs.Forms.{adopt_fits, apply_fits, grow_fits, run_fits, split_fits, undo_fits, write_fits}

pub by_write : (r : Write) → IsTrue (write_fits r) ↔ KeepsWrite r
by_write r = (
  λ is.
      let a = both_true (is_number r.tx) _ is in
      let b = both_true (is_lsn_or_none r.prev) _ a.1 in
      let c = both_true (is_page r.page) _ b.1 in
      let d = both_true (is_lsn_or_none r.page_prev) _ c.1 in
      let e = both_true (is_key r.key) _ d.1 in
      let f = both_true (is_maybe_value r.old) _ e.1 in
      let g = both_true (is_maybe_value r.new) (is_change r.old r.new) f.1 in
      record { tx = a.0; prev = b.0; page = c.0; page_prev = d.0; key = e.0; old = f.0; new = g.0; change = g.1 },
  λ k.
      and_true (is_number r.tx) _ k.tx (and_true (is_lsn_or_none r.prev) _ k.prev (and_true (is_page r.page) _ k.page (and_true (is_lsn_or_none r.page_prev) _ k.page_prev
      (and_true (is_key r.key) _ k.key (and_true (is_maybe_value r.old) _ k.old (and_true (is_maybe_value r.new) (is_change r.old r.new) k.new k.change)))))),
)

pub by_apply : (r : Apply) → IsTrue (apply_fits r) ↔ KeepsApply r
by_apply r = (
  λ is.
      let a = both_true (is_number r.tx) _ is in
      let b = both_true (is_lsn_or_none r.prev) _ a.1 in
      let c = both_true (is_page r.page) _ b.1 in
      let d = both_true (is_lsn_or_none r.page_prev) _ c.1 in
      let e = both_true (is_key r.key) _ d.1 in
      let f = both_true (is_u8 r.operator) _ e.1 in
      let g = both_true (is_text r.argument) (is_maybe_value r.old) f.1 in
      record { tx = a.0; prev = b.0; page = c.0; page_prev = d.0; key = e.0; operator = f.0; argument = g.0; old = g.1 },
  λ k.
      and_true (is_number r.tx) _ k.tx (and_true (is_lsn_or_none r.prev) _ k.prev (and_true (is_page r.page) _ k.page (and_true (is_lsn_or_none r.page_prev) _ k.page_prev
      (and_true (is_key r.key) _ k.key (and_true (is_u8 r.operator) _ k.operator (and_true (is_text r.argument) (is_maybe_value r.old) k.argument k.old)))))),
)

pub by_undo : (r : Undo) → IsTrue (undo_fits r) ↔ KeepsUndo r
by_undo r = (
  λ is.
      let a = both_true (is_number r.tx) _ is in
      let b = both_true (is_lsn_or_none r.prev) _ a.1 in
      let c = both_true (is_page r.page) _ b.1 in
      let d = both_true (is_lsn_or_none r.page_prev) _ c.1 in
      let e = both_true (is_key r.key) _ d.1 in
      let f = both_true (is_maybe_value r.restores) (is_lsn_or_none r.undo_next) e.1 in
      record { tx = a.0; prev = b.0; page = c.0; page_prev = d.0; key = e.0; restores = f.0; undo_next = f.1 },
  λ k.
      and_true (is_number r.tx) _ k.tx (and_true (is_lsn_or_none r.prev) _ k.prev (and_true (is_page r.page) _ k.page (and_true (is_lsn_or_none r.page_prev) _ k.page_prev
      (and_true (is_key r.key) _ k.key (and_true (is_maybe_value r.restores) (is_lsn_or_none r.undo_next) k.restores k.undo_next))))),
)

pub by_adopt : (r : Adopt) → IsTrue (adopt_fits r) ↔ KeepsAdopt r
by_adopt r = (
  λ is.
      let a = both_true (is_page r.parent) _ is in
      let b = both_true (is_lsn_or_none r.parent_prev) _ a.1 in
      let c = both_true (is_page r.fosterer) _ b.1 in
      let d = both_true (is_lsn_or_none r.fosterer_prev) _ c.1 in
      let e = both_true (is_child r.child) (is_key r.key) d.1 in
      record { parent = a.0; parent_prev = b.0; fosterer = c.0; fosterer_prev = d.0; child = e.0; key = e.1 },
  λ k.
      and_true (is_page r.parent) _ k.parent (and_true (is_lsn_or_none r.parent_prev) _ k.parent_prev (and_true (is_page r.fosterer) _ k.fosterer
      (and_true (is_lsn_or_none r.fosterer_prev) _ k.fosterer_prev (and_true (is_child r.child) (is_key r.key) k.child k.key)))),
)

pub by_run : (r : RunDone) → IsTrue (run_fits r) ↔ KeepsRunDone r
by_run r = (
  λ is.
      let a = both_true (is_number r.run) _ is in
      let b = both_true (is_number r.first) (is_number r.last) a.1 in
      record { run = a.0; first = b.0; last = b.1 },
  λ k. and_true (is_number r.run) _ k.run (and_true (is_number r.first) (is_number r.last) k.first k.last),
)

pub by_split : (r : Split) → IsTrue (split_fits r) → KeepsState r.child_state → KeepsSplit r
by_split r is state =
    let a = both_true (is_page r.page) _ is in
    let b = both_true (is_lsn_or_none r.page_prev) (is_child r.child) a.1 in
    record { page = a.0; page_prev = b.0; child = b.1; child_state = state }

pub of_split : (r : Split) → KeepsSplit r → IsTrue (split_fits r)
of_split r k = and_true (is_page r.page) _ k.page (and_true (is_lsn_or_none r.page_prev) (is_child r.child) k.page_prev k.child)

pub by_grow : (r : Grow) → IsTrue (grow_fits r) → KeepsState r.child_state → KeepsGrow r
by_grow r is state = let a = both_true (is_lsn_or_none r.page_prev) (is_child r.child) is in record { page_prev = a.0; child = a.1; child_state = state }

pub of_grow : (r : Grow) → KeepsGrow r → IsTrue (grow_fits r)
of_grow r k = and_true (is_lsn_or_none r.page_prev) (is_child r.child) k.page_prev k.child

pub by_format : (r : Format) → IsTrue (is_limit r.limit) ↔ KeepsFormat r
by_format r = (λ is. record { limit = is }, λ k. k.limit)

pub by_commit : (r : Commit) → IsTrue (is_number r.tx && is_lsn_or_none r.prev) ↔ KeepsCommit r
by_commit r = (λ is. let a = both_true (is_number r.tx) (is_lsn_or_none r.prev) is in record { tx = a.0; prev = a.1 }, λ k. and_true (is_number r.tx) (is_lsn_or_none r.prev) k.tx k.prev)

pub by_end : (r : End) → IsTrue (is_number r.tx && is_lsn_or_none r.prev) ↔ KeepsEnd r
by_end r = (λ is. let a = both_true (is_number r.tx) (is_lsn_or_none r.prev) is in record { tx = a.0; prev = a.1 }, λ k. and_true (is_number r.tx) (is_lsn_or_none r.prev) k.tx k.prev)

pub by_purge : (r : Purge) → IsTrue (is_page r.page && is_lsn_or_none r.page_prev) ↔ KeepsPurge r
by_purge r = (λ is. let a = both_true (is_page r.page) (is_lsn_or_none r.page_prev) is in record { page = a.0; page_prev = a.1 }, λ k. and_true (is_page r.page) (is_lsn_or_none r.page_prev) k.page k.page_prev)

pub by_written : (r : Written) → IsTrue (is_page r.page && is_number r.lsn) ↔ KeepsWritten r
by_written r = (λ is. let a = both_true (is_page r.page) (is_number r.lsn) is in record { page = a.0; lsn = a.1 }, λ k. and_true (is_page r.page) (is_number r.lsn) k.page k.lsn)

pub by_lost : (r : Lost) → IsTrue (is_u32 r.pages) ↔ KeepsLost r
by_lost r = (λ is. record { pages = is }, λ k. k.pages)

pub by_restored : (r : Restored) → IsTrue (is_u32 r.segment) ↔ KeepsRestored r
by_restored r = (λ is. record { segment = is }, λ k. k.segment)
