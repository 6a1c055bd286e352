-- Each kind of record is a field.
use Rattle.std.proofs.Common.{◌≡◌, ℕ, List, Option, refl, sym, subst, append_assoc}
use Rattle.std.specs.Prelude.{IsTrue}
use Rattle.std.proofs.lemmas.List.{append-nil}
use Rattle.wal_record.specs.State.{is_text, is_key, is_child}
use Rattle.wal_record.specs.Rules.{is_number, is_lsn_or_none, is_page, is_limit, is_u8, is_u32, is_maybe_value, is_change, KeepsFormat, KeepsWrite, KeepsApply, KeepsUndo, KeepsCommit, KeepsEnd, KeepsAdopt, KeepsPurge, KeepsWritten, KeepsRunDone, KeepsLost, KeepsRestored}
use Rattle.wal_record.specs.Spelling.{format_bytes, write_bytes, apply_bytes, undo_bytes, commit_bytes, end_bytes, adopt_bytes, purge_bytes, written_bytes, run_done_bytes, lost_bytes, restored_bytes}
use Rattle.wal_record.specs.Reading.{format_at, write_at, apply_at, undo_at, commit_at, end_at, adopt_at, purge_at, written_at, run_done_at, lost_at, restored_at}
use Rattle.state_codec.proofs.Fields.{IsField, step, done, respelled}
use Rattle.state_codec.proofs.FieldKinds.{a_number, an_lsn_or_none, a_page, a_child, a_limit, a_u8, a_u32, a_key, an_argument, a_maybe_value, a_new_value}
use Rattle.wal_record.specs.declared.record.Format.{Format}
use Rattle.wal_record.specs.declared.record.Write.{Write}
use Rattle.wal_record.specs.declared.record.Apply.{Apply}
use Rattle.wal_record.specs.declared.record.Undo.{Undo}
use Rattle.wal_record.specs.declared.record.Commit.{Commit}
use Rattle.wal_record.specs.declared.record.End.{End}
use Rattle.wal_record.specs.declared.record.Adopt.{Adopt}
use Rattle.wal_record.specs.declared.record.Purge.{Purge}
use Rattle.wal_record.specs.declared.record.Written.{Written}
use Rattle.wal_record.specs.declared.record.RunDone.{RunDone}
use Rattle.wal_record.specs.declared.record.Lost.{Lost}
use Rattle.wal_record.specs.declared.record.Restored.{Restored}

pub format_field : IsField format_at format_bytes KeepsFormat
unfolding format_at
format_field = respelled
    (step a_limit (λ (r : Format). r.limit) (λ r. Unit {0}) (λ r. IsTrue (is_limit r.limit)) (λ r. Unit {0}) (λ r _ h. h) (λ r _ h. h) _ _ (λ limit _.
    done (record { limit = limit }) (λ r. (Unit {0}) × (r.limit ≡ limit)) (tt, refl) (λ r h. λ i. record { limit = sym h.1 i })))
    (λ r. simp (append_assoc, append-nil))
    (λ r h. record { limit = h.1.0 })
    (λ r h. (tt, (h.limit, tt)))

pub write_field : IsField write_at write_bytes KeepsWrite
unfolding write_at
write_field = respelled
    (step a_number (λ (r : Write). r.tx) (λ r. Unit {0}) (λ r. IsTrue (is_number r.tx)) _ (λ r _ h. h) (λ r _ h. h) _ _ (λ tx _.
    (step an_lsn_or_none (λ (r : Write). r.prev) (λ r. (Unit {0}) × (r.tx ≡ tx)) (λ r. IsTrue (is_lsn_or_none r.prev)) _ (λ r _ h. h) (λ r _ h. h) _ _ (λ prev _.
    (step a_page (λ (r : Write). r.page) (λ r. ((Unit {0}) × (r.tx ≡ tx)) × (r.prev ≡ prev)) (λ r. IsTrue (is_page r.page)) _ (λ r _ h. h) (λ r _ h. h) _ _ (λ page _.
    (step an_lsn_or_none (λ (r : Write). r.page_prev) (λ r. (((Unit {0}) × (r.tx ≡ tx)) × (r.prev ≡ prev)) × (r.page ≡ page)) (λ r. IsTrue (is_lsn_or_none r.page_prev)) _ (λ r _ h. h) (λ r _ h. h) _ _ (λ page_prev _.
    (step a_key (λ (r : Write). r.key) (λ r. ((((Unit {0}) × (r.tx ≡ tx)) × (r.prev ≡ prev)) × (r.page ≡ page)) × (r.page_prev ≡ page_prev)) (λ r. IsTrue (is_key r.key)) _ (λ r _ h. h) (λ r _ h. h) _ _ (λ key _.
    (step a_maybe_value (λ (r : Write). r.old) (λ r. (((((Unit {0}) × (r.tx ≡ tx)) × (r.prev ≡ prev)) × (r.page ≡ page)) × (r.page_prev ≡ page_prev)) × (r.key ≡ key)) (λ r. IsTrue (is_maybe_value r.old)) _ (λ r _ h. h) (λ r _ h. h) _ _ (λ old _.
    (step (a_new_value old) (λ (r : Write). r.new) (λ r. ((((((Unit {0}) × (r.tx ≡ tx)) × (r.prev ≡ prev)) × (r.page ≡ page)) × (r.page_prev ≡ page_prev)) × (r.key ≡ key)) × (r.old ≡ old)) (λ r. IsTrue (is_maybe_value r.new) × IsTrue (is_change r.old r.new)) (λ r. Unit {0}) (λ r k h. (h.0, subst (λ (o : Option (List ℕ)). IsTrue (is_change o r.new)) (sym k.1) h.1)) (λ r k h. (h.0, subst (λ (o : Option (List ℕ)). IsTrue (is_change o r.new)) k.1 h.1)) _ _ (λ new _.
    done (record { tx = tx; prev = prev; page = page; page_prev = page_prev; key = key; old = old; new = new }) (λ r. (((((((Unit {0}) × (r.tx ≡ tx)) × (r.prev ≡ prev)) × (r.page ≡ page)) × (r.page_prev ≡ page_prev)) × (r.key ≡ key)) × (r.old ≡ old)) × (r.new ≡ new)) (((((((tt, refl), refl), refl), refl), refl), refl), refl) (λ r h. λ i. record { tx = sym h.0.0.0.0.0.0.1 i; prev = sym h.0.0.0.0.0.1 i; page = sym h.0.0.0.0.1 i; page_prev = sym h.0.0.0.1 i; key = sym h.0.0.1 i; old = sym h.0.1 i; new = sym h.1 i })))))))))))))))
    (λ r. simp (append_assoc, append-nil))
    (λ r h. record { tx = h.1.0; prev = h.1.1.0; page = h.1.1.1.0; page_prev = h.1.1.1.1.0; key = h.1.1.1.1.1.0; old = h.1.1.1.1.1.1.0; new = h.1.1.1.1.1.1.1.0.0; change = h.1.1.1.1.1.1.1.0.1 })
    (λ r h. (tt, (h.tx, (h.prev, (h.page, (h.page_prev, (h.key, (h.old, ((h.new, h.change), tt)))))))))

pub apply_field : IsField apply_at apply_bytes KeepsApply
unfolding apply_at
apply_field = respelled
    (step a_number (λ (r : Apply). r.tx) (λ r. Unit {0}) (λ r. IsTrue (is_number r.tx)) _ (λ r _ h. h) (λ r _ h. h) _ _ (λ tx _.
    (step an_lsn_or_none (λ (r : Apply). r.prev) (λ r. (Unit {0}) × (r.tx ≡ tx)) (λ r. IsTrue (is_lsn_or_none r.prev)) _ (λ r _ h. h) (λ r _ h. h) _ _ (λ prev _.
    (step a_page (λ (r : Apply). r.page) (λ r. ((Unit {0}) × (r.tx ≡ tx)) × (r.prev ≡ prev)) (λ r. IsTrue (is_page r.page)) _ (λ r _ h. h) (λ r _ h. h) _ _ (λ page _.
    (step an_lsn_or_none (λ (r : Apply). r.page_prev) (λ r. (((Unit {0}) × (r.tx ≡ tx)) × (r.prev ≡ prev)) × (r.page ≡ page)) (λ r. IsTrue (is_lsn_or_none r.page_prev)) _ (λ r _ h. h) (λ r _ h. h) _ _ (λ page_prev _.
    (step a_key (λ (r : Apply). r.key) (λ r. ((((Unit {0}) × (r.tx ≡ tx)) × (r.prev ≡ prev)) × (r.page ≡ page)) × (r.page_prev ≡ page_prev)) (λ r. IsTrue (is_key r.key)) _ (λ r _ h. h) (λ r _ h. h) _ _ (λ key _.
    (step a_u8 (λ (r : Apply). r.operator) (λ r. (((((Unit {0}) × (r.tx ≡ tx)) × (r.prev ≡ prev)) × (r.page ≡ page)) × (r.page_prev ≡ page_prev)) × (r.key ≡ key)) (λ r. IsTrue (is_u8 r.operator)) _ (λ r _ h. h) (λ r _ h. h) _ _ (λ operator _.
    (step an_argument (λ (r : Apply). r.argument) (λ r. ((((((Unit {0}) × (r.tx ≡ tx)) × (r.prev ≡ prev)) × (r.page ≡ page)) × (r.page_prev ≡ page_prev)) × (r.key ≡ key)) × (r.operator ≡ operator)) (λ r. IsTrue (is_text r.argument)) _ (λ r _ h. h) (λ r _ h. h) _ _ (λ argument _.
    (step a_maybe_value (λ (r : Apply). r.old) (λ r. (((((((Unit {0}) × (r.tx ≡ tx)) × (r.prev ≡ prev)) × (r.page ≡ page)) × (r.page_prev ≡ page_prev)) × (r.key ≡ key)) × (r.operator ≡ operator)) × (r.argument ≡ argument)) (λ r. IsTrue (is_maybe_value r.old)) (λ r. Unit {0}) (λ r _ h. h) (λ r _ h. h) _ _ (λ old _.
    done (record { tx = tx; prev = prev; page = page; page_prev = page_prev; key = key; operator = operator; argument = argument; old = old }) (λ r. ((((((((Unit {0}) × (r.tx ≡ tx)) × (r.prev ≡ prev)) × (r.page ≡ page)) × (r.page_prev ≡ page_prev)) × (r.key ≡ key)) × (r.operator ≡ operator)) × (r.argument ≡ argument)) × (r.old ≡ old)) ((((((((tt, refl), refl), refl), refl), refl), refl), refl), refl) (λ r h. λ i. record { tx = sym h.0.0.0.0.0.0.0.1 i; prev = sym h.0.0.0.0.0.0.1 i; page = sym h.0.0.0.0.0.1 i; page_prev = sym h.0.0.0.0.1 i; key = sym h.0.0.0.1 i; operator = sym h.0.0.1 i; argument = sym h.0.1 i; old = sym h.1 i })))))))))))))))))
    (λ r. simp (append_assoc, append-nil))
    (λ r h. record { tx = h.1.0; prev = h.1.1.0; page = h.1.1.1.0; page_prev = h.1.1.1.1.0; key = h.1.1.1.1.1.0; operator = h.1.1.1.1.1.1.0; argument = h.1.1.1.1.1.1.1.0; old = h.1.1.1.1.1.1.1.1.0 })
    (λ r h. (tt, (h.tx, (h.prev, (h.page, (h.page_prev, (h.key, (h.operator, (h.argument, (h.old, tt))))))))))

pub undo_field : IsField undo_at undo_bytes KeepsUndo
unfolding undo_at
undo_field = respelled
    (step a_number (λ (r : Undo). r.tx) (λ r. Unit {0}) (λ r. IsTrue (is_number r.tx)) _ (λ r _ h. h) (λ r _ h. h) _ _ (λ tx _.
    (step an_lsn_or_none (λ (r : Undo). r.prev) (λ r. (Unit {0}) × (r.tx ≡ tx)) (λ r. IsTrue (is_lsn_or_none r.prev)) _ (λ r _ h. h) (λ r _ h. h) _ _ (λ prev _.
    (step a_page (λ (r : Undo). r.page) (λ r. ((Unit {0}) × (r.tx ≡ tx)) × (r.prev ≡ prev)) (λ r. IsTrue (is_page r.page)) _ (λ r _ h. h) (λ r _ h. h) _ _ (λ page _.
    (step an_lsn_or_none (λ (r : Undo). r.page_prev) (λ r. (((Unit {0}) × (r.tx ≡ tx)) × (r.prev ≡ prev)) × (r.page ≡ page)) (λ r. IsTrue (is_lsn_or_none r.page_prev)) _ (λ r _ h. h) (λ r _ h. h) _ _ (λ page_prev _.
    (step a_key (λ (r : Undo). r.key) (λ r. ((((Unit {0}) × (r.tx ≡ tx)) × (r.prev ≡ prev)) × (r.page ≡ page)) × (r.page_prev ≡ page_prev)) (λ r. IsTrue (is_key r.key)) _ (λ r _ h. h) (λ r _ h. h) _ _ (λ key _.
    (step a_maybe_value (λ (r : Undo). r.restores) (λ r. (((((Unit {0}) × (r.tx ≡ tx)) × (r.prev ≡ prev)) × (r.page ≡ page)) × (r.page_prev ≡ page_prev)) × (r.key ≡ key)) (λ r. IsTrue (is_maybe_value r.restores)) _ (λ r _ h. h) (λ r _ h. h) _ _ (λ restores _.
    (step an_lsn_or_none (λ (r : Undo). r.undo_next) (λ r. ((((((Unit {0}) × (r.tx ≡ tx)) × (r.prev ≡ prev)) × (r.page ≡ page)) × (r.page_prev ≡ page_prev)) × (r.key ≡ key)) × (r.restores ≡ restores)) (λ r. IsTrue (is_lsn_or_none r.undo_next)) (λ r. Unit {0}) (λ r _ h. h) (λ r _ h. h) _ _ (λ undo_next _.
    done (record { tx = tx; prev = prev; page = page; page_prev = page_prev; key = key; restores = restores; undo_next = undo_next }) (λ r. (((((((Unit {0}) × (r.tx ≡ tx)) × (r.prev ≡ prev)) × (r.page ≡ page)) × (r.page_prev ≡ page_prev)) × (r.key ≡ key)) × (r.restores ≡ restores)) × (r.undo_next ≡ undo_next)) (((((((tt, refl), refl), refl), refl), refl), refl), refl) (λ r h. λ i. record { tx = sym h.0.0.0.0.0.0.1 i; prev = sym h.0.0.0.0.0.1 i; page = sym h.0.0.0.0.1 i; page_prev = sym h.0.0.0.1 i; key = sym h.0.0.1 i; restores = sym h.0.1 i; undo_next = sym h.1 i })))))))))))))))
    (λ r. simp (append_assoc, append-nil))
    (λ r h. record { tx = h.1.0; prev = h.1.1.0; page = h.1.1.1.0; page_prev = h.1.1.1.1.0; key = h.1.1.1.1.1.0; restores = h.1.1.1.1.1.1.0; undo_next = h.1.1.1.1.1.1.1.0 })
    (λ r h. (tt, (h.tx, (h.prev, (h.page, (h.page_prev, (h.key, (h.restores, (h.undo_next, tt)))))))))

pub commit_field : IsField commit_at commit_bytes KeepsCommit
unfolding commit_at
commit_field = respelled
    (step a_number (λ (r : Commit). r.tx) (λ r. Unit {0}) (λ r. IsTrue (is_number r.tx)) _ (λ r _ h. h) (λ r _ h. h) _ _ (λ tx _.
    (step an_lsn_or_none (λ (r : Commit). r.prev) (λ r. (Unit {0}) × (r.tx ≡ tx)) (λ r. IsTrue (is_lsn_or_none r.prev)) (λ r. Unit {0}) (λ r _ h. h) (λ r _ h. h) _ _ (λ prev _.
    done (record { tx = tx; prev = prev }) (λ r. ((Unit {0}) × (r.tx ≡ tx)) × (r.prev ≡ prev)) ((tt, refl), refl) (λ r h. λ i. record { tx = sym h.0.1 i; prev = sym h.1 i })))))
    (λ r. simp (append_assoc, append-nil))
    (λ r h. record { tx = h.1.0; prev = h.1.1.0 })
    (λ r h. (tt, (h.tx, (h.prev, tt))))

pub end_field : IsField end_at end_bytes KeepsEnd
unfolding end_at
end_field = respelled
    (step a_number (λ (r : End). r.tx) (λ r. Unit {0}) (λ r. IsTrue (is_number r.tx)) _ (λ r _ h. h) (λ r _ h. h) _ _ (λ tx _.
    (step an_lsn_or_none (λ (r : End). r.prev) (λ r. (Unit {0}) × (r.tx ≡ tx)) (λ r. IsTrue (is_lsn_or_none r.prev)) (λ r. Unit {0}) (λ r _ h. h) (λ r _ h. h) _ _ (λ prev _.
    done (record { tx = tx; prev = prev }) (λ r. ((Unit {0}) × (r.tx ≡ tx)) × (r.prev ≡ prev)) ((tt, refl), refl) (λ r h. λ i. record { tx = sym h.0.1 i; prev = sym h.1 i })))))
    (λ r. simp (append_assoc, append-nil))
    (λ r h. record { tx = h.1.0; prev = h.1.1.0 })
    (λ r h. (tt, (h.tx, (h.prev, tt))))

pub adopt_field : IsField adopt_at adopt_bytes KeepsAdopt
unfolding adopt_at
adopt_field = respelled
    (step a_page (λ (r : Adopt). r.parent) (λ r. Unit {0}) (λ r. IsTrue (is_page r.parent)) _ (λ r _ h. h) (λ r _ h. h) _ _ (λ parent _.
    (step an_lsn_or_none (λ (r : Adopt). r.parent_prev) (λ r. (Unit {0}) × (r.parent ≡ parent)) (λ r. IsTrue (is_lsn_or_none r.parent_prev)) _ (λ r _ h. h) (λ r _ h. h) _ _ (λ parent_prev _.
    (step a_page (λ (r : Adopt). r.fosterer) (λ r. ((Unit {0}) × (r.parent ≡ parent)) × (r.parent_prev ≡ parent_prev)) (λ r. IsTrue (is_page r.fosterer)) _ (λ r _ h. h) (λ r _ h. h) _ _ (λ fosterer _.
    (step an_lsn_or_none (λ (r : Adopt). r.fosterer_prev) (λ r. (((Unit {0}) × (r.parent ≡ parent)) × (r.parent_prev ≡ parent_prev)) × (r.fosterer ≡ fosterer)) (λ r. IsTrue (is_lsn_or_none r.fosterer_prev)) _ (λ r _ h. h) (λ r _ h. h) _ _ (λ fosterer_prev _.
    (step a_child (λ (r : Adopt). r.child) (λ r. ((((Unit {0}) × (r.parent ≡ parent)) × (r.parent_prev ≡ parent_prev)) × (r.fosterer ≡ fosterer)) × (r.fosterer_prev ≡ fosterer_prev)) (λ r. IsTrue (is_child r.child)) _ (λ r _ h. h) (λ r _ h. h) _ _ (λ child _.
    (step a_key (λ (r : Adopt). r.key) (λ r. (((((Unit {0}) × (r.parent ≡ parent)) × (r.parent_prev ≡ parent_prev)) × (r.fosterer ≡ fosterer)) × (r.fosterer_prev ≡ fosterer_prev)) × (r.child ≡ child)) (λ r. IsTrue (is_key r.key)) (λ r. Unit {0}) (λ r _ h. h) (λ r _ h. h) _ _ (λ key _.
    done (record { parent = parent; parent_prev = parent_prev; fosterer = fosterer; fosterer_prev = fosterer_prev; child = child; key = key }) (λ r. ((((((Unit {0}) × (r.parent ≡ parent)) × (r.parent_prev ≡ parent_prev)) × (r.fosterer ≡ fosterer)) × (r.fosterer_prev ≡ fosterer_prev)) × (r.child ≡ child)) × (r.key ≡ key)) ((((((tt, refl), refl), refl), refl), refl), refl) (λ r h. λ i. record { parent = sym h.0.0.0.0.0.1 i; parent_prev = sym h.0.0.0.0.1 i; fosterer = sym h.0.0.0.1 i; fosterer_prev = sym h.0.0.1 i; child = sym h.0.1 i; key = sym h.1 i })))))))))))))
    (λ r. simp (append_assoc, append-nil))
    (λ r h. record { parent = h.1.0; parent_prev = h.1.1.0; fosterer = h.1.1.1.0; fosterer_prev = h.1.1.1.1.0; child = h.1.1.1.1.1.0; key = h.1.1.1.1.1.1.0 })
    (λ r h. (tt, (h.parent, (h.parent_prev, (h.fosterer, (h.fosterer_prev, (h.child, (h.key, tt))))))))

pub purge_field : IsField purge_at purge_bytes KeepsPurge
unfolding purge_at
purge_field = respelled
    (step a_page (λ (r : Purge). r.page) (λ r. Unit {0}) (λ r. IsTrue (is_page r.page)) _ (λ r _ h. h) (λ r _ h. h) _ _ (λ page _.
    (step an_lsn_or_none (λ (r : Purge). r.page_prev) (λ r. (Unit {0}) × (r.page ≡ page)) (λ r. IsTrue (is_lsn_or_none r.page_prev)) (λ r. Unit {0}) (λ r _ h. h) (λ r _ h. h) _ _ (λ page_prev _.
    done (record { page = page; page_prev = page_prev }) (λ r. ((Unit {0}) × (r.page ≡ page)) × (r.page_prev ≡ page_prev)) ((tt, refl), refl) (λ r h. λ i. record { page = sym h.0.1 i; page_prev = sym h.1 i })))))
    (λ r. simp (append_assoc, append-nil))
    (λ r h. record { page = h.1.0; page_prev = h.1.1.0 })
    (λ r h. (tt, (h.page, (h.page_prev, tt))))

pub written_field : IsField written_at written_bytes KeepsWritten
unfolding written_at
written_field = respelled
    (step a_page (λ (r : Written). r.page) (λ r. Unit {0}) (λ r. IsTrue (is_page r.page)) _ (λ r _ h. h) (λ r _ h. h) _ _ (λ page _.
    (step a_number (λ (r : Written). r.lsn) (λ r. (Unit {0}) × (r.page ≡ page)) (λ r. IsTrue (is_number r.lsn)) (λ r. Unit {0}) (λ r _ h. h) (λ r _ h. h) _ _ (λ lsn _.
    done (record { page = page; lsn = lsn }) (λ r. ((Unit {0}) × (r.page ≡ page)) × (r.lsn ≡ lsn)) ((tt, refl), refl) (λ r h. λ i. record { page = sym h.0.1 i; lsn = sym h.1 i })))))
    (λ r. simp (append_assoc, append-nil))
    (λ r h. record { page = h.1.0; lsn = h.1.1.0 })
    (λ r h. (tt, (h.page, (h.lsn, tt))))

pub run_done_field : IsField run_done_at run_done_bytes KeepsRunDone
unfolding run_done_at
run_done_field = respelled
    (step a_number (λ (r : RunDone). r.run) (λ r. Unit {0}) (λ r. IsTrue (is_number r.run)) _ (λ r _ h. h) (λ r _ h. h) _ _ (λ run _.
    (step a_number (λ (r : RunDone). r.first) (λ r. (Unit {0}) × (r.run ≡ run)) (λ r. IsTrue (is_number r.first)) _ (λ r _ h. h) (λ r _ h. h) _ _ (λ first _.
    (step a_number (λ (r : RunDone). r.last) (λ r. ((Unit {0}) × (r.run ≡ run)) × (r.first ≡ first)) (λ r. IsTrue (is_number r.last)) (λ r. Unit {0}) (λ r _ h. h) (λ r _ h. h) _ _ (λ last _.
    done (record { run = run; first = first; last = last }) (λ r. (((Unit {0}) × (r.run ≡ run)) × (r.first ≡ first)) × (r.last ≡ last)) (((tt, refl), refl), refl) (λ r h. λ i. record { run = sym h.0.0.1 i; first = sym h.0.1 i; last = sym h.1 i })))))))
    (λ r. simp (append_assoc, append-nil))
    (λ r h. record { run = h.1.0; first = h.1.1.0; last = h.1.1.1.0 })
    (λ r h. (tt, (h.run, (h.first, (h.last, tt)))))

pub lost_field : IsField lost_at lost_bytes KeepsLost
unfolding lost_at
lost_field = respelled
    (step a_u32 (λ (r : Lost). r.pages) (λ r. Unit {0}) (λ r. IsTrue (is_u32 r.pages)) (λ r. Unit {0}) (λ r _ h. h) (λ r _ h. h) _ _ (λ pages _.
    done (record { pages = pages }) (λ r. (Unit {0}) × (r.pages ≡ pages)) (tt, refl) (λ r h. λ i. record { pages = sym h.1 i })))
    (λ r. simp (append_assoc, append-nil))
    (λ r h. record { pages = h.1.0 })
    (λ r h. (tt, (h.pages, tt)))

pub restored_field : IsField restored_at restored_bytes KeepsRestored
unfolding restored_at
restored_field = respelled
    (step a_u32 (λ (r : Restored). r.segment) (λ r. Unit {0}) (λ r. IsTrue (is_u32 r.segment)) (λ r. Unit {0}) (λ r _ h. h) (λ r _ h. h) _ _ (λ segment _.
    done (record { segment = segment }) (λ r. (Unit {0}) × (r.segment ≡ segment)) (tt, refl) (λ r h. λ i. record { segment = sym h.1 i })))
    (λ r. simp (append_assoc, append-nil))
    (λ r h. record { segment = h.1.0 })
    (λ r h. (tt, (h.segment, tt)))
