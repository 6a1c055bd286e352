-- The kinds of records with a page's state are fields.
use Rattle.std.proofs.Common.{◌≡◌, refl, sym, append_assoc}
use Rattle.std.specs.Prelude.{IsTrue}
use Rattle.std.proofs.lemmas.List.{append-nil}
use Rattle.wal_record.specs.State.{is_child, KeepsState}
use Rattle.wal_record.specs.Rules.{is_lsn_or_none, is_page, KeepsSplit, KeepsGrow}
use Rattle.wal_record.specs.Spelling.{split_bytes, grow_bytes}
use Rattle.wal_record.specs.Reading.{split_at, grow_at}
use Rattle.wal_record.specs.declared.record.Split.{Split}
use Rattle.wal_record.specs.declared.record.Grow.{Grow}
use Rattle.state_codec.proofs.Fields.{IsField, step, done, respelled}
use Rattle.state_codec.proofs.FieldKinds.{an_lsn_or_none, a_page, a_child}
use Rattle.state_codec.proofs.StateField.{state_field}

pub split_field : IsField split_at split_bytes KeepsSplit
unfolding split_at
split_field = respelled
    (step a_page (λ (r : Split). r.page) (λ r. Unit {0}) (λ r. IsTrue (is_page r.page)) _ (λ r _ h. h) (λ r _ h. h) _ _ (λ page _.
    (step an_lsn_or_none (λ (r : Split). r.page_prev) (λ r. (Unit {0}) × (r.page ≡ page)) (λ r. IsTrue (is_lsn_or_none r.page_prev)) _ (λ r _ h. h) (λ r _ h. h) _ _ (λ page_prev _.
    (step a_child (λ (r : Split). r.child) (λ r. ((Unit {0}) × (r.page ≡ page)) × (r.page_prev ≡ page_prev)) (λ r. IsTrue (is_child r.child)) _ (λ r _ h. h) (λ r _ h. h) _ _ (λ child _.
    (step state_field (λ (r : Split). r.child_state) (λ r. (((Unit {0}) × (r.page ≡ page)) × (r.page_prev ≡ page_prev)) × (r.child ≡ child)) (λ r. KeepsState r.child_state) (λ r. Unit {0}) (λ r _ h. h) (λ r _ h. h) _ _ (λ child_state _.
    done (record { page = page; page_prev = page_prev; child = child; child_state = child_state }) (λ r. ((((Unit {0}) × (r.page ≡ page)) × (r.page_prev ≡ page_prev)) × (r.child ≡ child)) × (r.child_state ≡ child_state)) ((((tt, refl), refl), refl), refl) (λ r h. λ i. record { page = sym h.0.0.0.1 i; page_prev = sym h.0.0.1 i; child = sym h.0.1 i; child_state = sym h.1 i })))))))))
    (λ r. simp (append_assoc, append-nil))
    (λ r h. record { page = h.1.0; page_prev = h.1.1.0; child = h.1.1.1.0; child_state = h.1.1.1.1.0 })
    (λ r h. (tt, (h.page, (h.page_prev, (h.child, (h.child_state, tt))))))

pub grow_field : IsField grow_at grow_bytes KeepsGrow
unfolding grow_at
grow_field = respelled
    (step an_lsn_or_none (λ (r : Grow). r.page_prev) (λ r. Unit {0}) (λ r. IsTrue (is_lsn_or_none r.page_prev)) _ (λ r _ h. h) (λ r _ h. h) _ _ (λ page_prev _.
    (step a_child (λ (r : Grow). r.child) (λ r. (Unit {0}) × (r.page_prev ≡ page_prev)) (λ r. IsTrue (is_child r.child)) _ (λ r _ h. h) (λ r _ h. h) _ _ (λ child _.
    (step state_field (λ (r : Grow). r.child_state) (λ r. ((Unit {0}) × (r.page_prev ≡ page_prev)) × (r.child ≡ child)) (λ r. KeepsState r.child_state) (λ r. Unit {0}) (λ r _ h. h) (λ r _ h. h) _ _ (λ child_state _.
    done (record { page_prev = page_prev; child = child; child_state = child_state }) (λ r. (((Unit {0}) × (r.page_prev ≡ page_prev)) × (r.child ≡ child)) × (r.child_state ≡ child_state)) (((tt, refl), refl), refl) (λ r h. λ i. record { page_prev = sym h.0.0.1 i; child = sym h.0.1 i; child_state = sym h.1 i })))))))
    (λ r. simp (append_assoc, append-nil))
    (λ r h. record { page_prev = h.1.0; child = h.1.1.0; child_state = h.1.1.1.0 })
    (λ r h. (tt, (h.page_prev, (h.child, (h.child_state, tt)))))
