-- The End of a transaction that no session began: it belongs to none, and takes nobody's place.
use Rattle.std.proofs.Common.{◌≡◌, ℕ, suc, eqb, cond, ◌+◌, ◌<◌, ◌≤◌, ◌^◌, List, [], ◌∷◌, ◌++◌, Option, Bool, true, false, refl, sym, ap, ◌∙◌, subst, arith, append-nil, length-append}
use Rattle.std.specs.Prelude.{max, nat_le}
use Rattle.std.proofs.lemmas.Bool.Decides.{nat_tests}
use Rattle.store_model.proofs.Bools.{false_unless}
use Rattle.wal_record.specs.Books.{session_entries, session_transaction}
use Rattle.wal_record.specs.Chains.{head, greatest}
use Rattle.wal_record.specs.History.{life_log, Phase, Ended, phase, Beginning, beginnings, is_owner, last_begun, live_count}
use Rattle.wal_record.specs.declared.record.Record.{Record}
use Rattle.wal_record.specs.declared.record.Record.TheVariants as kinds
use Rattle.wal_record.specs.declared.entry.Entry.{Entry}
use Rattle.wal_record.proofs.Pushes.{head_push, log_more, beginnings_push, begun_push, last_begun_push, phase_push, maintenance_push, session_entries_push}
use Rattle.log_laws.proofs.Central.{eqb_differ}
use Rattle.page_ops.specs.Seeing.{IsConsistent, is_begun, of_sessions}
use Rattle.life_history.specs.Kept.{Numbers, BooksOf, AreBegun, IsFirst, IsKept, end_entry}
use Rattle.life_history.proofs.Beginnings.{begun_apart, first_on, not_begun}
use Rattle.life_history.proofs.Keeping.{of_sessions_push}
use Rattle.life_history.proofs.Own.{begun_by}
use Rattle.life_history.proofs.Sessions.{tx_same}

module _ (opens : List Record → Type 0) (h : List Entry) (n : Numbers) (b : BooksOf) (total of_session : ℕ) (k : IsKept opens h n b total of_session) (lsn tx prev : ℕ) (lost : is_begun h tx ≡ false) where
  abbrev ending : Entry
  ending = end_entry lsn tx prev

  abbrev done : List Entry
  done = h ++ ending ∷ []

  unowned : (m : ℕ) → is_owner h m tx ≡ false
  unowned m = false_unless (is_owner h m tx) (λ owns. absurd (cc (sym lost ∙ begun_by h m tx owns)))

  done_phase : (t : ℕ) → phase done t ≡ cond (eqb tx t) Ended (phase h t)
  done_phase t = phase_push h ending t

  done_begun : (m : ℕ) → last_begun done m ≡ last_begun h m
  done_begun m = last_begun_push h ending m

  done_beginnings : beginnings done ≡ beginnings h
  done_beginnings = beginnings_push h ending ∙ append-nil (beginnings h)

  done_entries : (m : ℕ) → session_entries done m ≡ session_entries h m
  done_entries m = session_entries_push h ending m ∙ ap (λ (c : Bool). cond c (suc (session_entries h m)) (session_entries h m)) (unowned m)

  done_tx : (m : ℕ) → session_transaction done m ≡ session_transaction h m
  done_tx m = tx_same h done m (done_begun m) (λ t is.
      done_phase t ∙ ap (λ (c : Bool). cond c Ended (phase h t)) (eqb_differ tx t (λ same. absurd (cc (sym (unowned m) ∙ ap (is_owner h m) same ∙ k.begun.owner m t is)))))

  done_head : (opening : List Record) (p : ℕ) → head (life_log opening done) p ≡ head (life_log opening h) p
  done_head opening p =
      let r : Record = kinds.End (record { tx = tx; prev = prev }) in
      ap (λ l. head l p) (log_more opening h lsn r) ∙ head_push (life_log opening h) r p

  counted : of_sessions done ≡ of_sessions h
  counted = of_sessions_push h ending ∙ ap (λ (c : Bool). cond c (suc (of_sessions h)) (of_sessions h)) lost

  kept : n.entries < 2 ^ 62 → IsConsistent opens done → IsKept opens done (record n { entries = n.entries + 1 }) b (total + 1) of_session
  kept few consistent = record {
    consistent = consistent;
    entries = let was = k.entries in omega (arith, was, length-append h (ending ∷ []));
    number = λ opening stands. k.number opening stands ∙ ap (λ (x : ℕ). suc (max (greatest opening) x)) (sym (begun_push h ending));
    least = k.least;
    first = first_on opens h done n.first n.tx k.first done_beginnings;
    room = let most = k.begun.most in omega (arith, few, most);
    begun =
        subst (λ (x : List Beginning × (ℕ → Phase) × (ℕ → Option ℕ)). AreBegun x.0 x.1 x.2 n.tx n.live) (λ i. (sym done_beginnings i, (λ t. sym (done_phase t) i), (λ m. sym (done_begun m) i)))
        (begun_apart _ _ _ _ _ k.begun tx Ended refl (not_begun h tx lost));
    fresh = λ m high. let was = k.fresh m high in record { book = was.book; entries = done_entries m ∙ was.entries; begun = done_begun m ∙ was.begun };
    books = record {
      pages = λ p x is opening stands. k.books.pages p x is opening stands ∙ sym (done_head opening p);
      sessions = λ m x is. let was = k.books.sessions m x is in (was.0 ∙ sym (done_entries m), was.1 ∙ sym (done_tx m));
      maint = λ m x is. k.books.maint m x is ∙ sym (maintenance_push h ending);
    };
    counted = let was = k.counted in omega (arith, was, length-append h (ending ∷ []));
    sessions_counted = k.sessions_counted ∙ sym counted;
  }

  module _ (h' : List Entry) (now : h' ≡ done) (few : n.entries < 2 ^ 62) (consistent : IsConsistent opens done) where
    pub loser_ended : (b' : BooksOf) (total' of_session' : ℕ) → b' ≡ b → total' ≡ total + 1 → of_session' ≡ of_session → IsKept opens h' (record n { entries = n.entries + 1 }) b' total' of_session'
    loser_ended b' total' of_session' books sum same =
        subst (λ (y : List Entry × BooksOf × ℕ × ℕ). IsKept opens y.0 (record n { entries = n.entries + 1 }) y.1 y.2 y.3) (λ i. (sym now i, sym books i, sym sum i, sym same i)) (kept few consistent)

    pub loser_live : (live_count h' ≡ live_count h) × (live_count h ≤ 64)
    loser_live =
        let after = (kept few consistent).begun.counted in
        let before = k.begun.counted in
        (ap live_count now ∙ sym after ∙ before, subst (λ m. m ≤ 64) before k.begun.most)

    pub loser_counted : of_sessions h' ≡ of_sessions h
    loser_counted = ap of_sessions now ∙ counted

-- ---- which transactions are of the opening log

pub earlier_begun : (opens : List Record → Type 0) (h h' : List Entry) (first next tx : ℕ) → IsFirst opens h first next → h ≡ h' → tx < first → is_begun h' tx ≡ false
earlier_begun opens h h' first next tx k same low = ap (λ (l : List Entry). is_begun l tx) (sym same) ∙ k.begun tx low

pub earlier_is : (opens : List Record → Type 0) (h : List Entry) (first next tx : ℕ) → IsFirst opens h first next → (opening : List Record) → opens opening → (tx < first → nat_le tx (greatest opening) ≡ true) × (first ≤ tx → nat_le tx (greatest opening) ≡ false)
earlier_is opens h first next tx k opening stands =
    let at = k.opening opening stands in
    (λ low. grind (arith, nat_tests, at, low), λ high. grind (arith, nat_tests, at, high))
