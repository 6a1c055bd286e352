-- What a commit and its acknowledgement make of what the history keeps, after the calls.
use Rattle.std.proofs.Common.{◌≡◌, ℕ, ◌+◌, ◌*◌, ◌<◌, ◌^◌, List, [], ◌∷◌, ◌++◌, length, Some, sym, ap, ◌∙◌, subst, arith}
use Rattle.std.specs.Prelude.{◌-◌}
use Rattle.books.specs.Booking.{entry, entry_of, replaced}
use Rattle.books.specs.declared.entry.BookEntry.{BookEntry}
use Rattle.books.specs.Rights.{SessionClaim, session_entry}
use Rattle.wal_record.specs.History.{Live, Committed, phase, live_count}
use Rattle.wal_record.specs.declared.record.Record.{Record}
use Rattle.wal_record.specs.declared.entry.Entry.{Entry}
use Rattle.wal_record.specs.declared.entry.Entry.TheVariants as entries
use Rattle.page_ops.specs.Claims.{SessionAgrees}
use Rattle.page_ops.specs.Seeing.{IsConsistent, of_sessions}
use Rattle.life_history.specs.Kept.{IsKept, commit_entry, end_entry}
use Rattle.life_history.proofs.Own.{session_within}
use Rattle.life_history.proofs.Moving.{is_counted, commit_kept, commit_agrees, commit_counted, end_kept, end_counted, acked_consistent, acked_kept, acked_agrees, acked_counted}

-- there is room for an entry more of a session
pub entry_fits : (h : List Entry) (count live : ℕ) (x : SessionClaim) → SessionAgrees h x → count ≡ length h → count + 2 * live < 2 ^ 63 → x.entries + 1 < 2 ^ 64
entry_fits h count live x agrees is low = let within = session_within x.session h in let same = agrees.entries in omega (arith, within, same, is, low)

module _ (opens : List Record → Type 0) (h : List Entry) (count session tx first live total of_session : ℕ) (ps ss ms : List BookEntry)
    (k : IsKept opens h (record { entries = count; session = session; tx = tx; first = first; live = live }) (record { pages = ps; sessions = ss; maint = ms }) total of_session) (x : SessionClaim)
    (there : entry_of x.session ss ≡ Some (session_entry x)) (some : 0 < x.tx) where
  -- ---- a commit

  module _ (lsn prev number : ℕ) (same : number ≡ x.tx) (h' : List Entry) (now : h' ≡ h ++ commit_entry lsn number prev ∷ []) where
    commit_is : h' ≡ h ++ commit_entry lsn x.tx prev ∷ []
    commit_is = now ∙ ap (λ t. h ++ commit_entry lsn t prev ∷ []) same

    module _ (live_now : phase h x.tx ≡ Live) (consistent : IsConsistent opens (h ++ commit_entry lsn x.tx prev ∷ [])) (left : ℕ) (less : left ≡ live - 1) where
      done : IsKept opens (h ++ commit_entry lsn x.tx prev ∷ []) (record { entries = count + 1; session = session; tx = tx; first = first; live = left })
          (record { pages = ps; sessions = replaced (entry x.session (x.entries + 1) x.tx) ss; maint = ms }) (total + 1) (of_session + 1)
      done = let some_live = is_counted opens h _ _ total of_session k x there some live_now in commit_kept opens h _ _ total of_session k x there some lsn prev live_now consistent left (omega (arith, less, some_live))

      pub committed_kept : (total' of_session' : ℕ) (ps' ss' ms' : List BookEntry) → ss' ≡ replaced (entry x.session (x.entries + 1) number) ss → (ps' ≡ ps) × (ms' ≡ ms) → total' ≡ total + 1 → of_session' ≡ of_session + 1
          → IsKept opens h' (record { entries = count + 1; session = session; tx = tx; first = first; live = left }) (record { pages = ps'; sessions = ss'; maint = ms' }) total' of_session'
      committed_kept total' of_session' ps' ss' ms' book others sum sums =
          subst (λ (y : List Entry × List BookEntry × List BookEntry × List BookEntry × ℕ × ℕ). IsKept opens y.0 (record { entries = count + 1; session = session; tx = tx; first = first; live = left }) (record { pages = y.1; sessions = y.2; maint = y.3 }) y.4 y.5)
          (λ i. (sym commit_is i, sym others.0 i, sym (book ∙ ap (λ t. replaced (entry x.session (x.entries + 1) t) ss) same) i, sym others.1 i, sym sum i, sym sums i)) done

      pub committed_live : live_count h' + 1 ≡ live_count h
      committed_live =
          let some_live = is_counted opens h _ _ total of_session k x there some live_now in
          let before : live ≡ live_count h = k.begun.counted in
          let after : left ≡ live_count h' = done.begun.counted ∙ ap live_count (sym commit_is) in
          omega (arith, some_live, before, after, less)

    pub committed_agrees : (y : SessionClaim) → y ≡ record { session = x.session; entries = x.entries + 1; tx = number } → SessionAgrees h' y
    committed_agrees y raised =
        subst (λ (z : List Entry × SessionClaim). SessionAgrees z.0 z.1) (λ i. (sym commit_is i, sym (raised ∙ ap (λ t. record { session = x.session; entries = x.entries + 1; tx = t }) same) i))
        (commit_agrees opens h _ _ total of_session k x there some lsn prev)

    pub committed_counted : of_sessions h' ≡ of_sessions h + 1
    committed_counted = ap of_sessions commit_is ∙ commit_counted opens h _ _ total of_session k x there some lsn prev

  -- ---- an end

  module _ (lsn prev : ℕ) (h' : List Entry) (now : h' ≡ h ++ end_entry lsn x.tx prev ∷ []) where
    module _ (live_now : phase h x.tx ≡ Live) (consistent : IsConsistent opens (h ++ end_entry lsn x.tx prev ∷ [])) (left : ℕ) (less : left ≡ live - 1) where
      over : IsKept opens (h ++ end_entry lsn x.tx prev ∷ []) (record { entries = count + 1; session = session; tx = tx; first = first; live = left })
          (record { pages = ps; sessions = replaced (entry x.session (x.entries + 1) 0) ss; maint = ms }) (total + 1) (of_session + 1)
      over = let some_live = is_counted opens h _ _ total of_session k x there some live_now in end_kept opens h _ _ total of_session k x there some lsn prev live_now consistent left (omega (arith, less, some_live))

      pub ended_kept : (total' of_session' : ℕ) (ps' ss' ms' : List BookEntry) → ss' ≡ replaced (entry x.session (x.entries + 1) 0) ss → (ps' ≡ ps) × (ms' ≡ ms) → total' ≡ total + 1 → of_session' ≡ of_session + 1
          → IsKept opens h' (record { entries = count + 1; session = session; tx = tx; first = first; live = left }) (record { pages = ps'; sessions = ss'; maint = ms' }) total' of_session'
      ended_kept total' of_session' ps' ss' ms' book others sum sums =
          subst (λ (y : List Entry × List BookEntry × List BookEntry × List BookEntry × ℕ × ℕ). IsKept opens y.0 (record { entries = count + 1; session = session; tx = tx; first = first; live = left }) (record { pages = y.1; sessions = y.2; maint = y.3 }) y.4 y.5)
          (λ i. (sym now i, sym others.0 i, sym book i, sym others.1 i, sym sum i, sym sums i)) over

      pub ended_live : live_count h' + 1 ≡ live_count h
      ended_live =
          let some_live = is_counted opens h _ _ total of_session k x there some live_now in
          let before : live ≡ live_count h = k.begun.counted in
          let after : left ≡ live_count h' = over.begun.counted ∙ ap live_count (sym now) in
          omega (arith, some_live, before, after, less)

    pub ended_counted : of_sessions h' ≡ of_sessions h + 1
    ended_counted = ap of_sessions now ∙ end_counted opens h _ _ total of_session k x there some lsn prev

  -- ---- its acknowledgement

  module _ (number own : ℕ) (named : number ≡ x.session) (same : own ≡ x.tx) (h' : List Entry) (now : h' ≡ h ++ entries.Acked number own ∷ []) where
    acked_is : h' ≡ h ++ entries.Acked x.session x.tx ∷ []
    acked_is = now ∙ (λ i. h ++ entries.Acked (named i) (same i) ∷ [])

    pub acknowledged_consistent : phase h x.tx ≡ Committed → IsConsistent opens h'
    acknowledged_consistent committed = subst (IsConsistent opens) (sym acked_is) (acked_consistent opens h _ _ total of_session k x there some committed)

    pub acknowledged_kept : phase h x.tx ≡ Committed → count + 2 * live + 1 < 2 ^ 63 → (total' of_session' : ℕ) (ps' ss' ms' : List BookEntry) → ss' ≡ replaced (entry x.session (x.entries + 1) 0) ss → (ps' ≡ ps) × (ms' ≡ ms)
        → total' ≡ total + 1 → of_session' ≡ of_session + 1
        → IsKept opens h' (record { entries = count + 1; session = session; tx = tx; first = first; live = live }) (record { pages = ps'; sessions = ss'; maint = ms' }) total' of_session'
    acknowledged_kept committed room total' of_session' ps' ss' ms' book others sum sums =
        subst (λ (y : List Entry × List BookEntry × List BookEntry × List BookEntry × ℕ × ℕ). IsKept opens y.0 (record { entries = count + 1; session = session; tx = tx; first = first; live = live }) (record { pages = y.1; sessions = y.2; maint = y.3 }) y.4 y.5)
        (λ i. (sym acked_is i, sym others.0 i, sym book i, sym others.1 i, sym sum i, sym sums i))
        (acked_kept opens h _ _ total of_session k x there some committed room)

    pub acknowledged_agrees : (y : SessionClaim) → y ≡ record { session = x.session; entries = x.entries + 1; tx = 0 } → SessionAgrees h' y
    acknowledged_agrees y raised = subst (λ (z : List Entry × SessionClaim). SessionAgrees z.0 z.1) (λ i. (sym acked_is i, sym raised i)) (acked_agrees opens h _ _ total of_session k x there some)

    pub acknowledged_counted : of_sessions h' ≡ of_sessions h + 1
    acknowledged_counted = ap of_sessions acked_is ∙ acked_counted opens h _ _ total of_session k x there some

    pub acknowledged_live : phase h x.tx ≡ Committed → count + 2 * live + 1 < 2 ^ 63 → live_count h' ≡ live_count h
    acknowledged_live committed room =
        let before : live ≡ live_count h = k.begun.counted in
        let done = acked_kept opens h _ _ total of_session k x there some committed room in
        let after : live ≡ live_count h' = done.begun.counted ∙ ap live_count (sym acked_is) in
        sym after ∙ before
