-- What a group of entries makes of the history, and of what is kept of it.
use Rattle.std.proofs.Common.{◌≡◌, ◌≢◌, ℕ, zero, suc, eqb, cond, ◌+◌, ◌≤◌, ◌<◌, ◌^◌, List, [], ◌∷◌, ◌++◌, length, Option, Some, None, Bool, true, false, refl, sym, ap, ◌∙◌, subst, arith, length-append, append-nil, append_assoc, inl, inr}
use Rattle.std.specs.Prelude.{◌⊎◌, IfSome, IsSome, IsTrue, not, ◌||◌, ◌&&◌}
use Rattle.std.specs.List.{list_any, list_all}
use Rattle.std.specs.Option.{option_map}
use Rattle.std.proofs.lemmas.Bool.{eqb-true}
use native.Mathlib.Decide.{ℕ_discrete}
use mathlib.Core.Logic.{dite}
use Rattle.store_model.proofs.Bools.{both_true, false_unless}
use Rattle.books.specs.Booking.{entry_of, replaced}
use Rattle.books.specs.declared.entry.BookEntry.{BookEntry}
use Rattle.books.specs.Rights.{PageClaim, page_entry, SessionClaim, session_entry, MaintClaim, maint_entry}
use Rattle.books.proofs.Keeping.{entry_of-other, entry_of-replaced}
use Rattle.wal_record.specs.Books.{page_book, maintenance_step, maintenance_book, owns_link, session_entries, session_transaction}
use Rattle.wal_record.specs.Chains.{head, names, Link, link_of}
use Rattle.wal_record.specs.History.{life_log, Phase, phase, phase_step, Beginning, beginnings, is_owner, live_count}
use Rattle.wal_record.specs.declared.record.Record.{Record}
use Rattle.wal_record.specs.declared.record.Record.TheVariants as kinds
use Rattle.wal_record.specs.declared.entry.Entry.{Entry}
use Rattle.wal_record.specs.declared.entry.Entry.TheVariants as entries
use Rattle.wal_record.proofs.Pushes.{head_push, log_same, log_more, beginnings_push, begun_push, last_begun_push, phase_push, maintenance_push, session_entries_push}
use Rattle.log_laws.proofs.Central.{eqb_differ, eqb_self}
use Rattle.life_laws.proofs.CalmLog.{number_is}
use Rattle.page_ops.specs.Claims.{Claims, IsInRange, AreInRange, Agree, PageAgrees, SessionAgrees, MaintAgrees}
use Rattle.wal_record.specs.Rules.{is_number, is_page}
use Rattle.page_ops.specs.Groups.{Each, is_to, needs_maintenance, record_entries, said_entries, group_entries, HasSpeaker}
use Rattle.page_ops.specs.Seeing.{IsConsistent, is_begun, is_begun_link, of_sessions}
use Rattle.page_ops.specs.declared.group.Said.{Said}
use Rattle.life_history.specs.Groups.{head_behind, maintenance_behind, is_by, is_still, linked, own_entries, IsOwn, has_page, is_covered, raised_page, raised_maintenance, new_or, IsPageSet, IsMaintenanceSet, IsSessionSet, ArePagesSet}
use Rattle.life_history.specs.Kept.{Numbers, BooksOf, IsFresh, IsKept, IsSmall}
use Rattle.life_history.proofs.Keeping.{of_sessions_push, some_is}
use Rattle.life_history.proofs.Own.{Continues, continues_none, continues_then, continues_live, continues_tx, kept_then, owner, owned_by_none, begun_by, sessions_then, fresh_then, session_within}
use Rattle.life_history.proofs.Small.{none_replaced, some_before}

-- ---- the entries one by one

abbrev pub number_of : Option SessionClaim → ℕ
number_of None = 0
number_of (Some s) = s.session

-- the session's transaction, where it has one, is its alone
pub record Owns (bs : List Beginning) (s : SessionClaim) : Type 0 where
  pub own : list_any (λ (b : Beginning). eqb b.session s.session && eqb b.tx s.tx) bs ≡ true
  pub others : (m : ℕ) → m ≢ s.session → list_any (λ (b : Beginning). eqb b.session m && eqb b.tx s.tx) bs ≡ false
  pub begun : list_any (λ (b : Beginning). eqb b.tx s.tx) bs ≡ true

abbrev OwnsIts : List Entry → Option SessionClaim → Type 0
OwnsIts h s = IfSome s (λ (x : SessionClaim). 0 < x.tx → Owns (beginnings h) x)

still_phase : (lsn : ℕ) (r : Record) → is_still r ≡ true → (t : ℕ) (p : Phase) → phase_step t p (entries.Rec lsn r) ≡ p
still_phase lsn (kinds.Commit c) still t p = absurd (cc still)
still_phase lsn (kinds.End e) still t p = absurd (cc still)
still_phase lsn _ still t p = refl

counted_by : (b : Bool) (n : ℕ) → cond b (suc n) n ≡ n + cond b 1 0
counted_by true n = omega arith
counted_by false n = omega arith

module _ (h : List Entry) (s : Option SessionClaim) where
  -- a record belongs to the session exactly where it names its transaction, and else to none
  pub record Belongs (o : Option Link) : Type 0 where
    pub own : owns_link h (number_of s) o ≡ is_by s o
    pub others : (m : ℕ) → m ≢ number_of s → owns_link h m o ≡ false
    pub begun : is_begun_link h o ≡ is_by s o

  lost : (l : Link) → is_begun h l.tx ≡ false → is_by s (Some l) ≡ false → Belongs (Some l)
  lost l none other =
      let free : (m : ℕ) → is_owner h m l.tx ≡ false = λ m. false_unless (is_owner h m l.tx) (λ owns. absurd (cc (sym none ∙ begun_by h m l.tx owns))) in
      record { own = free (number_of s) ∙ sym other; others = λ m apart. free m; begun = none ∙ sym other }

  belongs_by : (o : Option Link) → IsOwn h s o → OwnsIts h s → Belongs o
  belongs_by None own owns = record { own = refl; others = λ m apart. refl; begun = refl }
  belongs_by (Some l) own owns = by (is_by s (Some l)) refl
    where
      of : (x : Option SessionClaim) → OwnsIts h x → is_by x (Some l) ≡ true → x ≡ s → Belongs (Some l)
      of None owns is here = absurd (cc is)
      of (Some x) owns is here =
          let both = both_true (not (eqb x.tx 0)) (eqb l.tx x.tx) is in
          let same = eqb-true l.tx x.tx both.1 in
          let o = owns (some_tx x.tx both.0) in
          let number : number_of s ≡ x.session = ap number_of (sym here) in
          let true_by : is_by s (Some l) ≡ true = ap (λ (y : Option SessionClaim). is_by y (Some l)) (sym here) ∙ is in
          record {
            own = (λ i. is_owner h (number i) (same i)) ∙ o.own ∙ sym true_by;
            others = λ m apart. ap (is_owner h m) same ∙ o.others m (λ e. apart (e ∙ sym number));
            begun = ap (is_begun h) same ∙ o.begun ∙ sym true_by;
          }
        where
          some_tx : (n : ℕ) → not (eqb n 0) ≡ true → 0 < n
          some_tx zero e = absurd (cc e)
          some_tx (suc n) e = omega arith

      by : (b : Bool) → is_by s (Some l) ≡ b → Belongs (Some l)
      by true e = of s owns e refl
      by false e = lost l (false_unless (is_begun h l.tx) (λ begun. absurd (cc (sym e ∙ own begun)))) e

module _ (h : List Entry) (s : Option SessionClaim) (lsn : ℕ) (r : Record) (still : is_still r ≡ true) where
  record_continues : IsOwn h s (link_of r) → OwnsIts h s → Continues h (h ++ entries.Rec lsn r ∷ []) (number_of s) (cond (is_by s (link_of r)) 1 0) 1
  record_continues own owns =
      let b = belongs_by h s (link_of r) own owns in
      record {
        longer = length-append h (entries.Rec lsn r ∷ []);
        begins = beginnings_push h (entries.Rec lsn r) ∙ append-nil (beginnings h);
        phases = λ t. phase_push h (entries.Rec lsn r) t ∙ still_phase lsn r still t (phase h t);
        last = λ m. last_begun_push h (entries.Rec lsn r) m;
        greatest = begun_push h (entries.Rec lsn r);
        own = session_entries_push h (entries.Rec lsn r) (number_of s) ∙ ap (λ (c : Bool). cond c (suc (session_entries h (number_of s))) (session_entries h (number_of s))) b.own ∙ counted_by (is_by s (link_of r)) (session_entries h (number_of s));
        others = λ m apart. session_entries_push h (entries.Rec lsn r) m ∙ ap (λ (c : Bool). cond c (suc (session_entries h m)) (session_entries h m)) (b.others m apart);
        counted = of_sessions_push h (entries.Rec lsn r) ∙ ap (λ (c : Bool). cond c (suc (of_sessions h)) (of_sessions h)) b.begun ∙ counted_by (is_by s (link_of r)) (of_sessions h);
      }

owns_on : (h h' : List Entry) (s : Option SessionClaim) → beginnings h' ≡ beginnings h → OwnsIts h s → OwnsIts h' s
owns_on h h' None same owns = tt
owns_on h h' (Some x) same owns = λ some. subst (λ bs. Owns bs x) (sym same) (owns some)

-- as long as nothing more is begun
own_on : (h h' : List Entry) (s : Option SessionClaim) → beginnings h' ≡ beginnings h → (recs : List Record) → Each (λ r. IsOwn h s (link_of r)) recs → Each (λ r. IsOwn h' s (link_of r)) recs
own_on h h' s same [] own = tt
own_on h h' s same (r ∷ rs) own = (λ begun. own.0 (sym (begun_on (link_of r)) ∙ begun), own_on h h' s same rs own.1)
  where
    begun_on : (o : Option Link) → is_begun_link h' o ≡ is_begun_link h o
    begun_on None = refl
    begun_on (Some l) = ap (list_any (λ (b : Beginning). eqb b.tx l.tx)) same

linked_is : (b : Bool) (n : ℕ) → cond b 1 0 + n ≡ cond b (suc n) n
linked_is true n = omega arith
linked_is false n = omega arith

records_continue : (h : List Entry) (s : Option SessionClaim) (lsn : ℕ) (recs : List Record) → list_all is_still recs ≡ true → Each (λ r. IsOwn h s (link_of r)) recs → OwnsIts h s
    → Continues h (h ++ record_entries lsn recs) (number_of s) (linked s recs) (length recs)
records_continue h s lsn [] still own owns = subst (λ l. Continues h l (number_of s) 0 0) (sym (append-nil h)) (continues_none h (number_of s))
records_continue h s lsn (r ∷ rs) still own owns =
    let both = both_true (is_still r) (list_all is_still rs) still in
    let next = h ++ entries.Rec lsn r ∷ [] in
    let one = record_continues h s lsn r both.0 own.0 owns in
    let rest = records_continue next s (suc lsn) rs both.1 (own_on h next s one.begins rs own.1) (owns_on h next s one.begins owns) in
    let mine = cond (is_by s (link_of r)) 1 0 in
    let all = continues_then h next (next ++ record_entries (suc lsn) rs) (number_of s) mine (linked s rs) 1 (length rs) one rest in
    subst (λ (y : List Entry × ℕ × ℕ). Continues h y.0 (number_of s) y.1 y.2) (λ i. (append_assoc h (entries.Rec lsn r ∷ []) (record_entries (suc lsn) rs) i, linked_is (is_by s (link_of r)) (linked s rs) i, suc_is i)) all
  where
    suc_is : 1 + length rs ≡ suc (length rs)
    suc_is = omega arith

said_continues : (h : List Entry) (s : Option SessionClaim) (said : Option Said) → HasSpeaker s said → Continues h (h ++ said_entries said) (number_of s) (length (said_entries said)) (length (said_entries said))
said_continues h s None speaker = subst (λ l. Continues h l (number_of s) 0 0) (sym (append-nil h)) (continues_none h (number_of s))
said_continues h None (Some x) speaker = absurd speaker
said_continues h (Some s) (Some x) speaker =
    let e : Entry = entries.Said x.session x.tx x.request x.reply in
    record {
      longer = length-append h (e ∷ []);
      begins = beginnings_push h e ∙ append-nil (beginnings h);
      phases = λ t. phase_push h e t;
      last = λ m. last_begun_push h e m;
      greatest = begun_push h e;
      own = session_entries_push h e s.session ∙ ap (λ (b : Bool). cond b (suc (session_entries h s.session)) (session_entries h s.session)) (ap (λ m. eqb m s.session) speaker.0 ∙ eqb_self s.session) ∙ omega arith;
      others = λ m apart. session_entries_push h e m ∙ ap (λ (b : Bool). cond b (suc (session_entries h m)) (session_entries h m)) (ap (λ n. eqb n m) speaker.0 ∙ eqb_differ s.session m (λ same. apart (sym same)));
      counted = of_sessions_push h e ∙ omega arith;
    }

pub group_longer : (lsn : ℕ) (recs : List Record) (said : Option Said) → length (group_entries lsn recs said) ≡ length recs + length (said_entries said)
group_longer lsn recs said = length-append (record_entries lsn recs) (said_entries said) ∙ ap (λ n. n + length (said_entries said)) (by lsn recs)
  where
    by : (lsn : ℕ) (recs : List Record) → length (record_entries lsn recs) ≡ length recs
    by lsn [] = refl
    by lsn (r ∷ rs) = ap suc (by (suc lsn) rs)

pub group_continues : (h : List Entry) (s : Option SessionClaim) (lsn : ℕ) (recs : List Record) (said : Option Said) → list_all is_still recs ≡ true → Each (λ r. IsOwn h s (link_of r)) recs → HasSpeaker s said → OwnsIts h s
    → Continues h (h ++ group_entries lsn recs said) (number_of s) (own_entries s recs said) (length (group_entries lsn recs said))
group_continues h s lsn recs said still own speaker owns =
    let between = h ++ record_entries lsn recs in
    let all = continues_then h between (between ++ said_entries said) (number_of s) (linked s recs) (length (said_entries said)) (length recs) (length (said_entries said)) (records_continue h s lsn recs still own owns) (said_continues between s said speaker) in
    subst (λ (y : List Entry × ℕ). Continues h y.0 (number_of s) (own_entries s recs said) y.1) (λ i. (append_assoc h (record_entries lsn recs) (said_entries said) i, sym (group_longer lsn recs said) i)) all

-- ---- the log, and the book of maintenance

log_records : (opening : List Record) (h : List Entry) (lsn : ℕ) (recs : List Record) → life_log opening (h ++ record_entries lsn recs) ≡ life_log opening h ++ recs
log_records opening h lsn [] = ap (life_log opening) (append-nil h) ∙ sym (append-nil (life_log opening h))
log_records opening h lsn (r ∷ rs) =
    ap (life_log opening) (sym (append_assoc h (entries.Rec lsn r ∷ []) (record_entries (suc lsn) rs))) ∙ log_records opening (h ++ entries.Rec lsn r ∷ []) (suc lsn) rs
    ∙ ap (λ l. l ++ rs) (log_more opening h lsn r) ∙ append_assoc (life_log opening h) (r ∷ []) rs

log_said : (opening : List Record) (h : List Entry) (said : Option Said) → life_log opening (h ++ said_entries said) ≡ life_log opening h
log_said opening h None = ap (life_log opening) (append-nil h)
log_said opening h (Some x) = log_same opening h (entries.Said x.session x.tx x.request x.reply) refl

pub log_group : (opening : List Record) (h : List Entry) (lsn : ℕ) (recs : List Record) (said : Option Said) → life_log opening (h ++ group_entries lsn recs said) ≡ life_log opening h ++ recs
log_group opening h lsn recs said =
    ap (life_log opening) (sym (append_assoc h (record_entries lsn recs) (said_entries said))) ∙ log_said opening (h ++ record_entries lsn recs) said ∙ log_records opening h lsn recs

pub heads_behind : (p : ℕ) (log recs : List Record) (lsn : ℕ) → lsn ≡ length log + 1 → head (log ++ recs) p ≡ head_behind p (head log p) lsn recs
heads_behind p log [] lsn at = ap (λ l. head l p) (append-nil log)
heads_behind p log (r ∷ rs) lsn at =
    ap (λ l. head l p) (sym (append_assoc log (r ∷ []) rs)) ∙ heads_behind p (log ++ r ∷ []) rs (suc lsn) (omega (arith, at, length-append log (r ∷ [])))
    ∙ ap (λ b. head_behind p b (suc lsn) rs) (head_push log r p ∙ ap (λ n. cond (names p r) n (head log p)) (sym at))

pub head_group : (opening : List Record) (h : List Entry) (lsn : ℕ) (recs : List Record) (said : Option Said) (p : ℕ) → lsn ≡ length (life_log opening h) + 1
    → page_book opening (h ++ group_entries lsn recs said) p ≡ head_behind p (page_book opening h p) lsn recs
head_group opening h lsn recs said p at = ap (λ l. head l p) (log_group opening h lsn recs said) ∙ heads_behind p (life_log opening h) recs lsn at

maintenance_rec : (lsn n : ℕ) (r : Record) → maintenance_step n (entries.Rec lsn r) ≡ cond (needs_maintenance r) lsn n
maintenance_rec lsn n (kinds.BackupDone b) = refl
maintenance_rec lsn n (kinds.RunDone d) = refl
maintenance_rec lsn n _ = refl

maintenance_records : (h : List Entry) (lsn : ℕ) (recs : List Record) → maintenance_book (h ++ record_entries lsn recs) ≡ maintenance_behind (maintenance_book h) lsn recs
maintenance_records h lsn [] = ap maintenance_book (append-nil h)
maintenance_records h lsn (r ∷ rs) =
    ap maintenance_book (sym (append_assoc h (entries.Rec lsn r ∷ []) (record_entries (suc lsn) rs))) ∙ maintenance_records (h ++ entries.Rec lsn r ∷ []) (suc lsn) rs
    ∙ ap (λ n. maintenance_behind n (suc lsn) rs) (maintenance_push h (entries.Rec lsn r) ∙ maintenance_rec lsn (maintenance_book h) r)

pub maintenance_group : (h : List Entry) (lsn : ℕ) (recs : List Record) (said : Option Said) → maintenance_book (h ++ group_entries lsn recs said) ≡ maintenance_behind (maintenance_book h) lsn recs
maintenance_group h lsn recs said =
    ap maintenance_book (sym (append_assoc h (record_entries lsn recs) (said_entries said))) ∙ by (h ++ record_entries lsn recs) said ∙ maintenance_records h lsn recs
  where
    by : (h : List Entry) (said : Option Said) → maintenance_book (h ++ said_entries said) ≡ maintenance_book h
    by h None = ap maintenance_book (append-nil h)
    by h (Some x) = maintenance_push h (entries.Said x.session x.tx x.request x.reply)

-- ---- the book of pages

-- a page that no record names
unnamed : (p before lsn : ℕ) (recs : List Record) → list_any (names p) recs ≡ false → head_behind p before lsn recs ≡ before
unnamed p before lsn [] none = refl
unnamed p before lsn (r ∷ rs) none = by (names p r) refl none (unnamed p before (suc lsn) rs)
  where
    by : (b : Bool) → names p r ≡ b → (b || list_any (names p) rs) ≡ false → (list_any (names p) rs ≡ false → head_behind p before (suc lsn) rs ≡ before) → head_behind p (cond (names p r) lsn before) (suc lsn) rs ≡ before
    by true e none rest = absurd (cc none)
    by false e none rest = ap (λ (c : Bool). head_behind p (cond c lsn before) (suc lsn) rs) e ∙ rest none

-- whatever was before
pub named_head : (p before before' lsn : ℕ) (recs : List Record) → list_any (names p) recs ≡ true → head_behind p before lsn recs ≡ head_behind p before' lsn recs
named_head p before before' lsn [] some = absurd (cc some)
named_head p before before' lsn (r ∷ rs) some = by (names p r) refl some (named_head p before before' (suc lsn) rs)
  where
    by : (b : Bool) → names p r ≡ b → (b || list_any (names p) rs) ≡ true → (list_any (names p) rs ≡ true → head_behind p before (suc lsn) rs ≡ head_behind p before' (suc lsn) rs) → head_behind p (cond (names p r) lsn before) (suc lsn) rs ≡ head_behind p (cond (names p r) lsn before') (suc lsn) rs
    by true e some rest = ap (λ (c : Bool). head_behind p (cond c lsn before) (suc lsn) rs) e ∙ sym (ap (λ (c : Bool). head_behind p (cond c lsn before') (suc lsn) rs) e)
    by false e some rest = ap (λ (c : Bool). head_behind p (cond c lsn before) (suc lsn) rs) e ∙ rest some ∙ sym (ap (λ (c : Bool). head_behind p (cond c lsn before') (suc lsn) rs) e)

covers : (x : Claims) (new : Option PageClaim) (p : ℕ) (r : Record) → has_page x new p ≡ false → is_covered x new r ≡ true → names p r ≡ false
covers x new p r none all = by r all
  where
    one : (q : ℕ) → has_page x new q ≡ true → eqb p q ≡ false
    one q has = false_unless (eqb p q) (λ same. absurd (cc (sym none ∙ ap (has_page x new) (eqb-true p q same) ∙ has)))

    alone : (q : ℕ) → (has_page x new q && true) ≡ true → eqb p q ≡ false
    alone q has = one q (both_true (has_page x new q) true has).0

    two : (q u : ℕ) → (has_page x new q && (has_page x new u && true)) ≡ true → (eqb p q || eqb p u) ≡ false
    two q u has =
        let both = both_true (has_page x new q) (has_page x new u && true) has in
        ap (λ b. b || eqb p u) (one q both.0) ∙ alone u both.1

    by : (r : Record) → is_covered x new r ≡ true → names p r ≡ false
    by (kinds.Format f) all = alone 1 all
    by (kinds.Write w) all = alone w.page all
    by (kinds.Apply w) all = alone w.page all
    by (kinds.Undo u) all = alone u.page all
    by (kinds.Split s) all = two s.page s.child all
    by (kinds.Adopt a) all = two a.parent a.fosterer all
    by (kinds.Grow g) all = two 1 g.child all
    by (kinds.Purge g) all = alone g.page all
    by _ all = refl

covers_all : (x : Claims) (new : Option PageClaim) (p : ℕ) (recs : List Record) → has_page x new p ≡ false → list_all (is_covered x new) recs ≡ true → list_any (names p) recs ≡ false
covers_all x new p [] none all = refl
covers_all x new p (r ∷ rs) none all =
    let both = both_true (is_covered x new r) (list_all (is_covered x new) rs) all in
    ap (λ b. b || list_any (names p) rs) (covers x new p r none both.0) ∙ covers_all x new p rs none both.1

module _ (opens : List Record → Type 0) (h : List Entry) (lsn : ℕ) (recs : List Record) (said : Option Said) (place : (opening : List Record) → opens opening → lsn ≡ length (life_log opening h) + 1) where
  abbrev done : List Entry
  done = h ++ group_entries lsn recs said

  -- each entry of the book is raised, or still as it was and none of those that have been raised
  abbrev AreRaised : (ℕ → Bool) → List BookEntry → Type 0
  AreRaised some b = (m : ℕ) (e : BookEntry) → entry_of m b ≡ Some e → ((opening : List Record) → opens opening → e.first ≡ page_book opening done m) ⊎ (((opening : List Record) → opens opening → e.first ≡ page_book opening h m) × (some m ≡ false))

  -- the claim agrees, and so does the raised one
  raised_agrees : (p : PageClaim) → PageAgrees opens h p → PageAgrees opens done (raised_page lsn recs p)
  raised_agrees p agrees opening stands = ap (λ n. head_behind p.page n lsn recs) (agrees opening stands) ∙ sym (head_group opening h lsn recs said p.page (place opening stands))

  page_step : (right : Option PageClaim) (some : ℕ → Bool) (b b' : List BookEntry) → IfSome right (PageAgrees opens h) → IsPageSet lsn recs right b b' → AreRaised some b → AreRaised (λ m. is_to m right || some m) b'
  page_step None some b b' agrees set k m e is = k m e (sym (ap (entry_of m) set) ∙ is)
  page_step (Some p) some b b' agrees set k m e is =
      let new = page_entry (raised_page lsn recs p) in
      let at : entry_of m (replaced new b) ≡ Some e = sym (ap (entry_of m) set.1) ∙ is in
      dite (ℕ_discrete m p.page)
      (λ here.
      let found = entry_of-replaced new b (page_entry p) set.0 in
      let same : new ≡ e = some_is _ _ (sym found ∙ ap (λ q. entry_of q (replaced new b)) (sym here) ∙ at) in
      inl (λ opening stands. ap (λ (x : BookEntry). x.first) (sym same) ∙ raised_agrees p agrees opening stands ∙ ap (page_book opening done) (sym here)))
      (λ apart. elim (k m e (sym (entry_of-other m new b apart) ∙ at)) [
        | inl now ↦ inl now
        | inr was ↦ inr (was.0, ap (λ c. c || some m) (eqb_differ p.page m (λ same. apart (sym same))) ∙ was.1)
      ])

  pages_after : (x : Claims) (new : Option PageClaim) (b b' : List BookEntry) → Agree opens h x → IfSome new (PageAgrees opens h) → list_all (is_covered x new) recs ≡ true → ArePagesSet lsn recs x new b b'
      → ((m : ℕ) (e : BookEntry) → entry_of m b ≡ Some e → (opening : List Record) → opens opening → e.first ≡ page_book opening h m)
      → (m : ℕ) (e : BookEntry) → entry_of m b' ≡ Some e → (opening : List Record) → opens opening → e.first ≡ page_book opening done m
  pages_after x new b b' agrees fresh covered set k m e is opening stands =
      let s0 : AreRaised (λ m. false) b = λ m e is. inr (k m e is, refl) in
      let s1 = page_step x.a (λ m. false) b set.b1 agrees.a set.first s0 in
      let s2 = page_step x.b (λ m. is_to m x.a || false) set.b1 set.b2 agrees.b set.second s1 in
      let s3 = page_step x.c (λ m. is_to m x.b || (is_to m x.a || false)) set.b2 set.b3 agrees.c set.third s2 in
      let s4 = page_step new (λ m. is_to m x.c || (is_to m x.b || (is_to m x.a || false))) set.b3 b' fresh set.new s3 in
      elim (s4 m e is) [
        | inl now ↦ now opening stands
        | inr was ↦
            let none = covers_all x new m recs (neither (is_to m new) (is_to m x.c) (is_to m x.b) (is_to m x.a) was.1) covered in
            was.0 opening stands ∙ sym (head_group opening h lsn recs said m (place opening stands) ∙ unnamed m (page_book opening h m) lsn recs none)
      ]
    where
      neither : (n c b a : Bool) → (n || (c || (b || (a || false)))) ≡ false → ((a || b) || n) ≡ false
      neither true c b a none = absurd (cc none)
      neither false true b a none = absurd (cc none)
      neither false false true a none = absurd (cc none)
      neither false false false true none = absurd (cc none)
      neither false false false false none = refl

  maintenance_agrees : (m : MaintClaim) → MaintAgrees h m → MaintAgrees done (raised_maintenance lsn recs m)
  maintenance_agrees m agrees = ap (λ n. maintenance_behind n lsn recs) agrees ∙ sym (maintenance_group h lsn recs said)

  unmaintained : (before lsn : ℕ) (recs : List Record) → list_any needs_maintenance recs ≡ false → maintenance_behind before lsn recs ≡ before
  unmaintained before lsn [] none = refl
  unmaintained before lsn (r ∷ rs) none = by (needs_maintenance r) refl none (unmaintained before (suc lsn) rs)
    where
      by : (b : Bool) → needs_maintenance r ≡ b → (b || list_any needs_maintenance rs) ≡ false → (list_any needs_maintenance rs ≡ false → maintenance_behind before (suc lsn) rs ≡ before) → maintenance_behind (cond (needs_maintenance r) lsn before) (suc lsn) rs ≡ before
      by true e none rest = absurd (cc none)
      by false e none rest = ap (λ (c : Bool). maintenance_behind (cond c lsn before) (suc lsn) rs) e ∙ rest none

  maintenance_after : (right : Option MaintClaim) (b b' : List BookEntry) → IfSome right (MaintAgrees h) → (list_any needs_maintenance recs ≡ true → IsSome right) → IsMaintenanceSet lsn recs right b b'
      → ((m : ℕ) (e : BookEntry) → entry_of m b ≡ Some e → m ≡ 0) → ((m : ℕ) (e : BookEntry) → entry_of m b ≡ Some e → e.first ≡ maintenance_book h)
      → (m : ℕ) (e : BookEntry) → entry_of m b' ≡ Some e → e.first ≡ maintenance_book done
  maintenance_after None b b' agrees some set one k m e is =
      let none : list_any needs_maintenance recs ≡ false = false_unless (list_any needs_maintenance recs) (λ any. absurd (cc (some any))) in
      k m e (sym (ap (entry_of m) set) ∙ is) ∙ sym (maintenance_group h lsn recs said ∙ unmaintained (maintenance_book h) lsn recs none)
  maintenance_after (Some x) b b' agrees some set one k m e is =
      let new = maint_entry (raised_maintenance lsn recs x) in
      let at : entry_of m (replaced new b) ≡ Some e = sym (ap (entry_of m) set.1) ∙ is in
      let was = some_before b (maint_entry x) new m e set.0 refl at in
      let here : m ≡ x.number = one m was.0 was.1 ∙ sym (one x.number (maint_entry x) set.0) in
      let same : new ≡ e = some_is _ _ (sym (entry_of-replaced new b (maint_entry x) set.0) ∙ ap (λ q. entry_of q (replaced new b)) (sym here) ∙ at) in
      ap (λ (y : BookEntry). y.first) (sym same) ∙ maintenance_agrees x agrees

-- ---- which entries the books have

page_none : (lsn : ℕ) (recs : List Record) (right : Option PageClaim) (b b' : List BookEntry) (n : ℕ) → IsPageSet lsn recs right b b' → entry_of n b ≡ None → entry_of n b' ≡ None
page_none lsn recs None b b' n set none = ap (entry_of n) set ∙ none
page_none lsn recs (Some p) b b' n set none = ap (entry_of n) set.1 ∙ none_replaced b (page_entry p) (page_entry (raised_page lsn recs p)) n set.0 refl none

maint_some : (lsn : ℕ) (recs : List Record) (right : Option MaintClaim) (b b' : List BookEntry) (n : ℕ) (e : BookEntry) → IsMaintenanceSet lsn recs right b b' → entry_of n b' ≡ Some e → (was : BookEntry) × (entry_of n b ≡ Some was)
maint_some lsn recs None b b' n e set is = (e, sym (ap (entry_of n) set) ∙ is)
maint_some lsn recs (Some x) b b' n e set is = some_before b (maint_entry x) (maint_entry (raised_maintenance lsn recs x)) n e set.0 refl (sym (ap (entry_of n) set.1) ∙ is)

pub small_group : (page lsn : ℕ) (recs : List Record) (x : Claims) (new : Option PageClaim) (ps ps' ss ss' ms ms' : List BookEntry) → ArePagesSet lsn recs x new ps ps' → IsMaintenanceSet lsn recs x.m ms ms'
    → IsSmall page (record { pages = ps; sessions = ss; maint = ms }) → IsSmall page (record { pages = ps'; sessions = ss'; maint = ms' })
small_group page lsn recs x new ps ps' ss ss' ms ms' set maint k = record {
  pages = λ n high. page_none lsn recs new set.b3 ps' n set.new (page_none lsn recs x.c set.b2 set.b3 n set.third (page_none lsn recs x.b set.b1 set.b2 n set.second (page_none lsn recs x.a ps set.b1 n set.first (k.pages n high))));
  maint = λ n e is. let was = maint_some lsn recs x.m ms ms' n e maint is in k.maint n was.0 was.1;
}

-- ---- the whole

module _ (opens : List Record → Type 0) (h : List Entry) (n : Numbers) (b : BooksOf) (total of_session : ℕ) (k : IsKept opens h n b total of_session) where
  owns_its : (s : Option SessionClaim) → IfSome s (λ x. entry_of x.session b.sessions ≡ Some (session_entry x)) → OwnsIts h s
  owns_its None there = tt
  owns_its (Some x) there = λ some. record {
    own = owner opens h n b total of_session k x there some;
    others = λ m apart. owned_by_none opens h n b total of_session k x there some m apart;
    begun = begun_by h x.session x.tx (owner opens h n b total of_session k x there some);
  }

  there_of : (own : ℕ) (s : Option SessionClaim) (ss' : List BookEntry) → IsSessionSet own s b.sessions ss' → IfSome s (λ x. entry_of x.session b.sessions ≡ Some (session_entry x))
  there_of own None ss' set = tt
  there_of own (Some x) ss' set = set.0

  module _ (lsn : ℕ) (recs : List Record) (said : Option Said) (x : Claims) (ss' : List BookEntry)
      (still : list_all is_still recs ≡ true) (own : Each (λ r. IsOwn h x.s (link_of r)) recs) (speaker : HasSpeaker x.s said) (session : IsSessionSet (own_entries x.s recs said) x.s b.sessions ss') where
    abbrev goes : List Entry
    goes = h ++ group_entries lsn recs said

    pub continues : Continues h goes (number_of x.s) (own_entries x.s recs said) (length (group_entries lsn recs said))
    continues = group_continues h x.s lsn recs said still own speaker (owns_its x.s (there_of (own_entries x.s recs said) x.s ss' session))

    -- without a right no entry belongs to a session
    by_none : (o : Option Link) → is_by None o ≡ false
    by_none None = refl
    by_none (Some l) = refl

    none_linked : (recs : List Record) → linked None recs ≡ 0
    none_linked [] = refl
    none_linked (r ∷ rs) = ap (λ (c : Bool). cond c (suc (linked None rs)) (linked None rs)) (by_none (link_of r)) ∙ none_linked rs

    none_own : (said : Option Said) → HasSpeaker None said → own_entries None recs said ≡ 0
    none_own None speaker = let none = none_linked recs in omega (arith, none)
    none_own (Some s) speaker = absurd speaker

    sessions_after : ((m : ℕ) (e : BookEntry) → entry_of m ss' ≡ Some e → (e.first ≡ session_entries goes m) × (e.second ≡ session_transaction goes m)) × ((m : ℕ) → n.session ≤ m → IsFresh goes ss' m)
    sessions_after = by x.s speaker session continues
      where
        by : (s : Option SessionClaim) → HasSpeaker s said → IsSessionSet (own_entries s recs said) s b.sessions ss' → Continues h goes (number_of s) (own_entries s recs said) (length (group_entries lsn recs said))
            → ((m : ℕ) (e : BookEntry) → entry_of m ss' ≡ Some e → (e.first ≡ session_entries goes m) × (e.second ≡ session_transaction goes m)) × ((m : ℕ) → n.session ≤ m → IsFresh goes ss' m)
        by (Some s) speaker set c = subst (λ (ss : List BookEntry). ((m : ℕ) (e : BookEntry) → entry_of m ss ≡ Some e → (e.first ≡ session_entries goes m) × (e.second ≡ session_transaction goes m)) × ((m : ℕ) → n.session ≤ m → IsFresh goes ss m)) (sym set.1) (
          sessions_then opens h n b total of_session k s set.0 goes (own_entries (Some s) recs said) (length (group_entries lsn recs said)) c,
          fresh_then opens h n b total of_session k s set.0 goes (own_entries (Some s) recs said) (length (group_entries lsn recs said)) c,
        )
        by None speaker set c =
            let zero = none_own said speaker in
            let same : (m : ℕ) → session_entries goes m ≡ session_entries h m = λ m. dite (ℕ_discrete m 0)
            (λ here. ap (session_entries goes) here ∙ c.own ∙ ap (λ z. session_entries h 0 + z) zero ∙ plain (session_entries h 0) ∙ ap (session_entries h) (sym here))
            (λ apart. c.others m apart) in
            let tx = continues_tx h goes 0 (own_entries None recs said) (length (group_entries lsn recs said)) c in (
              (λ m e is. let was = k.books.sessions m e (sym (ap (entry_of m) set) ∙ is) in (was.0 ∙ sym (same m), was.1 ∙ sym (tx m))),
              (λ m high. let was = k.fresh m high in record { book = ap (entry_of m) set ∙ was.book; entries = same m ∙ was.entries; begun = c.last m ∙ was.begun }),
            )
          where
            plain : (m : ℕ) → m + 0 ≡ m
            plain m = omega arith

    pub group_kept : (new : Option PageClaim) (ps' ms' : List BookEntry) (h' : List Entry) (total' of_session' count : ℕ) → h' ≡ goes → count ≡ length (group_entries lsn recs said) → total' ≡ total + length (group_entries lsn recs said) → of_session' ≡ of_session + own_entries x.s recs said
        → length recs ≤ 2 → n.entries < 2 ^ 62 → ((opening : List Record) → opens opening → lsn ≡ length (life_log opening h) + 1) → Agree opens h x → IfSome new (PageAgrees opens h) → list_all (is_covered x new) recs ≡ true
        → (list_any needs_maintenance recs ≡ true → IsSome x.m) → ArePagesSet lsn recs x new b.pages ps' → IsMaintenanceSet lsn recs x.m b.maint ms' → ((m : ℕ) (e : BookEntry) → entry_of m b.maint ≡ Some e → m ≡ 0)
        → IsConsistent opens goes → IsKept opens h' (record n { entries = n.entries + count }) (record { pages = ps'; sessions = ss'; maint = ms' }) total' of_session'
    group_kept new ps' ms' h' total' of_session' count now counts sum sums few short place agrees fresh covered maintained pages maint one consistent =
        let longer = group_longer lsn recs said in
        let most : length (group_entries lsn recs said) ≤ 3 = at_most (length recs) said few longer in
        let done = kept_then opens h goes n b (record { pages = ps'; sessions = ss'; maint = ms' }) total of_session (number_of x.s) (own_entries x.s recs said) (length (group_entries lsn recs said)) k continues consistent short most
        (record {
          pages = pages_after opens h lsn recs said place x new b.pages ps' agrees fresh covered pages k.books.pages;
          sessions = sessions_after.0;
          maint = maintenance_after opens h lsn recs said place x.m b.maint ms' agrees.m maintained maint one k.books.maint;
        })
        sessions_after.1 in
        subst (λ (y : List Entry × ℕ × ℕ × ℕ). IsKept opens y.0 (record n { entries = n.entries + y.1 }) (record { pages = ps'; sessions = ss'; maint = ms' }) y.2 y.3) (λ i. (sym now i, sym counts i, sym sum i, sym sums i)) done
      where
        at_most : (m : ℕ) (said : Option Said) → m ≤ 2 → length (group_entries lsn recs said) ≡ m + length (said_entries said) → length (group_entries lsn recs said) ≤ 3
        at_most m None few is = omega (arith, few, is)
        at_most m (Some s) few is = omega (arith, few, is)

    pub group_live : (live_count goes ≡ live_count h) × (live_count h ≤ 64)
    group_live = (continues_live h goes (number_of x.s) (own_entries x.s recs said) (length (group_entries lsn recs said)) continues, subst (λ m. m ≤ 64) k.begun.counted k.begun.most)

-- there is room for the entries of a session
pub session_room : (h : List Entry) (s : Option SessionClaim) → IfSome s (SessionAgrees h) → length h < 2 ^ 62 → IfSome s (λ x. x.entries + 3 < 2 ^ 64)
session_room h None agrees low = tt
session_room h (Some x) agrees low = let within = session_within x.session h in let same = agrees.entries in omega (arith, within, same, low)

-- ---- ranges

number_behind : (p before lsn : ℕ) (recs : List Record) → is_number before ≡ true → 1 ≤ lsn → lsn + length recs < 2 ^ 63 + 1 → is_number (head_behind p before lsn recs) ≡ true
number_behind p before lsn [] is least most = is
number_behind p before lsn (r ∷ rs) is least most = number_behind p (cond (names p r) lsn before) (suc lsn) rs (by (names p r)) (omega (arith, least)) (omega (arith, most))
  where
    by : (b : Bool) → is_number (cond b lsn before) ≡ true
    by true = number_is lsn least (omega (arith, most))
    by false = is

module _ (lsn : ℕ) (recs : List Record) (few : length recs ≤ 2) (least : 1 ≤ lsn) (fits : lsn + 1 < 2 ^ 63) where
  raised_in_range : (right : Option PageClaim) → IfSome right IsInRange → IfSome (option_map (raised_page lsn recs) right) IsInRange
  raised_in_range None k = tt
  raised_in_range (Some p) k = (k.0, number_behind p.page p.lsn lsn recs k.1 least (omega (arith, few, fits)))

  new_in_range : (new old : Option PageClaim) → IfSome new (λ p. IsTrue (is_page p.page) × (list_any (names p.page) recs ≡ true)) → IfSome old IsInRange
      → IfSome (new_or (option_map (raised_page lsn recs) new) (option_map (raised_page lsn recs) old)) IsInRange
  new_in_range None old named k = raised_in_range old k
  new_in_range (Some p) old named k = (
    named.0,
    ap is_number (named_head p.page p.lsn lsn lsn recs named.1) ∙ number_behind p.page lsn lsn recs (number_is lsn least (omega (arith, fits))) least (omega (arith, few, fits)),
  )

  pub claims_in_range : (new : Option PageClaim) → IfSome new (λ p. IsTrue (is_page p.page) × (list_any (names p.page) recs ≡ true)) → (x : Claims) → AreInRange x → (a b c : Option PageClaim)
      → a ≡ option_map (raised_page lsn recs) x.a → b ≡ option_map (raised_page lsn recs) x.b → c ≡ new_or (option_map (raised_page lsn recs) new) (option_map (raised_page lsn recs) x.c)
      → {s : Option SessionClaim} {m : Option MaintClaim} → AreInRange (record { a = a; b = b; c = c; s = s; m = m })
  claims_in_range new named x k a b c is_a is_b is_c = record {
    a = subst (λ (o : Option PageClaim). IfSome o IsInRange) (sym is_a) (raised_in_range x.a k.a);
    b = subst (λ (o : Option PageClaim). IfSome o IsInRange) (sym is_b) (raised_in_range x.b k.b);
    c = subst (λ (o : Option PageClaim). IfSome o IsInRange) (sym is_c) (new_in_range new x.c named k.c);
  }
