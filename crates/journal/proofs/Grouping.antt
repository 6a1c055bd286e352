-- A group, filled in by the journal: the history is consistent behind it, and the log lawful.
use Rattle.std.proofs.Common.{◌≡◌, ℕ, suc, cond, ◌+◌, ◌≤◌, ◌<◌, ◌^◌, List, [], ◌∷◌, ◌++◌, length, Option, Some, None, Bool, true, false, refl, sym, ap, ◌∙◌, subst, arith, append_assoc, append-nil}
use Rattle.std.specs.Prelude.{IsTrue, IsSome, IfSome, is_some, nat_le, not, ◌-◌, ◌||◌}
use Rattle.std.specs.List.{list_any, list_all}
use Rattle.std.proofs.lemmas.List.Folds.{list_any-append}
use Rattle.store_model.proofs.Bools.{both_true}
use Rattle.asking_laws.specs.Entered.{fill, fill_all}
use Rattle.asking_laws.proofs.Entered.{entered_law}
use Rattle.asking_laws.proofs.Moments.{at_rest, opened_lawful}
use Rattle.books.specs.Rights.{PageClaim}
use Rattle.chain_laws.proofs.Previous.{unimaged}
use Rattle.claim_laws.specs.Entering.{IsAtRest}
use Rattle.claim_laws.proofs.Filling.{pages_law}
use Rattle.claim_laws.proofs.Pages.{head_law}
use Rattle.group_filling.specs.Fields.{IsGoingOn, IsKnown}
use Rattle.group_filling.specs.Fitting.{AreInRange}
use Rattle.group_filling.proofs.Spelled.{spelled_group}
use Rattle.log_manager.specs.Payload.{bytes_of}
use Rattle.std.specs.List.{All}
use Rattle.wal_record.specs.Rules.{HasSpelling}
use Rattle.life_history.specs.Groups.{is_still}
use Rattle.life_history.proofs.Grouped.{log_group}
use Rattle.listed_log.specs.Listed.{IsLogWith}
use Rattle.log_index.specs.GoingOn.{may_go_on}
use Rattle.log_index.specs.declared.listing.Listing.{Listing}
use Rattle.log_manager.specs.Managed.{Managed}
use Rattle.media.specs.Kept.{Kept}
use Rattle.page_ops.specs.Asking.{HasNumbers, MayFollow}
use Rattle.page_ops.specs.Groups.{Each, Numbers, filled, child_of, or_else, made_by, AreFilled, AreFilledFrom, is_write, told_by, record_entries, said_entries, group_entries, IsGroup}
use Rattle.page_ops.specs.Seeing.{IsConsistent}
use Rattle.page_ops.specs.declared.group.Group.{Group}
use Rattle.page_ops.specs.declared.group.Said.{Said}
use Rattle.wal_record.specs.Books.{page_book}
use Rattle.wal_record.specs.Chains.{names, pages, Link, link_of, finishes}
use Rattle.wal_record.specs.OpenWrites.{pending}
use Rattle.wal_record.specs.Rules.{is_page}
use Rattle.wal_record.specs.State.{is_child}
use Rattle.store_model.specs.declared.limits.TheConstants.{MOST_PAGES}
use Rattle.std.proofs.lemmas.Bool.{leb-true}
use Rattle.std.proofs.lemmas.Bool.Decides.{nat_tests}
use Rattle.page_ops.specs.Claims.{PageAgrees}
use Rattle.wal_record.specs.History.{life_log, phase, phase_step}
use Rattle.wal_record.specs.Legal.{IsAllowed, IsLegal, RecordRule, untold, untold_step}
use Rattle.wal_record.specs.Locks.{locks_step, taken_locks}
use Rattle.wal_record.specs.Sound.{LinkRule, AreLawful}
use Rattle.wal_record.specs.declared.record.Record.{Record}
use Rattle.wal_record.specs.declared.record.Record.TheVariants as kinds
use Rattle.wal_record.specs.declared.entry.Entry.{Entry}
use Rattle.wal_record.specs.declared.entry.Entry.TheVariants as entries
use Rattle.wal_record.proofs.Along.{AllAlong_less}
use Rattle.wal_record.proofs.Pushes.{legal_front, log_more, phase_push, untold_push, taken_push}
use Rattle.journal.specs.Groups.{IsNext, IsNextPage, GroupFollows, IsNewRight}
use Rattle.journal.specs.Kept.{AreRecords}
use Rattle.journal.proofs.GoingOn.{live_goes_on, undo_goes_on}

-- ---- no transaction ends by it

still_locks : (t lsn : ℕ) (r : Record) (ls : List _) → is_still r ≡ true → locks_step t ls (entries.Rec lsn r) ≡ ls
still_locks t lsn (kinds.Commit c) ls still = absurd (cc still)
still_locks t lsn (kinds.End e) ls still = absurd (cc still)
still_locks t lsn _ ls still = refl

still_phase : (t lsn : ℕ) (r : Record) → is_still r ≡ true → (h : List Entry) → phase_step t (phase h t) (entries.Rec lsn r) ≡ phase h t
still_phase t lsn (kinds.Commit c) still h = absurd (cc still)
still_phase t lsn (kinds.End e) still h = absurd (cc still)
still_phase t lsn _ still h = refl

-- what each entry leaves as it was, a group does
module _ {A : Type 0} (f : List Entry → A) (stays : (h : List Entry) (lsn : ℕ) (r : Record) → is_still r ≡ true → f (h ++ entries.Rec lsn r ∷ []) ≡ f h)
    (told : (h : List Entry) (x : Said) → f (h ++ entries.Said x.session x.tx x.request x.reply ∷ []) ≡ f h) where
  records_stay : (h : List Entry) (lsn : ℕ) (recs : List Record) → list_all is_still recs ≡ true → f (h ++ record_entries lsn recs) ≡ f h
  records_stay h lsn [] still = ap f (append-nil h)
  records_stay h lsn (r ∷ rs) still =
      let both = both_true (is_still r) (list_all is_still rs) still in
      ap f (sym (append_assoc h (entries.Rec lsn r ∷ []) (record_entries (suc lsn) rs))) ∙ records_stay (h ++ entries.Rec lsn r ∷ []) (suc lsn) rs both.1 ∙ stays h lsn r both.0

  said_stays : (h : List Entry) (said : Option Said) → f (h ++ said_entries said) ≡ f h
  said_stays h None = ap f (append-nil h)
  said_stays h (Some x) = told h x

  pub group_stays : (h : List Entry) (lsn : ℕ) (recs : List Record) (said : Option Said) → list_all is_still recs ≡ true → f (h ++ group_entries lsn recs said) ≡ f h
  group_stays h lsn recs said still = ap f (sym (append_assoc h (record_entries lsn recs) (said_entries said))) ∙ said_stays (h ++ record_entries lsn recs) said ∙ records_stay h lsn recs still

pub locks_group : (h : List Entry) (lsn : ℕ) (recs : List Record) (said : Option Said) → list_all is_still recs ≡ true → (t : ℕ) → taken_locks (h ++ group_entries lsn recs said) t ≡ taken_locks h t
locks_group h lsn recs said still t = group_stays (λ h. taken_locks h t) (λ h lsn r s. taken_push h (entries.Rec lsn r) t ∙ still_locks t lsn r (taken_locks h t) s) (λ h x. taken_push h (entries.Said x.session x.tx x.request x.reply) t) h lsn recs said still

pub phases_group : (h : List Entry) (lsn : ℕ) (recs : List Record) (said : Option Said) → list_all is_still recs ≡ true → (t : ℕ) → phase (h ++ group_entries lsn recs said) t ≡ phase h t
phases_group h lsn recs said still t = group_stays (λ h. phase h t) (λ h lsn r s. phase_push h (entries.Rec lsn r) t ∙ still_phase t lsn r s h) (λ h x. phase_push h (entries.Said x.session x.tx x.request x.reply) t) h lsn recs said still

-- ---- its write is told

kept_kind : (made : Option ℕ) (n : Numbers) (r : Record) (lsn : ℕ) → is_write r ≡ false → untold_step (entries.Rec lsn (filled made n r)) ≡ None
kept_kind made n (kinds.Write w) lsn e = absurd (cc e)
kept_kind made n (kinds.Apply w) lsn e = absurd (cc e)
kept_kind made n (kinds.Undo w) lsn e = refl
kept_kind made n _ lsn e = refl

-- of records without an answer the last one is no write
last_told : (made : Option ℕ) (new : ℕ) (asked recs : List Record) (h : List Entry) (lsn : ℕ) → AreFilledFrom made new asked recs → told_by false asked ≡ true → untold (h ++ record_entries lsn recs) ≡ None
last_told made new [] recs h lsn filling told = absurd (cc told)
last_told made new (r ∷ rs) [] h lsn filling told = absurd filling
last_told made new (r ∷ []) (x ∷ y ∷ xs) h lsn filling told = absurd filling.1
last_told made new (r ∷ []) (x ∷ []) h lsn filling told =
    untold_push h (entries.Rec lsn x) ∙ ap (λ (z : Record). untold_step (entries.Rec lsn z)) filling.0.2 ∙ kept_kind made filling.0.0 r lsn (none (is_write r) told)
  where
    none : (b : Bool) → cond b false true ≡ true → b ≡ false
    none true e = absurd (cc e)
    none false e = refl
last_told made new (r ∷ s ∷ rs) (x ∷ []) h lsn filling told = absurd filling.1
last_told made new (r ∷ s ∷ rs) (x ∷ xs) h lsn filling told =
    let both = both_true (not (is_write r)) (told_by false (s ∷ rs)) told in
    ap untold (sym (append_assoc h (entries.Rec lsn x ∷ []) (record_entries (suc lsn) xs))) ∙ last_told made new (s ∷ rs) xs (h ++ entries.Rec lsn x ∷ []) (suc lsn) filling.1 both.1

group_told : (made : Option ℕ) (new : ℕ) (asked recs : List Record) (said : Option Said) (h : List Entry) (lsn : ℕ) → AreFilledFrom made new asked recs → told_by (is_some said) asked ≡ true → untold (h ++ group_entries lsn recs said) ≡ None
group_told made new asked recs None h lsn filling told = ap (λ (es : List Entry). untold (h ++ es)) (append-nil (record_entries lsn recs)) ∙ last_told made new asked recs h lsn filling told
group_told made new asked recs (Some s) h lsn filling told =
    ap untold (sym (append_assoc h (record_entries lsn recs) (entries.Said s.session s.tx s.request s.reply ∷ []))) ∙ untold_push (h ++ record_entries lsn recs) (entries.Said s.session s.tx s.request s.reply)

-- ---- what is filled in is determined

-- where no page is made, its number doesn't matter
fill_same : (log : List Record) (new new' : ℕ) (r : Record) → child_of r ≡ None → fill log None new r ≡ fill log None new' r
fill_same log new new' (kinds.Split s) none = absurd (cc none)
fill_same log new new' (kinds.Grow g) none = absurd (cc none)
fill_same log new new' (kinds.Write w) none = refl
fill_same log new new' (kinds.Apply w) none = refl
fill_same log new new' (kinds.Undo w) none = refl
fill_same log new new' _ none = refl

neither_made : (a b : Option ℕ) → or_else a b ≡ None → (a ≡ None) × (b ≡ None)
neither_made None b e = (refl, e)
neither_made (Some n) b e = absurd (cc e)

fill_free : (log : List Record) (new new' : ℕ) (rs : List Record) → made_by rs ≡ None → fill_all log None new rs ≡ fill_all log None new' rs
fill_free log new new' [] none = refl
fill_free log new new' (r ∷ rs) none =
    let both = neither_made (child_of r) (made_by rs) none in
    let one = fill_same log new new' r both.0 in
    (λ i. one i ∷ fill_all (log ++ one i ∷ []) None new rs) ∙ ap (λ (l : List Record). fill log None new' r ∷ l) (fill_free (log ++ fill log None new' r ∷ []) new new' rs both.1)

-- the number of the page, where one is made
same_number : (log : List Record) (asked : List Record) (child new : ℕ) → (IsSome (made_by asked) → new ≡ child) → fill_all log (made_by asked) new asked ≡ fill_all log (made_by asked) child asked
same_number log asked child new same = by (made_by asked) refl same
  where
    by : (o : Option ℕ) → made_by asked ≡ o → (IsSome o → new ≡ child) → fill_all log o new asked ≡ fill_all log o child asked
    by None e same = fill_free log new child asked e
    by (Some n) e same = ap (λ (m : ℕ). fill_all log (Some n) m asked) (same refl)

link_goes_on : (opening : List Record) (h : List Entry) → AreLawful opening → IsLegal opening h → (log log' : List Record) (made : Option ℕ) (new : ℕ) (r : Record) → LinkRule log' (link_of (fill log made new r)) → RecordRule opening h (fill log made new r)
    → IsGoingOn (may_go_on opening) log' (link_of r)
link_goes_on opening h sound legal log log' made new (kinds.Write w) c rule = (live_goes_on opening h sound legal w.tx rule.0, c.1)
link_goes_on opening h sound legal log log' made new (kinds.Apply a) c rule = (live_goes_on opening h sound legal a.tx rule.0, c.1)
link_goes_on opening h sound legal log log' made new (kinds.Undo u) c rule = (undo_goes_on opening h sound legal u.tx rule, c.1)
link_goes_on opening h sound legal log log' made new (kinds.End e) c rule = (undo_goes_on opening h sound legal e.tx rule, c.1)
link_goes_on opening h sound legal log log' made new (kinds.Commit x) c rule = (live_goes_on opening h sound legal x.tx rule, c.1)
link_goes_on opening h sound legal log log' made new _ c rule = tt

either_false : (a b : Bool) → (a || b) ≡ false → a ≡ false
either_false true b e = absurd (cc e)
either_false false b e = refl

going_before : (goes : ℕ → Bool) (log more : List Record) (o : Option Link) → IsGoingOn goes (log ++ more) o → IsGoingOn goes log o
going_before goes log more None e = tt
going_before goes log more (Some l) e = (e.0, either_false (list_any (finishes l.tx) log) (list_any (finishes l.tx) more) (sym (list_any-append (finishes l.tx) log more) ∙ e.1))

each_before : (goes : ℕ → Bool) (log more : List Record) (rs : List Record) → Each (λ r. IsGoingOn goes (log ++ more) (link_of r)) rs → Each (λ r. IsGoingOn goes log (link_of r)) rs
each_before goes log more [] e = tt
each_before goes log more (r ∷ rs) e = (going_before goes log more (link_of r) e.0, each_before goes log more rs e.1)

first_allowed : (opening : List Record) (h : List Entry) (e : Entry) (es : List Entry) → IsLegal opening (h ++ e ∷ es) → IsLegal opening h × IsAllowed opening h e
first_allowed opening h e es legal = legal_front opening h e (AllAlong_less (IsAllowed opening) (h ++ e ∷ []) es (subst (IsLegal opening) (sym (append_assoc h (e ∷ []) es)) legal))

-- of a legal group each transaction may go on, and has not finished before
going_all : (opening : List Record) → AreLawful opening → (made : Option ℕ) (new : ℕ) (asked : List Record) (h : List Entry) (lsn : ℕ) (es : List Entry) → IsLegal opening (h ++ (record_entries lsn (fill_all (life_log opening h) made new asked) ++ es))
    → Each (λ r. IsGoingOn (may_go_on opening) (life_log opening h) (link_of r)) asked
going_all opening sound made new [] h lsn es legal = tt
going_all opening sound made new (r ∷ rs) h lsn es legal =
    let log = life_log opening h in
    let x = fill log made new r in
    let ok = first_allowed opening h (entries.Rec lsn x) (record_entries (suc lsn) (fill_all (log ++ x ∷ []) made new rs) ++ es) legal in
    let whole = subst (IsLegal opening) (sym (append_assoc h (entries.Rec lsn x ∷ []) (record_entries (suc lsn) (fill_all (log ++ x ∷ []) made new rs) ++ es))) legal in
    let later = going_all opening sound made new rs (h ++ entries.Rec lsn x ∷ []) (suc lsn) es
    (subst (λ (l : List Record). IsLegal opening ((h ++ entries.Rec lsn x ∷ []) ++ (record_entries (suc lsn) (fill_all l made new rs) ++ es))) (sym (log_more opening h lsn x)) whole) in
    let there = subst (λ (l : List Record). Each (λ r. IsGoingOn (may_go_on opening) l (link_of r)) rs) (log_more opening h lsn x) later in (
      link_goes_on opening h sound ok.0 log log made new r ok.1.rule.lawful.chain ok.1.rule.rule,
      each_before (may_go_on opening) log (x ∷ []) rs there,
    )

-- ---- the history behind it

module _ (opens : List Record → Type 0) (h : List Entry) (c : IsConsistent opens h) (g : Group) (is_group : IsGroup g) (child lsn : ℕ) (now : List Record) (filling : AreFilled child g.recs now)
    (follows : (opening : List Record) → opens opening → MayFollow opening h g)
    (number : (opening : List Record) → opens opening → IsSome (made_by g.recs) → child ≡ suc (pages (life_log opening h)))
    (told : (opening : List Record) → opens opening → Each (λ r. IsGoingOn (may_go_on opening) (life_log opening h) (link_of r)) g.recs → now ≡ fill_all (life_log opening h) (made_by g.recs) child g.recs)
    (next : IsNext opens h lsn) where
  determined : (opening : List Record) (stands : opens opening) → (follows opening stands).recs ≡ now
  determined opening stands =
      let log = life_log opening h in
      let m = follows opening stands in
      let law = entered_law opening h g in
      let is : m.recs ≡ fill_all log (made_by g.recs) m.new g.recs = law.determined m in
      let same : fill_all log (made_by g.recs) m.new g.recs ≡ fill_all log (made_by g.recs) child g.recs = same_number log g.recs child m.new (λ some. law.new is_group.kinds m some ∙ sym (number opening stands some)) in
      let legal = subst (λ (rs : List Record). IsLegal opening (h ++ (record_entries (suc (length log)) rs ++ said_entries g.said))) is m.legal in
      is ∙ same ∙ sym (told opening stands (going_all opening (opened_lawful opens opening stands h c) (made_by g.recs) m.new g.recs h (suc (length log)) (said_entries g.said) legal))

  abbrev done : List Entry
  done = h ++ group_entries lsn now g.said

  rests : (opening : List Record) → opens opening → IsAtRest opening done
  rests opening stands =
      let log = life_log opening h in
      let m = follows opening stands in
      let law = entered_law opening h g in
      let rest = law.rest (opened_lawful opens opening stands h c) (at_rest opens opening stands h c) is_group.told m in
      let at : suc (length log) ≡ lsn = let p = (next opening stands).0 in omega (arith, p) in
      subst (λ (z : ℕ × List Record). IsAtRest opening (h ++ group_entries z.0 z.1 g.said)) (λ i. (at i, determined opening stands i)) rest

  pub group_follows : GroupFollows opens h lsn now g.said
  group_follows = record {
    consistent = record {
      legal = λ opening stands. (rests opening stands).legal;
      sound = λ opening stands. (rests opening stands).sound;
      some = λ opening stands is. c.some opening stands (empty_front (life_log opening h) now (sym (log_group opening h lsn now g.said) ∙ is));
      told = group_told (made_by g.recs) child g.recs now g.said h lsn filling is_group.told;
      split = λ opening stands. (rests opening stands).split;
    };
    lawful = λ opening stands. subst AreLawful (log_group opening h lsn now g.said) (rests opening stands).sound.lawful;
  }
    where
      empty_front : (xs ys : List Record) → xs ++ ys ≡ [] → xs ≡ []
      empty_front [] ys e = refl
      empty_front (x ∷ xs) ys e = absurd (cc e)

-- ---- the log that the listing knows

pub known : {D : Type 0} (tells : Type 0) (told : D → Kept) (may_leave : D → Kept → Type 0) (goes : ℕ → Bool) (rs : List Record) (m : Managed D) (s : Listing) → IsLogWith tells told may_leave goes rs m s → IsKnown goes rs s
known tells told may_leave goes rs m s k = record { lawful = k.lawful; listing = k.listing; noted_last = k.noted }

pub next_of : {D : Type 0} (opens : List Record → Type 0) (tells : Type 0) (told : D → Kept) (may_leave : D → Kept → Type 0) (h : List Entry) (m : Managed D) (s : Listing) (last lsn : ℕ)
    → AreRecords opens tells told may_leave h m s → last ≡ m.log.next - 1 → last < 2 ^ 62 → lsn ≡ m.log.next → IsNext opens h lsn
next_of opens tells told may_leave h m s last lsn records is low at opening stands = let n = (records opening stands).next in (omega (arith, n, at), omega (arith, is, low, at))

-- a store has no more pages than a record can tell
pub few_pages : (opens : List Record → Type 0) (h : List Entry) → IsConsistent opens h → (opening : List Record) → opens opening → pages (life_log opening h) < 2 ^ 32
few_pages opens h c opening stands = let most = (pages_law (life_log opening h)).most (c.sound opening stands) in omega (arith, most)

-- and no more writes wait
pub few_pending : (opens : List Record → Type 0) (h : List Entry) → IsConsistent opens h → (opening : List Record) → opens opening → pending (life_log opening h) < 2 ^ 32
few_pending opens h c opening stands =
    let sound = c.sound opening stands in
    let room = sound.room (c.some opening stands) in
    let most = (pages_law (life_log opening h)).limit sound.lawful in
    omega (arith, room, most)

-- no record names a page beyond the count
pub headless : (opens : List Record → Type 0) (h : List Entry) → IsConsistent opens h → (opening : List Record) → opens opening → (p : ℕ) → p ≡ suc (pages (life_log opening h)) → page_book opening h p ≡ 0
headless opens h c opening stands p at =
    let log = life_log opening h in
    let lawful = (c.sound opening stands).lawful in
    unimaged p log lawful ((head_law log p).beyond lawful (omega (arith, at)))

-- so the right to it agrees
pub next_agrees : (opens : List Record → Type 0) (h : List Entry) → IsConsistent opens h → (p : PageClaim) → IsNextPage opens h p → (opening : List Record) → opens opening → p.lsn ≡ page_book opening h p.page
next_agrees opens h c p is opening stands = is.none ∙ sym (headless opens h c opening stands p.page (is.next opening stands))

-- ---- the right to the page that it makes

module _ (opens : List Record → Type 0) (h : List Entry) (made : Option ℕ) (new : Option PageClaim) (child : ℕ) (some : IsSome made → IsSome new) (right : IfSome new (IsNextPage opens h)) (is : IfSome new (λ p. child ≡ p.page)) where
  there : IsSome made → (p : PageClaim) × IsNextPage opens h p × (child ≡ p.page)
  there makes = by new (some makes) right is
    where
      by : (o : Option PageClaim) → IsSome o → IfSome o (IsNextPage opens h) → IfSome o (λ p. child ≡ p.page) → (p : PageClaim) × IsNextPage opens h p × (child ≡ p.page)
      by None s r i = absurd (cc s)
      by (Some p) s r i = (p, r, i)

  pub child_next : (opening : List Record) → opens opening → IsSome made → child ≡ suc (pages (life_log opening h))
  child_next opening stands makes = let t = there makes in t.2 ∙ t.1.next opening stands

  pub child_numbered : IsSome made → IsTrue (is_child child)
  child_numbered makes = let t = there makes in subst (λ (n : ℕ). IsTrue (is_child n)) (sym t.2) t.1.child

  pub new_right_is : (made ≡ None → new ≡ None) → IsNewRight made child new
  new_right_is none = by made new none some is
    where
      by : (m : Option ℕ) (o : Option PageClaim) → (m ≡ None → o ≡ None) → (IsSome m → IsSome o) → IfSome o (λ p. child ≡ p.page) → IsNewRight m child o
      by None o none some is = none refl
      by (Some n) None none some is = absurd (cc (some refl))
      by (Some n) (Some p) none some is = ap Some (sym is)

child_is_page : (n : ℕ) → is_child n ≡ true → is_page n ≡ true
child_is_page n is = let both = both_true (nat_le 2 n) (nat_le n MOST_PAGES) is in let low = leb-true 2 n both.0 in grind (arith, nat_tests, low, both.1)

-- it may be entered with the group that names its page
pub named_page : (opens : List Record → Type 0) (h : List Entry) (new : Option PageClaim) (recs : List Record) → IfSome new (IsNextPage opens h) → IfSome new (λ p. list_any (names p.page) recs ≡ true)
    → IfSome new (λ p. IsTrue (is_page p.page) × (list_any (names p.page) recs ≡ true))
named_page opens h None recs next named = tt
named_page opens h (Some p) recs next named = (child_is_page p.page next.child, named)

pub page_agrees : (opens : List Record → Type 0) (h : List Entry) → IsConsistent opens h → (new : Option PageClaim) → IfSome new (IsNextPage opens h) → IfSome new (PageAgrees opens h)
page_agrees opens h c None next = tt
page_agrees opens h c (Some p) next = next_agrees opens h c p next

pub next_page_is : (n : ℕ) → is_child n ≡ true → IsTrue (is_page n)
next_page_is n is = child_is_page n is

-- ---- as the journal fills it in

pub spelled_asked : (g : Group) (new : ℕ) (now : List Record) → IsGroup g → AreFilled new g.recs now → length now ≤ 2 → Each AreInRange now → All HasSpelling now × (length (bytes_of now) ≤ 4194304)
spelled_asked g new now is filling few x = spelled_group (made_by g.recs) new g.recs now filling is.spelled few x

pub filled_follows : (opens : List Record → Type 0) (h : List Entry) → IsConsistent opens h → (g : Group) → IsGroup g → (made : Option ℕ) (new : Option PageClaim) (child lsn : ℕ) (now : List Record) → made ≡ made_by g.recs
    → (IsSome made → IsSome new) → IfSome new (IsNextPage opens h) → IfSome new (λ p. child ≡ p.page) → AreFilled child g.recs now → ((opening : List Record) → opens opening → HasNumbers opening h → MayFollow opening h g)
    → ((opening : List Record) → opens opening → Each (λ r. IsGoingOn (may_go_on opening) (life_log opening h) (link_of r)) g.recs → now ≡ fill_all (life_log opening h) made child g.recs) → IsNext opens h lsn → GroupFollows opens h lsn now g.said
filled_follows opens h c g is_group made new child lsn now same some right is filling follows told next =
    group_follows opens h c g is_group child lsn now filling
    (λ opening stands. follows opening stands (let at = (next opening stands).0 in let low = (next opening stands).1 in omega (arith, at, low)))
    (λ opening stands makes. child_next opens h made new child some right is opening stands (subst (λ (o : Option ℕ). IsSome o) (sym same) makes))
    (λ opening stands runs. told opening stands runs ∙ ap (λ (o : Option ℕ). fill_all (life_log opening h) o child g.recs) same)
    next

module _ {D : Type 0} (opens : List Record → Type 0) (tells : Type 0) (told : D → Kept) (may_leave : D → Kept → Type 0) (hist h : List Entry) (m : Managed D) (s s' : Listing) (last : ℕ) where
  pub known_at : AreRecords opens tells told may_leave hist m s → hist ≡ h → s' ≡ s → ((goes : ℕ → Bool) (rs : List Record) → IsLogWith tells told may_leave goes rs m s → last ≡ length rs) → (opening : List Record) → opens opening → IsKnown (may_go_on opening) (life_log opening h) s' × (last + 1 ≡ length (life_log opening h) + 1)
  known_at records now same at opening stands =
      let k = records opening stands in
      subst (λ (x : List Entry × Listing). IsKnown (may_go_on opening) (life_log opening x.0) x.1 × (last + 1 ≡ length (life_log opening x.0) + 1)) (λ i. (now i, sym same i))
      (known tells told may_leave (may_go_on opening) (life_log opening hist) m s k, ap (λ (n : ℕ). n + 1) (at (may_go_on opening) (life_log opening hist) k))
