-- A lock that is held, one that waits for a loser, and one that is refused: what the lock table and the listing answer is
-- what a legal history asks for, where the table holds exactly the locks that were taken.
use Rattle.std.proofs.Common.{◌≡◌, ◌≢◌, ℕ, zero, suc, eqb, cond, ◌<◌, List, [], ◌∷◌, ◌++◌, length, get_or, Bool, true, false, Option, Some, None, refl, sym, ap, ◌∙◌, subst, inl, inr, arith, append-nil, Ordering, Less, Equal, Greater}
use Rattle.std.specs.Prelude.{◌↔◌, ◌⊎◌, ◌&&◌, ◌||◌, not, IsTrue}
use Rattle.std.specs.List.{find, list_any}
use Rattle.std.specs.Cmp.{nat_cmp_is}
use Rattle.std.specs.Cmp.Lexicographic.{slice_cmp, nat_list_cmp_total}
use Rattle.std.specs.Ordering.{nat_cmp, is_gt, is_lt, ordering_then, ordering_reverse}
use Rattle.std.proofs.lemmas.Bool.{eqb-true}
use Rattle.store_model.proofs.Bools.{both_true, false_unless, or_right}
use Rattle.store_model.specs.Range.{Interval, overlap, is_below}
use Rattle.store_model.specs.declared.range.Mode.{Mode}
use Rattle.store_model.specs.declared.range.Mode.TheVariants.{Shared, Exclusive}
use Rattle.books.specs.Rights.{SessionClaim}
use Rattle.wal_record.specs.History.{Live, Phase, log_of, phase, is_live, life_log}
use Rattle.wal_record.specs.Legal.{held, IsLegal}
use Rattle.wal_record.specs.Locks.{Held, locks_step, taken_locks, loser_locks, locks, is_exclusive, conflict, blocks}
use Rattle.wal_record.specs.OpenWrites.{is_loser, losers, open_writes}
use Rattle.wal_record.specs.Sound.{AreLawful}
use Rattle.wal_record.specs.declared.record.Record.{Record}
use Rattle.wal_record.specs.declared.entry.Entry.{Entry}
use Rattle.wal_record.specs.declared.entry.Entry.TheVariants as entries
use Rattle.wal_record.proofs.Pushes.{taken_push}
use Rattle.log_laws.proofs.Central.{eqb_differ, eqb_self, differ}
use Rattle.log_index.specs.Listing.{IsListingOf}
use Rattle.log_index.specs.declared.listing.Listing.{Listing}
use Rattle.log_laws.proofs.Beginnings.{beginning}
use Rattle.log_laws.proofs.Holders.{holders}
use Rattle.loser_laws.specs.Losers.{AreLosers, has_open_in}
use Rattle.loser_laws.proofs.Least.{least}
use Rattle.loser_laws.proofs.Ways.{ways}
use Rattle.losers.specs.declared.losers.LoserState.{LoserState}
use Rattle.claim_laws.proofs.Sessions.{session_law}
use Rattle.range_lock.specs.Held as table
use Rattle.range_lock.specs.Lock as ranges
use Rattle.range_lock.specs.Lock.{Lock, IsAmong}
use Rattle.range_lock.specs.Nearest.{lock_of, rival_of, IsFirstInConflict}
use Rattle.range_lock.specs.Order.{bound_cmp, range_cmp, rival_cmp}
use Rattle.range_lock.specs.declared.range_locks.RangeLocks.{RangeLocks}
use Rattle.range_lock.specs.declared.rival.Rival.{Rival}
use Rattle.range_lock.proofs.Holding.{any_among, among_any}
use Rattle.range_lock.proofs.Texts.{above_is, tied_is}
use Rattle.page_ops.specs.Claims.{SessionAgrees}
use Rattle.page_ops.specs.Outcomes.{IsFirst, IsFirstConflict, IsLeastLoser}
use Rattle.page_ops.specs.Seeing.{IsConsistent}
use Rattle.life_history.proofs.Own.{consistent_entry}
use Rattle.journal.specs.Locks.{AreHeld, AreAcknowledged, IsBarred, IsFree, first_in}

-- ---- members

none_among : {A : Type 0} (t : A → Bool) (xs : List A) → ((x : A) → IsAmong x xs → t x ≡ false) → list_any t xs ≡ false
none_among t xs h = false_unless (list_any t xs) (λ some. let found = any_among t xs some in absurd (cc (found.2, h found.0 found.1)))

among_at : {A : Type 0} (xs : List A) (k : ℕ) (d : A) → k < length xs → IsAmong (get_or xs k d) xs
among_at [] k d lt = absurd (omega (arith, lt))
among_at (x ∷ xs) zero d lt = inl refl
among_at (x ∷ xs) (suc k) d lt = inr (among_at xs k d (omega (arith, lt)))

split_at : {A : Type 0} (x : A) (xs : List A) → IsAmong x xs → (front : List A) × (back : List A) × (xs ≡ front ++ x ∷ back)
split_at x (y ∷ ys) (inl same) = ([], ys, ap (λ z. z ∷ ys) (sym same))
split_at x (y ∷ ys) (inr more) = let parts = split_at x ys more in (y ∷ parts.0, parts.1, ap (λ zs. y ∷ zs) parts.2)
split_at x [] m = absurd m

and_last : (a b : Bool) → (a && b) ≡ true → b ≡ true
and_last true b e = e
and_last false b e = absurd (cc e)

both_hold : (a b : Bool) → a ≡ true → b ≡ true → (a && b) ≡ true
both_hold a b p q = ap (λ c. c && b) p ∙ q

-- ---- the two words for a conflict

exclusive_is : (m : Mode) → ranges.is_exclusive m ≡ is_exclusive m
exclusive_is Shared = refl
exclusive_is Exclusive = refl

conflict_is : (a l : Lock) → l.tx ≢ a.tx → ranges.conflict a l ≡ conflict (held a.range a.mode) (held l.range l.mode)
conflict_is a l apart =
    ap (λ b. not b && ranges.bars a.range a.mode l) (eqb_differ l.tx a.tx apart)
    ∙ (λ i. overlap a.range l.range && (exclusive_is a.mode i || exclusive_is l.mode i))

-- a transaction's own lock conflicts with none of its
conflict_apart : (a l : Lock) → ranges.conflict a l ≡ true → l.tx ≢ a.tx
conflict_apart a l c same = let none = ap (λ b. not b && ranges.bars a.range a.mode l) (ap (λ t. eqb l.tx t) (sym same) ∙ eqb_self l.tx) in absurd (cc (c, none))

-- ---- who is live

pub live_of : (h : List Entry) (s : SessionClaim) → SessionAgrees h s → 0 < s.tx → AreAcknowledged h → phase h s.tx ≡ Live
live_of h s agrees some calm = elim ((session_law [] h [] s.session).active s.tx (λ none. absurd (omega (arith, some, none))) (sym agrees.tx)) [
  | inl live ↦ live
  | inr waits ↦ absurd (calm s.tx waits)
]

-- no loser has an open write of a key in the range
abbrev pub NoneInWay : List Record → List Entry → Interval → Type 0
NoneInWay opening h range = (t : ℕ) → (is_loser opening t && has_open_in range (life_log opening h) t) ≡ false

unless_open : (b c : Bool) → (b ≡ true → c ≡ false) → (b && c) ≡ false
unless_open true c f = f refl
unless_open false c f = refl

is_live_is : (p : Phase) → is_live p ≡ true → p ≡ Live
is_live_is Live e = refl
is_live_is _ e = absurd (cc e)

-- none is in the way where the first one isn't found, or where a lock that was taken is
pub none_in_way : (opening : List Record) (h : List Entry) (t : RangeLocks) (a : Lock) (s : Listing) (xs : List LoserState) → AreLawful opening → AreLawful (life_log opening h) → IsListingOf (life_log opening h) s → AreLosers opening h xs → IsFree t a
    → IsBarred t a ⊎ ((log : List Record) → IsListingOf log s → AreLawful log → first_in a.range log xs ≡ None) → NoneInWay opening h a.range
none_in_way opening h t a s xs sound lawful listed k free (inl barred) u = absurd (cc (barred.2, free barred.0 barred.1))
none_in_way opening h t a s xs sound lawful listed k free (inr none) u =
    let p = has_open_in a.range (life_log opening h) in
    unless_open (is_loser opening u) (p u) ((least opening p).none sound (ap (find p) (sym k.txs) ∙ none (life_log opening h) listed lawful) u)

-- the opening log is lawful
pub opening_lawful : (opens : List Record → Type 0) (h : List Entry) → IsConsistent opens h → (opening : List Record) → opens opening → AreLawful opening
opening_lawful opens h c opening stands = (beginning opening (log_of h)).lawful (c.sound opening stands).lawful

-- the held locks of who is no loser are those that were taken
pub locks_taken : (opening : List Record) (h : List Entry) (t : ℕ) → is_loser opening t ≡ false → locks opening h t ≡ taken_locks h t
unfolding locks
locks_taken opening h t none = ap (λ b. taken_locks h t ++ loser_locks b (open_writes (life_log opening h) t)) none ∙ append-nil (taken_locks h t)

module _ (h : List Entry) (t : RangeLocks) (k : AreHeld h t) where
  lock_by : ℕ → Held → Lock
  lock_by tx x = record { tx = tx; range = x.range; mode = x.mode }

  -- who holds no lock in conflict that was taken doesn't block
  unblocked : (opening : List Record) (a : Lock) → AreLawful opening → IsLegal opening h → (other : ℕ) → list_any (conflict (held a.range a.mode)) (taken_locks h other) ≡ false → blocks opening h (held a.range a.mode) other ≡ false
  unblocked opening a sound legal other none = false_unless (blocks opening h (held a.range a.mode) other) (λ blocked.
      let both = both_true (is_live (phase h other)) _ blocked in
      let apart = (ways opening h).live sound legal other (is_live_is (phase h other) both.0) in
      let free = ap (list_any (conflict (held a.range a.mode))) (locks_taken opening h other apart) ∙ none in
      absurd (cc (both.1, free)))

  -- ---- a lock more

  free_taken : (a : Lock) → ((l : Lock) → table.Holds t l → ranges.conflict a l ≡ false) → (other : ℕ) → other ≢ a.tx → list_any (conflict (held a.range a.mode)) (taken_locks h other) ≡ false
  free_taken a free other apart = none_among (conflict (held a.range a.mode)) (taken_locks h other) (λ x among.
      let l : Lock = record { tx = other; range = x.range; mode = x.mode } in
      sym (conflict_is a l apart) ∙ free l ((k l).1 among))

  pub may_lock : (opening : List Record) (a : Lock) → NoneInWay opening h a.range → ((l : Lock) → table.Holds t l → ranges.conflict a l ≡ false)
      → (other : ℕ) → other ≢ a.tx → list_any (conflict (held a.range a.mode)) (locks opening h other) ≡ false
  may_lock opening a none free other apart = (ways opening h).conflicts (held a.range a.mode) other ∙ (λ i. free_taken a free other apart i || none other i)

  -- the least loser whose open write has its key in the range, where no lock that was taken conflicts
  pub waits_for : (opening : List Record) (a : Lock) (xs : List LoserState) → AreLawful opening → IsLegal opening h → AreLosers opening h xs → IsFree t a → (loser : ℕ) → first_in a.range (life_log opening h) xs ≡ Some loser
      → IsLeastLoser opening h a.tx (held a.range a.mode) loser
  waits_for opening a xs sound legal k' free loser found =
      let lock = held a.range a.mode in
      let p = has_open_in a.range (life_log opening h) in
      let law = least opening p in
      let is : find p (losers opening) ≡ Some loser = ap (find p) (sym k'.txs) ∙ found in
      let one = law.some loser is in
      record {
        free = λ other apart. unblocked opening a sound legal other (free_taken a free other apart);
        loser = one.0;
        holds = (ways opening h).conflicts lock loser ∙ or_right (list_any (conflict lock) (taken_locks h loser)) (is_loser opening loser && p loser) (both_hold (is_loser opening loser) (p loser) one.0 one.1);
        least = λ other apart low. (ways opening h).conflicts lock other ∙ (λ i. free_taken a free other apart i || unless_open (is_loser opening other) (p other) (λ is'. law.least sound loser is other low is') i);
      }

  pub held_more : (t' : RangeLocks) (a : Lock) → table.Gains t t' a → AreHeld (h ++ entries.Lock a.tx a.range a.mode ∷ []) t'
  held_more t' a gains l = subst (λ (ls : List Held). table.Holds t' l ↔ IsAmong (held l.range l.mode) ls) (sym (taken_push h (entries.Lock a.tx a.range a.mode) l.tx)) (by (eqb a.tx l.tx) refl)
    where
      by : (b : Bool) → eqb a.tx l.tx ≡ b → table.Holds t' l ↔ IsAmong (held l.range l.mode) (cond b (held a.range a.mode ∷ taken_locks h l.tx) (taken_locks h l.tx))
      by true e = (
        λ now. elim ((gains l).0 now) [
          | inl same ↦ inl (ap (λ (x : Lock). held x.range x.mode) same)
          | inr was ↦ inr ((k l).0 was)
        ],
        λ among. (gains l).1 (elim among [
          | inl same ↦ inl (λ i. record { tx = sym (eqb-true a.tx l.tx e) i; range = (same i).range; mode = (same i).mode })
          | inr more ↦ inr ((k l).1 more)
        ]),
      )
      by false e = (
        λ now. elim ((gains l).0 now) [
          | inl same ↦ absurd (differ a.tx l.tx e (ap (λ (x : Lock). x.tx) (sym same)))
          | inr was ↦ (k l).0 was
        ],
        λ among. (gains l).1 (inr ((k l).1 among)),
      )

  pub held_same : (t' : RangeLocks) → table.HoldsTheSame t t' → AreHeld h t'
  held_same t' same l = (λ now. (k l).0 ((same l).0 now), λ among. (same l).1 ((k l).1 among))

  -- an entry that takes no lock and releases none
  pub held_still : (e : Entry) → ((u : ℕ) (ls : List Held) → locks_step u ls e ≡ ls) → AreHeld (h ++ e ∷ []) t
  held_still e calm l = subst (λ (ls : List Held). table.Holds t l ↔ IsAmong (held l.range l.mode) ls) (sym (taken_push h e l.tx ∙ calm l.tx (taken_locks h l.tx))) (k l)

  pub held_refused : (t' : RangeLocks) (a : Lock) (holder : ℕ) → table.HoldsTheSame t t' → AreHeld (h ++ entries.Refused a.tx a.range a.mode holder ∷ []) t'
  held_refused t' a holder same l =
      subst (λ (ls : List Held). table.Holds t' l ↔ IsAmong (held l.range l.mode) ls) (sym (taken_push h (entries.Refused a.tx a.range a.mode holder) l.tx)) (held_same t' same l)

  -- ---- a conflict

  module _ (a : Lock) (r : Rival) (f : IsFirstInConflict a (table.held t) r) where
    abbrev rival : Lock
    rival = lock_of r f.mode

    pub rival_apart : r.holder ≢ a.tx
    rival_apart = conflict_apart a rival f.conflicts

    rival_conflicts : conflict (held a.range a.mode) (held r.range f.mode) ≡ true
    rival_conflicts = sym (conflict_is a rival rival_apart) ∙ f.conflicts

    rival_taken : IsAmong (held r.range f.mode) (taken_locks h r.holder)
    rival_taken = (k rival).0 f.held

    rival_any : list_any (conflict (held a.range a.mode)) (taken_locks h r.holder) ≡ true
    rival_any = among_any (conflict (held a.range a.mode)) (held r.range f.mode) (taken_locks h r.holder) rival_taken rival_conflicts

    -- each lock in conflict comes after it
    not_before : (l : Lock) → IsAmong (held l.range l.mode) (taken_locks h l.tx) → l.tx ≢ a.tx → conflict (held a.range a.mode) (held l.range l.mode) ≡ true → is_gt (rival_cmp r (rival_of l)) ≡ false
    not_before l among apart c = f.first l ((k l).1 among) (conflict_is a l apart ∙ c)

    -- so no lower transaction has one
    lower_free : (other : ℕ) → other ≢ a.tx → other < r.holder → list_any (conflict (held a.range a.mode)) (taken_locks h other) ≡ false
    lower_free other apart low = none_among (conflict (held a.range a.mode)) (taken_locks h other) (λ x among. false_unless (conflict (held a.range a.mode) x) (λ c.
        let l : Lock = record { tx = other; range = x.range; mode = x.mode } in
        let before : is_gt (rival_cmp r (rival_of l)) ≡ true = ap (λ o. is_gt (ordering_then o (range_cmp r.range x.range))) (sym (nat_cmp_is r.holder other Greater low)) in
        let after = not_before l among apart c in
        absurd (cc (before, after))))

    -- of the holder's locks in conflict it is the first
    first_of_holder : (l : Held) → IsAmong l (taken_locks h r.holder) → conflict (held a.range a.mode) l ≡ true → is_gt (range_cmp r.range l.range) ≡ false
    first_of_holder l among c =
        let own : Lock = record { tx = r.holder; range = l.range; mode = l.mode } in
        ap (λ o. is_gt (ordering_then o (range_cmp r.range l.range))) (nat_cmp_is r.holder r.holder Equal refl) ∙ not_before own among rival_apart c

    -- who has taken a lock is no loser, and live
    pub holder_apart : (opening : List Record) → AreLawful opening → IsLegal opening h → is_loser opening r.holder ≡ false
    holder_apart opening sound legal = false_unless (is_loser opening r.holder) (λ loser.
        subst (λ (ls : List Held). IsAmong (held r.range f.mode) ls) ((ways opening h).untaken sound legal r.holder loser) rival_taken)

    pub may_refuse : (opening : List Record) → AreLawful opening → IsLegal opening h → IsTrue (blocks opening h (held a.range a.mode) r.holder) × ((other : ℕ) → other ≢ a.tx → other < r.holder → blocks opening h (held a.range a.mode) other ≡ false)
    may_refuse opening sound legal =
        let apart = holder_apart opening sound legal in
        let any : list_any (conflict (held a.range a.mode)) (locks opening h r.holder) ≡ true = ap (list_any (conflict (held a.range a.mode))) (locks_taken opening h r.holder apart) ∙ rival_any in
        let live : phase h r.holder ≡ Live = elim ((holders opening h).holder legal r.holder (conflict (held a.range a.mode)) any) [
          | inl live ↦ live
          | inr loser ↦ absurd (cc (loser, apart))
        ] in (
          both_hold (is_live (phase h r.holder)) _ (ap is_live live) any,
          λ other apart low. unblocked opening a sound legal other (lower_free other apart low),
        )

    pub is_first : (ls : List Held) → ls ≡ taken_locks h r.holder → IsFirstConflict ls (held a.range a.mode) r.range
    is_first ls same =
        let parts = split_at (held r.range f.mode) (taken_locks h r.holder) rival_taken in
        record {
          one = held r.range f.mode;
          front = parts.0;
          back = parts.1;
          among = same ∙ parts.2;
          conflicts = rival_conflicts;
          same = refl;
          first = λ n d lt c.
              let l = get_or ls n d in
              let among : IsAmong l (taken_locks h r.holder) = subst (λ (xs : List Held). IsAmong l xs) same (among_at ls n d lt) in
              first_ranges r.range l.range (first_of_holder l among c);
        }
      where
        not_above : (o p : Ordering) → is_gt (ordering_then o p) ≡ false → o ≡ Greater → ⊥
        not_above o p e g = let t : is_gt (ordering_then o p) ≡ true = ap (λ q. is_gt (ordering_then q p)) g in absurd (cc (e, t))

        not_behind : (o p : Ordering) → is_gt (ordering_then o p) ≡ false → o ≡ Equal → p ≡ Greater → ⊥
        not_behind o p e s g = let t : is_gt (ordering_then o p) ≡ true = λ i. is_gt (ordering_then (s i) (g i)) in absurd (cc (e, t))

        not_less : (o : Ordering) → o ≡ ordering_reverse o → is_lt o ≡ false
        not_less Less e = absurd (cc e)
        not_less Equal e = refl
        not_less Greater e = refl

        never_below : (x : Option (List ℕ)) → is_below x x ≡ false
        never_below None = refl
        never_below (Some text) = not_less (slice_cmp nat_cmp text text) (nat_list_cmp_total.antisymm text text)

        first_ranges : (x y : Interval) → is_gt (range_cmp x y) ≡ false → IsFirst x y
        first_ranges x y e = (
          false_unless (is_below y.low x.low) (λ b. not_above (bound_cmp x.low y.low) (bound_cmp x.high y.high) e (above_is x.low y.low b)),
          λ same. false_unless (is_below y.high x.high) (λ b.
              let tied : bound_cmp x.low y.low ≡ Equal = ap (bound_cmp x.low) same ∙ tied_is x.low x.low (never_below x.low) (never_below x.low) in
              not_behind (bound_cmp x.low y.low) (bound_cmp x.high y.high) e tied (above_is x.high y.high b)),
        )

-- ---- the entries

module _ (opens : List Record → Type 0) (h : List Entry) (c : IsConsistent opens h) (t : RangeLocks) (k : AreHeld h t) (a : Lock) (live : phase h a.tx ≡ Live) where
  pub lock_consistent : ((opening : List Record) → opens opening → NoneInWay opening h a.range) → ((l : Lock) → table.Holds t l → ranges.conflict a l ≡ false) → IsConsistent opens (h ++ entries.Lock a.tx a.range a.mode ∷ [])
  lock_consistent none free = consistent_entry opens h (entries.Lock a.tx a.range a.mode) c refl refl (λ log. refl) (λ opening stands. record {
    told = c.told;
    live = live;
    free = may_lock h t k opening a (none opening stands) free;
  })

  module _ (r : Rival) (f : IsFirstInConflict a (table.held t) r) where
    abbrev refusal : Entry
    refusal = entries.Refused a.tx a.range a.mode r.holder

    pub refused_consistent : IsConsistent opens (h ++ refusal ∷ [])
    refused_consistent = consistent_entry opens h refusal c refl refl (λ log. refl) (λ opening stands.
        let law = may_refuse h t k a r f opening (opening_lawful opens h c opening stands) (c.legal opening stands) in
        record {
          told = c.told;
          live = live;
          other = rival_apart h t k a r f;
          holds = law.0;
          least = law.1;
        })

    pub conflict_told : (opening : List Record) → opens opening → IsFirstConflict (locks opening (h ++ refusal ∷ []) r.holder) (held a.range a.mode) r.range
    conflict_told opening stands =
        let apart = holder_apart h t k a r f opening (opening_lawful opens h c opening stands) (c.legal opening stands) in
        is_first h t k a r f _ (locks_taken opening (h ++ refusal ∷ []) r.holder apart ∙ taken_push h refusal r.holder)
