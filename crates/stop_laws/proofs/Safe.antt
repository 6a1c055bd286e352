-- What of a life's log is safe, from its beginning on: entries join, a call of the disk goes well or fails, a commit is
-- acknowledged, and the life stops.
use Rattle.std.proofs.Common.{◌≡◌, ℕ, eqb, ◌+◌, ◌≤◌, List, [], ◌∷◌, ◌++◌, length, take, drop, Option, Some, None, Bool, true, false, refl, sym, ap, ◌∙◌, subst, arith, append_assoc, append-nil, length-append, length-take, take-append-drop}
use Rattle.std.specs.Prelude.{◌||◌, ◌-◌, is_some}
use Rattle.std.specs.List.{list_any}
use Rattle.std.proofs.lemmas.List.{append_cancel_left, take-append-le}
use Rattle.std.proofs.lemmas.List.Folds.{list_any-append}
use Rattle.std.proofs.Math.Seq.{take-append-add, take-append_seam}
use Rattle.log_blocks.specs.LogState.{LogState, durable_lsn}
use Rattle.log_manager.specs.Groups.{records_of}
use Rattle.media.specs.Kept.{Kept}
use Rattle.store_model.proofs.Bools.{or_left, not_both}
use Rattle.wal_record.specs.History.{life_log, log_of}
use Rattle.wal_record.specs.Left.{acknowledges, is_commit_of}
use Rattle.log_manager.specs.Devices.{StandsForLog}
use Rattle.wal_record.specs.Sound.{AreLawful, HasRoom, IsLawful}
use Rattle.std.proofs.lemmas.Bool.{eqb-true}
use Rattle.wal_record.specs.declared.entry.Entry.{Entry}
use Rattle.wal_record.specs.declared.entry.Entry.TheVariants as entries
use Rattle.wal_record.specs.declared.record.Record.{Record}
use Rattle.wal_record.proofs.Along.{AllAlong_less}
use Rattle.stop_laws.specs.Stops.{GoesOnOrEnds, HasAcknowledged, IsSafe, KeepsFirst, LeavesLife, StandsForFirst, StandsForLeft, WaitsInGroups}

-- ---- lists

pub logs_append : (h g : List Entry) → log_of (h ++ g) ≡ log_of h ++ log_of g
logs_append [] g = refl
logs_append (entries.Rec lsn r ∷ h) g = ap (λ (rs : List Record). r ∷ rs) (logs_append h g)
logs_append (entries.Began session tx ∷ h) g = logs_append h g
logs_append (entries.Lock tx range mode ∷ h) g = logs_append h g
logs_append (entries.Refused tx range mode holder ∷ h) g = logs_append h g
logs_append (entries.Said session tx request reply ∷ h) g = logs_append h g
logs_append (entries.Declined session tx request why ∷ h) g = logs_append h g
logs_append (entries.Acked session tx ∷ h) g = logs_append h g
logs_append (entries.Repaired page ∷ h) g = logs_append h g

pub life_append : (opening : List Record) (h es : List Entry) → life_log opening (h ++ es) ≡ life_log opening h ++ log_of es
life_append opening h es = ap (λ (rs : List Record). opening ++ rs) (logs_append h es) ∙ sym (append_assoc opening (log_of h) (log_of es))

either : (a b : Bool) → (a || b) ≡ true → b ≡ false → a ≡ true
either true b e f = refl
either false b e f = absurd (not_both b e f)

-- what stands among the first stands among more
among_more : (p : Record → Bool) (m n : ℕ) (rs : List Record) → m ≤ n → m ≤ length rs → list_any p (take m rs) ≡ true → list_any p (take n rs) ≡ true
among_more p m n rs le within is =
    let size : length (take m rs) ≡ m = omega (arith, length-take m rs, within) in
    let more : n ≡ length (take m rs) + (n - m) = omega (arith, size, le) in
    let split : take n rs ≡ take m rs ++ take (n - m) (drop m rs) =
    ap (take n) (sym (take-append-drop m rs)) ∙ ap (λ (k : ℕ). take k (take m rs ++ drop m rs)) more ∙ take-append-add (take m rs) (drop m rs) (n - m) in
    ap (list_any p) split ∙ list_any-append p (take m rs) (take (n - m) (drop m rs)) ∙ or_left (list_any p (take m rs)) (list_any p (take (n - m) (drop m rs))) is

among_front : (p : Record → Bool) (m : ℕ) (front lost : List Record) → m ≤ length front → list_any p (take m (front ++ lost)) ≡ true → list_any p front ≡ true
among_front p m front lost le is =
    let same : list_any p (take m front) ≡ true = ap (list_any p) (sym (take-append-le m front lost le)) ∙ is in
    ap (list_any p) (sym (take-append-drop m front)) ∙ list_any-append p (take m front) (drop m front) ∙ or_left (list_any p (take m front)) (list_any p (drop m front)) same

-- ---- the disk

-- it keeps the first of more records, too
pub keeps_more : {D : Type 0} (told : D → Kept) (may_leave : D → Kept → Type 0) (rs more : List Record) (least : ℕ) (disk : D) → KeepsFirst told may_leave rs least disk → KeepsFirst told may_leave (rs ++ more) least disk
keeps_more told may_leave rs more least disk k = record { now = longer (told disk) k.now; crash = λ c left. longer c (k.crash c left) }
  where
    longer : (c : Kept) → StandsForFirst rs least c → StandsForFirst (rs ++ more) least c
    longer c s = record {
      front = s.front;
      lost = s.lost ++ more;
      is = ap (λ (l : List Record). l ++ more) s.is ∙ append_assoc s.front s.lost more;
      no_fewer = s.no_fewer;
      room = s.room;
      stands = s.stands;
    }

-- the durable records are among those of the log
pub durable_within : {D : Type 0} (log : LogState D) (rs : List Record) → WaitsInGroups log rs → durable_lsn log.places ≤ length rs
durable_within log rs w = let size = ap length w.is ∙ length-append w.stable (records_of w.groups) in let at = w.durable in omega (arith, size, at)

module _ {D : Type 0} (told : D → Kept) (may_leave : D → Kept → Type 0) (opening : List Record) (h h' : List Entry) (log log' : LogState D) (s : IsSafe told may_leave opening h log) where
  pub safe_still : h' ≡ h → log' ≡ log → IsSafe told may_leave opening h' log'
  safe_still now same = subst (λ (x : List Entry × LogState D). IsSafe told may_leave opening x.0 x.1) (λ i. (sym now i, sym same i)) s

  -- records join that acknowledge no commit
  pub safe_records : (es : List Entry) (recs : List Record) → h' ≡ h ++ es → log_of es ≡ recs → ((t : ℕ) → list_any (acknowledges t) es ≡ false) → log'.device ≡ log.device → log'.places ≡ log.places → log'.ended ≡ log.ended
      → (log.ended ≡ None → WaitsInGroups log (life_log opening h) → WaitsInGroups log' (life_log opening h ++ recs)) → IsSafe told may_leave opening h' log'
  safe_records es recs now adds none device places ended joins =
      let whole : life_log opening h' ≡ life_log opening h ++ recs = ap (life_log opening) now ∙ life_append opening h es ∙ ap (λ (rs : List Record). life_log opening h ++ rs) adds in
      let durable : durable_lsn log'.places ≡ durable_lsn log.places = ap (λ ps. durable_lsn ps) places in
      let within = s.within in
      record {
        begins = let first = s.begins in omega (arith, first, durable);
        within = omega (arith, within, durable, ap length whole, length-append (life_log opening h) recs);
        acknowledged = λ t acked.
            let before : list_any (acknowledges t) h ≡ true = either (list_any (acknowledges t) h) (list_any (acknowledges t) es) (sym (list_any-append (acknowledges t) h es) ∙ ap (list_any (acknowledges t)) (sym now) ∙ acked) (none t) in
            (λ i. list_any (is_commit_of t) (take (durable i) (whole i))) ∙ ap (list_any (is_commit_of t)) (take-append-le (durable_lsn log.places) (life_log opening h) recs within) ∙ s.acknowledged t before;
        runs = λ goes. subst (WaitsInGroups log') (sym whole) (joins (sym ended ∙ goes) (s.runs (sym ended ∙ goes)));
        ends = λ over.
            let was = keeps_more told may_leave (life_log opening h) recs (durable_lsn log.places) log.device (s.ends (ap is_some (sym ended) ∙ over)) in
            subst (λ (rs : List Record). KeepsFirst told may_leave rs (durable_lsn log'.places) log'.device) (sym whole)
            (subst (λ (x : ℕ × D). KeepsFirst told may_leave (life_log opening h ++ recs) x.0 x.1) (λ i. (sym durable i, sym device i)) was);
      }

  -- an entry that is no record
  pub safe_entry : (e : Entry) → h' ≡ h ++ e ∷ [] → log_of (e ∷ []) ≡ [] → ((t : ℕ) → acknowledges t e ≡ false) → log' ≡ log → IsSafe told may_leave opening h' log'
  safe_entry e now none quiet same =
      safe_records (e ∷ []) [] now none (λ t. ap (λ (b : Bool). b || false) (quiet t)) (ap (λ (l : LogState D). l.device) same) (ap (λ (l : LogState D). l.places) same) (ap (λ (l : LogState D). l.ended) same)
      (λ goes w. subst (λ (x : LogState D × List Record). WaitsInGroups x.0 x.1) (λ i. (sym same i, sym (append-nil (life_log opening h)) i)) w)

  -- ---- a call of the disk

  pub safe_call : h' ≡ h → GoesOnOrEnds told may_leave (life_log opening h) log log' → IsSafe told may_leave opening h' log'
  safe_call now call =
      let more = call.rises in
      subst (λ (x : List Entry). IsSafe told may_leave opening x log') (sym now) (record {
        begins = let first = s.begins in omega (arith, first, more);
        within = within log'.ended refl;
        acknowledged = λ t acked. among_more (is_commit_of t) (durable_lsn log.places) (durable_lsn log'.places) (life_log opening h) more s.within (s.acknowledged t acked);
        runs = call.runs;
        ends = call.ends;
      })
    where
      within : (o : Option ℕ) → log'.ended ≡ o → durable_lsn log'.places ≤ length (life_log opening h)
      within None e = durable_within log' (life_log opening h) (call.runs e)
      within (Some at) e =
          let k = (call.ends (ap is_some e)).now in
          let fewer = k.no_fewer in
          omega (arith, fewer, ap length k.is, length-append k.front k.lost)

  -- ---- a commit is acknowledged, which stands in the log, once all is durable
  pub safe_acked : (session tx : ℕ) → h' ≡ h ++ entries.Acked session tx ∷ [] → log' ≡ log → log.ended ≡ None → list_any (is_commit_of tx) (life_log opening h) ≡ true → length (life_log opening h) ≤ durable_lsn log.places
      → IsSafe told may_leave opening h' log'
  safe_acked session tx now same goes there all =
      let whole : life_log opening h' ≡ life_log opening h = ap (life_log opening) now ∙ life_append opening h (entries.Acked session tx ∷ []) ∙ append-nil (life_log opening h) in
      let within = s.within in
      let size : durable_lsn log.places ≡ length (life_log opening h) = omega (arith, within, all) in
      let full : take (durable_lsn log.places) (life_log opening h) ≡ life_log opening h =
      ap (λ (n : ℕ). take n (life_log opening h)) size ∙ ap (take (length (life_log opening h))) (sym (append-nil (life_log opening h))) ∙ take-append_seam (life_log opening h) [] in
      subst (IsSafe told may_leave opening h') (sym same) (record {
        begins = s.begins;
        within = omega (arith, within, ap length whole);
        acknowledged = λ t acked.
            ap (λ (rs : List Record). list_any (is_commit_of t) (take (durable_lsn log.places) rs)) whole
            ∙ by t (list_any (acknowledges t) h) refl (sym (list_any-append (acknowledges t) h (entries.Acked session tx ∷ [])) ∙ ap (list_any (acknowledges t)) (sym now) ∙ acked) full;
        runs = λ _. subst (WaitsInGroups log) (sym whole) (s.runs goes);
        ends = λ over. absurd (cc (over, ap is_some goes));
      })
    where
      this : (t : ℕ) → (eqb tx t || false) ≡ true → tx ≡ t
      this t e = eqb-true tx t (by_or (eqb tx t) e)
        where
          by_or : (b : Bool) → (b || false) ≡ true → b ≡ true
          by_or true e = refl
          by_or false e = absurd cc

      by : (t : ℕ) (b : Bool) → list_any (acknowledges t) h ≡ b → (b || list_any (acknowledges t) (entries.Acked session tx ∷ [])) ≡ true → take (durable_lsn log.places) (life_log opening h) ≡ life_log opening h → list_any (is_commit_of t) (take (durable_lsn log.places) (life_log opening h)) ≡ true
      by t true e acked full = s.acknowledged t e
      by t false e acked full = ap (list_any (is_commit_of t)) full ∙ subst (λ (n : ℕ). list_any (is_commit_of n) (life_log opening h) ≡ true) (this t acked) there

-- ---- a life begins

pub safe_start : {D : Type 0} (told : D → Kept) (may_leave : D → Kept → Type 0) (opening : List Record) (log : LogState D) → log.ended ≡ None → length opening ≡ durable_lsn log.places → WaitsInGroups log opening → IsSafe told may_leave opening [] log
safe_start told may_leave opening log goes durable w =
    let whole : life_log opening [] ≡ opening = append-nil opening in
    record {
      begins = omega (arith, durable);
      within = omega (arith, durable, ap length whole);
      acknowledged = λ t acked. absurd (cc acked);
      runs = λ _. subst (WaitsInGroups log) (sym whole) w;
      ends = λ over. absurd (cc (over, ap is_some goes));
    }

-- ---- and stops

module _ {D : Type 0} (told : D → Kept) (may_leave : D → Kept → Type 0) (opening : List Record) (h : List Entry) (disk : D) (least number : ℕ) (begins : length opening ≤ least)
    (acknowledged : HasAcknowledged h (take least (life_log opening h))) (lawful : AreLawful (life_log opening h)) (low : number ≤ least) where
  left_on : (k : Kept) → StandsForFirst (life_log opening h) least k → StandsForLeft opening h number k
  left_on k s =
      let fewer = s.no_fewer in
      let split : opening ++ drop (length opening) s.front ≡ s.front = ap (λ (l : List Record). l ++ drop (length opening) s.front) (sym front) ∙ take-append-drop (length opening) s.front in
      record {
        own = drop (length opening) s.front;
        left = record {
          lost = s.lost;
          whole = append_cancel_left opening (log_of h) (drop (length opening) s.front ++ s.lost) (s.is ∙ ap (λ (l : List Record). l ++ s.lost) (sym split) ∙ append_assoc opening (drop (length opening) s.front) s.lost);
          sound = record {
            lawful = subst AreLawful (sym split) (AllAlong_less IsLawful s.front s.lost (subst AreLawful s.is lawful));
            room = subst HasRoom (sym split) s.room;
          };
          acknowledged = λ t acked. subst (λ (l : List Record). list_any (is_commit_of t) l ≡ true) (sym split)
              (among_front (is_commit_of t) least s.front s.lost fewer (subst (λ (l : List Record). list_any (is_commit_of t) (take least l) ≡ true) s.is (acknowledged t acked)));
        };
        no_fewer = omega (arith, fewer, low, ap length split);
        stands = subst (λ (l : List Record). StandsForLog l k) (sym split) s.stands;
      }
    where
      -- the opening log is the first of it
      front : take (length opening) s.front ≡ opening
      front =
          let fewer = s.no_fewer in
          let within : length opening ≤ length s.front = omega (arith, begins, fewer) in
          sym (take-append-le (length opening) s.front s.lost within) ∙ ap (take (length opening)) (sym s.is) ∙ take-append_seam opening (log_of h)

  pub leaves_life : KeepsFirst told may_leave (life_log opening h) least disk → LeavesLife told may_leave opening h number disk
  leaves_life k = record { now = left_on (told disk) k.now; crash = λ c left. left_on c (k.crash c left) }

-- a call that leaves the log as it is
pub goes_on : {D : Type 0} (told : D → Kept) (may_leave : D → Kept → Type 0) (rs : List Record) (old new : LogState D) → old.ended ≡ None → new ≡ old → WaitsInGroups old rs → GoesOnOrEnds told may_leave rs old new
goes_on told may_leave rs old new goes same w = record {
  rises = let e = ap (λ (l : LogState _). durable_lsn l.places) same in omega (arith, e);
  runs = λ _. subst (λ (l : LogState _). WaitsInGroups l rs) (sym same) w;
  ends = λ over. absurd (cc (over, ap (λ (l : LogState _). is_some l.ended) same, ap is_some goes));
}
