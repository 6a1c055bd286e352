-- What a transaction has locked stays while nothing of it is entered.
use Rattle.std.proofs.Common.{◌≡◌, ◌≢◌, ℕ, Bool, true, false, cond, List, [], ◌∷◌, ◌++◌, Option, Some, None, refl, sym, ap, subst, ◌∙◌}
use Rattle.std.specs.Prelude.{◌||◌, not}
use Rattle.std.specs.List.{list_any}
use Rattle.std.specs.FinMap.{get}
use Rattle.std.proofs.lemmas.List.Folds.{list_any-append}
use Rattle.store_model.specs.declared.range.Mode.TheVariants.{Exclusive}
use Rattle.store_model.specs.Range.{Interval, has_key, is_below, includes, overlap}
use Rattle.store_model.specs.Contents.{Contents}
use Rattle.store_model.proofs.Bools.{both_true, and_true, not_true, or_left, or_right, not_both, false_unless}
use Rattle.store_model.proofs.Ranges.{between}
use Rattle.store_model.proofs.Scans.{pairs_in_same}
use Rattle.wal_record.specs.declared.record.Record.{Record}
use Rattle.wal_record.specs.declared.record.Record.TheVariants as kinds
use Rattle.wal_record.specs.declared.record.Undo.{Undo}
use Rattle.wal_record.specs.declared.entry.Entry.{Entry}
use Rattle.wal_record.specs.declared.entry.Entry.TheVariants.{Rec}
use Rattle.wal_record.specs.Chains.{is_link_of, link_of, tx_of}
use Rattle.wal_record.specs.OpenWrites.{open_writes, writes, opens}
use Rattle.wal_record.specs.Contents.{current, committed_step, committed_contents, given}
use Rattle.wal_record.specs.Sound.{TakesBack, IsLawful, AreLawful}
use Rattle.wal_record.specs.History.{life_log}
use Rattle.wal_record.specs.Locks.{Held, is_exclusive, conflict, covers_key, covers_write, locks}
use Rattle.wal_record.specs.Legal.{RecordRule, IsAllowed, IsLegal}
use Rattle.wal_record.proofs.Pushes.{current_push, committed_push, log_same, log_more}
use Rattle.log_laws.specs.Locks.{meets}
use Rattle.log_laws.proofs.Central.{only, equal_key, get-after, get-fold, neither, untouched, differ}
use Rattle.log_laws.proofs.Locked.{above, covered}
use Rattle.log_laws.proofs.Serial.{At, after_legal}
use Rattle.claim_laws.specs.Resting.{names_tx, Rests}
use Rattle.claim_laws.specs.Stable.{covers_all, touches, StableLaw}
use Rattle.claim_laws.proofs.Going.{none_more, one_more, by_going, none_of}
use Rattle.claim_laws.proofs.Resting.{resting}

-- ---- who writes a key has locked it

-- an undo of the key takes back an open write of it
taken_writes : (key : List ℕ) (u : Undo) (back : Record) → TakesBack u back → key ≡ u.key → writes key (kinds.Undo u) ≡ true → writes key back ≡ true
taken_writes key u (kinds.Write w) takes e h = subst (λ (k : List ℕ). writes key (kinds.Undo (record u { key = k })) ≡ true) takes.0 h
taken_writes key u (kinds.Apply a) takes e h = subst (λ (k : List ℕ). writes key (kinds.Undo (record u { key = k })) ≡ true) takes.0 h
taken_writes key u _ takes e h = absurd takes

last_any : (p : Record → Bool) (ws front : List Record) (w : Record) → ws ≡ front ++ w ∷ [] → p w ≡ true → list_any p ws ≡ true
last_any p ws front w e h = ap (list_any p) e ∙ list_any-append p front (w ∷ []) ∙ or_right (list_any p front) (p w || false) (or_left (p w) false h)

module _ (opening : List Record) (h : List Entry) (told : At opening h) where
  writer_locked : (key : List ℕ) (r : Record) → IsLawful (life_log opening h) r → RecordRule opening h r → writes key r ≡ true → list_any (covers_write key) (locks opening h (tx_of r)) ≡ true
  writer_locked key (kinds.Write w) lawful rule p = subst (λ (k : List ℕ). list_any (covers_write k) (locks opening h w.tx) ≡ true) (sym (equal_key key w.key p)) rule.1
  writer_locked key (kinds.Apply a) lawful rule p = subst (λ (k : List ℕ). list_any (covers_write k) (locks opening h a.tx) ≡ true) (sym (equal_key key a.key p)) rule.1
  writer_locked key (kinds.Undo u) lawful rule p =
      let value = lawful.value in
      told.holds u.tx key (last_any (writes key) (open_writes (life_log opening h) u.tx) value.front value.back value.split (taken_writes key u value.back value.takes (equal_key key u.key p) p))
  writer_locked key _ lawful rule p = absurd cc

  -- a record of another transaction doesn't write a key that this one has locked
  not_written : (t : ℕ) (key : List ℕ) → list_any (covers_key key) (locks opening h t) ≡ true → (r : Record) → IsLawful (life_log opening h) r → RecordRule opening h r → is_link_of t (link_of r) ≡ false → writes key r ≡ false
  not_written t key locked r lawful rule n = false_unless (writes key r) (λ p. not_both (list_any (covers_key key) (locks opening h t)) locked
      (told.apart (tx_of r) t key (other r n p) (writer_locked key r lawful rule p)))
    where
      other : (r : Record) → is_link_of t (link_of r) ≡ false → writes key r ≡ true → tx_of r ≢ t
      other (kinds.Write w) n p = differ w.tx t n
      other (kinds.Apply a) n p = differ a.tx t n
      other (kinds.Undo u) n p = differ u.tx t n
      other _ n p = absurd cc

  not_open : (t : ℕ) (key : List ℕ) → list_any (covers_key key) (locks opening h t) ≡ true → (u : ℕ) → u ≢ t → list_any (writes key) (open_writes (life_log opening h) u) ≡ false
  not_open t key locked u n = false_unless (opens (life_log opening h) key u) (λ p. not_both (list_any (covers_key key) (locks opening h t)) locked (told.apart u t key n (told.holds u key p)))

  -- ---- one entry more

  current_same : (t : ℕ) (key : List ℕ) → list_any (covers_key key) (locks opening h t) ≡ true → (e : Entry) → IsAllowed opening h e → names_tx t e ≡ false
      → get (current (life_log opening (h ++ e ∷ []))) key ≡ get (current (life_log opening h)) key
  current_same t key locked (Rec lsn r) ok n =
      ap (λ (log : List Record). get (current log) key) (log_more opening h lsn r) ∙ ap (λ (m : Contents). get m key) (current_push (life_log opening h) r) ∙ get-after (current (life_log opening h)) key r
      ∙ ap (λ (b : Bool). cond b (given (get (current (life_log opening h)) key) r) (get (current (life_log opening h)) key)) (not_written t key locked r ok.rule.lawful ok.rule.rule n)
  current_same t key locked e ok n = ap (λ (log : List Record). get (current log) key) (log_same opening h e refl)

  step_same : (t : ℕ) (key : List ℕ) → list_any (covers_key key) (locks opening h t) ≡ true → (r : Record) → is_link_of t (link_of r) ≡ false
      → get (committed_step (life_log opening h) (committed_contents (life_log opening h)) r) key ≡ get (committed_contents (life_log opening h)) key
  step_same t key locked (kinds.Commit c) n =
      get-fold key (open_writes (life_log opening h) c.tx) (committed_contents (life_log opening h))
      ∙ untouched key (open_writes (life_log opening h) c.tx) (get (committed_contents (life_log opening h)) key) (not_open t key locked c.tx (differ c.tx t n))
  step_same t key locked _ n = refl

  committed_same : (t : ℕ) (key : List ℕ) → list_any (covers_key key) (locks opening h t) ≡ true → (e : Entry) → names_tx t e ≡ false
      → get (committed_contents (life_log opening (h ++ e ∷ []))) key ≡ get (committed_contents (life_log opening h)) key
  committed_same t key locked (Rec lsn r) n =
      ap (λ (log : List Record). get (committed_contents log) key) (log_more opening h lsn r) ∙ ap (λ (m : Contents). get m key) (committed_push (life_log opening h) r) ∙ step_same t key locked r n
  committed_same t key locked e n = ap (λ (log : List Record). get (committed_contents log) key) (log_same opening h e refl)

-- ---- all entries

module _ (opening : List Record) (sound : AreLawful opening) (h : List Entry) (t : ℕ) (key : List ℕ) (locked : list_any (covers_key key) (locks opening h t) ≡ true) where
  -- it is still locked
  locked_at : (more : List Entry) → Rests t more → list_any (covers_key key) (locks opening (h ++ more) t) ≡ true
  locked_at more rests = ap (list_any (covers_key key)) ((resting opening h more t).locks rests) ∙ locked

  pub value_stays : (more : List Entry) → IsLegal opening (h ++ more) → Rests t more → get (current (life_log opening (h ++ more))) key ≡ get (current (life_log opening h)) key
  value_stays = by_going opening h (λ (more : List Entry). Rests t more → get (current (life_log opening (h ++ more))) key ≡ get (current (life_log opening h)) key)
      (λ _. ap (λ (g : List Entry). get (current (life_log opening g)) key) (none_more h))
      (λ more e legal ok before rests.
      let parts = none_of (names_tx t) more e rests in
      ap (λ (g : List Entry). get (current (life_log opening g)) key) (sym (one_more h more e))
      ∙ current_same opening (h ++ more) (after_legal opening sound (h ++ more) legal).0 t key (locked_at more parts.0) e ok parts.1 ∙ before parts.0)

  committed_stays : (more : List Entry) → IsLegal opening (h ++ more) → Rests t more → get (committed_contents (life_log opening (h ++ more))) key ≡ get (committed_contents (life_log opening h)) key
  committed_stays = by_going opening h (λ (more : List Entry). Rests t more → get (committed_contents (life_log opening (h ++ more))) key ≡ get (committed_contents (life_log opening h)) key)
      (λ _. ap (λ (g : List Entry). get (committed_contents (life_log opening g)) key) (none_more h))
      (λ more e legal ok before rests.
      let parts = none_of (names_tx t) more e rests in
      ap (λ (g : List Entry). get (committed_contents (life_log opening g)) key) (sym (one_more h more e))
      ∙ committed_same opening (h ++ more) (after_legal opening sound (h ++ more) legal).0 t key (locked_at more parts.0) e parts.1 ∙ before parts.0)

-- ---- exclusive locks

-- a range inside a lock's touches what the lock touches
wider : (range : Interval) (l k : Held) → includes l.range range ≡ true → overlap range k.range ≡ true → overlap l.range k.range ≡ true
wider range l k inside meet =
    let pi = both_true (not (is_below range.low l.range.low)) (not (is_below l.range.high range.high)) inside in
    let pm = both_true (is_below range.low k.range.high) (is_below k.range.low range.high) meet in
    and_true (is_below l.range.low k.range.high) (is_below k.range.low l.range.high)
    (low_under range.low l.range.low k.range.high (not_true _ pi.0) pm.0)
    (under_high k.range.low range.high l.range.high pm.1 (not_true _ pi.1))
  where
    low_under : (a b c : Option (List ℕ)) → is_below a b ≡ false → is_below a c ≡ true → is_below b c ≡ true
    low_under None b c p q = absurd cc
    low_under (Some a) b c p q = between b c a p q

    under_high : (a b c : Option (List ℕ)) → is_below a b ≡ true → is_below c b ≡ false → is_below a c ≡ true
    under_high None b c p q = absurd cc
    under_high (Some a) b c p q = above a b c p q

none_touched : (range : Interval) (l : Held) (ks : List Held) → includes l.range range ≡ true → is_exclusive l.mode ≡ true → list_any (conflict l) ks ≡ false → list_any (touches range) ks ≡ false
none_touched range l [] i x h = refl
none_touched range l (k ∷ ks) i x h =
    let n = neither (conflict l k) (list_any (conflict l) ks) h in
    let here : touches range k ≡ false = false_unless (touches range k) (λ g. not_both (conflict l k) (and_true (overlap l.range k.range) (is_exclusive l.mode || is_exclusive k.mode) (wider range l k i g) (or_left (is_exclusive l.mode) (is_exclusive k.mode) x)) n.0) in
    ap (λ (b : Bool). b || list_any (touches range) ks) here ∙ none_touched range l ks i x n.1

apart_from : (range : Interval) (ls ks : List Held) → list_any (covers_all range) ls ≡ true → meets ls ks ≡ false → list_any (touches range) ks ≡ false
apart_from range [] ks c h = absurd cc
apart_from range (l ∷ ls) ks c h = by (apart_from range ls ks) (covers_all range l) refl c (neither (list_any (conflict l) ks) (meets ls ks) h)
  where
    by : (list_any (covers_all range) ls ≡ true → meets ls ks ≡ false → list_any (touches range) ks ≡ false) → (b : Bool) → covers_all range l ≡ b → (b || list_any (covers_all range) ls) ≡ true
        → (list_any (conflict l) ks ≡ false) × (meets ls ks ≡ false) → list_any (touches range) ks ≡ false
    by more true e c n = let p = both_true (includes l.range range) (is_exclusive l.mode) e in none_touched range l ks p.0 p.1 n.0
    by more false e c n = more c n.1

-- a key of a part is one of the whole
in_whole : (wide range : Interval) (key : List ℕ) → includes wide range ≡ true → has_key range key ≡ true → has_key wide key ≡ true
in_whole wide range key inside has = only (has_key wide key) (covered range (record { range = wide; mode = Exclusive } ∷ []) key (or_left (includes wide range) false inside) has)

pub stable : (opening : List Record) (h more : List Entry) (t : ℕ) → StableLaw opening h more t
stable opening h more t = record {
  value = λ sound legal rests key locked. value_stays opening sound h t key locked more legal rests;
  committed = λ sound legal rests key locked. committed_stays opening sound h t key locked more legal rests;
  pairs = λ sound legal rests range locked. pairs_in_same range _ _ (λ key has. value_stays opening sound h t key (covered range (locks opening h t) key locked has) more legal rests);
  part = λ sound legal rests wide range locked inside. pairs_in_same range _ _ (λ key has. value_stays opening sound h t key (covered wide (locks opening h t) key locked (in_whole wide range key inside has)) more legal rests);
  alone = λ sound legal rests key locked other n. not_open opening (h ++ more) (after_legal opening sound (h ++ more) legal).0 t key (locked_at opening sound h t key locked more rests) other n;
  key_apart = λ sound legal rests key locked other n. (after_legal opening sound (h ++ more) legal).0.apart t other key (λ e. n (sym e)) (ap (list_any (covers_write key)) ((resting opening h more t).locks rests) ∙ locked);
  range_apart = λ sound legal rests range locked other n. apart_from range (locks opening (h ++ more) t) (locks opening (h ++ more) other)
      (ap (list_any (covers_all range)) ((resting opening h more t).locks rests) ∙ locked) ((after_legal opening sound (h ++ more) legal).0.free t other (λ e. n (sym e)));
}
