-- A stop leaves the first of the committed transactions.
use Rattle.std.proofs.Common.{◌≡◌, ℕ, Bool, true, false, cond, eqb, List, [], ◌∷◌, ◌++◌, refl, sym, ap, subst, ◌∙◌, arith, append_assoc}
use Rattle.std.specs.Prelude.{suc, ◌+◌, ◌<◌, ◌||◌, length, take}
use Rattle.std.specs.List.{list_any}
use Rattle.std.specs.Option.{option_map}
use Rattle.std.proofs.Math.Seq.{take-append_seam}
use Rattle.std.proofs.lemmas.Bool.{eqb-true}
use Rattle.std.proofs.lemmas.List.{append-nil, length-append}
use Rattle.std.proofs.lemmas.List.Folds.{list_any-append}
use Rattle.store_model.specs.Contents.{Contents}
use Rattle.wal_record.specs.declared.record.Record.{Record}
use Rattle.wal_record.specs.declared.record.Record.TheVariants as kinds
use Rattle.wal_record.specs.declared.entry.Entry.{Entry}
use Rattle.wal_record.specs.declared.entry.Entry.TheVariants.{Rec, Acked, Began}
use Rattle.store_model.specs.Along.{along}
use Rattle.wal_record.specs.Contents.{committed_contents}
use Rattle.wal_record.specs.Chains.{greatest, tx_or_none, link_of}
use Rattle.wal_record.specs.Sound.{AreLawful}
use Rattle.wal_record.specs.History.{log_of, Phase, Idle, Live, Committed, Acknowledged, Ended, phase_step, phase}
use Rattle.wal_record.specs.Steps.{Finished, finished_step, committed_transactions, steps}
use Rattle.wal_record.specs.Serial.{Serial, Result}
use Rattle.wal_record.specs.Legal.{IsAllowed, IsLegal}
use Rattle.wal_record.specs.Checkpoints.{commits}
use Rattle.wal_record.specs.Left.{is_commit_of, acknowledges, IsLeft, Life, AreLives, last_log, kept_of}
use Rattle.wal_record.proofs.Along.{AllAlong_less, by_pushes}
use Rattle.wal_record.proofs.Pushes.{greatest_push, phase_push, transactions_push, legal_front, log_of_push}
use Rattle.log_laws.specs.Left.{LeftLaw, LivesLaw}
use Rattle.log_laws.proofs.Central.{either}
use Rattle.log_laws.proofs.Runs.{serial_is}
use Rattle.log_laws.proofs.Serial.{max_less, less_differ, after_legal}

-- ---- prefixes

module _ {A : Type 0} where
  abbrev first_or : A → List A → A
  first_or d [] = d
  first_or d (x ∷ xs) = x

  abbrev rest_of : List A → List A
  rest_of [] = []
  rest_of (x ∷ xs) = xs

-- where the entries are cut after some of their records
record Cut (h : List Entry) (own : List Record) : Type 0 where
  kept : List Entry
  gone : List Entry
  whole : h ≡ kept ++ gone
  log : log_of kept ≡ own

cut_with : (e : Entry) (es : List Entry) (own : List Record) (own' : List Record) → Cut es own → log_of (e ∷ []) ++ own ≡ own' → Cut (e ∷ es) own'
cut_with e es own own' c g = record { kept = e ∷ c.kept; gone = c.gone; whole = ap (λ (xs : List Entry). e ∷ xs) c.whole; log = logs e c.kept ∙ ap (λ (rs : List Record). log_of (e ∷ []) ++ rs) c.log ∙ g }
  where
    logs : (e : Entry) (es : List Entry) → log_of (e ∷ es) ≡ log_of (e ∷ []) ++ log_of es
    logs (Rec lsn r) es = refl
    logs _ es = refl

cut : (h : List Entry) (own lost : List Record) → log_of h ≡ own ++ lost → Cut h own
cut h [] lost e = record { kept = []; gone = h; whole = refl; log = refl }
cut [] (r ∷ own) lost e = absurd cc
cut (Rec lsn s ∷ es) (r ∷ own) lost e =
    cut_with (Rec lsn s) es own (r ∷ own) (cut es own lost (ap rest_of e)) (ap (λ (x : Record). x ∷ own) (ap (first_or s) e))
cut (x ∷ es) (r ∷ own) lost e = cut_with x es (r ∷ own) (r ∷ own) (cut es (r ∷ own) lost e) refl

-- ---- the committed transactions of a beginning

record Longer (ts us : List Finished) : Type 0 where
  more : List Finished
  is : us ≡ ts ++ more

longer_step : (h : List Entry) (e : Entry) (ts us : List Finished) → Longer ts us → Longer ts (finished_step h us e)
longer_step h (Rec lsn (kinds.Commit c)) ts us l = record { more = l.more ++ record { tx = c.tx; steps = steps h c.tx } ∷ []; is = ap (λ (x : List Finished). x ++ record { tx = c.tx; steps = steps h c.tx } ∷ []) l.is ∙ append_assoc ts l.more _ }
longer_step h e ts us l = l

longer : (h g : List Entry) → Longer (committed_transactions h) (committed_transactions (h ++ g))
longer h = by_pushes (λ (g : List Entry). Longer (committed_transactions h) (committed_transactions (h ++ g)))
    (record { more = []; is = ap committed_transactions (append-nil h) ∙ sym (append-nil (committed_transactions h)) })
    (λ g e l. subst (λ (ts : List Finished). Longer (committed_transactions h) ts) (sym (ap committed_transactions (sym (append_assoc h g (e ∷ []))) ∙ transactions_push (h ++ g) e)) (longer_step (h ++ g) e (committed_transactions h) (committed_transactions (h ++ g)) l))

commits_append : (xs ys : List Record) → commits (xs ++ ys) ≡ commits xs + commits ys
commits_append [] ys = omega arith
commits_append (kinds.Commit c ∷ xs) ys = ap suc (commits_append xs ys) ∙ omega arith
commits_append (_ ∷ xs) ys = commits_append xs ys

none_committed : committed_transactions [] ≡ []
unfolding committed_transactions along
none_committed = refl

count_step : (h : List Entry) (e : Entry) (ts : List Finished) → length (finished_step h ts e) ≡ length ts + commits (log_of (e ∷ []))
count_step h (Rec lsn (kinds.Commit c)) ts = length-append ts _
count_step h (Rec lsn r) ts = omega arith
count_step h e ts = omega arith

count : (h : List Entry) → length (committed_transactions h) ≡ commits (log_of h)
count = by_pushes (λ (h : List Entry). length (committed_transactions h) ≡ commits (log_of h)) (ap length none_committed) (λ h e before.
    ap length (transactions_push h e) ∙ count_step h e (committed_transactions h) ∙ ap (λ (n : ℕ). n + commits (log_of (e ∷ []))) before
    ∙ sym (ap commits (log_of_push h e) ∙ commits_append (log_of h) (log_of (e ∷ []))))

first_ones : (h kept gone : List Entry) (own : List Record) → h ≡ kept ++ gone → log_of kept ≡ own → take (commits own) (committed_transactions h) ≡ committed_transactions kept
first_ones h kept gone own whole log =
    let l = longer kept gone in
    ap (λ (n : ℕ). take n (committed_transactions h)) (sym (count kept ∙ ap commits log))
    ∙ ap (take (length (committed_transactions kept))) (ap committed_transactions whole ∙ l.is)
    ∙ take-append_seam (committed_transactions kept) l.more

-- ---- the acknowledged among them

or_false : (b : Bool) → (b || false) ≡ b
or_false true = refl
or_false false = refl

named_step : (t : ℕ) (h : List Entry) (e : Entry) (ts : List Finished) → list_any (λ (f : Finished). eqb f.tx t) (finished_step h ts e) ≡ (list_any (λ (f : Finished). eqb f.tx t) ts || list_any (is_commit_of t) (log_of (e ∷ [])))
named_step t h (Rec lsn (kinds.Commit c)) ts = list_any-append (λ (f : Finished). eqb f.tx t) ts _
named_step t h (Rec lsn r) ts = sym (or_false _)
named_step t h e ts = sym (or_false _)

named : (t : ℕ) (h : List Entry) → list_any (λ (f : Finished). eqb f.tx t) (committed_transactions h) ≡ list_any (is_commit_of t) (log_of h)
named t = by_pushes (λ (h : List Entry). list_any (λ (f : Finished). eqb f.tx t) (committed_transactions h) ≡ list_any (is_commit_of t) (log_of h))
    (ap (list_any (λ (f : Finished). eqb f.tx t)) none_committed)
    (λ h e before.
    ap (list_any (λ (f : Finished). eqb f.tx t)) (transactions_push h e) ∙ named_step t h e (committed_transactions h) ∙ ap (λ (b : Bool). b || list_any (is_commit_of t) (log_of (e ∷ []))) before
    ∙ sym (ap (list_any (is_commit_of t)) (log_of_push h e) ∙ list_any-append (is_commit_of t) (log_of h) (log_of (e ∷ []))))

-- a committed transaction is new in this life
unless : (b : Bool) (q p : Phase) → (q ≡ Committed → ⊥) → cond b q p ≡ Committed → p ≡ Committed
unless true q p differs h = absurd (differs h)
unless false q p differs h = h

commit_new : (first t tx : ℕ) (p : Phase) → (tx ≡ t → first < t) → (p ≡ Committed → first < t) → (b : Bool) → eqb tx t ≡ b → cond b Committed p ≡ Committed → first < t
commit_new first t tx p new old true e h = new (eqb-true tx t e)
commit_new first t tx p new old false e h = old h

step_new : (opening : List Record) (h : List Entry) (e : Entry) → IsAllowed opening h e → ((t : ℕ) → phase h t ≡ Live → greatest opening < t) → (t : ℕ) → (phase h t ≡ Committed → greatest opening < t)
    → phase_step t (phase h t) e ≡ Committed → greatest opening < t
step_new opening h (Began session tx) ok new t old p = old (unless (eqb tx t) Live (phase h t) (λ (q : Live ≡ Committed). cc) p)
step_new opening h (Acked session tx) ok new t old p = old (unless (eqb tx t) Acknowledged (phase h t) (λ (q : Acknowledged ≡ Committed). cc) p)
step_new opening h (Rec lsn (kinds.End x)) ok new t old p = old (unless (eqb x.tx t) Ended (phase h t) (λ (q : Ended ≡ Committed). cc) p)
step_new opening h (Rec lsn (kinds.Commit c)) ok new t old p = commit_new (greatest opening) t c.tx (phase h t) (λ e. subst (λ (u : ℕ). greatest opening < u) e (new c.tx ok.rule.rule)) old (eqb c.tx t) refl p
step_new opening h _ ok new t old p = old p

idle_first : (t : ℕ) → phase [] t ≡ Idle
unfolding phase along
idle_first t = refl

committed_new : (opening : List Record) → AreLawful opening → (h : List Entry) → IsLegal opening h → (t : ℕ) → phase h t ≡ Committed → greatest opening < t
committed_new opening sound = by_pushes (λ (h : List Entry). IsLegal opening h → (t : ℕ) → phase h t ≡ Committed → greatest opening < t)
    (λ _ t p. absurd (let e : Idle ≡ Committed = sym (idle_first t) ∙ p in cc))
    (λ h e before legal t p.
    let parts = legal_front opening h e legal in
    step_new opening h e parts.1 (after_legal opening sound h parts.0).0.new t (before parts.0 t) (sym (phase_push h e t) ∙ p))

acks_new : (opening : List Record) (h : List Entry) (e : Entry) → IsAllowed opening h e → ((t : ℕ) → phase h t ≡ Committed → greatest opening < t) → (t : ℕ) → acknowledges t e ≡ true → greatest opening < t
acks_new opening h (Acked session tx) ok new t a = subst (λ (u : ℕ). greatest opening < u) (eqb-true tx t a) (new tx ok.rule.committed)
acks_new opening h _ ok new t a = absurd cc

or_else : (a b : Bool) (P : Type 0) → (a ≡ true → P) → (b ≡ true → P) → (a || b) ≡ true → P
or_else true b P f g h = f refl
or_else false b P f g h = g h

acked_new : (opening : List Record) → AreLawful opening → (h : List Entry) → IsLegal opening h → (t : ℕ) → list_any (acknowledges t) h ≡ true → greatest opening < t
acked_new opening sound = by_pushes (λ (h : List Entry). IsLegal opening h → (t : ℕ) → list_any (acknowledges t) h ≡ true → greatest opening < t)
    (λ _ t p. absurd cc)
    (λ h e before legal t p.
    let parts = legal_front opening h e legal in
    or_else (list_any (acknowledges t) h) (acknowledges t e || false) (greatest opening < t) (before parts.0 t)
    (or_else (acknowledges t e) false (greatest opening < t) (acks_new opening h e parts.1 (committed_new opening sound h parts.0) t) (λ (q : false ≡ true). absurd cc))
    (sym (list_any-append (acknowledges t) h (e ∷ [])) ∙ p))

other_commit : (t : ℕ) (r : Record) → tx_or_none (link_of r) < t → is_commit_of t r ≡ false
other_commit t (kinds.Commit c) h = less_differ c.tx t h
other_commit t _ h = refl

no_commit : (log : List Record) (t : ℕ) → greatest log < t → list_any (is_commit_of t) log ≡ false
no_commit log t = by_pushes (λ (log : List Record). greatest log < t → list_any (is_commit_of t) log ≡ false) (λ _. refl) (λ log r before h.
    let parts = max_less (greatest log) (tx_or_none (link_of r)) t (subst (λ (n : ℕ). n < t) (greatest_push log r) h) in
    list_any-append (is_commit_of t) log (r ∷ []) ∙ ap (λ (b : Bool). b || (is_commit_of t r || false)) (before parts.0) ∙ ap (λ (b : Bool). b || false) (other_commit t r parts.1)) log

-- ---- what a stop leaves

module _ (opening : List Record) (h : List Entry) (own : List Record) (sound : AreLawful opening) (legal : IsLegal opening h) (left : IsLeft opening h own) where
  place : Cut h own
  place = cut h own left.lost left.whole

  firsts : take (commits own) (committed_transactions h) ≡ committed_transactions place.kept
  firsts = first_ones h place.kept place.gone own place.whole place.log

  left_serial : Serial (committed_contents opening) (take (commits own) (committed_transactions h)) (committed_contents (opening ++ own))
  left_serial =
      let legal' = AllAlong_less (IsAllowed opening) place.kept place.gone (subst (IsLegal opening) place.whole legal) in
      subst (λ (ts : List Finished). Serial (committed_contents opening) ts (committed_contents (opening ++ own))) (sym firsts)
      (subst (λ (rs : List Record). Serial (committed_contents opening) (committed_transactions place.kept) (committed_contents (opening ++ rs))) place.log
      (after_legal opening sound place.kept legal').1)

  left_acknowledged : (t : ℕ) → list_any (acknowledges t) h ≡ true → list_any (λ (f : Finished). eqb f.tx t) (take (commits own) (committed_transactions h)) ≡ true
  left_acknowledged t a =
      ap (list_any (λ (f : Finished). eqb f.tx t)) firsts ∙ named t place.kept ∙ ap (list_any (is_commit_of t)) place.log
      ∙ either (list_any (is_commit_of t) opening) (list_any (is_commit_of t) own)
      (sym (list_any-append (is_commit_of t) opening own) ∙ left.acknowledged t a)
      (no_commit opening t (acked_new opening sound h legal t a))

pub left_law : (opening : List Record) (h : List Entry) (own : List Record) → LeftLaw opening h own
left_law opening h own = record {
  relation = λ sound legal left. left_serial opening h own sound legal left;
  result = λ sound legal left. ap (option_map (λ (r : Result). r.contents)) (serial_is (committed_contents opening) (take (commits own) (committed_transactions h)) (committed_contents (opening ++ own)) (left_serial opening h own sound legal left));
  acknowledged = λ sound legal left. left_acknowledged opening h own sound legal left;
}

Serial_append : (m : Contents) (ts : List Finished) (n : Contents) (us : List Finished) (k : Contents) → Serial m ts n → Serial n us k → Serial m (ts ++ us) k
Serial_append m [] n us k h g = subst (λ (x : Contents). Serial x us k) (sym h) g
Serial_append m (t ∷ ts) n us k h g = (h.0, h.1, h.2, Serial_append h.0 ts n us k h.3 g)

lives_serial : (opening : List Record) (ls : List Life) → AreLawful opening → AreLives opening ls → Serial (committed_contents opening) (kept_of ls) (committed_contents (last_log opening ls))
lives_serial opening [] sound lives = refl
lives_serial opening (l ∷ ls) sound lives =
    Serial_append (committed_contents opening) (take (commits l.own) (committed_transactions l.history)) (committed_contents (opening ++ l.own)) (kept_of ls) (committed_contents (last_log (opening ++ l.own) ls))
    (left_serial opening l.history l.own sound lives.0 lives.1) (lives_serial (opening ++ l.own) ls lives.1.sound.lawful lives.2)

pub lives_law : (opening : List Record) (ls : List Life) → LivesLaw opening ls
lives_law opening ls = record { serial = λ sound lives. lives_serial opening ls sound lives }
