-- The committed transactions, one after the other, have the replies that were said.
use Rattle.std.proofs.Common.{◌≡◌, ◌≢◌, ℕ, Bool, true, false, cond, eqb, List, [], ◌∷◌, ◌++◌, Option, Some, None, refl, sym, ap, subst, ◌∙◌, arith, inl, inr}
use Rattle.std.specs.Prelude.{◌&&◌, max, fold, ◌<◌, ◌||◌}
use Rattle.std.specs.List.{list_any}
use Rattle.std.specs.FinMap.{get}
use Rattle.std.proofs.Math.Nat.{le-max_left, le-max_right}
use Rattle.std.proofs.lemmas.Bool.Decides.{nat_tests}
use Rattle.std.proofs.lemmas.Bool.{eqb-true}
use Rattle.std.proofs.lemmas.List.{append-nil}
use Rattle.std.proofs.lemmas.List.Folds.{list_any-append}
use Rattle.store_model.specs.Range.{point}
use Rattle.store_model.specs.Contents.{Contents}
use Rattle.store_model.specs.declared.request.Request.{Request}
use Rattle.store_model.specs.declared.request.Request.TheVariants as requests
use Rattle.store_model.specs.declared.reply.Reply.{Reply}
use Rattle.store_model.proofs.Bools.{both_true, or_right, not_both, false_unless}
use Rattle.wal_record.specs.declared.record.Record.{Record}
use Rattle.wal_record.specs.declared.record.Record.TheVariants as kinds
use Rattle.wal_record.specs.declared.record.Undo.{Undo}
use Rattle.wal_record.specs.declared.record.Commit.{Commit}
use Rattle.wal_record.specs.declared.entry.Entry.{Entry}
use Rattle.wal_record.specs.declared.entry.Entry.TheVariants.{Rec, Lock, Refused, Said, Declined, Acked, Repaired, Began}
use Rattle.store_model.specs.Along.{along}
use Rattle.wal_record.specs.Contents.{after, current, committed_step, committed_contents}
use Rattle.wal_record.specs.OpenWrites.{open_step, open_writes, writes, without_last, has_items, is_loser}
use Rattle.wal_record.specs.Chains.{tx_or_none, link_of, greatest}
use Rattle.wal_record.specs.Sound.{IsLawful, AreLawful}
use Rattle.wal_record.specs.Locks.{covers, Held, locks_step, taken_locks, loser_locks, locks, conflict, covers_write}
use Rattle.wal_record.specs.History.{log_of, Beginning, beginnings, is_owner, Phase, Idle, Live, phase_step, phase, begun_step, greatest_begun}
use Rattle.wal_record.specs.Steps.{Step, Asked, step_of, steps, Finished, finished_step, committed_transactions}
use Rattle.wal_record.specs.Serial.{Runs, Serial}
use Rattle.wal_record.specs.Legal.{untold_step, untold, ReplyRule, MayUndo, RecordRule, IsAllowed, IsLegal}
use Rattle.wal_record.proofs.Along.{by_pushes}
use Rattle.wal_record.proofs.Pushes.{greatest_push, open_push, current_push, committed_push, phase_push, begun_push, taken_push, untold_push, steps_push, transactions_push, lawful_back, legal_front, log_same, log_more, beginnings_push}
use Rattle.log_laws.specs.Central.{CentralLawOfLives}
use Rattle.log_laws.specs.Serial.{SerialLaw}
use Rattle.log_laws.proofs.Central.{agree, only, opens_in, with_item, with_front, Kept_undo, front_left, emptied, taken_key, taken_old, opened_still, kept_log}
use Rattle.log_laws.proofs.Locked.{write_covers, covered, in_point, loser_holds, loser_opens, loser_fewer}
use Rattle.log_laws.proofs.LoserLocks.{losers_free}
use Rattle.log_laws.proofs.Runs.{stack, told_step, told_is, write_answer, apply_answer, get_answer, scan_answer, del_answer, Serial_then, serial_is}
use Rattle.log_laws.proofs.Told.{Told, live_not_idle, Told_began, Told_lock, Told_item, Told_undo, Told_commit, Told_end, Told_acked, Told_write_said, Told_read_said}

-- ---- one entry more

locks_are : (opening : List Record) (h : List Entry) (t : ℕ) → locks opening h t ≡ taken_locks h t ++ loser_locks (is_loser opening t) (open_writes (opening ++ log_of h) t)
unfolding locks
locks_are opening h t = refl

-- ---- who is a loser

pub less_differ : (a b : ℕ) → a < b → eqb a b ≡ false
less_differ a b h = grind (arith, nat_tests)

-- a record leaves the open writes of those whose number is greater
unnamed : (t : ℕ) (ws : List Record) (r : Record) → tx_or_none (link_of r) < t → open_step t r ws r ≡ ws
unnamed t ws (kinds.Write w) h = ap (λ (b : Bool). cond b (ws ++ kinds.Write w ∷ []) ws) (less_differ w.tx t h)
unnamed t ws (kinds.Apply a) h = ap (λ (b : Bool). cond b (ws ++ kinds.Apply a ∷ []) ws) (less_differ a.tx t h)
unnamed t ws (kinds.Undo u) h = ap (λ (b : Bool). cond b (without_last ws) ws) (less_differ u.tx t h)
unnamed t ws (kinds.Commit c) h = ap (λ (b : Bool). cond b [] ws) (less_differ c.tx t h)
unnamed t ws (kinds.End e) h = ap (λ (b : Bool). cond b [] ws) (less_differ e.tx t h)
unnamed t ws _ h = refl

pub max_less : (a b t : ℕ) → max a b < t → (a < t) × (b < t)
max_less a b t h = let l = le-max_left a b in let r = le-max_right a b in (omega (arith, h, l), omega (arith, h, r))

nothing_open : (t : ℕ) → open_writes [] t ≡ []
unfolding open_writes along
nothing_open t = refl

pub none_open : (log : List Record) (t : ℕ) → greatest log < t → open_writes log t ≡ []
none_open log t = by_pushes (λ (log : List Record). greatest log < t → open_writes log t ≡ []) (λ _. nothing_open t) (λ log r before h.
    let parts = max_less (greatest log) (tx_or_none (link_of r)) t (subst (λ (n : ℕ). n < t) (greatest_push log r) h) in
    open_push log r t ∙ unnamed t (open_writes log t) r parts.1 ∙ before parts.0) log

pub no_loser : (opening : List Record) (t : ℕ) → greatest opening < t → is_loser opening t ≡ false
no_loser opening t h = ap has_items (none_open opening t h)

-- ---- what holds after a history

abbrev pub At : List Record → List Entry → Type 0
At opening h = Told (greatest opening) (greatest_begun h) (current (opening ++ log_of h)) (open_writes (opening ++ log_of h)) (committed_contents (opening ++ log_of h)) (phase h) (locks opening h) (steps h) (untold h)

arrive : (opening : List Record) (h : List Entry) (last : ℕ) (m : Contents) (o : ℕ → List Record) (off : Contents) (ph : ℕ → Phase) (ls : ℕ → List Held) (st : ℕ → List Step) (d : Option Record)
    → greatest_begun h ≡ last → current (opening ++ log_of h) ≡ m → ((t : ℕ) → open_writes (opening ++ log_of h) t ≡ o t) → committed_contents (opening ++ log_of h) ≡ off
    → ((t : ℕ) → phase h t ≡ ph t) → ((t : ℕ) → locks opening h t ≡ ls t) → ((t : ℕ) → steps h t ≡ st t) → untold h ≡ d
    → Told (greatest opening) last m o off ph ls st d → At opening h
arrive opening h last m o off ph ls st d eb em eo eoff ep els est ed told =
    let go : open_writes (opening ++ log_of h) ≡ o = λ i t. eo t i in
    let gp : phase h ≡ ph = λ i t. ep t i in
    let gl : locks opening h ≡ ls = λ i t. els t i in
    let gs : steps h ≡ st = λ i t. est t i in
    subst (λ (x : ℕ). Told (greatest opening) x (current (opening ++ log_of h)) (open_writes (opening ++ log_of h)) (committed_contents (opening ++ log_of h)) (phase h) (locks opening h) (steps h) (untold h)) (sym eb)
    (subst (λ (x : Contents). Told (greatest opening) last x (open_writes (opening ++ log_of h)) (committed_contents (opening ++ log_of h)) (phase h) (locks opening h) (steps h) (untold h)) (sym em)
    (subst (λ (x : ℕ → List Record). Told (greatest opening) last m x (committed_contents (opening ++ log_of h)) (phase h) (locks opening h) (steps h) (untold h)) (sym go)
    (subst (λ (x : Contents). Told (greatest opening) last m o x (phase h) (locks opening h) (steps h) (untold h)) (sym eoff)
    (subst (λ (x : ℕ → Phase). Told (greatest opening) last m o off x (locks opening h) (steps h) (untold h)) (sym gp)
    (subst (λ (x : ℕ → List Held). Told (greatest opening) last m o off ph x (steps h) (untold h)) (sym gl)
    (subst (λ (x : ℕ → List Step). Told (greatest opening) last m o off ph ls x (untold h)) (sym gs)
    (subst (λ (x : Option Record). Told (greatest opening) last m o off ph ls st x) (sym ed) told)))))))

-- an entry that is no record leaves the log
quiet : (opening : List Record) (h : List Entry) (e : Entry) (ph : ℕ → Phase) (ls : ℕ → List Held) (st : ℕ → List Step) → log_of (e ∷ []) ≡ []
    → ((t : ℕ) → phase_step t (phase h t) e ≡ ph t) → ((t : ℕ) → locks_step t (taken_locks h t) e ++ loser_locks (is_loser opening t) (open_writes (opening ++ log_of h) t) ≡ ls t) → ((t : ℕ) → steps h t ++ step_of t e ≡ st t)
    → Told (greatest opening) (begun_step (greatest_begun h) e) (current (opening ++ log_of h)) (open_writes (opening ++ log_of h)) (committed_contents (opening ++ log_of h)) ph ls st (untold_step e) → At opening (h ++ e ∷ [])
quiet opening h e ph ls st none p l s told =
    let same = log_same opening h e none in
    arrive opening (h ++ e ∷ []) _ _ _ _ ph ls st (untold_step e) (begun_push h e) (ap current same) (λ t. ap (λ (log : List Record). open_writes log t) same) (ap committed_contents same)
    (λ t. phase_push h e t ∙ p t)
    (λ t. locks_are opening (h ++ e ∷ []) t ∙ ap (λ (log : List Record). taken_locks (h ++ e ∷ []) t ++ loser_locks (is_loser opening t) (open_writes log t)) same
    ∙ ap (λ (xs : List Held). xs ++ loser_locks (is_loser opening t) (open_writes (opening ++ log_of h) t)) (taken_push h e t) ∙ l t)
    (λ t. steps_push h e t ∙ s t) (untold_push h e) told

-- a record
recorded : (opening : List Record) (h : List Entry) (lsn : ℕ) (r : Record) (o : ℕ → List Record) (off : Contents) (ph : ℕ → Phase) (ls : ℕ → List Held) (st : ℕ → List Step)
    → ((t : ℕ) → open_step t r (open_writes (opening ++ log_of h) t) r ≡ o t) → committed_step (opening ++ log_of h) (committed_contents (opening ++ log_of h)) r ≡ off
    → ((t : ℕ) → phase_step t (phase h t) (Rec lsn r) ≡ ph t) → ((t : ℕ) → locks_step t (taken_locks h t) (Rec lsn r) ++ loser_locks (is_loser opening t) (o t) ≡ ls t) → ((t : ℕ) → steps h t ++ step_of t (Rec lsn r) ≡ st t)
    → Told (greatest opening) (greatest_begun h) (after (current (opening ++ log_of h)) r) o off ph ls st (untold_step (Rec lsn r)) → At opening (h ++ Rec lsn r ∷ [])
recorded opening h lsn r o off ph ls st eo eoff p l s told =
    let log = opening ++ log_of h in
    let more = log_more opening h lsn r in
    let opens : (t : ℕ) → open_writes (opening ++ log_of (h ++ Rec lsn r ∷ [])) t ≡ o t = λ t. ap (λ (x : List Record). open_writes x t) more ∙ open_push log r t ∙ eo t in
    arrive opening (h ++ Rec lsn r ∷ []) _ _ o off ph ls st (untold_step (Rec lsn r)) (begun_push h (Rec lsn r)) (ap current more ∙ current_push log r) opens (ap committed_contents more ∙ committed_push log r ∙ eoff)
    (λ t. phase_push h (Rec lsn r) t ∙ p t)
    (λ t. locks_are opening (h ++ Rec lsn r ∷ []) t ∙ ap (λ (ws : List Record). taken_locks (h ++ Rec lsn r ∷ []) t ++ loser_locks (is_loser opening t) ws) (opens t)
    ∙ ap (λ (xs : List Held). xs ++ loser_locks (is_loser opening t) (o t)) (taken_push h (Rec lsn r) t) ∙ l t)
    (λ t. steps_push h (Rec lsn r) t ∙ s t) (untold_push h (Rec lsn r)) told

undue : (opening : List Record) (h : List Entry) (d : Option Record) → untold h ≡ d → At opening h → Told (greatest opening) (greatest_begun h) (current (opening ++ log_of h)) (open_writes (opening ++ log_of h)) (committed_contents (opening ++ log_of h)) (phase h) (locks opening h) (steps h) d
undue opening h d e told = subst (λ (x : Option Record). Told (greatest opening) (greatest_begun h) (current (opening ++ log_of h)) (open_writes (opening ++ log_of h)) (committed_contents (opening ++ log_of h)) (phase h) (locks opening h) (steps h) x) e told

-- ---- entries that are no records

abbrev IsOf : ℕ → ℕ → Beginning → Bool
IsOf session tx b = eqb b.session session && eqb b.tx tx

begun_new : (opening : List Record) (h : List Entry) (e : Entry) → IsAllowed opening h e → (session tx : ℕ) → list_any (IsOf session tx) (beginnings (e ∷ [])) ≡ true → greatest opening < tx
begun_new opening h (Began other u) ok session tx p =
    let both = both_true (eqb other session) (eqb u tx) (only (eqb other session && eqb u tx) p) in
    let l = le-max_left (greatest opening) (greatest_begun h) in
    let e = ok.rule.number in
    subst (λ (x : ℕ). greatest opening < x) (eqb-true u tx both.1) (omega (arith, l, e))
begun_new opening h _ ok session tx p = absurd cc

or_else : (a b : Bool) (P : Type 0) → (a ≡ true → P) → (b ≡ true → P) → (a || b) ≡ true → P
or_else true b P f g h = f refl
or_else false b P f g h = g h

pub owner_new : (opening : List Record) (h : List Entry) → IsLegal opening h → (session tx : ℕ) → is_owner h session tx ≡ true → greatest opening < tx
owner_new opening = by_pushes (λ (h : List Entry). IsLegal opening h → (session tx : ℕ) → is_owner h session tx ≡ true → greatest opening < tx)
    (λ _ session tx p. absurd cc)
    (λ h e before legal session tx p.
    let parts = legal_front opening h e legal in
    or_else (is_owner h session tx) (list_any (IsOf session tx) (beginnings (e ∷ []))) (greatest opening < tx) (before parts.0 session tx) (begun_new opening h e parts.1 session tx)
    (sym (list_any-append (IsOf session tx) (beginnings h) (beginnings (e ∷ []))) ∙ sym (ap (list_any (IsOf session tx)) (beginnings_push h e)) ∙ p))

module _ (opening : List Record) (h : List Entry) (told : At opening h) where
  said_more : (session tx : ℕ) (request : Request) (reply : Reply) (d : Option Record) → untold h ≡ d → phase h tx ≡ Live
      → ReplyRule d (current (opening ++ log_of h)) (locks opening h tx) tx request reply → At opening (h ++ Said session tx request reply ∷ [])
  said_more session tx request reply (Some r) e live said =
      let same : ◌≡◌ {A = Step} (told_step r) (Asked request reply) = told_is r request reply said.1 in
      quiet opening h (Said session tx request reply) _ _ _ refl (λ t. refl) (λ t. sym (locks_are opening h t))
      (λ t. ap (λ (s : Step). steps h t ++ cond (eqb tx t) (s ∷ []) []) (sym same) ∙ ap (λ (u : ℕ). steps h t ++ cond (eqb u t) (told_step r ∷ []) []) (sym said.0))
      (Told_write_said _ _ _ _ _ _ _ _ r (undue opening h (Some r) e told) (subst (λ (u : ℕ). phase h u ≡ Live) (sym said.0) live))
  said_more session tx (requests.Get key) reply None e live said =
      quiet opening h (Said session tx (requests.Get key) reply) _ _ _ refl (λ t. refl) (λ t. sym (locks_are opening h t)) (λ t. refl)
      (Told_read_said _ _ _ _ _ _ _ _ (undue opening h None e told) tx (requests.Get key) reply live
      (λ x cs agree. subst (λ (y : Reply). Runs x cs (Asked (requests.Get key) y ∷ []) x cs) (sym said.1)
      (get_answer x (current (opening ++ log_of h)) cs key (agree key (covered (point key) (locks opening h tx) key said.0 (in_point key))))))
  said_more session tx (requests.Scan range) reply None e live said =
      quiet opening h (Said session tx (requests.Scan range) reply) _ _ _ refl (λ t. refl) (λ t. sym (locks_are opening h t)) (λ t. refl)
      (Told_read_said _ _ _ _ _ _ _ _ (undue opening h None e told) tx (requests.Scan range) reply live
      (λ x cs agree. subst (λ (y : Reply). Runs x cs (Asked (requests.Scan range) y ∷ []) x cs) (sym said.1)
      (scan_answer x (current (opening ++ log_of h)) cs range (λ key g. agree key (covered range (locks opening h tx) key said.0 g)))))
  said_more session tx (requests.Del key) reply None e live said =
      quiet opening h (Said session tx (requests.Del key) reply) _ _ _ refl (λ t. refl) (λ t. sym (locks_are opening h t)) (λ t. refl)
      (Told_read_said _ _ _ _ _ _ _ _ (undue opening h None e told) tx (requests.Del key) reply live
      (λ x cs agree. subst (λ (y : Reply). Runs x cs (Asked (requests.Del key) y ∷ []) x cs) (sym said.2)
      (del_answer x cs key (agree key (write_covers (locks opening h tx) key said.0) ∙ said.1))))
  said_more session tx _ reply None e live said = absurd said

  -- who is told something is live
  pub said_live : (session tx : ℕ) (request : Request) (reply : Reply) (d : Option Record) → untold h ≡ d → greatest opening < tx
      → ReplyRule d (current (opening ++ log_of h)) (locks opening h tx) tx request reply → phase h tx ≡ Live
  said_live session tx request reply (Some r) e begun said = subst (λ (u : ℕ). phase h u ≡ Live) said.0 (undue opening h (Some r) e told).untold_live
  said_live session tx (requests.Get key) reply None e begun said = told.held (covers (point key)) tx begun said.0
  said_live session tx (requests.Scan range) reply None e begun said = told.held (covers range) tx begun said.0
  said_live session tx (requests.Del key) reply None e begun said = told.held (covers_write key) tx begun said.0
  said_live session tx _ reply None e begun said = absurd said

  still : (e : Entry) → untold h ≡ None → log_of (e ∷ []) ≡ [] → ((t : ℕ) → phase_step t (phase h t) e ≡ phase h t) → ((t : ℕ) → locks_step t (taken_locks h t) e ≡ taken_locks h t) → ((t : ℕ) → step_of t e ≡ []) → begun_step (greatest_begun h) e ≡ greatest_begun h → untold_step e ≡ None → At opening (h ++ e ∷ [])
  still e all_told none p l s b d =
      quiet opening h e (phase h) (locks opening h) (steps h) none p
      (λ t. ap (λ (xs : List Held). xs ++ loser_locks (is_loser opening t) (open_writes (opening ++ log_of h) t)) (l t) ∙ sym (locks_are opening h t))
      (λ t. ap (λ (xs : List Step). steps h t ++ xs) (s t) ∙ append-nil (steps h t))
      (subst (λ (n : ℕ). Told (greatest opening) n (current (opening ++ log_of h)) (open_writes (opening ++ log_of h)) (committed_contents (opening ++ log_of h)) (phase h) (locks opening h) (steps h) (untold_step e)) (sym b)
      (subst (λ (x : Option Record). Told (greatest opening) (greatest_begun h) (current (opening ++ log_of h)) (open_writes (opening ++ log_of h)) (committed_contents (opening ++ log_of h)) (phase h) (locks opening h) (steps h) x) (sym d)
      (undue opening h None all_told told)))

  began_more : (session tx : ℕ) → IsAllowed opening h (Began session tx) → At opening (h ++ Began session tx ∷ [])
  began_more session tx ok =
      let l = le-max_left (greatest opening) (greatest_begun h) in
      let r = le-max_right (greatest opening) (greatest_begun h) in
      let e = ok.rule.number in
      quiet opening h (Began session tx) _ _ _ refl (λ t. refl) (λ t. sym (locks_are opening h t)) (λ t. append-nil (steps h t))
      (Told_began _ _ _ _ _ _ _ _ (undue opening h None ok.rule.told told) tx (omega (arith, l, e)) (omega (arith, r, e)))

  lock_more : (tx : ℕ) (l : Held) → untold h ≡ None → phase h tx ≡ Live → ((other : ℕ) → other ≢ tx → list_any (conflict l) (locks opening h other) ≡ false) → At opening (h ++ Lock tx l.range l.mode ∷ [])
  lock_more tx l all_told live free =
      quiet opening h (Lock tx l.range l.mode) _ _ _ refl (λ t. refl) (λ t. by t (eqb tx t) ∙ ap (λ (xs : List Held). cond (eqb tx t) (l ∷ xs) xs) (sym (locks_are opening h t))) (λ t. append-nil (steps h t))
      (Told_lock _ _ _ _ _ _ _ _ (undue opening h None all_told told) tx l live free)
    where
      by : (t : ℕ) (b : Bool) → cond b (l ∷ taken_locks h t) (taken_locks h t) ++ loser_locks (is_loser opening t) (open_writes (opening ++ log_of h) t)
          ≡ cond b (l ∷ taken_locks h t ++ loser_locks (is_loser opening t) (open_writes (opening ++ log_of h) t)) (taken_locks h t ++ loser_locks (is_loser opening t) (open_writes (opening ++ log_of h) t))
      by t true = refl
      by t false = refl

  -- ---- records

  -- a live transaction is no loser
  live_new : (t : ℕ) → phase h t ≡ Live → is_loser opening t ≡ false
  live_new t p = no_loser opening t (told.new t p)

  may_undo : (tx : ℕ) → MayUndo opening h tx → (greatest opening < tx) → phase h tx ≡ Idle → ⊥
  may_undo tx may lo idle = elim may [
    | inl live ↦ live_not_idle (phase h tx) live idle
    | inr loser ↦ not_both (is_loser opening tx) loser (no_loser opening tx lo)
  ]

  -- the locks after a live transaction's write
  item_locks : (r : Record) (tx : ℕ) → phase h tx ≡ Live → (t : ℕ) → taken_locks h t ++ loser_locks (is_loser opening t) (with_item (open_writes (opening ++ log_of h)) tx r t) ≡ locks opening h t
  item_locks r tx live t = by (eqb tx t) refl ∙ sym (locks_are opening h t)
    where
      by : (b : Bool) → eqb tx t ≡ b → taken_locks h t ++ loser_locks (is_loser opening t) (cond b (open_writes (opening ++ log_of h) t ++ r ∷ []) (open_writes (opening ++ log_of h) t))
          ≡ taken_locks h t ++ loser_locks (is_loser opening t) (open_writes (opening ++ log_of h) t)
      by true e =
          let none : is_loser opening t ≡ false = live_new t (subst (λ (u : ℕ). phase h u ≡ Live) (eqb-true tx t e) live) in
          subst (λ (b : Bool). taken_locks h t ++ loser_locks b (open_writes (opening ++ log_of h) t ++ r ∷ []) ≡ taken_locks h t ++ loser_locks b (open_writes (opening ++ log_of h) t)) (sym none) refl
      by false e = refl

  no_locks : (b : Bool) → loser_locks b [] ≡ []
  no_locks true = refl
  no_locks false = refl

  commit_locks : (tx t : ℕ) → cond (eqb tx t) [] (taken_locks h t) ++ loser_locks (is_loser opening t) (cond (eqb tx t) [] (open_writes (opening ++ log_of h) t)) ≡ cond (eqb tx t) [] (locks opening h t)
  commit_locks tx t = by (eqb tx t)
    where
      by : (b : Bool) → cond b [] (taken_locks h t) ++ loser_locks (is_loser opening t) (cond b [] (open_writes (opening ++ log_of h) t)) ≡ cond b [] (locks opening h t)
      by true = no_locks (is_loser opening t)
      by false = sym (locks_are opening h t)

  end_locks : (tx t : ℕ) → open_writes (opening ++ log_of h) tx ≡ [] → cond (eqb tx t) [] (taken_locks h t) ++ loser_locks (is_loser opening t) (open_writes (opening ++ log_of h) t) ≡ cond (eqb tx t) [] (locks opening h t)
  end_locks tx t none = by (eqb tx t) refl
    where
      by : (b : Bool) → eqb tx t ≡ b → cond b [] (taken_locks h t) ++ loser_locks (is_loser opening t) (open_writes (opening ++ log_of h) t) ≡ cond b [] (locks opening h t)
      by true e = ap (loser_locks (is_loser opening t)) (ap (open_writes (opening ++ log_of h)) (sym (eqb-true tx t e)) ∙ none) ∙ no_locks (is_loser opening t)
      by false e = sym (locks_are opening h t)

  quiet_record : (lsn : ℕ) (r : Record) → untold h ≡ None → after (current (opening ++ log_of h)) r ≡ current (opening ++ log_of h)
      → ((t : ℕ) → open_step t r (open_writes (opening ++ log_of h) t) r ≡ open_writes (opening ++ log_of h) t) → committed_step (opening ++ log_of h) (committed_contents (opening ++ log_of h)) r ≡ committed_contents (opening ++ log_of h)
      → ((t : ℕ) → phase_step t (phase h t) (Rec lsn r) ≡ phase h t) → ((t : ℕ) → locks_step t (taken_locks h t) (Rec lsn r) ≡ taken_locks h t) → ((t : ℕ) → step_of t (Rec lsn r) ≡ []) → untold_step (Rec lsn r) ≡ None
      → At opening (h ++ Rec lsn r ∷ [])
  quiet_record lsn r all_told m o off p l s d =
      recorded opening h lsn r (open_writes (opening ++ log_of h)) (committed_contents (opening ++ log_of h)) (phase h) (locks opening h) (steps h) o off p
      (λ t. ap (λ (xs : List Held). xs ++ loser_locks (is_loser opening t) (open_writes (opening ++ log_of h) t)) (l t) ∙ sym (locks_are opening h t))
      (λ t. ap (λ (xs : List Step). steps h t ++ xs) (s t) ∙ append-nil (steps h t))
      (subst (λ (x : Contents). Told (greatest opening) (greatest_begun h) x (open_writes (opening ++ log_of h)) (committed_contents (opening ++ log_of h)) (phase h) (locks opening h) (steps h) (untold_step (Rec lsn r))) (sym m)
      (subst (λ (x : Option Record). Told (greatest opening) (greatest_begun h) (current (opening ++ log_of h)) (open_writes (opening ++ log_of h)) (committed_contents (opening ++ log_of h)) (phase h) (locks opening h) (steps h) x) (sym d)
      (undue opening h None all_told told)))

  undo_more : (lsn : ℕ) (u : Undo) → untold h ≡ None → IsLawful (opening ++ log_of h) (kinds.Undo u) → MayUndo opening h u.tx → At opening (h ++ Rec lsn (kinds.Undo u) ∷ [])
  undo_more lsn u untold lawful may =
      let rule = lawful.value in
      let at = taken_key u rule.back rule.takes in
      let back = taken_old u rule.back rule.takes in
      recorded opening h lsn (kinds.Undo u) left (committed_contents (opening ++ log_of h)) (phase h) less _ (front_left o u.tx rule.front rule.back rule.split) refl (λ t. refl) (λ t. refl) (λ t. refl)
      (Told_undo _ _ _ o _ _ _ _ (undue opening h None untold told) u rule.front rule.back rule.split at back (may_undo u.tx may) less
      (λ t p. same t (live_new t p)) (λ p t. fewer p t (eqb u.tx t) refl)
      (λ t key g. holds t key g (is_loser opening t) refl))
    where
      o : ℕ → List Record
      o = open_writes (opening ++ log_of h)

      left : ℕ → List Record
      left = with_front o u.tx lawful.value.front

      less : ℕ → List Held
      less t = taken_locks h t ++ loser_locks (is_loser opening t) (left t)

      same : (t : ℕ) → is_loser opening t ≡ false → less t ≡ locks opening h t
      same t e = subst (λ (b : Bool). taken_locks h t ++ loser_locks b (left t) ≡ taken_locks h t ++ loser_locks b (o t)) (sym e) refl ∙ sym (locks_are opening h t)

      either_more : (a b c : Bool) → (b ≡ true → c ≡ true) → (a || b) ≡ true → (a || c) ≡ true
      either_more true b c f g = refl
      either_more false b c f g = f g

      fewer : (p : Held → Bool) (t : ℕ) (b : Bool) → eqb u.tx t ≡ b → list_any p (taken_locks h t ++ loser_locks (is_loser opening t) (cond b lawful.value.front (o t))) ≡ true → list_any p (locks opening h t) ≡ true
      fewer p t false e g = ap (list_any p) (locks_are opening h t) ∙ g
      fewer p t true e g =
          let mine : o t ≡ lawful.value.front ++ lawful.value.back ∷ [] = ap o (sym (eqb-true u.tx t e)) ∙ lawful.value.split in
          ap (list_any p) (locks_are opening h t ∙ ap (λ (ws : List Record). taken_locks h t ++ loser_locks (is_loser opening t) ws) mine)
          ∙ list_any-append p (taken_locks h t) _
          ∙ either_more (list_any p (taken_locks h t)) (list_any p (loser_locks (is_loser opening t) lawful.value.front)) _ (loser_fewer p (is_loser opening t) lawful.value.front (lawful.value.back ∷ []))
          (sym (list_any-append p (taken_locks h t) (loser_locks (is_loser opening t) lawful.value.front)) ∙ g)

      holds : (t : ℕ) (key : List ℕ) → opens_in left key t ≡ true → (b : Bool) → is_loser opening t ≡ b → list_any (covers_write key) (less t) ≡ true
      holds t key g false e =
          ap (list_any (covers_write key)) (same t e)
          ∙ told.holds t key (opened_still _ o _ told.kept u lawful.value.front lawful.value.back lawful.value.split (taken_key u lawful.value.back lawful.value.takes) (taken_old u lawful.value.back lawful.value.takes) key t g)
      holds t key g true e =
          let kept = Kept_undo _ o _ told.kept u lawful.value.front lawful.value.back lawful.value.split (taken_key u lawful.value.back lawful.value.takes) (taken_old u lawful.value.back lawful.value.takes) in
          list_any-append (covers_write key) (taken_locks h t) (loser_locks (is_loser opening t) (left t))
          ∙ or_right (list_any (covers_write key) (taken_locks h t)) _ (loser_holds (is_loser opening t) (left t) key e (get (committed_contents (opening ++ log_of h))) (kept.olds t) g)

  record_more : (lsn : ℕ) (r : Record) → untold h ≡ None → IsLawful (opening ++ log_of h) r → RecordRule opening h r → At opening (h ++ Rec lsn r ∷ [])
  record_more lsn (kinds.Write w) e lawful ok =
      recorded opening h lsn (kinds.Write w) _ _ _ _ _ (λ t. refl) refl (λ t. refl) (item_locks (kinds.Write w) w.tx ok.0) (λ t. append-nil (steps h t))
      (Told_item _ _ _ _ _ _ _ _ (undue opening h None e told) (kinds.Write w) (λ q. refl) (λ n cs old. write_answer n cs w lawful.value.2 old) ok.1 lawful.value.0 lawful.value.1 ok.0)
  record_more lsn (kinds.Apply a) e lawful ok =
      recorded opening h lsn (kinds.Apply a) _ _ _ _ _ (λ t. refl) refl (λ t. refl) (item_locks (kinds.Apply a) a.tx ok.0) (λ t. append-nil (steps h t))
      (Told_item _ _ _ _ _ _ _ _ (undue opening h None e told) (kinds.Apply a) (λ q. refl) (λ n cs old. apply_answer n cs a lawful.value.2 old) ok.1 lawful.value.0 lawful.value.1 ok.0)
  record_more lsn (kinds.Undo u) e lawful ok = undo_more lsn u e lawful ok
  record_more lsn (kinds.Commit c) e lawful ok =
      recorded opening h lsn (kinds.Commit c) _ _ _ _ _ (λ t. refl) refl (λ t. refl) (commit_locks c.tx) (λ t. append-nil (steps h t))
      (Told_commit _ _ _ _ _ _ _ _ (undue opening h None e told) c ok)
  record_more lsn (kinds.End x) e lawful ok =
      recorded opening h lsn (kinds.End x) _ _ _ _ _ (emptied (open_writes (opening ++ log_of h)) x.tx lawful.value) refl (λ t. refl) (λ t. end_locks x.tx t lawful.value) (λ t. append-nil (steps h t))
      (Told_end _ _ _ _ _ _ _ _ (undue opening h None e told) x.tx lawful.value (may_undo x.tx ok))
  record_more lsn (kinds.Format f) e lawful ok = quiet_record lsn (kinds.Format f) e refl (λ t. refl) refl (λ t. refl) (λ t. refl) (λ t. refl) refl
  record_more lsn (kinds.Split f) e lawful ok = quiet_record lsn (kinds.Split f) e refl (λ t. refl) refl (λ t. refl) (λ t. refl) (λ t. refl) refl
  record_more lsn (kinds.Adopt f) e lawful ok = quiet_record lsn (kinds.Adopt f) e refl (λ t. refl) refl (λ t. refl) (λ t. refl) (λ t. refl) refl
  record_more lsn (kinds.Grow f) e lawful ok = quiet_record lsn (kinds.Grow f) e refl (λ t. refl) refl (λ t. refl) (λ t. refl) (λ t. refl) refl
  record_more lsn (kinds.Purge f) e lawful ok = quiet_record lsn (kinds.Purge f) e refl (λ t. refl) refl (λ t. refl) (λ t. refl) (λ t. refl) refl
  record_more lsn (kinds.Written f) e lawful ok = quiet_record lsn (kinds.Written f) e refl (λ t. refl) refl (λ t. refl) (λ t. refl) (λ t. refl) refl
  record_more lsn (kinds.Checkpoint f) e lawful ok = quiet_record lsn (kinds.Checkpoint f) e refl (λ t. refl) refl (λ t. refl) (λ t. refl) (λ t. refl) refl
  record_more lsn (kinds.BackupDone f) e lawful ok = quiet_record lsn (kinds.BackupDone f) e refl (λ t. refl) refl (λ t. refl) (λ t. refl) (λ t. refl) refl
  record_more lsn (kinds.RunDone f) e lawful ok = quiet_record lsn (kinds.RunDone f) e refl (λ t. refl) refl (λ t. refl) (λ t. refl) (λ t. refl) refl
  record_more lsn (kinds.Lost f) e lawful ok = quiet_record lsn (kinds.Lost f) e refl (λ t. refl) refl (λ t. refl) (λ t. refl) (λ t. refl) refl
  record_more lsn (kinds.Restored f) e lawful ok = quiet_record lsn (kinds.Restored f) e refl (λ t. refl) refl (λ t. refl) (λ t. refl) (λ t. refl) refl

  pub at_more : IsLegal opening h → (e : Entry) → IsAllowed opening h e → At opening (h ++ e ∷ [])
  at_more legal (Began session tx) ok = began_more session tx ok
  at_more legal (Lock tx range mode) ok = lock_more tx (record { range = range; mode = mode }) ok.rule.told ok.rule.live ok.rule.free
  at_more legal (Refused tx range mode holder) ok = still (Refused tx range mode holder) ok.rule.told refl (λ t. refl) (λ t. refl) (λ t. refl) refl refl
  at_more legal (Rec lsn r) ok = record_more lsn r ok.rule.told ok.rule.lawful ok.rule.rule
  at_more legal (Said session tx request reply) ok = said_more session tx request reply (untold h) refl (said_live session tx request reply (untold h) refl (owner_new opening h legal session tx ok.rule.owner) ok.rule.answer) ok.rule.answer
  at_more legal (Declined session tx request why) ok = still (Declined session tx request why) ok.rule.told refl (λ t. refl) (λ t. refl) (λ t. refl) refl refl
  at_more legal (Acked session tx) ok =
      quiet opening h (Acked session tx) _ _ _ refl (λ t. refl) (λ t. sym (locks_are opening h t)) (λ t. append-nil (steps h t))
      (Told_acked _ _ _ _ _ _ _ _ (undue opening h None ok.rule.told told) tx ok.rule.committed)
  at_more legal (Repaired page) ok = still (Repaired page) ok.rule.told refl (λ t. refl) (λ t. refl) (λ t. refl) refl refl

-- ---- the chain of the committed transactions

abbrev Chain : List Record → List Entry → Type 0
Chain opening h = Serial (committed_contents opening) (committed_transactions h) (committed_contents (opening ++ log_of h))

chain_same : (opening : List Record) (h : List Entry) (e : Entry) → committed_contents (opening ++ log_of (h ++ e ∷ [])) ≡ committed_contents (opening ++ log_of h) → finished_step h (committed_transactions h) e ≡ committed_transactions h → Chain opening h → Chain opening (h ++ e ∷ [])
chain_same opening h e off same chain =
    subst (λ (ts : List Finished). Serial (committed_contents opening) ts (committed_contents (opening ++ log_of (h ++ e ∷ [])))) (sym (transactions_push h e ∙ same))
    (subst (λ (x : Contents). Serial (committed_contents opening) (committed_transactions h) x) (sym off) chain)

chain_commit : (opening : List Record) (h : List Entry) (lsn : ℕ) (c : Commit) → untold h ≡ None → phase h c.tx ≡ Live → At opening h → Chain opening h → Chain opening (h ++ Rec lsn (kinds.Commit c) ∷ [])
chain_commit opening h lsn c e live told chain =
    let log = opening ++ log_of h in
    let off : committed_contents (opening ++ log_of (h ++ Rec lsn (kinds.Commit c) ∷ [])) ≡ fold after (committed_contents log) (open_writes log c.tx) = ap committed_contents (log_more opening h lsn (kinds.Commit c)) ∙ committed_push log (kinds.Commit c) in
    let own = (undue opening h None e told).runs c.tx live (committed_contents log) (λ key g. refl) in
    let own' : Runs (committed_contents log) [] (steps h c.tx) (fold after (committed_contents log) (open_writes log c.tx)) (stack (open_writes log c.tx)) =
    subst (λ (ss : List Step). Runs (committed_contents log) [] ss (fold after (committed_contents log) (open_writes log c.tx)) (stack (open_writes log c.tx))) (append-nil (steps h c.tx)) own in
    subst (λ (ts : List Finished). Serial (committed_contents opening) ts (committed_contents (opening ++ log_of (h ++ Rec lsn (kinds.Commit c) ∷ [])))) (sym (transactions_push h (Rec lsn (kinds.Commit c))))
    (subst (λ (x : Contents). Serial (committed_contents opening) (committed_transactions h ++ record { tx = c.tx; steps = steps h c.tx } ∷ []) x) (sym off)
    (Serial_then (committed_contents opening) (committed_transactions h) (committed_contents log) (record { tx = c.tx; steps = steps h c.tx }) _ _ chain own'))

-- a record that is no commit
chain_record : (opening : List Record) (h : List Entry) (lsn : ℕ) (r : Record) → committed_step (opening ++ log_of h) (committed_contents (opening ++ log_of h)) r ≡ committed_contents (opening ++ log_of h) → finished_step h (committed_transactions h) (Rec lsn r) ≡ committed_transactions h → Chain opening h → Chain opening (h ++ Rec lsn r ∷ [])
chain_record opening h lsn r off same chain = chain_same opening h (Rec lsn r) (ap committed_contents (log_more opening h lsn r) ∙ committed_push (opening ++ log_of h) r ∙ off) same chain

chain_of : (opening : List Record) (h : List Entry) (lsn : ℕ) (r : Record) → untold h ≡ None → RecordRule opening h r → At opening h → Chain opening h → Chain opening (h ++ Rec lsn r ∷ [])
chain_of opening h lsn (kinds.Commit c) e ok told chain = chain_commit opening h lsn c e ok told chain
chain_of opening h lsn r e ok told chain = chain_record opening h lsn r refl refl chain

chain_more : (opening : List Record) (h : List Entry) (e : Entry) → IsAllowed opening h e → At opening h → Chain opening h → Chain opening (h ++ e ∷ [])
chain_more opening h (Rec lsn r) ok told chain = chain_of opening h lsn r ok.rule.told ok.rule.rule told chain
chain_more opening h e ok told chain = chain_same opening h e (ap committed_contents (log_same opening h e refl)) refl chain

-- ---- whole histories

at_start : (opening : List Record) → AreLawful opening → At opening []
unfolding phase greatest_begun taken_locks steps untold along
at_start opening sound =
    let start : opening ++ [] ≡ opening = append-nil opening in
    let kept = kept_log opening sound in
    arrive opening [] 0 (current opening) (open_writes opening) (committed_contents opening) (λ t. Idle) (λ t. loser_locks (is_loser opening t) (open_writes opening t)) (λ t. []) None
    refl (ap current start) (λ t. ap (λ (l : List Record). open_writes l t) start) (ap committed_contents start) (λ t. refl)
    (λ t. locks_are opening [] t ∙ ap (λ (l : List Record). loser_locks (is_loser opening t) (open_writes l t)) start) (λ t. refl) refl
    (record {
      kept = kept;
      holds = λ t key h. loser_holds (is_loser opening t) (open_writes opening t) key (some (open_writes opening t) (writes key) h) (get (committed_contents opening)) (kept.olds t) h;
      apart = λ t u key n h. false_unless _ (λ g. n (kept.apart key t u
          (loser_opens (is_loser opening t) (open_writes opening t) key (get (committed_contents opening)) (kept.olds t) (write_covers (loser_locks (is_loser opening t) (open_writes opening t)) key h))
          (loser_opens (is_loser opening u) (open_writes opening u) key (get (committed_contents opening)) (kept.olds u) g)));
      free = losers_free opening sound;
      runs = λ t p n h. absurd (live_not_idle Idle p refl);
      new = λ t p. absurd (live_not_idle Idle p refl);
      fresh = λ t a b. (refl, none_open opening t a, refl);
      held = λ p t a h. absurd (not_both (list_any p (loser_locks (is_loser opening t) (open_writes opening t))) h (ap (λ (b : Bool). list_any p (loser_locks b (open_writes opening t))) (no_loser opening t a)));
      untold_live = tt;
    })
  where
    some : (ws : List Record) (p : Record → Bool) → list_any p ws ≡ true → has_items ws ≡ true
    some [] p h = absurd cc
    some (w ∷ ws) p h = refl

chain_start : (opening : List Record) → Chain opening []
unfolding committed_transactions along
chain_start opening = ap committed_contents (sym (append-nil opening))

pub after_legal : (opening : List Record) → AreLawful opening → (h : List Entry) → IsLegal opening h → At opening h × Chain opening h
after_legal opening sound = by_pushes (λ (h : List Entry). IsLegal opening h → At opening h × Chain opening h)
    (λ _. (at_start opening sound, chain_start opening))
    (λ h e before legal.
    let parts = legal_front opening h e legal in
    let at = before parts.0 in
    (at_more opening h at.0 parts.0 e parts.1, chain_more opening h e parts.1 at.0 at.1))

sound_more : (opening : List Record) (h : List Entry) (e : Entry) → IsAllowed opening h e → AreLawful (opening ++ log_of h) → AreLawful (opening ++ log_of (h ++ e ∷ []))
sound_more opening h (Rec lsn r) ok sound = subst AreLawful (sym (log_more opening h lsn r)) (lawful_back (opening ++ log_of h) r sound ok.rule.lawful)
sound_more opening h e ok sound = subst AreLawful (sym (log_same opening h e refl)) sound

pub sound_after : (opening : List Record) → AreLawful opening → (h : List Entry) → IsLegal opening h → AreLawful (opening ++ log_of h)
sound_after opening sound = by_pushes (λ (h : List Entry). IsLegal opening h → AreLawful (opening ++ log_of h))
    (λ _. subst AreLawful (sym (append-nil opening)) sound)
    (λ h e before legal. let parts = legal_front opening h e legal in sound_more opening h e parts.1 (before parts.0))

pub serial_all : (opening : List Record) (h : List Entry) → SerialLaw opening h
serial_all opening h = record {
  sound = λ sound legal. sound_after opening sound h legal;
  relation = λ sound legal. (after_legal opening sound h legal).1;
  result = λ sound legal. serial_is (committed_contents opening) (committed_transactions h) (committed_contents (opening ++ log_of h)) (after_legal opening sound h legal).1;
}

pub central_of_lives : (opening : List Record) (h : List Entry) → CentralLawOfLives opening h
central_of_lives opening h sound legal = agree (opening ++ log_of h) (after_legal opening sound h legal).0.kept
