-- The history of a calm life goes on by one entry.
use Rattle.std.proofs.Common.{◌≡◌, ℕ, ◌+◌, ◌≤◌, suc, Bool, true, false, cond, eqb, List, [], ◌∷◌, ◌++◌, Option, Some, None, refl, sym, ap, ◌∙◌, arith}
use Rattle.std.specs.Prelude.{◌&&◌, max, filter, length}
use Rattle.std.specs.List.{list_any}
use Rattle.std.proofs.lemmas.Bool.{eqb-true}
use Rattle.std.proofs.lemmas.List.Folds.{list_any-append}
use Rattle.store_model.proofs.Bools.{or_left, or_right, and_true}
use Rattle.wal_record.specs.Chains.{greatest}
use Rattle.wal_record.specs.History.{life_log, Phase, Live, Committed, Acknowledged, phase, phase_step, is_live, Beginning, beginnings, is_owner, begun_step, greatest_begun, session_step, last_begun, live_count}
use Rattle.wal_record.specs.Locks.{Held, locks_step, taken_locks}
use Rattle.wal_record.specs.Legal.{split_step}
use Rattle.wal_record.specs.declared.record.Record.{Record}
use Rattle.wal_record.specs.declared.entry.Entry.{Entry}
use Rattle.wal_record.specs.declared.entry.Entry.TheVariants.{Rec, Acked, Began}
use Rattle.wal_record.proofs.Pushes.{beginnings_push, phase_push, begun_push, last_begun_push, taken_push, split_leaf_push}
use Rattle.log_laws.proofs.Central.{eqb_self, eqb_differ}
use Rattle.log_laws.proofs.Told.{not_live}
use Rattle.life_laws.specs.Calm.{Opened, is_open, MaybeInHistory, CalmHistory}
use Rattle.life_laws.specs.Commands.{committing, begun}

pub owner_kept : (h : List Entry) (e : Entry) (session tx : ℕ) → is_owner h session tx ≡ true → is_owner (h ++ e ∷ []) session tx ≡ true
owner_kept h e session tx o =
    let test = λ (b : Beginning). eqb b.session session && eqb b.tx tx in
    ap (list_any test) (beginnings_push h e) ∙ list_any-append test (beginnings h) (beginnings (e ∷ [])) ∙ or_left (list_any test (beginnings h)) (list_any test (beginnings (e ∷ []))) o

owner_new : (h : List Entry) (session tx : ℕ) → is_owner (h ++ Began session tx ∷ []) session tx ≡ true
owner_new h session tx =
    let test = λ (b : Beginning). eqb b.session session && eqb b.tx tx in
    ap (list_any test) (beginnings_push h (Began session tx)) ∙ list_any-append test (beginnings h) (beginnings (Began session tx ∷ []))
    ∙ or_right (list_any test (beginnings h)) (list_any test (beginnings (Began session tx ∷ []))) (or_left (eqb session session && eqb tx tx) false (and_true (eqb session session) (eqb tx tx) (eqb_self session) (eqb_self tx)))

-- no transaction is live where each one is at rest
pub none_live : (h : List Entry) → ((t : ℕ) → is_live (phase h t) ≡ false) → live_count h ≡ 0
none_live h f = none (beginnings h)
  where
    none : (bs : List Beginning) → length (filter (λ (b : Beginning). is_live (phase h b.tx)) bs) ≡ 0
    none [] = refl
    none (b ∷ bs) = ap (λ (x : Bool). length (cond x (b ∷ filter (λ (b : Beginning). is_live (phase h b.tx)) bs) (filter (λ (b : Beginning). is_live (phase h b.tx)) bs))) (f b.tx) ∙ none bs

module _ (opening : List Record) (h : List Entry) (next : ℕ) where
  -- an entry that leaves phases and sessions, and the locks of all but the open transaction
  pub history_same : (active : Option Opened) → CalmHistory opening h active next → (e : Entry)
      → ((t : ℕ) (p : Phase) → phase_step t p e ≡ p) → ((n : ℕ) → begun_step n e ≡ n) → ((session : ℕ) (t : Option ℕ) → session_step session t e ≡ t)
      → ((t : ℕ) (ls : List Held) → is_open active t ≡ false → locks_step t ls e ≡ ls) → split_step (life_log opening h) e ≡ None
      → CalmHistory opening (h ++ e ∷ []) active next
  history_same active c e phases begun sessions unlocked split =
      record {
        number = c.number ∙ ap (λ (n : ℕ). suc (max (greatest opening) n)) (sym (begun_push h e ∙ begun (greatest_begun h)));
        sessions = λ s l. last_begun_push h e s ∙ sessions s (last_begun h s) ∙ c.sessions s l;
        rest = λ t a. record { idle = ap is_live (phase_push h e t ∙ phases t (phase h t)) ∙ (c.rest t a).idle; unlocked = taken_push h e t ∙ unlocked t (taken_locks h t) a ∙ (c.rest t a).unlocked };
        opened = opened active c.opened;
        no_split = split_leaf_push opening h e ∙ split;
      }
    where
      opened : (a : Option Opened) → MaybeInHistory h a → MaybeInHistory (h ++ e ∷ []) a
      opened None m = tt
      opened (Some o) m = record { live = phase_push h e o.tx ∙ phases o.tx (phase h o.tx) ∙ m.live; owner = owner_kept h e o.session o.tx m.owner }

  pub history_began : CalmHistory opening h None next → (session : ℕ) → session ≤ next → CalmHistory opening (h ++ Began session next ∷ []) (Some (begun session next)) (next + 1)
  history_began c session low =
      let e : Entry = Began session next in
      record {
        number = let b = begun_push h e in let n = c.number in omega (arith, b, n);
        sessions = λ s l. last_begun_push h e s ∙ ap (λ (b : Bool). cond b (Some next) (last_begun h s)) (eqb_differ session s (λ same. absurd (omega (arith, low, l, same)))) ∙ c.sessions s (omega (arith, l));
        rest = λ t a. record { idle = ap is_live (phase_push h e t ∙ ap (λ (b : Bool). cond b Live (phase h t)) a) ∙ (c.rest t refl).idle; unlocked = taken_push h e t ∙ (c.rest t refl).unlocked };
        opened = record { live = phase_push h e next ∙ ap (λ (b : Bool). cond b Live (phase h next)) (eqb_self next); owner = owner_new h session next };
        no_split = split_leaf_push opening h e;
      }

  pub history_committed : (o : Opened) → CalmHistory opening h (Some o) next → (lsn : ℕ) → CalmHistory opening (h ++ Rec lsn (committing o) ∷ []) None next
  history_committed o c lsn =
      let e : Entry = Rec lsn (committing o) in
      record {
        number = c.number ∙ ap (λ (n : ℕ). suc (max (greatest opening) n)) (sym (begun_push h e));
        sessions = λ s l. last_begun_push h e s ∙ c.sessions s l;
        rest = λ t a. record { idle = ap is_live (phase_push h e t) ∙ over (eqb o.tx t) (phase h t) (λ b. (c.rest t b).idle); unlocked = taken_push h e t ∙ fallen (eqb o.tx t) (taken_locks h t) (λ b. (c.rest t b).unlocked) };
        opened = tt;
        no_split = split_leaf_push opening h e;
      }
    where
      over : (b : Bool) (p : Phase) → (b ≡ false → is_live p ≡ false) → is_live (cond b Committed p) ≡ false
      over true p f = refl
      over false p f = f refl

      fallen : (b : Bool) (ls : List Held) → (b ≡ false → ls ≡ []) → cond b [] ls ≡ []
      fallen true ls f = refl
      fallen false ls f = f refl

  pub history_acked : (active : Option Opened) → CalmHistory opening h active next → (session tx : ℕ) → phase h tx ≡ Committed → CalmHistory opening (h ++ Acked session tx ∷ []) active next
  history_acked active c session tx done =
      let e : Entry = Acked session tx in
      record {
        number = c.number ∙ ap (λ (n : ℕ). suc (max (greatest opening) n)) (sym (begun_push h e));
        sessions = λ s l. last_begun_push h e s ∙ c.sessions s l;
        rest = λ t a. record { idle = ap is_live (phase_push h e t) ∙ over (eqb tx t) (phase h t) (c.rest t a).idle; unlocked = taken_push h e t ∙ (c.rest t a).unlocked };
        opened = opened active c.opened;
        no_split = split_leaf_push opening h e;
      }
    where
      over : (b : Bool) (p : Phase) → is_live p ≡ false → is_live (cond b Acknowledged p) ≡ false
      over true p f = refl
      over false p f = f

      still : (t : ℕ) (b : Bool) → eqb tx t ≡ b → phase h t ≡ Live → cond b Acknowledged (phase h t) ≡ Live
      still t true g l = absurd (not_live (phase h tx) (ap (phase h) (eqb-true tx t g) ∙ l) (ap is_live done))
      still t false g l = l

      opened : (a : Option Opened) → MaybeInHistory h a → MaybeInHistory (h ++ Acked session tx ∷ []) a
      opened None m = tt
      opened (Some o) m = record { live = phase_push h (Acked session tx) o.tx ∙ still o.tx (eqb tx o.tx) refl m.live; owner = owner_kept h (Acked session tx) o.session o.tx m.owner }
