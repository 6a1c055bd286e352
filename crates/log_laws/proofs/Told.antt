-- What every entry of a legal history keeps.
use Rattle.std.proofs.Common.{◌≡◌, ◌≢◌, ℕ, Bool, true, false, cond, eqb, List, [], ◌∷◌, ◌++◌, Option, Some, None, refl, sym, ap, subst, ◌∙◌, arith, inl, inr}
use Rattle.std.specs.Prelude.{fold, max, ◌<◌, ◌||◌}
use Rattle.std.specs.List.{list_any}
use Rattle.std.specs.FinMap.{get}
use Rattle.std.proofs.Math.Nat.{le-max_left, le-max_right}
use Rattle.std.proofs.lemmas.Bool.{eqb-true}
use Rattle.std.proofs.lemmas.List.{append-nil}
use Rattle.std.proofs.lemmas.List.Sums.{fold-append}
use Rattle.std.proofs.lemmas.List.Folds.{list_any-append}
use Rattle.store_model.specs.Contents.{Contents}
use Rattle.store_model.specs.declared.request.Request.{Request}
use Rattle.store_model.specs.declared.reply.Reply.{Reply}
use Rattle.store_model.proofs.Bools.{or_left, or_right, not_both, false_unless}
use Rattle.wal_record.specs.declared.record.Record.{Record}
use Rattle.wal_record.specs.declared.record.Record.TheVariants as kinds
use Rattle.wal_record.specs.declared.record.Undo.{Undo}
use Rattle.wal_record.specs.declared.record.Commit.{Commit}
use Rattle.wal_record.specs.Contents.{after}
use Rattle.wal_record.specs.OpenWrites.{key_of, old_of, writes}
use Rattle.wal_record.specs.History.{Phase, Idle, Live, Committed, Acknowledged, Ended, is_live}
use Rattle.wal_record.specs.Locks.{Held, conflict, covers_key, covers_write}
use Rattle.wal_record.specs.Steps.{Step, Asked, Back}
use Rattle.wal_record.specs.Serial.{Change, Runs}
use Rattle.wal_record.specs.Chains.{tx_of}
use Rattle.log_laws.specs.Locks.{meets}
use Rattle.log_laws.proofs.Central.{value_after, opens_in, Alone, IsChange, with_item, with_front, with_commit, Kept, parts, get-fold, untouched, differ, open_before, Kept_item, Kept_undo, Kept_commit, own_key}
use Rattle.log_laws.proofs.Locked.{meets_more, meets_less, IsWithin, writer_apart, reader_apart, write_covers}
use Rattle.log_laws.proofs.Runs.{change_of, stack, stack_push, Runs_then, told_step, back_answer}

abbrev pub untold_steps : Option Record → ℕ → List Step
untold_steps None t = []
untold_steps (Some r) t = cond (eqb (tx_of r) t) (told_step r ∷ []) []

abbrev pub Reads : (ℕ → List Held) → ℕ → List ℕ → Type 0
Reads ls t key = list_any (covers_key key) (ls t) ≡ true

-- who has a write to be told is live
abbrev pub UntoldLive : (ℕ → Phase) → Option Record → Type 0
UntoldLive ph None = Unit {0}
UntoldLive ph (Some r) = ph (tx_of r) ≡ Live

-- first and last: the greatest numbers of transactions that the opening log names, and that were begun
pub record Told (first last : ℕ) (m : Contents) (o : ℕ → List Record) (off : Contents) (ph : ℕ → Phase) (ls : ℕ → List Held) (st : ℕ → List Step) (d : Option Record) : Type 0 where
  pub kept : Kept m o off
  pub holds : (t : ℕ) (key : List ℕ) → opens_in o key t ≡ true → list_any (covers_write key) (ls t) ≡ true
  pub apart : (t u : ℕ) (key : List ℕ) → t ≢ u → list_any (covers_write key) (ls t) ≡ true → list_any (covers_key key) (ls u) ≡ false
  -- no lock of one conflicts with one of another
  pub free : (t u : ℕ) → t ≢ u → meets (ls t) (ls u) ≡ false
  -- a live transaction's steps run on all contents that agree with the committed ones at its locked keys
  pub runs : (t : ℕ) → ph t ≡ Live → (n : Contents) → ((key : List ℕ) → Reads ls t key → get n key ≡ get off key) → Runs n [] (st t ++ untold_steps d t) (fold after n (o t)) (stack (o t))
  pub new : (t : ℕ) → ph t ≡ Live → first < t
  pub fresh : (t : ℕ) → first < t → last < t → (ph t ≡ Idle) × (o t ≡ []) × (st t ≡ [])
  -- who holds a lock and is no loser is live
  pub held : (p : Held → Bool) (t : ℕ) → first < t → list_any p (ls t) ≡ true → ph t ≡ Live
  pub untold_live : UntoldLive ph d

pub not_live : (p : Phase) → p ≡ Live → is_live p ≡ false → ⊥
not_live p e f = not_both (is_live p) (ap is_live e) f

pub live_not_idle : (p : Phase) → p ≡ Live → p ≡ Idle → ⊥
live_not_idle p a b = not_live p a (ap is_live b)

committed_not_idle : (p : Phase) → p ≡ Committed → p ≡ Idle → ⊥
committed_not_idle p a b = let e : Committed ≡ Idle = sym a ∙ b in absurd cc

below_not : (a b : ℕ) → a ≡ b → a < b → ⊥
below_not a b e h = omega (arith, e, h)

max_below : (a b t : ℕ) → max a b < t → (a < t) × (b < t)
max_below a b t h = let l = le-max_left a b in let r = le-max_right a b in (omega (arith, h, l), omega (arith, h, r))

last_any : (ws : List Record) (w : Record) (p : Record → Bool) → p w ≡ true → list_any p (ws ++ w ∷ []) ≡ true
last_any ws w p h = list_any-append p ws (w ∷ []) ∙ or_right (list_any p ws) (p w || false) (or_left (p w) false h)

none_or_all : (b : Bool) (ls : List Held) → IsWithin (cond b [] ls) ls
none_or_all true ls p h = absurd cc
none_or_all false ls p h = h

module _ (first last : ℕ) (m : Contents) (o : ℕ → List Record) (off : Contents) (ph : ℕ → Phase) (ls : ℕ → List Held) (st : ℕ → List Step) where
  -- the contents at a key that a transaction has locked
  locked_value : (d : Option Record) → Told first last m o off ph ls st d → (t : ℕ) (key : List ℕ) → Reads ls t key → get m key ≡ fold (value_after key) (get off key) (o t)
  locked_value d told t key h = told.kept.value key t (λ other n. false_unless (opens_in o key other) (λ g.
      not_both (list_any (covers_key key) (ls t)) h (told.apart other t key n (told.holds other key g))))

  -- a run's contents at a locked key are the contents
  pub run_value : (d : Option Record) → Told first last m o off ph ls st d → (t : ℕ) (n : Contents) → ((key : List ℕ) → Reads ls t key → get n key ≡ get off key) → (key : List ℕ) → Reads ls t key → get (fold after n (o t)) key ≡ get m key
  run_value d told t n h key reads = get-fold key (o t) n ∙ ap (λ (v : Option (List ℕ)). fold (value_after key) v (o t)) (h key reads) ∙ sym (locked_value d told t key reads)

  pub Told_began : Told first last m o off ph ls st None → (tx : ℕ) → first < tx → last < tx → Told first (max last tx) m o off (λ t. cond (eqb tx t) Live (ph t)) ls st None
  Told_began told tx lo hi = record {
    kept = told.kept;
    holds = told.holds;
    apart = told.apart;
    free = told.free;
    runs = λ t. by t (eqb tx t) refl;
    new = λ t. new t (eqb tx t) refl;
    fresh = λ t a b. fresh t a b (eqb tx t) refl;
    held = λ p t a h. held p t a h (eqb tx t);
    untold_live = tt;
  }
    where
      by : (t : ℕ) (b : Bool) → eqb tx t ≡ b → cond b Live (ph t) ≡ Live → (n : Contents) → ((key : List ℕ) → Reads ls t key → get n key ≡ get off key) → Runs n [] (st t ++ []) (fold after n (o t)) (stack (o t))
      by t true e p n h =
          let none : (ph t ≡ Idle) × (o t ≡ []) × (st t ≡ []) = subst (λ (u : ℕ). (ph u ≡ Idle) × (o u ≡ []) × (st u ≡ [])) (eqb-true tx t e) (told.fresh tx lo hi) in
          subst (λ (ss : List Step). Runs n [] (ss ++ []) (fold after n (o t)) (stack (o t))) (sym none.2)
          (subst (λ (ws : List Record). Runs n [] [] (fold after n ws) (stack ws)) (sym none.1) (refl, refl))
      by t false e p n h = told.runs t p n h

      held : (p : Held → Bool) (t : ℕ) → first < t → list_any p (ls t) ≡ true → (b : Bool) → cond b Live (ph t) ≡ Live
      held p t a h true = refl
      held p t a h false = told.held p t a h

      new : (t : ℕ) (b : Bool) → eqb tx t ≡ b → cond b Live (ph t) ≡ Live → first < t
      new t true e p = subst (λ (u : ℕ). first < u) (eqb-true tx t e) lo
      new t false e p = told.new t p

      fresh : (t : ℕ) → first < t → max last tx < t → (b : Bool) → eqb tx t ≡ b → (cond b Live (ph t) ≡ Idle) × (o t ≡ []) × (st t ≡ [])
      fresh t a b true e = absurd (below_not tx t (eqb-true tx t e) (max_below last tx t b).1)
      fresh t a b false e = told.fresh t a (max_below last tx t b).0

  pub Told_lock : Told first last m o off ph ls st None → (tx : ℕ) (l : Held) → ph tx ≡ Live → ((other : ℕ) → other ≢ tx → list_any (conflict l) (ls other) ≡ false) → Told first last m o off ph (λ t. cond (eqb tx t) (l ∷ ls t) (ls t)) st None
  Told_lock told tx l live free = record {
    kept = told.kept;
    holds = λ t key h. wider (covers_write key) t (eqb tx t) (told.holds t key h);
    apart = λ t u key n h. far t u key n (eqb tx t) (eqb tx u) refl refl h;
    free = λ t u n. clear t u n (eqb tx t) (eqb tx u) refl refl;
    runs = λ t p n h. told.runs t p n (λ key g. h key (wider (covers_key key) t (eqb tx t) g));
    new = told.new;
    fresh = told.fresh;
    held = λ p t a h. held p t a (eqb tx t) refl h;
    untold_live = tt;
  }
    where
      held : (p : Held → Bool) (t : ℕ) → first < t → (b : Bool) → eqb tx t ≡ b → list_any p (cond b (l ∷ ls t) (ls t)) ≡ true → ph t ≡ Live
      held p t a true e h = subst (λ (u : ℕ). ph u ≡ Live) (eqb-true tx t e) live
      held p t a false e h = told.held p t a h

      clear : (t u : ℕ) → t ≢ u → (b c : Bool) → eqb tx t ≡ b → eqb tx u ≡ c → meets (cond b (l ∷ ls t) (ls t)) (cond c (l ∷ ls u) (ls u)) ≡ false
      clear t u n true true e g = absurd (n (sym (eqb-true tx t e) ∙ eqb-true tx u g))
      clear t u n true false e g = ap (λ (b : Bool). b || meets (ls t) (ls u)) (free u (λ s. differ tx u g (sym s))) ∙ told.free t u n
      clear t u n false true e g = meets_more (ls t) (ls u) l (free t (λ s. differ tx t e (sym s))) (told.free t u n)
      clear t u n false false e g = told.free t u n

      wider : (p : Held → Bool) (t : ℕ) (b : Bool) → list_any p (ls t) ≡ true → list_any p (cond b (l ∷ ls t) (ls t)) ≡ true
      wider p t true h = elim (p l) as (λ c. (c || list_any p (ls t)) ≡ true) [ true ↦ refl | false ↦ h ]
      wider p t false h = h

      far : (t u : ℕ) (key : List ℕ) → t ≢ u → (b c : Bool) → eqb tx t ≡ b → eqb tx u ≡ c
          → list_any (covers_write key) (cond b (l ∷ ls t) (ls t)) ≡ true → list_any (covers_key key) (cond c (l ∷ ls u) (ls u)) ≡ false
      far t u key n true true e g h = absurd (n (sym (eqb-true tx t e) ∙ eqb-true tx u g))
      far t u key n true false e g h = written (covers_write key l) refl h
        where
          other : u ≢ tx
          other s = differ tx u g (sym s)

          written : (b : Bool) → covers_write key l ≡ b → (b || list_any (covers_write key) (ls t)) ≡ true → list_any (covers_key key) (ls u) ≡ false
          written true w x = writer_apart l (ls u) key (free u other) w
          written false w x = told.apart t u key n x
      far t u key n false true e g h = read (covers_key key l) refl
        where
          other : t ≢ tx
          other s = differ tx t e (sym s)

          read : (b : Bool) → covers_key key l ≡ b → (b || list_any (covers_key key) (ls u)) ≡ false
          read true r = absurd (not_both (list_any (covers_write key) (ls t)) h (reader_apart l (ls t) key (free t other) r))
          read false r = told.apart t u key n h
      far t u key n false false e g h = told.apart t u key n h

  -- a write, or an operator applied, by a live transaction at a key that it has locked
  pub Told_item : Told first last m o off ph ls st None → (r : Record) → IsChange r → ((n : Contents) (cs : List Change) → old_of r ≡ get n (key_of r) → Runs n cs (told_step r ∷ []) (after n r) (change_of r ∷ cs))
      → list_any (covers_write (key_of r)) (ls (tx_of r)) ≡ true → Alone o (key_of r) (tx_of r) → old_of r ≡ get m (key_of r) → ph (tx_of r) ≡ Live
      → Told first last (after m r) (with_item o (tx_of r) r) off ph ls st (Some r)
  Told_item told r change answers locked alone old live = record {
    kept = Kept_item o r (tx_of r) change m off told.kept alone old;
    holds = λ t key h. elim (open_before o r (tx_of r) change key t h) [
      | inl g ↦ told.holds t key g
      | inr g ↦ subst (λ (k : List ℕ). list_any (covers_write k) (ls t) ≡ true) (sym g.1) (subst (λ (u : ℕ). list_any (covers_write (key_of r)) (ls u) ≡ true) g.0 locked)
    ];
    apart = told.apart;
    free = told.free;
    runs = λ t p n h. by t p n h (eqb (tx_of r) t) refl;
    new = told.new;
    fresh = λ t a b. still t a b (eqb (tx_of r) t) refl;
    held = told.held;
    untold_live = live;
  }
    where
      by : (t : ℕ) → ph t ≡ Live → (n : Contents) → ((key : List ℕ) → Reads ls t key → get n key ≡ get off key) → (b : Bool) → eqb (tx_of r) t ≡ b
          → Runs n [] (st t ++ cond b (told_step r ∷ []) []) (fold after n (cond b (o t ++ r ∷ []) (o t))) (stack (cond b (o t ++ r ∷ []) (o t)))
      by t p n h false e = told.runs t p n h
      by t p n h true e =
          let reads : Reads ls t (key_of r) = subst (λ (u : ℕ). Reads ls u (key_of r)) (eqb-true (tx_of r) t e) (write_covers (ls (tx_of r)) (key_of r) locked) in
          let before : Runs n [] (st t) (fold after n (o t)) (stack (o t)) = subst (λ (ss : List Step). Runs n [] ss (fold after n (o t)) (stack (o t))) (append-nil (st t)) (told.runs t p n h) in
          let found = run_value None told t n h (key_of r) reads in
          subst (λ (x : Contents). Runs n [] (st t ++ told_step r ∷ []) x (stack (o t ++ r ∷ []))) (sym (fold-append after n (o t) (r ∷ [])))
          (subst (λ (cs : List Change). Runs n [] (st t ++ told_step r ∷ []) (after (fold after n (o t)) r) cs) (sym (stack_push (o t) r))
          (Runs_then n [] (st t) (fold after n (o t)) (stack (o t)) (told_step r ∷ []) (after (fold after n (o t)) r) (change_of r ∷ stack (o t)) before
          (answers (fold after n (o t)) (stack (o t)) (old ∙ sym found))))

      still : (t : ℕ) → first < t → last < t → (b : Bool) → eqb (tx_of r) t ≡ b → (ph t ≡ Idle) × (cond b (o t ++ r ∷ []) (o t) ≡ []) × (st t ≡ [])
      still t a b true e = absurd (live_not_idle (ph t) (subst (λ (u : ℕ). ph u ≡ Live) (eqb-true (tx_of r) t e) live) (told.fresh t a b).0)
      still t a b false e = told.fresh t a b

  abbrev pub with_step : ℕ → Step → ℕ → List Step
  with_step tx s t = st t ++ cond (eqb tx t) (s ∷ []) []

  step_fresh : (d : Option Record) → Told first last m o off ph ls st d → (tx : ℕ) (s : Step) → ((first < tx) → ph tx ≡ Idle → ⊥) → (t : ℕ) → first < t → last < t → st t ++ cond (eqb tx t) (s ∷ []) [] ≡ []
  step_fresh d told tx s known t a b = by (eqb tx t) refl
    where
      by : (c : Bool) → eqb tx t ≡ c → st t ++ cond c (s ∷ []) [] ≡ []
      by true e = absurd (subst (λ (u : ℕ). (first < u) → ph u ≡ Idle → ⊥) (eqb-true tx t e) known a (told.fresh t a b).0)
      by false e = append-nil (st t) ∙ (told.fresh t a b).2

  -- its last open write taken back: by a live transaction, or of a loser, whose locks become fewer
  pub Told_undo : Told first last m o off ph ls st None → (u : Undo) (front : List Record) (w : Record) (split : o u.tx ≡ front ++ w ∷ []) (at : u.key ≡ key_of w) (back : u.restores ≡ old_of w)
      → ((first < u.tx) → ph u.tx ≡ Idle → ⊥) → (less : ℕ → List Held)
      → ((t : ℕ) → ph t ≡ Live → less t ≡ ls t)
      → ((p : Held → Bool) (t : ℕ) → list_any p (less t) ≡ true → list_any p (ls t) ≡ true)
      → ((t : ℕ) (key : List ℕ) → opens_in (with_front o u.tx front) key t ≡ true → list_any (covers_write key) (less t) ≡ true)
      → Told first last (after m (kinds.Undo u)) (with_front o u.tx front) off ph less (with_step u.tx Back) None
  Told_undo told u front w split at back known less same fewer holds = record {
    kept = Kept_undo m o off told.kept u front w split at back;
    holds = holds;
    apart = λ t v key n h. false_unless (list_any (covers_key key) (less v)) (λ g. not_both (list_any (covers_key key) (ls v)) (fewer (covers_key key) v g) (told.apart t v key n (fewer (covers_write key) t h)));
    free = λ t v n. meets_less (ls t) (ls v) (less t) (less v) (λ p. fewer p t) (λ p. fewer p v) (told.free t v n);
    runs = λ t p n h. subst (λ (ss : List Step). Runs n [] ss (fold after n (with_front o u.tx front t)) (stack (with_front o u.tx front t))) (sym (append-nil (with_step u.tx Back t)))
        (by t p n (λ key g. h key (subst (λ (x : List Held). list_any (covers_key key) x ≡ true) (sym (same t p)) g)) (eqb u.tx t) refl);
    new = told.new;
    fresh = λ t a b. ((told.fresh t a b).0, still t a b (eqb u.tx t) refl, step_fresh None told u.tx Back known t a b);
    held = λ p t a h. told.held p t a (fewer p t h);
    untold_live = tt;
  }
    where
      by : (t : ℕ) → ph t ≡ Live → (n : Contents) → ((key : List ℕ) → Reads ls t key → get n key ≡ get off key) → (b : Bool) → eqb u.tx t ≡ b
          → Runs n [] (st t ++ cond b (Back ∷ []) []) (fold after n (cond b front (o t))) (stack (cond b front (o t)))
      by t p n h false e = told.runs t p n h
      by t p n h true e =
          let was = parts m o off told.kept u front w split at back in
          let mine : o t ≡ front ++ w ∷ [] = ap o (sym (eqb-true u.tx t e)) ∙ split in
          let before : Runs n [] (st t) (fold after n (front ++ w ∷ [])) (stack (front ++ w ∷ [])) =
          subst (λ (ws : List Record). Runs n [] (st t) (fold after n ws) (stack ws)) mine
          (subst (λ (ss : List Step). Runs n [] ss (fold after n (o t)) (stack (o t))) (append-nil (st t)) (told.runs t p n h)) in
          let opens : opens_in o (key_of w) t ≡ true = ap (list_any (writes (key_of w))) mine ∙ last_any front w (writes (key_of w)) (was.1 (key_of w) ∙ own_key (key_of w) (key_of w) refl) in
          let agrees : get n (key_of w) ≡ get off (key_of w) = h (key_of w) (write_covers (ls t) (key_of w) (told.holds t (key_of w) opens)) in
          Runs_then n [] (st t) (fold after n (front ++ w ∷ [])) (stack (front ++ w ∷ [])) (Back ∷ []) (fold after n front) (stack front) before
          (back_answer n front w was.1 (was.2 ∙ sym (get-fold (key_of w) front n ∙ ap (λ (v : Option (List ℕ)). fold (value_after (key_of w)) v front) agrees)))

      still : (t : ℕ) → first < t → last < t → (b : Bool) → eqb u.tx t ≡ b → cond b front (o t) ≡ []
      still t a b true e = absurd (subst (λ (x : ℕ). (first < x) → ph x ≡ Idle → ⊥) (eqb-true u.tx t e) known a (told.fresh t a b).0)
      still t a b false e = (told.fresh t a b).1

  pub Told_commit : Told first last m o off ph ls st None → (c : Commit) → ph c.tx ≡ Live
      → Told first last m (with_commit o c) (fold after off (o c.tx)) (λ t. cond (eqb c.tx t) Committed (ph t)) (λ t. cond (eqb c.tx t) [] (ls t)) st None
  Told_commit told c live = record {
    kept = Kept_commit m o off told.kept c;
    holds = λ t key. held t key (eqb c.tx t);
    apart = λ t u key n. far t u key n (eqb c.tx t) (eqb c.tx u);
    free = λ t u n. meets_less (ls t) (ls u) _ _ (none_or_all (eqb c.tx t) (ls t)) (none_or_all (eqb c.tx u) (ls u)) (told.free t u n);
    runs = λ t. by t (eqb c.tx t) refl;
    new = λ t. new t (eqb c.tx t);
    fresh = λ t a b. still t a b (eqb c.tx t) refl;
    held = λ p t a. locked p t a (eqb c.tx t);
    untold_live = tt;
  }
    where
      locked : (p : Held → Bool) (t : ℕ) → first < t → (b : Bool) → list_any p (cond b [] (ls t)) ≡ true → cond b Committed (ph t) ≡ Live
      locked p t a true h = absurd cc
      locked p t a false h = told.held p t a h

      held : (t : ℕ) (key : List ℕ) (b : Bool) → list_any (writes key) (cond b [] (o t)) ≡ true → list_any (covers_write key) (cond b [] (ls t)) ≡ true
      held t key true h = absurd cc
      held t key false h = told.holds t key h

      far : (t u : ℕ) (key : List ℕ) → t ≢ u → (b d : Bool) → list_any (covers_write key) (cond b [] (ls t)) ≡ true → list_any (covers_key key) (cond d [] (ls u)) ≡ false
      far t u key n true d h = absurd cc
      far t u key n false true h = refl
      far t u key n false false h = told.apart t u key n h

      by : (t : ℕ) (b : Bool) → eqb c.tx t ≡ b → cond b Committed (ph t) ≡ Live → (n : Contents) → ((key : List ℕ) → list_any (covers_key key) (cond b [] (ls t)) ≡ true → get n key ≡ get (fold after off (o c.tx)) key)
          → Runs n [] (st t ++ []) (fold after n (cond b [] (o t))) (stack (cond b [] (o t)))
      by t true e p n h = absurd (not_live Committed p refl)
      by t false e p n h = told.runs t p n (λ key g.
          let closed : opens_in o key c.tx ≡ false = false_unless (opens_in o key c.tx) (λ x. not_both (list_any (covers_key key) (ls t)) g (told.apart c.tx t key (differ c.tx t e) (told.holds c.tx key x))) in
          h key g ∙ get-fold key (o c.tx) off ∙ untouched key (o c.tx) (get off key) closed)

      new : (t : ℕ) (b : Bool) → cond b Committed (ph t) ≡ Live → first < t
      new t true p = absurd (not_live Committed p refl)
      new t false p = told.new t p

      still : (t : ℕ) → first < t → last < t → (b : Bool) → eqb c.tx t ≡ b → (cond b Committed (ph t) ≡ Idle) × (cond b [] (o t) ≡ []) × (st t ≡ [])
      still t a b true e = absurd (live_not_idle (ph t) (subst (λ (u : ℕ). ph u ≡ Live) (eqb-true c.tx t e) live) (told.fresh t a b).0)
      still t a b false e = told.fresh t a b

  -- an end of a transaction without open writes
  pub Told_end : Told first last m o off ph ls st None → (tx : ℕ) → o tx ≡ [] → ((first < tx) → ph tx ≡ Idle → ⊥)
      → Told first last m o off (λ t. cond (eqb tx t) Ended (ph t)) (λ t. cond (eqb tx t) [] (ls t)) st None
  Told_end told tx none known = record {
    kept = told.kept;
    holds = λ t key. held t key (eqb tx t) refl;
    apart = λ t u key n. far t u key n (eqb tx t) (eqb tx u);
    free = λ t u n. meets_less (ls t) (ls u) _ _ (none_or_all (eqb tx t) (ls t)) (none_or_all (eqb tx u) (ls u)) (told.free t u n);
    runs = λ t. by t (eqb tx t);
    new = λ t. new t (eqb tx t);
    fresh = λ t a b. still t a b (eqb tx t) refl;
    held = λ p t a. locked p t a (eqb tx t);
    untold_live = tt;
  }
    where
      locked : (p : Held → Bool) (t : ℕ) → first < t → (b : Bool) → list_any p (cond b [] (ls t)) ≡ true → cond b Ended (ph t) ≡ Live
      locked p t a true h = absurd cc
      locked p t a false h = told.held p t a h

      held : (t : ℕ) (key : List ℕ) (b : Bool) → eqb tx t ≡ b → list_any (writes key) (o t) ≡ true → list_any (covers_write key) (cond b [] (ls t)) ≡ true
      held t key true e h = absurd (not_both (list_any (writes key) (o t)) h (ap (list_any (writes key)) (ap o (sym (eqb-true tx t e)) ∙ none)))
      held t key false e h = told.holds t key h

      far : (t u : ℕ) (key : List ℕ) → t ≢ u → (b d : Bool) → list_any (covers_write key) (cond b [] (ls t)) ≡ true → list_any (covers_key key) (cond d [] (ls u)) ≡ false
      far t u key n true d h = absurd cc
      far t u key n false true h = refl
      far t u key n false false h = told.apart t u key n h

      by : (t : ℕ) (b : Bool) → cond b Ended (ph t) ≡ Live → (n : Contents) → ((key : List ℕ) → list_any (covers_key key) (cond b [] (ls t)) ≡ true → get n key ≡ get off key)
          → Runs n [] (st t ++ []) (fold after n (o t)) (stack (o t))
      by t true p n h = absurd (not_live Ended p refl)
      by t false p n h = told.runs t p n h

      new : (t : ℕ) (b : Bool) → cond b Ended (ph t) ≡ Live → first < t
      new t true p = absurd (not_live Ended p refl)
      new t false p = told.new t p

      still : (t : ℕ) → first < t → last < t → (b : Bool) → eqb tx t ≡ b → (cond b Ended (ph t) ≡ Idle) × (o t ≡ []) × (st t ≡ [])
      still t a b true e = absurd (subst (λ (u : ℕ). (first < u) → ph u ≡ Idle → ⊥) (eqb-true tx t e) known a (told.fresh t a b).0)
      still t a b false e = told.fresh t a b

  pub Told_acked : Told first last m o off ph ls st None → (tx : ℕ) → ph tx ≡ Committed → Told first last m o off (λ t. cond (eqb tx t) Acknowledged (ph t)) ls st None
  Told_acked told tx done = record {
    kept = told.kept;
    holds = told.holds;
    apart = told.apart;
    free = told.free;
    runs = λ t. by t (eqb tx t);
    new = λ t. new t (eqb tx t);
    fresh = λ t a b. still t a b (eqb tx t) refl;
    held = λ p t a h. locked p t a h (eqb tx t) refl;
    untold_live = tt;
  }
    where
      locked : (p : Held → Bool) (t : ℕ) → first < t → list_any p (ls t) ≡ true → (b : Bool) → eqb tx t ≡ b → cond b Acknowledged (ph t) ≡ Live
      locked p t a h true e = absurd (not_live (ph t) (told.held p t a h) (ap is_live (subst (λ (u : ℕ). ph u ≡ Committed) (eqb-true tx t e) done)))
      locked p t a h false e = told.held p t a h

      by : (t : ℕ) (b : Bool) → cond b Acknowledged (ph t) ≡ Live → (n : Contents) → ((key : List ℕ) → Reads ls t key → get n key ≡ get off key)
          → Runs n [] (st t ++ []) (fold after n (o t)) (stack (o t))
      by t true p n h = absurd (not_live Acknowledged p refl)
      by t false p n h = told.runs t p n h

      new : (t : ℕ) (b : Bool) → cond b Acknowledged (ph t) ≡ Live → first < t
      new t true p = absurd (not_live Acknowledged p refl)
      new t false p = told.new t p

      still : (t : ℕ) → first < t → last < t → (b : Bool) → eqb tx t ≡ b → (cond b Acknowledged (ph t) ≡ Idle) × (o t ≡ []) × (st t ≡ [])
      still t a b true e = absurd (committed_not_idle (ph t) (subst (λ (u : ℕ). ph u ≡ Committed) (eqb-true tx t e) done) (told.fresh t a b).0)
      still t a b false e = told.fresh t a b

  -- the write that is untold is told
  pub Told_write_said : (r : Record) → Told first last m o off ph ls st (Some r) → ph (tx_of r) ≡ Live → Told first last m o off ph ls (with_step (tx_of r) (told_step r)) None
  Told_write_said r told live = record {
    kept = told.kept;
    holds = told.holds;
    apart = told.apart;
    free = told.free;
    runs = λ t p n h. subst (λ (ss : List Step). Runs n [] ss (fold after n (o t)) (stack (o t))) (sym (append-nil (with_step (tx_of r) (told_step r) t))) (told.runs t p n h);
    new = told.new;
    fresh = λ t a b. ((told.fresh t a b).0, (told.fresh t a b).1, step_fresh (Some r) told (tx_of r) (told_step r) (λ _ i. live_not_idle (ph (tx_of r)) live i) t a b);
    held = told.held;
    untold_live = tt;
  }

  -- an answer from the contents that leaves them
  pub Told_read_said : Told first last m o off ph ls st None → (tx : ℕ) (request : Request) (reply : Reply) → ph tx ≡ Live
      → ((x : Contents) (cs : List Change) → ((key : List ℕ) → Reads ls tx key → get x key ≡ get m key) → Runs x cs (Asked request reply ∷ []) x cs)
      → Told first last m o off ph ls (with_step tx (Asked request reply)) None
  Told_read_said told tx request reply live answers = record {
    kept = told.kept;
    holds = told.holds;
    apart = told.apart;
    free = told.free;
    runs = λ t p n h. subst (λ (ss : List Step). Runs n [] ss (fold after n (o t)) (stack (o t))) (sym (append-nil (with_step tx (Asked request reply) t))) (by t p n h (eqb tx t) refl);
    new = told.new;
    fresh = λ t a b. ((told.fresh t a b).0, (told.fresh t a b).1, step_fresh None told tx (Asked request reply) (λ _ i. live_not_idle (ph tx) live i) t a b);
    held = told.held;
    untold_live = tt;
  }
    where
      by : (t : ℕ) → ph t ≡ Live → (n : Contents) → ((k : List ℕ) → Reads ls t k → get n k ≡ get off k) → (b : Bool) → eqb tx t ≡ b
          → Runs n [] (st t ++ cond b (Asked request reply ∷ []) []) (fold after n (o t)) (stack (o t))
      by t p n h false e = told.runs t p n h
      by t p n h true e =
          let before : Runs n [] (st t) (fold after n (o t)) (stack (o t)) = subst (λ (ss : List Step). Runs n [] ss (fold after n (o t)) (stack (o t))) (append-nil (st t)) (told.runs t p n h) in
          Runs_then n [] (st t) (fold after n (o t)) (stack (o t)) (Asked request reply ∷ []) (fold after n (o t)) (stack (o t)) before
          (answers (fold after n (o t)) (stack (o t)) (λ key g. run_value None told t n h key (subst (λ (u : ℕ). Reads ls u key) (eqb-true tx t e) g)))
