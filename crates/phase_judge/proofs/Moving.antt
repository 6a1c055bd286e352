-- What each entry makes of the phases that are kept.
use Rattle.std.proofs.Common.{◌≡◌, ◌≢◌, ℕ, suc, eqb, cond, ◌+◌, ◌-◌, ◌≤◌, ◌<◌, List, [], ◌∷◌, ◌++◌, Option, Some, None, Bool, true, false, refl, sym, ap, subst, ◌∙◌, arith, append-nil, Result, Ok, Err}
use Rattle.std.specs.Prelude.{◌&&◌, ◌||◌, max}
use Rattle.std.specs.Result.{OnErr}
use Rattle.std.specs.List.{list_any}
use Rattle.std.proofs.lemmas.Bool.{eqb-true}
use Rattle.std.proofs.lemmas.List.Folds.{list_any-append}
use Rattle.store_model.specs.Along.{along}
use Rattle.wal_record.specs.Chains.{greatest}
use Rattle.wal_record.specs.History.{Phase, Idle, Live, phase, phase_step, is_live, Beginning, beginnings, is_owner, begun_step, greatest_begun, live_count, session_step, last_begun}
use Rattle.wal_record.specs.Legal.{MayBegin}
use Rattle.wal_record.specs.declared.record.Record.{Record}
use Rattle.wal_record.specs.declared.record.Commit.{Commit}
use Rattle.wal_record.specs.declared.record.End.{End}
use Rattle.wal_record.specs.declared.record.Record.TheVariants as kinds
use Rattle.wal_record.specs.declared.entry.Entry.{Entry}
use Rattle.wal_record.specs.declared.entry.Entry.TheVariants.{Rec, Acked, Began}
use Rattle.wal_record.proofs.Pushes.{beginnings_push, phase_push, begun_push, last_begun_push}
use Rattle.log_laws.proofs.Central.{differ, eqb_differ, eqb_self}
use Rattle.phase_judge.specs.Phases.{AreKept, IsMoveOf, is_by, live_after, phase_of, times}
use Rattle.phase_judge.specs.declared.stage.Started.{Started}
use Rattle.phase_judge.proofs.Counting.{live_in, times_push, live_push, no_owner, live_apart, live_over, live_same}

-- of an empty history
pub kept_none : (opening : List Record) (phases : ℕ → Phase) (owns : ℕ → ℕ → Bool) (begun : ℕ → Option ℕ) → ((t : ℕ) → phases t ≡ Idle) → ((s t : ℕ) → owns s t ≡ false) → ((s : ℕ) → begun s ≡ None)
    → (most : ℕ) → most ≡ greatest opening → AreKept opening [] phases owns begun most 0
unfolding phase greatest_begun last_begun along
kept_none opening phases owns begun idle none last most is = record {
  stands = idle;
  owner = none;
  last = last;
  highest = omega (arith, is);
  counted = refl;
  few = omega arith;
  below = λ t high. refl;
  once = λ t. omega arith;
  started = λ t live. absurd cc;
}

module _ (opening : List Record) (h : List Entry) (phases : ℕ → Phase) (owns : ℕ → ℕ → Bool) (begun : ℕ → Option ℕ) (most live : ℕ) (k : AreKept opening h phases owns begun most live) where
  -- ---- a beginning

  module _ (session tx : ℕ) (m : MayBegin opening h session tx) where
    abbrev b : Beginning
    b = record { session = session; tx = tx }

    abbrev began : List Entry
    began = h ++ Began session tx ∷ []

    next : tx ≡ suc most
    next = m.number ∙ ap suc (sym k.highest)

    begins : beginnings began ≡ beginnings h ++ b ∷ []
    begins = beginnings_push h (Began session tx)

    none : times tx (beginnings h) ≡ 0
    none = k.below tx (let n = next in omega (arith, n))

    began_phase : (t : ℕ) → phase began t ≡ cond (eqb tx t) Live (phase h t)
    began_phase t = phase_push h (Began session tx) t

    own_phase : phase began tx ≡ Live
    own_phase = began_phase tx ∙ ap (λ (c : Bool). cond c Live (phase h tx)) (eqb_self tx)

    began_times : (t : ℕ) → times t (beginnings began) ≡ times t (beginnings h) + cond (eqb tx t) 1 0
    began_times t = ap (times t) begins ∙ times_push t (beginnings h) b

    began_live : live_count began ≡ suc live
    began_live =
        let others : live_in (phase began) (beginnings h) ≡ live_in (phase h) (beginnings h) =
        live_apart (phase h) (phase began) tx (λ x apart. began_phase x ∙ ap (λ (c : Bool). cond c Live (phase h x)) (eqb_differ tx x (λ e. apart (sym e)))) (beginnings h) none in
        let own : ◌≡◌ {A = ℕ} (cond (is_live (phase began tx)) 1 0) 1 = ap (λ (p : Phase). cond {A = ℕ} (is_live p) 1 0) own_phase in
        let all : live_count began ≡ live_in (phase began) (beginnings h) + cond (is_live (phase began tx)) 1 0 = ap (live_in (phase began)) begins ∙ live_push (phase began) (beginnings h) b in
        let was = k.counted in
        omega (arith, others, own, all, was)

    began_owner : (s t : ℕ) → cond (eqb tx t) (eqb session s) (owns s t) ≡ is_owner began s t
    began_owner s t = sym (
        ap (list_any test) begins
        ∙ list_any-append test (beginnings h) (b ∷ [])
        ∙ by (eqb tx t) refl)
      where
        test : Beginning → Bool
        test x = eqb x.session s && eqb x.tx t

        plain : (c : Bool) → ((c && true) || false) ≡ c
        plain true = refl
        plain false = refl

        void : (c x : Bool) → (x || ((c && false) || false)) ≡ x
        void true true = refl
        void true false = refl
        void false true = refl
        void false false = refl

        by : (c : Bool) → eqb tx t ≡ c → (list_any test (beginnings h) || ((eqb session s && c) || false)) ≡ cond c (eqb session s) (owns s t)
        by true e =
            ap (λ (x : Bool). x || ((eqb session s && true) || false)) (no_owner s t (beginnings h) (ap (λ (n : ℕ). times n (beginnings h)) (sym (eqb-true tx t e)) ∙ none))
            ∙ plain (eqb session s)
        by false e = void (eqb session s) (list_any test (beginnings h)) ∙ sym (k.owner s t)

    -- the numbers of beginnings of a transaction, which may be this one
    began_once : (t : ℕ) → times t (beginnings began) ≤ 1
    began_once t = by (eqb tx t) refl (began_times t) (k.once t)
      where
        by : (c : Bool) → eqb tx t ≡ c → times t (beginnings began) ≡ times t (beginnings h) + cond c 1 0 → times t (beginnings h) ≤ 1 → times t (beginnings began) ≤ 1
        by true e sum was = let no : times t (beginnings h) ≡ 0 = ap (λ (n : ℕ). times n (beginnings h)) (sym (eqb-true tx t e)) ∙ none in omega (arith, sum, no)
        by false e sum was = omega (arith, sum, was)

    began_some : (t : ℕ) → phase began t ≡ Live → 1 ≤ times t (beginnings began)
    began_some t live = by (eqb tx t) refl (began_times t) (began_phase t)
      where
        by : (c : Bool) → eqb tx t ≡ c → times t (beginnings began) ≡ times t (beginnings h) + cond c 1 0 → phase began t ≡ cond c Live (phase h t) → 1 ≤ times t (beginnings began)
        by true e sum is = omega (arith, sum)
        by false e sum is = let was = k.started t (sym is ∙ live) in omega (arith, sum, was)

    began_below : (t : ℕ) → tx < t → times t (beginnings began) ≡ 0
    began_below t high =
        let n = next in
        let was = k.below t (omega (arith, n, high)) in
        let apart : ◌≡◌ {A = ℕ} (cond (eqb tx t) 1 0) 0 = ap (λ (c : Bool). cond {A = ℕ} c 1 0) (eqb_differ tx t (λ e. absurd (omega (arith, e, high)))) in
        let sum = began_times t in
        omega (arith, was, apart, sum)

    pub kept_began : (phases' : ℕ → Phase) (owns' : ℕ → ℕ → Bool) (begun' : ℕ → Option ℕ) (live' : ℕ) → ((t : ℕ) → phases' t ≡ cond (eqb tx t) Live (phases t))
        → ((s t : ℕ) → owns' s t ≡ cond (eqb tx t) (eqb session s) (owns s t)) → ((s : ℕ) → begun' s ≡ cond (eqb session s) (Some tx) (begun s)) → live' ≡ suc live
        → AreKept opening began phases' owns' begun' tx live'
    kept_began phases' owns' begun' live' p o l n = record {
      stands = λ t. p t ∙ ap (λ (x : Phase). cond (eqb tx t) Live x) (k.stands t) ∙ sym (began_phase t);
      owner = λ s t. o s t ∙ began_owner s t;
      last = λ s. l s ∙ ap (λ (x : Option ℕ). cond (eqb session s) (Some tx) x) (k.last s) ∙ sym (last_begun_push h (Began session tx) s);
      highest = let is = begun_push h (Began session tx) in let a = next in let g = k.highest in omega (arith, is, a, g);
      counted = n ∙ sym began_live;
      few = let was = k.counted in let room = m.room in omega (arith, n, was, room);
      below = began_below;
      once = began_once;
      started = began_some;
    }

  -- ---- a transaction that is live no more

  module _ (tx : ℕ) (next : Phase) (e : Entry) (m : IsMoveOf tx next e) (over : is_live next ≡ false) where
    abbrev moved : List Entry
    moved = h ++ e ∷ []

    same_begins : beginnings moved ≡ beginnings h
    same_begins = beginnings_push h e ∙ ap (λ bs. beginnings h ++ bs) m.begins ∙ append-nil (beginnings h)

    moved_phase : (t : ℕ) → phase moved t ≡ cond (eqb tx t) next (phase h t)
    moved_phase t = phase_push h e t ∙ m.phases t (phase h t)

    own_moved : is_live (phase moved tx) ≡ false
    own_moved = ap is_live (moved_phase tx ∙ ap (λ (c : Bool). cond c next (phase h tx)) (eqb_self tx)) ∙ over

    other_moved : (x : ℕ) → x ≢ tx → phase moved x ≡ phase h x
    other_moved x apart = moved_phase x ∙ ap (λ (c : Bool). cond c next (phase h x)) (eqb_differ tx x (λ e. apart (sym e)))

    live_is : (p : Phase) → is_live p ≡ true → p ≡ Live
    live_is Live is = refl
    live_is _ is = absurd (cc is)

    moved_live : live_count moved ≡ live_after live (phase h tx)
    moved_live = ap (live_in (phase moved)) same_begins ∙ by (is_live (phase h tx)) refl
      where
        by : (c : Bool) → is_live (phase h tx) ≡ c → live_in (phase moved) (beginnings h) ≡ cond c (live - 1) live
        by true is =
            let all = live_over (phase h) (phase moved) tx other_moved is own_moved (beginnings h) in
            let once = k.once tx in
            let some = k.started tx (live_is (phase h tx) is) in
            let was = k.counted in
            omega (arith, all, once, some, was)
        by false is =
            live_same (phase h) (phase moved) (λ x. each x (eqb tx x) refl) (beginnings h) ∙ sym k.counted
          where
            each : (x : ℕ) (c : Bool) → eqb tx x ≡ c → is_live (phase moved x) ≡ is_live (phase h x)
            each x true same = let here = eqb-true tx x same in ap (λ (y : ℕ). is_live (phase moved y)) (sym here) ∙ own_moved ∙ sym is ∙ ap (λ (y : ℕ). is_live (phase h y)) here
            each x false apart = ap is_live (other_moved x (λ e. differ tx x apart (sym e)))

    moved_some : (t : ℕ) → phase moved t ≡ Live → 1 ≤ times t (beginnings moved)
    moved_some t live = subst (λ bs. 1 ≤ times t bs) (sym same_begins) (by (eqb tx t) refl)
      where
        by : (c : Bool) → eqb tx t ≡ c → 1 ≤ times t (beginnings h)
        by true e =
            let is : is_live (phase moved t) ≡ true = ap is_live live in
            let no : is_live (phase moved t) ≡ false = ap (λ (y : ℕ). is_live (phase moved y)) (sym (eqb-true tx t e)) ∙ own_moved in
            (let both : true ≡ false = sym is ∙ no in absurd (cc both))
        by false e = k.started t (sym (other_moved t (λ s. differ tx t e (sym s))) ∙ live)

    few_after : (p : Phase) → live_after live p ≤ 64
    few_after p = by (is_live p)
      where
        by : (c : Bool) → cond c (live - 1) live ≤ 64
        by true = let few = k.few in omega (arith, few)
        by false = k.few

    pub kept_moved : (phases' : ℕ → Phase) (owns' : ℕ → ℕ → Bool) (live' : ℕ) → ((t : ℕ) → phases' t ≡ cond (eqb tx t) next (phases t)) → ((s t : ℕ) → owns' s t ≡ owns s t) → live' ≡ live_after live (phases tx)
        → AreKept opening moved phases' owns' begun most live'
    kept_moved phases' owns' live' p o n = record {
      stands = λ t. p t ∙ ap (λ (x : Phase). cond (eqb tx t) next x) (k.stands t) ∙ sym (moved_phase t);
      owner = λ s t. o s t ∙ k.owner s t ∙ ap (list_any (λ (b : Beginning). eqb b.session s && eqb b.tx t)) (sym same_begins);
      last = λ s. k.last s ∙ sym (last_begun_push h e s ∙ m.last s (last_begun h s));
      highest = k.highest ∙ ap (max (greatest opening)) (sym (begun_push h e ∙ m.greatest (greatest_begun h)));
      counted = n ∙ ap (live_after live) (k.stands tx) ∙ sym moved_live;
      few = subst (λ (x : ℕ). x ≤ 64) (sym n) (few_after (phases tx));
      below = λ t high. ap (times t) same_begins ∙ k.below t high;
      once = λ t. subst (λ bs. times t bs ≤ 1) (sym same_begins) (k.once t);
      started = moved_some;
    }

  -- ---- an entry by which nothing of this changes

  module _ (e : Entry) (p : (t : ℕ) (x : Phase) → phase_step t x e ≡ x) (begins : beginnings (e ∷ []) ≡ []) (last : (s : ℕ) (t : Option ℕ) → session_step s t e ≡ t) (great : (n : ℕ) → begun_step n e ≡ n) where
    still_begins : beginnings (h ++ e ∷ []) ≡ beginnings h
    still_begins = beginnings_push h e ∙ ap (λ bs. beginnings h ++ bs) begins ∙ append-nil (beginnings h)

    still_phase : (t : ℕ) → phase (h ++ e ∷ []) t ≡ phase h t
    still_phase t = phase_push h e t ∙ p t (phase h t)

    pub kept_still : AreKept opening (h ++ e ∷ []) phases owns begun most live
    kept_still = record {
      stands = λ t. k.stands t ∙ sym (still_phase t);
      owner = λ s t. k.owner s t ∙ ap (list_any (λ (b : Beginning). eqb b.session s && eqb b.tx t)) (sym still_begins);
      last = λ s. k.last s ∙ sym (last_begun_push h e s ∙ last s (last_begun h s));
      highest = k.highest ∙ ap (max (greatest opening)) (sym (begun_push h e ∙ great (greatest_begun h)));
      counted = k.counted ∙ sym (live_same (phase h) (phase (h ++ e ∷ [])) (λ x. ap is_live (still_phase x)) (beginnings h)) ∙ ap (live_in (phase (h ++ e ∷ []))) (sym still_begins);
      few = k.few;
      below = λ t high. ap (times t) still_begins ∙ k.below t high;
      once = λ t. subst (λ bs. times t bs ≤ 1) (sym still_begins) (k.once t);
      started = λ t live. subst (λ bs. 1 ≤ times t bs) (sym still_begins) (k.started t (sym (still_phase t) ∙ live));
    }

  pub still_record : (lsn : ℕ) (r : Record) → ((x : Commit) → r ≡ kinds.Commit x → ⊥) → ((x : End) → r ≡ kinds.End x → ⊥) → AreKept opening (h ++ Rec lsn r ∷ []) phases owns begun most live
  still_record lsn (kinds.Commit c) commit end = absurd (commit c refl)
  still_record lsn (kinds.End x) commit end = absurd (end x refl)
  still_record lsn r commit end = kept_still (Rec lsn r) (λ t x. refl) refl (λ s t. refl) (λ n. refl)

  pub still_entry : (e : Entry) → ((lsn : ℕ) (r : Record) → e ≡ Rec lsn r → ⊥) → ((session tx : ℕ) → e ≡ Acked session tx → ⊥) → ((session tx : ℕ) → e ≡ Began session tx → ⊥) → AreKept opening (h ++ e ∷ []) phases owns begun most live
  still_entry (Rec lsn r) rec acked begins = absurd (rec lsn r refl)
  still_entry (Acked session tx) rec acked begins = absurd (acked session tx refl)
  still_entry (Began session tx) rec acked begins = absurd (begins session tx refl)
  still_entry e rec acked begins = kept_still e (λ t x. refl) refl (λ s t. refl) (λ n. refl)

  -- ---- the same of functions that agree with these

  pub kept_as : (phases' : ℕ → Phase) (owns' : ℕ → ℕ → Bool) (begun' : ℕ → Option ℕ) → ((t : ℕ) → phases' t ≡ phases t) → ((s t : ℕ) → owns' s t ≡ owns s t) → ((s : ℕ) → begun' s ≡ begun s)
      → AreKept opening h phases' owns' begun' most live
  kept_as phases' owns' begun' p o l = record {
    stands = λ t. p t ∙ k.stands t;
    owner = λ s t. o s t ∙ k.owner s t;
    last = λ s. l s ∙ k.last s;
    highest = k.highest;
    counted = k.counted;
    few = k.few;
    below = k.below;
    once = k.once;
    started = k.started;
  }

pub on_err : {T E P : Type 0} (r : Result T E) → P → OnErr r P
on_err (Ok x) p = tt
on_err (Err e) p = p

-- ---- a map in which this transaction has this state, and the others have what they had

module _ (old new : ℕ → Started) (tx : ℕ) (now : Started) (put : (t : ℕ) → new t ≡ cond (eqb tx t) now (old t)) where
  pub put_phase : (t : ℕ) → phase_of (new t).stage ≡ cond (eqb tx t) (phase_of now.stage) (phase_of (old t).stage)
  put_phase t = ap (λ (x : Started). phase_of x.stage) (put t) ∙ by (eqb tx t)
    where
      by : (c : Bool) → phase_of (cond c now (old t)).stage ≡ cond c (phase_of now.stage) (phase_of (old t).stage)
      by true = refl
      by false = refl

  pub put_owner : (s t : ℕ) → is_by s (new t).session ≡ cond (eqb tx t) (is_by s now.session) (is_by s (old t).session)
  put_owner s t = ap (λ (x : Started). is_by s x.session) (put t) ∙ by (eqb tx t)
    where
      by : (c : Bool) → is_by s (cond c now (old t)).session ≡ cond c (is_by s now.session) (is_by s (old t).session)
      by true = refl
      by false = refl

  -- it keeps its session
  pub same_owner : now.session ≡ (old tx).session → (s t : ℕ) → is_by s (new t).session ≡ is_by s (old t).session
  same_owner same s t = put_owner s t ∙ by (eqb tx t) refl
    where
      by : (c : Bool) → eqb tx t ≡ c → cond c (is_by s now.session) (is_by s (old t).session) ≡ is_by s (old t).session
      by true e = ap (is_by s) (same ∙ ap (λ (y : ℕ). (old y).session) (eqb-true tx t e))
      by false e = refl

pub put_last : (old place new : ℕ → Option ℕ) (session tx : ℕ) → ((s : ℕ) → place s ≡ old s) → ((s : ℕ) → new s ≡ cond (eqb session s) (Some tx) (place s)) → (s : ℕ) → new s ≡ cond (eqb session s) (Some tx) (old s)
put_last old place new session tx same put s = put s ∙ ap (λ (x : Option ℕ). cond (eqb session s) (Some tx) x) (same s)
