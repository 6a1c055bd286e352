-- Live transactions, and the names that they have.
use Rattle.std.proofs.Common.{◌≡◌, ℕ, ◌<◌, ◌≤◌, Bool, true, false, cond, List, [], ◌∷◌, ◌++◌, length, map, Some, refl, sym, ap, subst, ◌∙◌, append_assoc, append-nil, arith, inl, inr}
use Rattle.std.specs.Prelude.{◌⊎◌, ◌==◌, ◌||◌, filter, max, nat_eq}
use Rattle.std.specs.List.{All, AllByRecursion, IsDistinct, list_any}
use Rattle.std.proofs.Math.Nat.{le-max_left, le-max_right}
use Rattle.std.proofs.lemmas.Bool.{eqb-true, or_cases}
use Rattle.std.proofs.lemmas.Cmp.{nat_eq_equiv}
use Rattle.std.proofs.lemmas.List.{length-map, map-append, nil_from_length}
use Rattle.std.proofs.lemmas.List.Elements.{All-append, All-cons, All-head, All-nil, All-tail}
use Rattle.std.proofs.lemmas.List.Folds.{list_any-append}
use Rattle.std.proofs.lemmas.Map.Keys.{IsDistinct-cons, IsDistinct-head, IsDistinct-tail}
use Rattle.std.proofs.lemmas.Map.Made.{length-le_from_is_member}
use Rattle.script.specs.Word.{same_text}
use Rattle.store_model.specs.Along.{along}
use Rattle.store_model.proofs.Bools.{false_unless, not_both, or_left, or_right}
use Rattle.store_model.specs.declared.reply.Outcome.{Outcome}
use Rattle.store_model.specs.declared.reply.Outcome.TheVariants as outcomes
use Rattle.store_model.specs.declared.reply.Reply.{Reply}
use Rattle.store_model.specs.declared.request.Request.{Request}
use Rattle.wal_record.specs.History.{Acknowledged, Beginning, Committed, Ended, Live, Phase, beginnings, begun_step, greatest_begun, is_live, is_over, live_count, phase, phase_step}
use Rattle.wal_record.specs.Legal.{IsAllowed, IsLegal}
use Rattle.wal_record.specs.Locks.{Held}
use Rattle.wal_record.specs.declared.record.Record.{Record}
use Rattle.wal_record.specs.declared.record.Record.TheVariants as kinds
use Rattle.wal_record.specs.declared.entry.Entry.{Entry}
use Rattle.wal_record.specs.declared.entry.Entry.TheVariants.{Rec, Lock, Refused, Said, Declined, Acked, Repaired, Began}
use Rattle.wal_record.proofs.Along.{by_pushes}
use Rattle.wal_record.proofs.Pushes.{beginnings_push, begun_push, legal_front, phase_push}
use Rattle.log_laws.proofs.Central.{eqb_self}
use Rattle.command_laws.specs.Commands.{Amid, Among, Answers, IsBesideRequest, IsUpkeep, TakesBack, Tells, commit_record, end_record}
use Rattle.command_laws.specs.Names.{Active, AreNamed, active_of, without}

-- ---- entries that begin nothing

abbrev pub BeginsNone : Entry → Type 0
BeginsNone (Began session tx) = ⊥
BeginsNone e = Unit {0}

alive : (b : Bool) (q p : Phase) → (q ≡ Live → ⊥) → cond b q p ≡ Live → p ≡ Live
alive true q p over is = absurd (over is)
alive false q p over is = is

not_acknowledged : Acknowledged ≡ Live → ⊥
not_acknowledged e = cc

not_committed : Committed ≡ Live → ⊥
not_committed e = cc

not_ended : Ended ≡ Live → ⊥
not_ended e = cc

step_live : (t : ℕ) (p : Phase) (e : Entry) → BeginsNone e → phase_step t p e ≡ Live → p ≡ Live
step_live t p (Began session tx) none is = absurd none
step_live t p (Acked session tx) none is = alive (tx == t) Acknowledged p not_acknowledged is
step_live t p (Rec lsn (kinds.Commit c)) none is = alive (c.tx == t) Committed p not_committed is
step_live t p (Rec lsn (kinds.End e)) none is = alive (e.tx == t) Ended p not_ended is
step_live t p _ none is = is

live_before : (t : ℕ) (es h : List Entry) → All BeginsNone es → phase (h ++ es) t ≡ Live → phase h t ≡ Live
live_before t [] h none is = subst (λ (l : List Entry). phase l t ≡ Live) (append-nil h) is
live_before t (e ∷ es) h none is =
    let more = live_before t es (h ++ e ∷ []) (All-tail BeginsNone e es none) (subst (λ (l : List Entry). phase l t ≡ Live) (sym (append_assoc h (e ∷ []) es)) is) in
    step_live t (phase h t) e (All-head BeginsNone e es none) (sym (phase_push h e t) ∙ more)

-- what each has of which P holds
pub all_weaker : (P Q : Entry → Type 0) → ((e : Entry) → P e → Q e) → (es : List Entry) → All P es → All Q es
all_weaker P Q f [] all = All-nil Q
all_weaker P Q f (e ∷ es) all = All-cons Q e es (f e (All-head P e es all)) (all_weaker P Q f es (All-tail P e es all))

among_each : (P Q : Entry → Type 0) → ((e : Entry) → P e → Q e) → (own es : List Entry) → All Q own → Among P own es → All Q es
among_each P Q f [] es all a = subst (All Q) (sym a) (All-nil Q)
among_each P Q f (o ∷ own) es all a =
    subst (All Q) (sym a.3) (All-append Q a.0 (o ∷ a.2) (all_weaker P Q f a.0 a.1) (All-cons Q o a.2 (All-head Q o own all) (among_each P Q f own a.2 (All-tail Q o own all) a.4)))

-- what holds of the own entries, and of each that may stand beside them
pub amid_each : (P Q : Entry → Type 0) → ((e : Entry) → P e → Q e) → (own es : List Entry) → All Q own → Amid P own es → All Q es
amid_each P Q f [] es all a = all_weaker P Q f es a
amid_each P Q f (o ∷ own) es all a = among_each P Q f (o ∷ own) es all a

pub beside_none : (in_way : ℕ → Type 0) (tx : ℕ) (lock : Held) (e : Entry) → IsBesideRequest in_way tx lock e → BeginsNone e
beside_none in_way tx lock (Began session t) is = is
beside_none in_way tx lock _ is = tt

pub upkeep_none : (e : Entry) → IsUpkeep e → BeginsNone e
upkeep_none (Began session t) is = is
upkeep_none _ is = tt

pub undo_none : (untold : Type 0) (tx : ℕ) (e : Entry) → TakesBack untold tx e → BeginsNone e
undo_none untold tx (Began session t) is = is
undo_none untold tx _ is = tt

one_none : (e : Entry) → BeginsNone e → All BeginsNone (e ∷ [])
one_none e is = All-cons BeginsNone e [] is (All-nil BeginsNone)

tells_none : (session tx : ℕ) (request : Request) (reply : Reply) (own : List Entry) → Tells session tx request reply own → All BeginsNone own
tells_none session tx request reply own t = elim t [
  | inl is ↦ subst (All BeginsNone) (sym is) (one_none (Said session tx request reply) tt)
  | inr x ↦ subst (All BeginsNone) (sym x.4) (All-cons BeginsNone (Rec x.0 x.1) (Said session tx request reply ∷ []) tt (one_none (Said session tx request reply) tt))
]

pub answers_none : (session tx : ℕ) (request : Request) (lock : Held) (outcome : Outcome) (own : List Entry) → Answers session tx request lock outcome own → All BeginsNone own
answers_none session tx request lock (outcomes.Replied reply) own is = tells_none session tx request reply own is
answers_none session tx request lock (outcomes.Conflict holder range) own is = subst (All BeginsNone) (sym is) (one_none (Refused tx lock.range lock.mode holder) tt)
answers_none session tx request lock (outcomes.Full pages pending) own is = subst (All BeginsNone) (sym is) (one_none (Declined session tx request (outcomes.Full pages pending)) tt)
answers_none session tx request lock outcomes.OpRefused own is = subst (All BeginsNone) (sym is) (one_none (Declined session tx request outcomes.OpRefused) tt)

-- ---- names of live transactions

nothing_live : (t : ℕ) → phase [] t ≡ Live → ⊥
unfolding phase along
nothing_live t live = cc

-- where nothing was entered, nothing is live
pub none_named : (h : List Entry) (active : List Active) → length h ≡ 0 → AreNamed h active
none_named h active none t live = absurd (nothing_live t (subst (λ (l : List Entry). phase l t ≡ Live) (nil_from_length h none) live))

pub still_named : (h es : List Entry) (active : List Active) → All BeginsNone es → AreNamed h active → AreNamed (h ++ es) active
still_named h es active none named t live = named t (live_before t es h none live)

pub begun_named : (h : List Entry) (active : List Active) (a : Active) → AreNamed h active → AreNamed (h ++ Began a.session a.tx ∷ []) (active ++ a ∷ [])
begun_named h active a named t live = go (a.tx == t) refl (sym (phase_push h (Began a.session a.tx) t) ∙ live)
  where
    go : (b : Bool) → (a.tx == t) ≡ b → cond b Live (phase h t) ≡ Live → list_any (λ (x : Active). t == x.tx) (active ++ a ∷ []) ≡ true
    go true e is =
        list_any-append (λ (x : Active). t == x.tx) active (a ∷ [])
        ∙ or_right (list_any (λ (x : Active). t == x.tx) active) (list_any (λ (x : Active). t == x.tx) (a ∷ [])) (or_left (t == a.tx) false (subst (λ (u : ℕ). (t == u) ≡ true) (sym (eqb-true a.tx t e)) (eqb_self t)))
    go false e is =
        list_any-append (λ (x : Active). t == x.tx) active (a ∷ [])
        ∙ or_left (list_any (λ (x : Active). t == x.tx) active) (list_any (λ (x : Active). t == x.tx) (a ∷ [])) (named t is)

others_named : (t : ℕ) (name : List ℕ) (a : Active) (active : List Active) → active_of active name ≡ Some a → (t == a.tx) ≡ false → list_any (λ (x : Active). t == x.tx) active ≡ true → list_any (λ (x : Active). t == x.tx) (without active name) ≡ true
others_named t name a [] is apart some = absurd cc
others_named t name a (x ∷ more) is apart some = by (same_text name x.name) is (others_named t name a more)
  where
    by : (b : Bool) → cond b (Some x) (active_of more name) ≡ Some a
        → (active_of more name ≡ Some a → (t == a.tx) ≡ false → list_any (λ (y : Active). t == y.tx) more ≡ true → list_any (λ (y : Active). t == y.tx) (without more name) ≡ true)
        → list_any (λ (y : Active). t == y.tx) (cond b more (x ∷ without more name)) ≡ true
    by true e rest = elim (or_cases (t == x.tx) (list_any (λ (y : Active). t == y.tx) more) some) [
      | inl here ↦ let same : x ≡ a = cc in absurd (not_both (t == x.tx) here (ap (λ (y : Active). t == y.tx) same ∙ apart))
      | inr there ↦ there
    ]
    by false e rest = elim (or_cases (t == x.tx) (list_any (λ (y : Active). t == y.tx) more) some) [
      | inl here ↦ or_left (t == x.tx) (list_any (λ (y : Active). t == y.tx) (without more name)) here
      | inr there ↦ or_right (t == x.tx) (list_any (λ (y : Active). t == y.tx) (without more name)) (rest e apart there)
    ]

-- a name may go whose transaction isn't live
pub left_named : (h : List Entry) (active : List Active) (name : List ℕ) (a : Active) → active_of active name ≡ Some a → (phase h a.tx ≡ Live → ⊥) → AreNamed h active → AreNamed h (without active name)
left_named h active name a is over named t live =
    others_named t name a active is (false_unless (t == a.tx) (λ e. over (subst (λ (u : ℕ). phase h u ≡ Live) (eqb-true t a.tx e) live))) (named t live)

-- ---- transactions that are over

pub acknowledged : (h : List Entry) (lsn session tx prev : ℕ) → phase (h ++ (Rec lsn (commit_record tx prev) ∷ Acked session tx ∷ [])) tx ≡ Live → ⊥
acknowledged h lsn session tx prev live =
    let before = h ++ Rec lsn (commit_record tx prev) ∷ [] in
    let now : phase (h ++ (Rec lsn (commit_record tx prev) ∷ Acked session tx ∷ [])) tx ≡ Acknowledged
    = ap (λ (l : List Entry). phase l tx) (sym (append_assoc h (Rec lsn (commit_record tx prev) ∷ []) (Acked session tx ∷ []))) ∙ phase_push before (Acked session tx) tx ∙ ap (λ (b : Bool). cond b Acknowledged (phase before tx)) (eqb_self tx) in
    not_acknowledged (sym now ∙ live)

pub over : (h front : List Entry) (lsn tx prev : ℕ) → phase (h ++ (front ++ Rec lsn (end_record tx prev) ∷ [])) tx ≡ Live → ⊥
over h front lsn tx prev live =
    let end = Rec lsn (end_record tx prev) in
    let now : phase (h ++ (front ++ end ∷ [])) tx ≡ Ended
    = ap (λ (l : List Entry). phase l tx) (sym (append_assoc h front (end ∷ []))) ∙ phase_push (h ++ front) end tx ∙ ap (λ (b : Bool). cond b Ended (phase (h ++ front) tx)) (eqb_self tx) in
    not_ended (sym now ∙ live)

among_last : (P : Entry → Type 0) (us : List Entry) (last : Entry) (es : List Entry) → Among P (us ++ last ∷ []) es → (front : List Entry) × (es ≡ front ++ last ∷ [])
among_last P [] last es a = (a.0, a.3 ∙ ap (λ (rest : List Entry). a.0 ++ last ∷ rest) a.4)
among_last P (u ∷ us) last es a =
    let more = among_last P us last a.2 a.4 in
    (a.0 ++ u ∷ more.0, a.3 ∙ ap (λ (rest : List Entry). a.0 ++ u ∷ rest) more.1 ∙ sym (append_assoc a.0 (u ∷ more.0) (last ∷ [])))

-- the last of the own entries is the last of all
pub amid_last : (P : Entry → Type 0) (us : List Entry) (last : Entry) (es : List Entry) → Amid P (us ++ last ∷ []) es → (front : List Entry) × (es ≡ front ++ last ∷ [])
amid_last P [] last es a = among_last P [] last es a
amid_last P (u ∷ us) last es a = among_last P (u ∷ us) last es a

-- ---- no more are live than have names

-- each number was begun once
record AreNumbered (h : List Entry) : Type 0 where
  below : AllByRecursion (λ (n : ℕ). n ≤ greatest_begun h) (map (λ (b : Beginning). b.tx) (beginnings h))
  distinct : IsDistinct nat_eq (map (λ (b : Beginning). b.tx) (beginnings h))

all_more : (P Q : ℕ → Type 0) → ((n : ℕ) → P n → Q n) → (ns : List ℕ) → AllByRecursion P ns → AllByRecursion Q ns
all_more P Q f [] all = tt
all_more P Q f (n ∷ ns) all = (f n all.0, all_more P Q f ns all.1)

all_push : (P : ℕ → Type 0) (ns : List ℕ) (n : ℕ) → AllByRecursion P ns → P n → AllByRecursion P (ns ++ n ∷ [])
all_push P [] n all is = (is, tt)
all_push P (m ∷ ns) n all is = (all.0, all_push P ns n all.1 is)

distinct_push : (ns : List ℕ) (n : ℕ) → AllByRecursion (λ (m : ℕ). nat_eq m n ≡ false) ns → IsDistinct nat_eq ns → IsDistinct nat_eq (ns ++ n ∷ [])
unfolding IsDistinct
distinct_push [] n apart d = (tt, tt)
distinct_push (m ∷ ns) n apart d = (all_push (λ (k : ℕ). nat_eq m k ≡ false) ns n d.0 apart.0, distinct_push ns n apart.1 d.1)

unmoved : (h : List Entry) (e : Entry) → beginnings (e ∷ []) ≡ [] → begun_step (greatest_begun h) e ≡ greatest_begun h → AreNumbered h → AreNumbered (h ++ e ∷ [])
unmoved h e none same k =
    let is : beginnings (h ++ e ∷ []) ≡ beginnings h = beginnings_push h e ∙ ap (λ (bs : List Beginning). beginnings h ++ bs) none ∙ append-nil (beginnings h) in
    let top : greatest_begun (h ++ e ∷ []) ≡ greatest_begun h = begun_push h e ∙ same in
    record {
      below = subst (λ (bs : List Beginning). AllByRecursion (λ (n : ℕ). n ≤ greatest_begun (h ++ e ∷ [])) (map (λ (b : Beginning). b.tx) bs)) (sym is)
          (subst (λ (m : ℕ). AllByRecursion (λ (n : ℕ). n ≤ m) (map (λ (b : Beginning). b.tx) (beginnings h))) (sym top) k.below);
      distinct = subst (λ (bs : List Beginning). IsDistinct nat_eq (map (λ (b : Beginning). b.tx) bs)) (sym is) k.distinct;
    }

apart_from : (m n : ℕ) → m < n → nat_eq m n ≡ false
apart_from m n less = false_unless (nat_eq m n) (λ e. let same = eqb-true m n e in omega (arith, same, less))

moved : (h : List Entry) (session tx : ℕ) → greatest_begun h < tx → AreNumbered h → AreNumbered (h ++ Began session tx ∷ [])
moved h session tx new k =
    let ns = map (λ (b : Beginning). b.tx) (beginnings h) in
    let is : map (λ (b : Beginning). b.tx) (beginnings (h ++ Began session tx ∷ [])) ≡ ns ++ tx ∷ []
    = ap (map (λ (b : Beginning). b.tx)) (beginnings_push h (Began session tx)) ∙ map-append (λ (b : Beginning). b.tx) (beginnings h) (record { session = session; tx = tx } ∷ []) in
    let top : greatest_begun (h ++ Began session tx ∷ []) ≡ max (greatest_begun h) tx = begun_push h (Began session tx) in
    let l = le-max_left (greatest_begun h) tx in
    let r = le-max_right (greatest_begun h) tx in
    record {
      below = subst (AllByRecursion (λ (n : ℕ). n ≤ greatest_begun (h ++ Began session tx ∷ []))) (sym is)
          (all_push (λ (n : ℕ). n ≤ greatest_begun (h ++ Began session tx ∷ [])) ns tx (all_more (λ (n : ℕ). n ≤ greatest_begun h) (λ (n : ℕ). n ≤ greatest_begun (h ++ Began session tx ∷ [])) (λ n low. omega (arith, low, l, top)) ns k.below) (omega (arith, r, top)));
      distinct = subst (IsDistinct nat_eq) (sym is) (distinct_push ns tx (all_more (λ (n : ℕ). n ≤ greatest_begun h) (λ (n : ℕ). nat_eq n tx ≡ false) (λ n low. apart_from n tx (omega (arith, low, new))) ns k.below) k.distinct);
    }

one_more : (opening : List Record) (h : List Entry) (e : Entry) → IsAllowed opening h e → AreNumbered h → AreNumbered (h ++ e ∷ [])
one_more opening h (Began session tx) ok k = moved h session tx (let n = ok.rule.number in omega (arith, n)) k
one_more opening h (Rec lsn r) ok k = unmoved h (Rec lsn r) refl refl k
one_more opening h (Lock tx range mode) ok k = unmoved h (Lock tx range mode) refl refl k
one_more opening h (Refused tx range mode holder) ok k = unmoved h (Refused tx range mode holder) refl refl k
one_more opening h (Said session tx request reply) ok k = unmoved h (Said session tx request reply) refl refl k
one_more opening h (Declined session tx request why) ok k = unmoved h (Declined session tx request why) refl refl k
one_more opening h (Acked session tx) ok k = unmoved h (Acked session tx) refl refl k
one_more opening h (Repaired page) ok k = unmoved h (Repaired page) refl refl k

numbered : (opening : List Record) (h : List Entry) → IsLegal opening h → AreNumbered h
unfolding IsDistinct
numbered opening = by_pushes (λ (h : List Entry). IsLegal opening h → AreNumbered h) (λ legal. record { below = tt; distinct = tt }) (λ h e before legal.
    let parts = legal_front opening h e legal in
    one_more opening h e parts.1 (before parts.0))

all_kept : (f : Beginning → Bool) (P : ℕ → Type 0) (bs : List Beginning) → AllByRecursion P (map (λ (b : Beginning). b.tx) bs) → AllByRecursion P (map (λ (b : Beginning). b.tx) (filter f bs))
all_kept f P [] all = tt
all_kept f P (b ∷ bs) all = by (f b) (all_kept f P bs all.1)
  where
    by : (c : Bool) → AllByRecursion P (map (λ (x : Beginning). x.tx) (filter f bs)) → AllByRecursion P (map (λ (x : Beginning). x.tx) (cond c (b ∷ filter f bs) (filter f bs)))
    by true rest = (all.0, rest)
    by false rest = rest

distinct_kept : (f : Beginning → Bool) (bs : List Beginning) → IsDistinct nat_eq (map (λ (b : Beginning). b.tx) bs) → IsDistinct nat_eq (map (λ (b : Beginning). b.tx) (filter f bs))
unfolding IsDistinct
distinct_kept f [] d = tt
distinct_kept f (b ∷ bs) d = by (f b) (distinct_kept f bs (IsDistinct-tail nat_eq b.tx (map (λ (x : Beginning). x.tx) bs) d))
  where
    by : (c : Bool) → IsDistinct nat_eq (map (λ (x : Beginning). x.tx) (filter f bs)) → IsDistinct nat_eq (map (λ (x : Beginning). x.tx) (cond c (b ∷ filter f bs) (filter f bs)))
    by true rest = IsDistinct-cons nat_eq b.tx (map (λ (x : Beginning). x.tx) (filter f bs)) (all_kept f (λ (n : ℕ). nat_eq b.tx n ≡ false) bs (IsDistinct-head nat_eq b.tx (map (λ (x : Beginning). x.tx) bs) d)) rest
    by false rest = rest

live_is : (p : Phase) → is_live p ≡ true → p ≡ Live
live_is Live is = refl
live_is _ is = absurd cc

live_member : (h : List Entry) (q : ℕ) (bs : List Beginning) → list_any (nat_eq q) (map (λ (b : Beginning). b.tx) (filter (λ (b : Beginning). is_live (phase h b.tx)) bs)) ≡ true → phase h q ≡ Live
live_member h q [] is = absurd cc
live_member h q (b ∷ bs) is = by (is_live (phase h b.tx)) refl is (live_member h q bs)
  where
    by : (c : Bool) → is_live (phase h b.tx) ≡ c → list_any (nat_eq q) (map (λ (x : Beginning). x.tx) (cond c (b ∷ filter (λ (x : Beginning). is_live (phase h x.tx)) bs) (filter (λ (x : Beginning). is_live (phase h x.tx)) bs))) ≡ true
        → (list_any (nat_eq q) (map (λ (x : Beginning). x.tx) (filter (λ (x : Beginning). is_live (phase h x.tx)) bs)) ≡ true → phase h q ≡ Live) → phase h q ≡ Live
    by true e m rest = elim (or_cases (nat_eq q b.tx) (list_any (nat_eq q) (map (λ (x : Beginning). x.tx) (filter (λ (x : Beginning). is_live (phase h x.tx)) bs))) m) [
      | inl here ↦ live_is (phase h q) (subst (λ (u : ℕ). is_live (phase h u) ≡ true) (sym (eqb-true q b.tx here)) e)
      | inr there ↦ rest there
    ]
    by false e m rest = rest m

name_member : (t : ℕ) (active : List Active) → list_any (nat_eq t) (map (λ (a : Active). a.tx) active) ≡ list_any (λ (a : Active). t == a.tx) active
name_member t [] = refl
name_member t (a ∷ active) = ap (λ (b : Bool). (t == a.tx) || b) (name_member t active)

pub few_live : (opening : List Record) (h : List Entry) (active : List Active) → IsLegal opening h → AreNamed h active → live_count h ≤ length active
few_live opening h active legal named =
    let live = filter (λ (b : Beginning). is_live (phase h b.tx)) (beginnings h) in
    let most = length-le_from_is_member nat_eq_equiv (map (λ (b : Beginning). b.tx) live) (map (λ (a : Active). a.tx) active)
    (distinct_kept (λ (b : Beginning). is_live (phase h b.tx)) (beginnings h) (numbered opening h legal).distinct)
    (λ q is. name_member q active ∙ named q (live_member h q (beginnings h) is)) in
    let n = length-map live (λ (b : Beginning). b.tx) in
    let m = length-map active (λ (a : Active). a.tx) in
    omega (arith, most, n, m)

-- ---- a refused undo ends nothing

-- undos and an End of the transaction, and upkeep
abbrev pub IsOfUndo : Type 0 → ℕ → Entry → Type 0
IsOfUndo may tx e = TakesBack may tx e ⊎ IsUpkeep e

over_either : (b : Bool) (p : Phase) → is_over p ≡ true → is_over (cond b Ended p) ≡ true
over_either true p is = refl
over_either false p is = is

step_over : (may : Type 0) (tx : ℕ) (p : Phase) (e : Entry) → IsOfUndo may tx e → is_over p ≡ true → is_over (phase_step tx p e) ≡ true
step_over may tx p (Rec lsn (kinds.End e)) of is = over_either (e.tx == tx) p is
step_over may tx p (Rec lsn (kinds.Commit c)) of is = elim of [
  | inl never ↦ absurd never
  | inr never ↦ absurd never
]
step_over may tx p (Began session t) of is = elim of [
  | inl never ↦ absurd never
  | inr never ↦ absurd never
]
step_over may tx p (Acked session t) of is = elim of [
  | inl never ↦ absurd never
  | inr never ↦ absurd never
]
step_over may tx p _ of is = is

stays_over : (may : Type 0) (tx : ℕ) (es h : List Entry) → All (IsOfUndo may tx) es → is_over (phase h tx) ≡ true → is_over (phase (h ++ es) tx) ≡ true
stays_over may tx [] h all is = subst (λ (l : List Entry). is_over (phase l tx) ≡ true) (sym (append-nil h)) is
stays_over may tx (e ∷ es) h all is =
    subst (λ (l : List Entry). is_over (phase l tx) ≡ true) (append_assoc h (e ∷ []) es)
    (stays_over may tx es (h ++ e ∷ []) (All-tail (IsOfUndo may tx) e es all) (ap is_over (phase_push h e tx) ∙ step_over may tx (phase h tx) e (All-head (IsOfUndo may tx) e es all) is))

ended_by : (b : Bool) (p : Phase) → b ≡ true → is_over (cond b Ended p) ≡ true
ended_by true p is = refl
ended_by false p is = absurd (cc is)

no_end : (tx : ℕ) (p : Phase) (e : Entry) → IsOfUndo (Unit {0}) tx e → (is_over (phase_step tx p e) ≡ true → ⊥) → IsOfUndo ⊥ tx e
no_end tx p (Rec lsn (kinds.End x)) of goes = elim of [
  | inl mine ↦ absurd (goes (ended_by (x.tx == tx) p (ap (λ (n : ℕ). n == tx) mine.0 ∙ eqb_self tx)))
  | inr never ↦ absurd never
]
no_end tx p (Rec lsn (kinds.Undo u)) of goes = elim of [
  | inl mine ↦ inl mine
  | inr never ↦ absurd never
]
no_end tx p _ of goes = elim of [
  | inl never ↦ absurd never
  | inr up ↦ inr up
]

-- where the transaction isn't over behind them, no End is among them
pub none_ended : (tx : ℕ) (es h : List Entry) → All (IsOfUndo (Unit {0}) tx) es → (is_over (phase (h ++ es) tx) ≡ true → ⊥) → All (IsOfUndo ⊥ tx) es
none_ended tx [] h all not = All-nil (IsOfUndo ⊥ tx)
none_ended tx (e ∷ es) h all not =
    let rest = All-tail (IsOfUndo (Unit {0}) tx) e es all in
    let going : is_over (phase ((h ++ e ∷ []) ++ es) tx) ≡ true → ⊥ = λ is. not (subst (λ (l : List Entry). is_over (phase l tx) ≡ true) (append_assoc h (e ∷ []) es) is) in
    let first = no_end tx (phase h tx) e (All-head (IsOfUndo (Unit {0}) tx) e es all) (λ is. going (stays_over (Unit {0}) tx es (h ++ e ∷ []) rest (ap is_over (phase_push h e tx) ∙ is))) in
    All-cons (IsOfUndo ⊥ tx) e es first (none_ended tx es (h ++ e ∷ []) rest going)
