-- Where the number of a session's entries is the same, its transaction is as it was.
use Rattle.std.proofs.Common.{◌≡◌, ℕ, suc, eqb, cond, ◌+◌, ◌≤◌, List, [], ◌∷◌, ◌++◌, length, Option, Some, None, Bool, true, false, refl, sym, ap, ◌∙◌, subst, arith, append_assoc, append-nil}
use Rattle.std.specs.Prelude.{◌||◌, ◌&&◌}
use Rattle.std.specs.List.{list_any}
use Rattle.std.proofs.Math.Nat.{le-max_left, le-max_right}
use Rattle.std.proofs.lemmas.Bool.{eqb-true}
use Rattle.std.proofs.lemmas.List.Folds.{list_any-append}
use Rattle.store_model.proofs.Bools.{or_left, not_both, false_unless, both_true}
use Rattle.wal_record.specs.Chains.{last, is_link_of, link_of, Link, greatest}
use Rattle.wal_record.specs.OpenWrites.{open_writes, open_step}
use Rattle.wal_record.specs.History.{life_log, phase, phase_step, Beginning, beginnings, is_owner, begun_step, greatest_begun}
use Rattle.wal_record.specs.Locks.{taken_locks, locks_step}
use Rattle.wal_record.specs.Books.{belongs, owns_link, session_entries}
use Rattle.wal_record.specs.Legal.{IsLegal, IsAllowed}
use Rattle.wal_record.specs.declared.record.Record.{Record}
use Rattle.wal_record.specs.declared.record.Record.TheVariants as kinds
use Rattle.wal_record.specs.declared.entry.Entry.{Entry}
use Rattle.wal_record.specs.declared.entry.Entry.TheVariants.{Rec, Lock, Refused, Said, Declined, Acked, Repaired, Began}
use Rattle.wal_record.proofs.Along.{by_pushes}
use Rattle.wal_record.proofs.Pushes.{legal_front, log_more, log_same, phase_push, taken_push, open_push, last_push, begun_push, beginnings_push, session_entries_push}
use Rattle.log_laws.proofs.Central.{eqb_self}
use Rattle.group_laws.specs.Stays.{moves, StaysAs}

-- ---- owners

abbrev is_of : ℕ → ℕ → Beginning → Bool
is_of session tx b = eqb b.session session && eqb b.tx tx

owner_push : (h : List Entry) (e : Entry) (s t : ℕ) → is_owner (h ++ e ∷ []) s t ≡ (is_owner h s t || list_any (is_of s t) (beginnings (e ∷ [])))
owner_push h e s t = ap (list_any (is_of s t)) (beginnings_push h e) ∙ list_any-append (is_of s t) (beginnings h) (beginnings (e ∷ []))

or_cases : (a b : Bool) (P : Type 0) → (a ≡ true → P) → (b ≡ true → P) → (a || b) ≡ true → P
or_cases true b P f g h = f refl
or_cases false b P f g h = g h

-- an entry begins this transaction of this session
begins_by : (e : Entry) (s t : ℕ) → list_any (is_of s t) (beginnings (e ∷ [])) ≡ true → e ≡ Began s t
begins_by (Began x u) s t is =
    let both = both_true (eqb x s) (eqb u t) (or_cases (eqb x s && eqb u t) false ((eqb x s && eqb u t) ≡ true) (λ y. y) (λ y. absurd (cc y)) is) in
    λ i. Began (eqb-true x s both.0 i) (eqb-true u t both.1 i)
begins_by _ s t is = absurd (cc is)

kept : (h : List Entry) (e : Entry) (t : ℕ) → t ≤ greatest_begun h → t ≤ begun_step (greatest_begun h) e
kept h (Began s tx) t is = let l = le-max_left (greatest_begun h) tx in omega (arith, is, l)
kept h _ t is = is

begun_of : (h : List Entry) (s t : ℕ) → is_owner h s t ≡ true → t ≤ greatest_begun h
begun_of = by_pushes (λ (h : List Entry). (s t : ℕ) → is_owner h s t ≡ true → t ≤ greatest_begun h) (λ s t is. absurd (cc is))
    (λ h e before s t is. or_cases (is_owner h s t) (list_any (is_of s t) (beginnings (e ∷ []))) (t ≤ greatest_begun (h ++ e ∷ []))
    (λ old. subst (λ n. t ≤ n) (sym (begun_push h e)) (kept h e t (before s t old)))
    (λ new. subst (λ (x : Entry). t ≤ greatest_begun (h ++ x ∷ [])) (sym (begins_by e s t new)) (subst (λ n. t ≤ n) (sym (begun_push h (Began s t))) (le-max_right (greatest_begun h) t)))
    (sym (owner_push h e s t) ∙ is))

-- a transaction has one owner
one_owner : (opening : List Record) (h : List Entry) → IsLegal opening h → (a b t : ℕ) → is_owner h a t ≡ true → is_owner h b t ≡ true → a ≡ b
one_owner opening = by_pushes (λ (h : List Entry). IsLegal opening h → (a b t : ℕ) → is_owner h a t ≡ true → is_owner h b t ≡ true → a ≡ b) (λ _ a b t x y. absurd (cc x))
    (λ h e before legal a b t x y.
    let parts = legal_front opening h e legal in
    let old : (s : ℕ) → is_owner h s t ≡ true → (u : ℕ) → e ≡ Began u t → ⊥ = λ s own u is.
    let m = le-max_right (greatest opening) (greatest_begun h) in
    let n = begun_of h s t own in
    let ok = subst (λ (x : Entry). IsAllowed opening h x) is parts.1 in
    absurd (omega (arith, ok.rule.number, m, n)) in
    or_cases (is_owner h a t) (list_any (is_of a t) (beginnings (e ∷ []))) (a ≡ b)
    (λ oa. or_cases (is_owner h b t) (list_any (is_of b t) (beginnings (e ∷ []))) (a ≡ b) (λ ob. before parts.0 a b t oa ob) (λ nb. absurd (old a oa b (begins_by e b t nb))) (sym (owner_push h e b t) ∙ y))
    (λ na. or_cases (is_owner h b t) (list_any (is_of b t) (beginnings (e ∷ []))) (a ≡ b) (λ ob. absurd (old b ob a (begins_by e a t na)))
    (λ nb. let same : Began a t ≡ Began b t = sym (begins_by e a t na) ∙ begins_by e b t nb in cc same) (sym (owner_push h e b t) ∙ y))
    (sym (owner_push h e a t) ∙ x))

pub owner_stays : (h : List Entry) (e : Entry) (s t : ℕ) → is_owner h s t ≡ true → is_owner (h ++ e ∷ []) s t ≡ true
owner_stays h e s t is = owner_push h e s t ∙ or_left (is_owner h s t) _ is

-- ---- entries of others

link_moves : (h : List Entry) (s t : ℕ) (link : Option Link) → is_owner h s t ≡ true → owns_link h s link ≡ false → is_link_of t link ≡ false
link_moves h s t None own not = refl
link_moves h s t (Some l) own not = false_unless (eqb l.tx t) (λ is. not_both (is_owner h s l.tx) (ap (is_owner h s) (eqb-true l.tx t is) ∙ own) not)

pub others : (opening : List Record) (h : List Entry) (e : Entry) (s t : ℕ) → IsLegal opening h → IsAllowed opening h e → is_owner h s t ≡ true → belongs h s e ≡ false → moves t e ≡ false
others opening h (Began x u) s t legal ok own not = false_unless (eqb u t) (λ is.
    let m = le-max_right (greatest opening) (greatest_begun h) in
    let n = begun_of h s t own in
    let u_is = eqb-true u t is in
    absurd (omega (arith, ok.rule.number, m, n, u_is)))
others opening h (Acked x u) s t legal ok own not = false_unless (eqb u t) (λ is.
    let owner : is_owner h x t ≡ true = ap (is_owner h x) (sym (eqb-true u t is)) ∙ ok.rule.owner in
    not_both (eqb x s) (ap (λ y. eqb y s) (one_owner opening h legal x s t owner own) ∙ eqb_self s) not)
others opening h (Lock u range mode) s t legal ok own not = false_unless (eqb u t) (λ is. not_both (is_owner h s u) (ap (is_owner h s) (eqb-true u t is) ∙ own) not)
others opening h (Rec lsn r) s t legal ok own not = link_moves h s t (link_of r) own not
others opening h _ s t legal ok own not = refl

-- ---- what such an entry leaves

link_false : (a b : ℕ) → eqb a b ≡ false → {A : Type 0} (x y : A) → cond (eqb a b) x y ≡ y
link_false a b is x y = ap (λ c. cond c x y) is

phase_kept : (t : ℕ) (p : _) (e : Entry) → moves t e ≡ false → phase_step t p e ≡ p
phase_kept t p (Began x u) not = link_false u t not _ p
phase_kept t p (Acked x u) not = link_false u t not _ p
phase_kept t p (Rec lsn (kinds.Commit c)) not = link_false c.tx t not _ p
phase_kept t p (Rec lsn (kinds.End c)) not = link_false c.tx t not _ p
phase_kept t p _ not = refl

locks_kept : (t : ℕ) (ls : _) (e : Entry) → moves t e ≡ false → locks_step t ls e ≡ ls
locks_kept t ls (Lock u range mode) not = link_false u t not _ ls
locks_kept t ls (Rec lsn (kinds.Commit c)) not = link_false c.tx t not _ ls
locks_kept t ls (Rec lsn (kinds.End c)) not = link_false c.tx t not _ ls
locks_kept t ls _ not = refl

open_kept : (t : ℕ) (ws : List Record) (r : Record) → is_link_of t (link_of r) ≡ false → open_step t r ws r ≡ ws
open_kept t ws (kinds.Write w) not = link_false w.tx t not _ ws
open_kept t ws (kinds.Apply w) not = link_false w.tx t not _ ws
open_kept t ws (kinds.Undo w) not = link_false w.tx t not _ ws
open_kept t ws (kinds.Commit w) not = link_false w.tx t not _ ws
open_kept t ws (kinds.End w) not = link_false w.tx t not _ ws
open_kept t ws _ not = refl

writes_kept : (opening : List Record) (h : List Entry) (e : Entry) (t : ℕ) → moves t e ≡ false → open_writes (life_log opening (h ++ e ∷ [])) t ≡ open_writes (life_log opening h) t
writes_kept opening h (Rec lsn r) t not = ap (λ (l : List Record). open_writes l t) (log_more opening h lsn r) ∙ open_push (life_log opening h) r t ∙ open_kept t (open_writes (life_log opening h) t) r not
writes_kept opening h (Lock a b c) t not = ap (λ (l : List Record). open_writes l t) (log_same opening h (Lock a b c) refl)
writes_kept opening h (Refused a b c d) t not = ap (λ (l : List Record). open_writes l t) (log_same opening h (Refused a b c d) refl)
writes_kept opening h (Said a b c d) t not = ap (λ (l : List Record). open_writes l t) (log_same opening h (Said a b c d) refl)
writes_kept opening h (Declined a b c d) t not = ap (λ (l : List Record). open_writes l t) (log_same opening h (Declined a b c d) refl)
writes_kept opening h (Acked a b) t not = ap (λ (l : List Record). open_writes l t) (log_same opening h (Acked a b) refl)
writes_kept opening h (Repaired a) t not = ap (λ (l : List Record). open_writes l t) (log_same opening h (Repaired a) refl)
writes_kept opening h (Began a b) t not = ap (λ (l : List Record). open_writes l t) (log_same opening h (Began a b) refl)

last_kept : (opening : List Record) (h : List Entry) (e : Entry) (t : ℕ) → moves t e ≡ false → last (life_log opening (h ++ e ∷ [])) t ≡ last (life_log opening h) t
last_kept opening h (Rec lsn r) t not = ap (λ (l : List Record). last l t) (log_more opening h lsn r) ∙ last_push (life_log opening h) r t ∙ ap (λ c. cond c (length (life_log opening h) + 1) (last (life_log opening h) t)) not
last_kept opening h (Lock a b c) t not = ap (λ (l : List Record). last l t) (log_same opening h (Lock a b c) refl)
last_kept opening h (Refused a b c d) t not = ap (λ (l : List Record). last l t) (log_same opening h (Refused a b c d) refl)
last_kept opening h (Said a b c d) t not = ap (λ (l : List Record). last l t) (log_same opening h (Said a b c d) refl)
last_kept opening h (Declined a b c d) t not = ap (λ (l : List Record). last l t) (log_same opening h (Declined a b c d) refl)
last_kept opening h (Acked a b) t not = ap (λ (l : List Record). last l t) (log_same opening h (Acked a b) refl)
last_kept opening h (Repaired a) t not = ap (λ (l : List Record). last l t) (log_same opening h (Repaired a) refl)
last_kept opening h (Began a b) t not = ap (λ (l : List Record). last l t) (log_same opening h (Began a b) refl)

-- ---- a session that enters nothing

grows : (b : Bool) (n m : ℕ) → m ≤ n → m ≤ cond b (suc n) n
grows true n m is = omega (arith, is)
grows false n m is = is

pub entries_grow : (seen more : List Entry) (s : ℕ) → session_entries seen s ≤ session_entries (seen ++ more) s
entries_grow seen more s = by_pushes (λ (more : List Entry). session_entries seen s ≤ session_entries (seen ++ more) s)
    (subst (λ (l : List Entry). session_entries seen s ≤ session_entries l s) (sym (append-nil seen)) (omega arith))
    (λ more e before. subst (λ (l : List Entry). session_entries seen s ≤ session_entries l s) (append_assoc seen more (e ∷ []))
    (subst (λ n. session_entries seen s ≤ n) (sym (session_entries_push (seen ++ more) e s)) (grows (belongs (seen ++ more) s e) _ _ before))) more

pub none_added : (b : Bool) (n m : ℕ) → m ≤ n → cond b (suc n) n ≡ m → (b ≡ false) × (n ≡ m)
none_added true n m le is = absurd (omega (arith, le, is))
none_added false n m le is = (refl, is)

pub stays : (opening : List Record) (seen more : List Entry) (s t : ℕ) → is_owner seen s t ≡ true → IsLegal opening (seen ++ more) → session_entries (seen ++ more) s ≡ session_entries seen s
    → StaysAs opening seen (seen ++ more) t × (is_owner (seen ++ more) s t ≡ true)
stays opening seen more s t own = by_pushes (λ (more : List Entry). IsLegal opening (seen ++ more) → session_entries (seen ++ more) s ≡ session_entries seen s → StaysAs opening seen (seen ++ more) t × (is_owner (seen ++ more) s t ≡ true))
    (λ _ _. subst (λ (h : List Entry). StaysAs opening seen h t × (is_owner h s t ≡ true)) (sym (append-nil seen)) (record { phase = refl; locks = refl; writes = refl; last = refl }, own))
    (λ more e before legal same.
    let h = seen ++ more in
    let joined : h ++ e ∷ [] ≡ seen ++ (more ++ e ∷ []) = append_assoc seen more (e ∷ []) in
    let parts = legal_front opening h e (subst (IsLegal opening) (sym joined) legal) in
    let none = none_added (belongs h s e) (session_entries h s) (session_entries seen s) (entries_grow seen more s) (sym (session_entries_push h e s) ∙ ap (λ (l : List Entry). session_entries l s) joined ∙ same) in
    let up = before parts.0 none.1 in
    let not = others opening h e s t parts.0 parts.1 up.1 none.0 in
    subst (λ (l : List Entry). StaysAs opening seen l t × (is_owner l s t ≡ true)) joined (
      record {
        phase = phase_push h e t ∙ phase_kept t (phase h t) e not ∙ up.0.phase;
        locks = taken_push h e t ∙ locks_kept t (taken_locks h t) e not ∙ up.0.locks;
        writes = writes_kept opening h e t not ∙ up.0.writes;
        last = last_kept opening h e t not ∙ up.0.last;
      },
      owner_stays h e s t up.1,
    )) more
