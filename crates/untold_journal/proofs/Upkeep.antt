-- What an entry of the upkeep makes of a history of which no opening log is known.
use Rattle.std.proofs.Common.{◌≡◌, ℕ, suc, ◌+◌, ◌≤◌, List, [], ◌∷◌, ◌++◌, length, Option, Some, None, false, cond, Bool, refl, sym, ap, ◌∙◌, subst, arith, append-nil, length-append}
use Rattle.std.specs.Prelude.{IfSome, Ok}
use mathlib.Core.List.{IsPrefix}
use Rattle.books.specs.Rights.{PageClaim, SessionClaim, MaintClaim}
use Rattle.books.specs.declared.entry.BookEntry.{BookEntry}
use Rattle.front.specs.Seen.{PassSeen}
use Rattle.front.proofs.Keeping.{prefix_trans}
use Rattle.wal_record.proofs.Along.{along_push}
use Rattle.store_model.specs.Along.{along}
use Rattle.wal_record.specs.Legal.{untold, untold_step}
use Rattle.wal_record.specs.declared.record.Record.{Record}
use Rattle.wal_record.specs.declared.record.Record.TheVariants as kinds
use Rattle.wal_record.specs.declared.entry.Entry.{Entry}
use Rattle.wal_record.specs.declared.entry.Entry.TheVariants.{Rec, Repaired}
use Rattle.page_ops.proofs.Gaining.{calls_self, ended_self, keeps_self}
use Rattle.page_ops.specs.Causes.{IsUntold}
use Rattle.page_ops.specs.Claims.{Claims, PageAgrees, SessionAgrees, MaintAgrees}
use Rattle.page_ops.specs.Groups.{AreFilled, Numbers, made_by, no_checkpoint, filled}
use Rattle.page_ops.specs.Names.{LedgerName}
use Rattle.page_ops.specs.Outcomes.{EntersGroup, IsFilledIn, page_of, new_place, answered}
use Rattle.page_ops.specs.Seeing.{Account, Enters, HasTotals, IsMoment, Keeps, is_of_session, known, of_sessions}
use Rattle.page_ops.specs.declared.group.Group.{Group}
use Rattle.page_ops.specs.declared.group.Said.{Said}
use Rattle.page_ops.specs.declared.outcome.Entered.TheVariants.{At}
use Rattle.life_history.proofs.Keeping.{of_sessions_push}
use Rattle.untold_journal.specs.Upkeep.{IsAloneIn, IsKept, IsUpkeep}

untold_push : (h : List Entry) (e : Entry) → untold (h ++ e ∷ []) ≡ untold_step e
unfolding untold
untold_push h e = along_push _ _ h e

told_by : (e : Entry) → IsUpkeep e → untold_step e ≡ None
told_by (Rec lsn (kinds.Written w)) u = refl
told_by (Rec lsn (kinds.Restored r)) u = refl
told_by (Repaired page) u = refl
told_by (Rec lsn _) u = absurd u
told_by _ u = absurd u

pub of_nobody : (h : List Entry) (e : Entry) → IsUpkeep e → is_of_session h e ≡ false
of_nobody h (Rec lsn (kinds.Written w)) u = refl
of_nobody h (Rec lsn (kinds.Restored r)) u = refl
of_nobody h (Repaired page) u = refl
of_nobody h (Rec lsn _) u = absurd u
of_nobody h _ u = absurd u

same_sessions : (h : List Entry) (e : Entry) → IsUpkeep e → of_sessions (h ++ e ∷ []) ≡ of_sessions h
same_sessions h e u = of_sessions_push h e ∙ ap (λ (b : Bool). cond b (suc (of_sessions h)) (of_sessions h)) (of_nobody h e u)

no_sessions : of_sessions [] ≡ 0
unfolding of_sessions along
no_sessions = refl

none_told : untold [] ≡ None
unfolding untold along
none_told = refl

pub kept_empty : (opens : List Record → Type 0) (h : List Entry) (total of_session : ℕ) (ss ms : List BookEntry) → IsUntold opens → h ≡ [] → total ≡ 0 → of_session ≡ 0 → ss ≡ [] → ms ≡ [] → IsKept opens h 0 total of_session ss ms
kept_empty opens h total of_session ss ms none empty t s ns nm = record {
  none = none;
  told = ap untold empty ∙ none_told;
  counted = sym (ap (length {_}) empty);
  totals = t ∙ sym (ap (length {_}) empty);
  session_totals = s ∙ sym (ap of_sessions empty ∙ no_sessions);
  no_session = ns;
  no_maint = nm;
}

pub kept_one : (opens : List Record → Type 0) (h : List Entry) (count total of_session count' total' of_session' : ℕ) (ss ms : List BookEntry) (e : Entry) → IsKept opens h count total of_session ss ms → IsUpkeep e
    → count' ≡ count + 1 → total' ≡ total + 1 → of_session' ≡ of_session → IsKept opens (h ++ e ∷ []) count' total' of_session' ss ms
kept_one opens h count total of_session count' total' of_session' ss ms e k u more sum same =
    let longer = length-append h (e ∷ []) in
    let c = k.counted in
    let t = k.totals in
    record {
      none = k.none;
      told = untold_push h e ∙ told_by e u;
      counted = omega (arith, longer, c, more);
      totals = omega (arith, longer, t, sum);
      session_totals = same ∙ k.session_totals ∙ sym (same_sessions h e u);
      no_session = k.no_session;
      no_maint = k.no_maint;
    }

-- ---- what a caller knows

module _ (opens : List Record → Type 0) (none : IsUntold opens) where
  page_agrees : (h : List Entry) (p : Option PageClaim) → IfSome p (PageAgrees opens h)
  page_agrees h None = tt
  page_agrees h (Some p) = λ opening stands. absurd (none opening stands)

  no_session : (h : List Entry) (s : Option SessionClaim) → s ≡ None → IfSome s (SessionAgrees h)
  no_session h s is = subst (λ (o : Option SessionClaim). IfSome o (SessionAgrees h)) (sym is) tt

  no_maint : (h : List Entry) (m : Option MaintClaim) → m ≡ None → IfSome m (MaintAgrees h)
  no_maint h m is = subst (λ (o : Option MaintClaim). IfSome o (MaintAgrees h)) (sym is) tt

  moment_of : (h now : List Entry) (x : Claims) → IsPrefix h now → untold now ≡ None → x.s ≡ None → x.m ≡ None → IsMoment opens h x now
  moment_of h now x begins told s m = record {
    begins = begins;
    consistent = record {
      legal = λ opening stands. absurd (none opening stands);
      sound = λ opening stands. absurd (none opening stands);
      some = λ opening stands. absurd (none opening stands);
      told = told;
      split = λ opening stands. absurd (none opening stands);
    };
    rights = record { a = page_agrees now x.a; b = page_agrees now x.b; c = page_agrees now x.c; s = no_session now x.s s; m = no_maint now x.m m };
  }

  pub enters_none : (entries sessions : LedgerName) (a a' : Account) (p q : PassSeen Entry) (x x' : Claims) (h : List Entry) → a' ≡ a → x' ≡ x → q.log ≡ h → IsPrefix p.log h → p.durable ≤ q.durable → untold h ≡ None → (x.s ≡ None) × (x.m ≡ None)
      → HasTotals entries sessions a h → Enters opens entries sessions (known a p x) [] (known a' q x')
  enters_none entries sessions a a' p q x x' h account claims log begins later told none totals =
      let begins : IsPrefix p.log q.log = subst (IsPrefix p.log) (sym log) begins in
      let told : untold q.log ≡ None = ap untold log ∙ told in
      subst (λ (z : Account × Claims). Enters opens entries sessions (known a p x) [] (known z.0 q z.1)) (λ i. (sym account i, sym claims i))
      (record {
        moment = q.log;
        found = moment_of p.log q.log x begins told none.0 none.1;
        is = sym (append-nil q.log);
        now = moment_of p.log q.log x begins told none.0 none.1;
        durable = later;
        keeps = keeps_self a;
        counted = omega arith;
        sessions_counted = refl;
        totals = subst (HasTotals entries sessions a) (sym log) totals;
      })

abbrev pub counted_one : Account → Account
counted_one a = record a { entries = record { parts = a.entries.parts; amount = a.entries.amount + 1 } }

keeps_one : (a : Account) → Keeps a (counted_one a)
keeps_one a = record { entry_parts = refl; session_parts = refl; log_parts = refl; vault_parts = refl; log_faults = omega arith; vault_faults = omega arith; made = refl; ended = ended_self a.ended; calls = calls_self a.calls a.log_faults.amount }

-- an entry between two looks
pub enters_one : (opens : List Record → Type 0) (entries sessions : LedgerName) (a a1 b c : Account) (p q r : PassSeen Entry) (x x1 y : Claims) (e : Entry) → IsUpkeep e → a1 ≡ a → x1 ≡ x → b ≡ counted_one a1
    → Enters opens entries sessions (known a p x) [] (known a1 q x1) → Enters opens entries sessions (known b q x1) [] (known c r y) → c ≡ b → y ≡ x1 → r.log ≡ q.log ++ e ∷ [] → Enters opens entries sessions (known a p x) (e ∷ []) (known c r y)
enters_one opens entries sessions a a1 b c p q r x x1 y e u account claims more first then account' claims' is =
    let sums : c ≡ counted_one a = account' ∙ more ∙ ap counted_one account in
    let d = first.durable in
    let d' = then.durable in
    let amounts = ap (λ (z : Account). z.entries.amount) sums in
    let others = ap (λ (z : Account). z.session_entries.amount) sums in
    let same : of_sessions r.log ≡ of_sessions q.log = ap of_sessions is ∙ same_sessions q.log e u in
    record {
      moment = q.log;
      found = subst (λ (z : Claims). IsMoment opens p.log z q.log) claims first.now;
      is = is;
      now = record { begins = prefix_trans p.log q.log r.log first.now.begins then.now.begins; consistent = then.now.consistent; rights = then.now.rights };
      durable = omega (arith, d, d');
      keeps = subst (Keeps a) (sym sums) (keeps_one a);
      counted = omega (arith, amounts);
      sessions_counted = omega (arith, others, same);
      totals = then.totals;
    }

-- ---- a group

pub upkeep_of : (g : Group) (lsn : ℕ) (e : Entry) → IsAloneIn g lsn e → IsUpkeep e
upkeep_of g lsn e alone = subst IsUpkeep (sym alone.entry) alone.upkeep

-- such a record has no number to fill in, and makes no page
unfilled : (made : Option ℕ) (n : Numbers) (lsn : ℕ) (r : Record) → IsUpkeep (Rec lsn r) → r ≡ filled made n r
unfilled made n lsn (kinds.Written w) u = refl
unfilled made n lsn (kinds.Restored r) u = refl
unfilled made n lsn _ u = absurd u

makes_none : (lsn : ℕ) (r : Record) → IsUpkeep (Rec lsn r) → made_by (r ∷ []) ≡ None
makes_none lsn (kinds.Written w) u = refl
makes_none lsn (kinds.Restored r) u = refl
makes_none lsn _ u = absurd u

pub enters_group : (opens : List Record → Type 0) (entries sessions : LedgerName) (asked now : Group) (lsn pos : ℕ) (e : Entry) (a b : Account) (p q : PassSeen Entry) (x y : Claims) → IsAloneIn asked lsn e → now ≡ record asked { lsn = lsn }
    → Enters opens entries sessions (known a p x) (e ∷ []) (known b q y) → EntersGroup opens entries sessions asked now (Ok (At pos)) (known a p x) (known b q y)
enters_group opens entries sessions asked now lsn pos e a b p q x y w is enters =
    let recs : now.recs ≡ w.rec ∷ [] = ap (λ (g : Group). g.recs) is ∙ ap (λ (g : Group). g.recs) w.is in
    let said : asked.said ≡ None = ap (λ (g : Group). g.said) w.is in
    let number : now.lsn ≡ lsn = ap (λ (g : Group). g.lsn) is in
    let room : asked.room ≡ false = ap (λ (g : Group). g.room) w.is in
    record {
      enters = subst (λ (z : ℕ × List Record × Option Said). Enters opens entries sessions (known a p x) (answered z.0 z.1 z.2 (Ok (At pos))) (known b q y)) (λ i. (sym number i, sym recs i, sym said i))
          (subst (λ (z : Entry). Enters opens entries sessions (known a p x) (z ∷ []) (known b q y)) w.entry enters);
      room = λ opening stands on. absurd (cc (on, room));
    }

pub filled_in : (asked now : Group) (lsn : ℕ) (e : Entry) (x y : Claims) → IsAloneIn asked lsn e → now ≡ record asked { lsn = lsn } → y ≡ x → IsFilledIn asked now x y
filled_in asked now lsn e x y w is claims =
    let recs : now.recs ≡ asked.recs = ap (λ (g : Group). g.recs) is in
    let alone : asked.recs ≡ w.rec ∷ [] = ap (λ (g : Group). g.recs) w.is in
    let made : made_by asked.recs ≡ None = ap made_by alone ∙ makes_none lsn w.rec w.upkeep in
    let numbers : Numbers = record { prev = 0; page_prev = 0; other_prev = 0; child = 0; checkpoint = no_checkpoint; pages = 0 } in
    subst (λ (z : Claims). IsFilledIn asked now x z) (sym claims)
    (record {
      child = 0;
      recs = subst (λ (z : List Record × List Record). AreFilled 0 z.0 z.1) (λ i. (sym alone i, sym (recs ∙ alone) i)) ((numbers, refl, unfilled (made_by (w.rec ∷ [])) numbers lsn w.rec w.upkeep), tt);
      holders = record { a = refl; b = refl; s = refl; m = refl };
      made = sym (ap (λ (o : Option ℕ). new_place o 0 (page_of x.c)) made);
      numbered = λ makes. absurd (cc (made, makes));
    })
