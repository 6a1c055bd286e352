-- A record that names an object is entered with the right to maintenance.
use Rattle.std.proofs.Common.{◌≡◌, ℕ, List, [], ◌∷◌, ◌++◌, refl, sym, ap, ◌∙◌, subst, arith, append-nil}
use Rattle.std.specs.Prelude.{Option, Some, None, Result, Ok, Err, IfSome, IsSome}
use Rattle.std.specs.Option.{option_map}
use Rattle.books.specs.Rights.{MaintClaim, PageClaim}
use Rattle.front.specs.Seen.{PassSeen}
use Rattle.front.proofs.Keeping.{prefix_trans}
use Rattle.store_model.specs.declared.fault.Fault.{Fault}
use Rattle.store_model.specs.declared.fault.Fault.TheVariants as faults
use Rattle.wal_record.specs.Books.{maintenance_book}
use Rattle.wal_record.specs.History.{log_of}
use Rattle.wal_record.specs.Rules.{HasSpelling}
use Rattle.wal_record.specs.Sound.{AreLawful, IsLawful}
use Rattle.wal_record.specs.declared.record.Record.{Record}
use Rattle.wal_record.specs.declared.entry.Entry.{Entry}
use Rattle.wal_record.proofs.Along.{AllAlong_less}
use Rattle.claim_laws.specs.Entering.{IsAtRest}
use Rattle.claim_laws.specs.Suiting.{Suits}
use Rattle.claim_laws.specs.Upkeep.{SameMaintenance}
use Rattle.asking_laws.specs.Asks.{group_of}
use Rattle.asking_laws.proofs.Asks.{asks_law}
use Rattle.page_ops.specs.Asking.{IsAskable, WasTimely}
use Rattle.page_ops.specs.Causes.{FailsToEnter, NoOther, OrFull}
use Rattle.page_ops.specs.Claims.{Agree, Claims, MaintAgrees, no_claims}
use Rattle.page_ops.specs.Groups.{AreFilled, AreFilledFrom, Each, HasRights, IsGroup, Numbers, filled}
use Rattle.page_ops.specs.Names.{LedgerName}
use Rattle.page_ops.specs.Outcomes.{EntersGroup, IsFilledIn, IsFull, KeepsRights, OnEntered, answered}
use Rattle.page_ops.specs.Seeing.{Account, Enters, IsMoment, Looks, of_sessions, known}
use Rattle.page_ops.specs.declared.group.Group.{Group}
use Rattle.page_ops.specs.declared.outcome.Entered.{Entered}
use Rattle.page_ops.specs.declared.outcome.Entered.TheVariants as entereds
use Rattle.page_ops.proofs.Gaining.{keeps_then}
use Rattle.named_objects.specs.Named.{record_of}
use Rattle.named_objects.specs.Drafts.{maintenance_alone, recorded}
use Rattle.named_objects.specs.declared.naming.Naming.{Naming}
use Rattle.named_objects.specs.declared.naming.Naming.TheVariants as namings
use Rattle.named_objects.proofs.SameNames.{agreed}

-- ---- it may be asked

pub is_group : (n : Naming) (g : Group) → g ≡ group_of (record_of n) → HasSpelling (record_of n) → IsGroup g
is_group n g is spelled = subst IsGroup (sym is) (by n spelled)
  where
    by : (n : Naming) → HasSpelling (record_of n) → IsGroup (group_of (record_of n))
    by (namings.Backup b) spelled = record { few = omega arith; kinds = refl; spelled = (spelled, tt); told = refl; alone = λ a. absurd (cc a) }
    by (namings.Run d) spelled = record { few = omega arith; kinds = refl; spelled = (spelled, tt); told = refl; alone = λ a. absurd (cc a) }

pub has_rights : (n : Naming) (opens : List Record → Type 0) (h : List Entry) (x : Claims) (g : Group) → g ≡ group_of (record_of n) → IsSome x.m → HasRights opens h x g
has_rights n opens h x g is some = subst (HasRights opens h x) (sym is) (by n)
  where
    by : (n : Naming) → HasRights opens h x (group_of (record_of n))
    by (namings.Backup b) = record { pages = refl; new = λ s. absurd (cc s); owners = (tt, tt); speaker = tt; maintenance = λ needs. some }
    by (namings.Run d) = record { pages = refl; new = λ s. absurd (cc s); owners = (tt, tt); speaker = tt; maintenance = λ needs. some }

plainly : (n : Naming) (opening : List Record) (seen more : List Entry) (a : Option PageClaim) → AreLawful opening → IsAtRest opening (seen ++ more) → SameMaintenance seen more → Suits opening seen (record_of n)
    → IsAskable opening (seen ++ more) a (group_of (record_of n))
plainly (namings.Backup b) opening seen more a lawful rest same suits = (asks_law opening seen more).plain lawful rest a (record_of (namings.Backup b)) refl same suits
plainly (namings.Run d) opening seen more a lawful rest same suits = (asks_law opening seen more).plain lawful rest a (record_of (namings.Run d)) refl same suits

pub is_askable : (opens : List Record → Type 0) (n : Naming) (g : Group) → g ≡ group_of (record_of n) → (seen : List Entry) (x : Claims) → IsSome x.m → IfSome x.m (MaintAgrees seen)
    → ((opening : List Record) → opens opening → Suits opening seen (record_of n)) → (opening : List Record) (h : List Entry) → opens opening → IsMoment opens seen x h → IsAskable opening h x.a g
is_askable opens n g is seen x some agrees suits opening h stands moment =
    let begins = moment.begins in
    let consistent = moment.consistent in
    let sound = consistent.sound opening stands in
    let rest : IsAtRest opening h = record { legal = consistent.legal opening stands; sound = sound; told = consistent.told; split = consistent.split opening stands } in
    let same : SameMaintenance seen begins.0 = ap maintenance_book begins.1 ∙ agreed seen h x.m some agrees moment.rights.m in
    subst (λ (z : Group). IsAskable opening h x.a z) (sym is)
    (subst (λ (l : List Entry). IsAskable opening l x.a (group_of (record_of n))) begins.1
    (plainly n opening seen begins.0 x.a (AllAlong_less IsLawful opening (log_of h) sound.lawful) (subst (IsAtRest opening) (sym begins.1) rest) same (suits opening stands)))

pub was_timely : (n : Naming) (g : Group) → g ≡ group_of (record_of n) → (opening : List Record) (seen : List Entry) → Each (WasTimely opening seen) g.recs
was_timely n g is opening seen = subst (λ (z : Group). Each (WasTimely opening seen) z.recs) (sym is) (by n)
  where
    by : (n : Naming) → Each (WasTimely opening seen) ((group_of (record_of n)).recs)
    by (namings.Backup b) = ((seen, ([], append-nil seen), tt), tt)
    by (namings.Run d) = ((seen, ([], append-nil seen), tt), tt)

-- ---- what became of it

one_record : (r : Record) (made : Option ℕ) (new : ℕ) (xs : List Record) → ((n : Numbers) → filled made n r ≡ r) → AreFilledFrom made new (r ∷ []) xs → xs ≡ r ∷ []
one_record r made new [] keeps f = absurd f
one_record r made new (x ∷ []) keeps f = ap (λ (y : Record). y ∷ []) (f.0.2 ∙ keeps f.0.0)
one_record r made new (x ∷ y ∷ ys) keeps f = absurd f.1

as_it_is : (n : Naming) (child : ℕ) (xs : List Record) → AreFilled child (record_of n ∷ []) xs → xs ≡ record_of n ∷ []
as_it_is (namings.Backup b) child xs f = one_record (record_of (namings.Backup b)) None child xs (λ n. refl) f
as_it_is (namings.Run d) child xs f = one_record (record_of (namings.Run d)) None child xs (λ n. refl) f

-- the rights to maintenance alone, of a call's
alone : (opens : List Record → Type 0) (entries sessions : LedgerName) (a b : Account) (p q : PassSeen Entry) (x y : Claims) (es : List Entry) → Enters opens entries sessions (known a p x) es (known b q y)
    → Enters opens entries sessions (known a p (maintenance_alone x.m)) es (known b q (maintenance_alone y.m))
alone opens entries sessions a b p q x y es e =
    let only : (h : List Entry) (m : Option MaintClaim) → IfSome m (MaintAgrees h) → Agree opens h (maintenance_alone m) = λ h m agrees. record { a = tt; b = tt; c = tt; s = tt; m = agrees } in
    record {
      moment = e.moment;
      found = record { begins = e.found.begins; consistent = e.found.consistent; rights = only e.moment x.m e.found.rights.m };
      is = e.is;
      now = record { begins = e.now.begins; consistent = e.now.consistent; rights = only q.log y.m e.now.rights.m };
      durable = e.durable;
      keeps = e.keeps;
      counted = e.counted;
      sessions_counted = e.sessions_counted;
      totals = e.totals;
    }

pub looked_alone : (opens : List Record → Type 0) (entries sessions : LedgerName) (a b : Account) (p q : PassSeen Entry) (x y : Claims) (m m' : Option MaintClaim) → x.m ≡ m → y.m ≡ m' → Enters opens entries sessions (known a p x) [] (known b q y)
    → Enters opens entries sessions (known a p (maintenance_alone m)) [] (known b q (maintenance_alone m'))
looked_alone opens entries sessions a b p q x y m m' is is' e =
    subst (λ (z : Option MaintClaim × Option MaintClaim). Enters opens entries sessions (known a p (maintenance_alone z.0)) [] (known b q (maintenance_alone z.1))) (λ i. (is i, is' i)) (alone opens entries sessions a b p q x y [] e)

none_declined : (lsn : ℕ) (recs : List Record) (f : Fault) → answered lsn recs None (Err f) ≡ []
none_declined lsn recs (faults.Full pages pending at) = refl
none_declined lsn recs faults.Memory = refl
none_declined lsn recs faults.LogFault = refl
none_declined lsn recs faults.VaultFault = refl
none_declined lsn recs (faults.Ended at) = refl
none_declined lsn recs _ = refl

module _ (opens : List Record → Type 0) (entries sessions : LedgerName) (n : Naming) (g now : Group) (is : g ≡ group_of (record_of n)) (a b : Account) (p q : PassSeen Entry) (x y : Claims) (m m' : Option MaintClaim) (m_is : x.m ≡ m) (m'_is : y.m ≡ m') where
  of_group : (result : Result Entered Fault) → EntersGroup opens entries sessions g now result (known a p x) (known b q y) → Enters opens entries sessions (known a p (maintenance_alone m)) (answered now.lsn now.recs None result) (known b q (maintenance_alone m'))
  of_group result e =
      subst (λ (z : Option MaintClaim × Option MaintClaim). Enters opens entries sessions (known a p (maintenance_alone z.0)) (answered now.lsn now.recs None result) (known b q (maintenance_alone z.1))) (λ i. (m_is i, m'_is i))
      (alone opens entries sessions a b p q x y (answered now.lsn now.recs None result)
      (subst (λ (z : Group). Enters opens entries sessions (known a p x) (answered now.lsn now.recs z.said result) (known b q y)) is e.enters))

  pub entered_at : (pos : ℕ) (result : Result Entered Fault) → result ≡ Ok (entereds.At pos) → EntersGroup opens entries sessions g now result (known a p x) (known b q y) → OnEntered result (IsFilledIn g now x y)
      → Enters opens entries sessions (known a p (maintenance_alone m)) (recorded n (Ok now.lsn)) (known b q (maintenance_alone m'))
  entered_at pos result at e f =
      let whole = subst (λ (r : Result Entered Fault). Enters opens entries sessions (known a p (maintenance_alone m)) (answered now.lsn now.recs None r) (known b q (maintenance_alone m'))) at (of_group result e) in
      let filled_in : IsFilledIn g now x y = subst (λ (r : Result Entered Fault). OnEntered r (IsFilledIn g now x y)) at f in
      let recs : now.recs ≡ record_of n ∷ [] = as_it_is n filled_in.child now.recs (subst (λ (z : Group). AreFilled filled_in.child z.recs now.recs) is filled_in.recs) in
      subst (λ (rs : List Record). Enters opens entries sessions (known a p (maintenance_alone m)) (answered now.lsn rs None (Ok (entereds.At pos))) (known b q (maintenance_alone m'))) recs whole

  pub entered_none : (f : Fault) → EntersGroup opens entries sessions g now (Err f) (known a p x) (known b q y) → Enters opens entries sessions (known a p (maintenance_alone m)) [] (known b q (maintenance_alone m'))
  entered_none f e = subst (λ (es : List Entry). Enters opens entries sessions (known a p (maintenance_alone m)) es (known b q (maintenance_alone m'))) (none_declined now.lsn now.recs f) (of_group (Err f) e)

same_some : (a b : Option MaintClaim) → option_map (λ (m : MaintClaim). m.number) b ≡ option_map (λ (m : MaintClaim). m.number) a → IsSome a → IsSome b
same_some None b same some = absurd (cc some)
same_some (Some x) None same some = absurd (cc same)
same_some (Some x) (Some y) same some = refl

pub still_there : (g now : Group) (x y : Claims) (pos : ℕ) (result : Result Entered Fault) → result ≡ Ok (entereds.At pos) → OnEntered result (IsFilledIn g now x y) → IsSome x.m → IsSome y.m
still_there g now x y pos result at f some = same_some x.m y.m (subst (λ (r : Result Entered Fault). OnEntered r (IsFilledIn g now x y)) at f).holders.m some

pub kept_right : (f : Fault) (x y : Claims) → KeepsRights (Err f) x y → y.m ≡ x.m
kept_right (faults.Full pages pending at) x y k = ap (λ (z : Claims). z.m) k.0
kept_right faults.Memory x y k = ap (λ (z : Claims). z.m) k
kept_right faults.LogFault x y k = ap (λ (z : Claims). z.m) k
kept_right faults.VaultFault x y k = ap (λ (z : Claims). z.m) k
kept_right (faults.Ended at) x y k = ap (λ (z : Claims). z.m) k
kept_right _ x y k = ap (λ (z : Claims). z.m) k

pub never_full : (opens : List Record → Type 0) (h : List Entry) (n : Naming) (g : Group) (f : Fault) → g ≡ group_of (record_of n) → FailsToEnter OrFull f → IsFull opens h g f → FailsToEnter NoOther f
never_full opens h n g faults.Memory is may full = tt
never_full opens h n g (faults.Ended at) is may full = tt
never_full opens h n g (faults.Full pages pending at) is may full = absurd (cc (sym (ap (λ (z : Group). z.room) is) ∙ full.0))
never_full opens h n g _ is may full = absurd may

-- ---- behind a look

pub entered_behind : (opens : List Record → Type 0) (entries sessions : LedgerName) (a b c : Account) (p q r : PassSeen Entry) (x y : Claims) (es : List Entry) → Looks opens entries sessions a p b q → Enters opens entries sessions (known b q x) es (known c r y)
    → Enters opens entries sessions (known a p no_claims) es (known c r no_claims)
entered_behind opens entries sessions a b c p q r x y es l e =
    let none : (h : List Entry) → Agree opens h no_claims = λ h. record { a = tt; b = tt; c = tt; s = tt; m = tt } in
    let same : of_sessions q.log ≡ of_sessions l.moment = ap of_sessions (l.is ∙ append-nil l.moment) in
    let d = l.durable in
    let d' = e.durable in
    record {
      moment = e.moment;
      found = record { begins = prefix_trans p.log q.log e.moment l.now.begins e.found.begins; consistent = e.found.consistent; rights = none e.moment };
      is = e.is;
      now = record { begins = prefix_trans p.log q.log r.log l.now.begins e.now.begins; consistent = e.now.consistent; rights = none r.log };
      durable = omega (arith, d, d');
      keeps = keeps_then a b c l.keeps e.keeps;
      counted = let m = l.counted in let n = e.counted in omega (arith, m, n);
      sessions_counted = let m = l.sessions_counted in let n = e.sessions_counted in omega (arith, m, n, same);
      totals = e.totals;
    }
