-- Calls one after the other: what they enter together, and what they keep.
use Rattle.std.proofs.Common.{◌≡◌, ℕ, ◌+◌, ◌≤◌, List, [], ◌∷◌, ◌++◌, length, ◌<◌, ◌⊎◌, Option, Some, None, Bool, true, false, refl, ltb-true, sym, ap, subst, ◌∙◌, arith, append-nil, append_assoc, length-append, inl, inr}
use Rattle.std.specs.Prelude.{IfSome}
use Rattle.std.specs.List.{list_all}
use mathlib.Core.List.{IsPrefix}
use Rattle.front.specs.Seen.{PassSeen}
use Rattle.media.specs.Cause.{Rose}
use Rattle.std.proofs.Math.Dec.{ltb}
use Rattle.std.proofs.lemmas.Bool.{ltb-false}
use Rattle.store_model.proofs.Bools.{both_true, and_true}
use Rattle.wal_record.specs.declared.record.Record.{Record}
use Rattle.wal_record.specs.declared.entry.Entry.{Entry}
use Rattle.page_ops.specs.Names.{LedgerName}
use Rattle.page_ops.specs.Claims.{Claims, Agree, no_claims}
use Rattle.page_ops.specs.Gains.{Gains, Goes, IsSettled}
use Rattle.page_ops.specs.Seeing.{Account, Calls, CallsGoOn, GoesOn, Known, known, Keeps, IsAmong, Enters, Looks, Upholds, of_sessions}

-- ---- accounts

pub ended_self : (e : Option ℕ) → IfSome e (λ at. e ≡ Some at)
ended_self None = tt
ended_self (Some at) = refl

ended_then : (a b c : Option ℕ) → IfSome a (λ at. b ≡ Some at) → IfSome b (λ at. c ≡ Some at) → IfSome a (λ at. c ≡ Some at)
ended_then None b c x y = tt
ended_then (Some at) b c x y = subst (λ (o : Option ℕ). IfSome o (λ n. c ≡ Some n)) x y

goes_on_self : (x : Calls) (n : ℕ) → GoesOn x x n n
goes_on_self x n = record { unarmed = λ none. (none, refl); refused = omega arith; own = omega arith; cause = λ more. absurd (omega (arith, more)) }

pub calls_self : (x : Option Calls) (n : ℕ) → CallsGoOn x x n n
calls_self None n = refl
calls_self (Some x) n = goes_on_self x n

-- where no more faults were counted, the calls may stay as they were
pub calls_same : (x : Option Calls) (n m : ℕ) → m ≡ n → CallsGoOn x x n m
calls_same x n m same = subst (λ (k : ℕ). CallsGoOn x x n k) (sym same) (calls_self x n)

rose_then : (a b c : ℕ) → Rose a b → b ≤ c → Rose a c
rose_then a b c r more = omega (arith, r, more)

then_rose : (a b c : ℕ) → a ≤ b → Rose b c → Rose a c
then_rose a b c more r = omega (arith, r, more)

goes_on_then : (x y z : Calls) (k l m : ℕ) → GoesOn x y k l → GoesOn y z l m → GoesOn x z k m
goes_on_then x y z k l m a b =
    let r = a.refused in
    let r' = b.refused in
    let o = a.own in
    let o' = b.own in
    record {
      unarmed = λ none. let first = a.unarmed none in let then = b.unarmed first.0 in (then.0, then.1 ∙ first.1);
      refused = omega (arith, r, r');
      own = omega (arith, o, o');
      cause = λ more. by (ltb k l) refl more;
    }
  where
    first : Rose x.own y.own ⊎ Rose x.refused y.refused → Rose x.own z.own ⊎ Rose x.refused z.refused
    first (inl h) = inl (rose_then x.own y.own z.own h b.own)
    first (inr h) = inr (rose_then x.refused y.refused z.refused h b.refused)

    second : Rose y.own z.own ⊎ Rose y.refused z.refused → Rose x.own z.own ⊎ Rose x.refused z.refused
    second (inl h) = inl (then_rose x.own y.own z.own a.own h)
    second (inr h) = inr (then_rose x.refused y.refused z.refused a.refused h)

    by : (t : Bool) → ltb k l ≡ t → k < m → Rose x.own z.own ⊎ Rose x.refused z.refused
    by true h more = first (a.cause (ltb-true k l h))
    by false h more = let least = ltb-false k l h in second (b.cause (omega (arith, least, more)))

calls_then : (x y z : Option Calls) (k l m : ℕ) → CallsGoOn x y k l → CallsGoOn y z l m → CallsGoOn x z k m
calls_then None y z k l m a b = subst (λ (o : Option Calls). CallsGoOn o z l m) a b
calls_then (Some x) None z k l m a b = absurd a
calls_then (Some x) (Some y) None k l m a b = absurd b
calls_then (Some x) (Some y) (Some z) k l m a b = goes_on_then x y z k l m a b

pub keeps_self : (a : Account) → Keeps a a
keeps_self a = record {
  entry_parts = refl;
  session_parts = refl;
  log_parts = refl;
  vault_parts = refl;
  log_faults = omega arith;
  vault_faults = omega arith;
  made = refl;
  ended = ended_self a.ended;
  calls = calls_self a.calls a.log_faults.amount;
}

pub keeps_then : (a b c : Account) → Keeps a b → Keeps b c → Keeps a c
keeps_then a b c x y =
    let l = x.log_faults in
    let l' = y.log_faults in
    let v = x.vault_faults in
    let v' = y.vault_faults in
    record {
      entry_parts = y.entry_parts ∙ x.entry_parts;
      session_parts = y.session_parts ∙ x.session_parts;
      log_parts = y.log_parts ∙ x.log_parts;
      vault_parts = y.vault_parts ∙ x.vault_parts;
      log_faults = omega (arith, l, l');
      vault_faults = omega (arith, v, v');
      made = y.made ∙ x.made;
      ended = ended_then a.ended b.ended c.ended x.ended y.ended;
      calls = calls_then a.calls b.calls c.calls a.log_faults.amount b.log_faults.amount c.log_faults.amount x.calls y.calls;
    }

-- ---- entries

among_self : (es : List Entry) → IsAmong es es
among_self [] = tt
among_self (e ∷ es) = inl (refl, among_self es)

skipped : (es xs ys : List Entry) → IsAmong es ys → IsAmong es (xs ++ ys)
skipped es [] ys h = h
skipped [] (x ∷ xs) ys h = tt
skipped (e ∷ es) (x ∷ xs) ys h = inr (skipped (e ∷ es) xs ys h)

among_then : (es xs fs ys : List Entry) → IsAmong es xs → IsAmong fs ys → IsAmong (es ++ fs) (xs ++ ys)
among_then [] xs fs ys h k = skipped fs xs ys k
among_then (e ∷ es) [] fs ys h k = absurd h
among_then (e ∷ es) (x ∷ xs) fs ys h k = elim h [
  | inl g ↦ inl (g.0, among_then es xs fs ys g.1 k)
  | inr g ↦ inr (among_then (e ∷ es) xs fs ys g k)
]

all_then : (f : Entry → Bool) (xs ys : List Entry) → list_all f xs ≡ true → list_all f ys ≡ true → list_all f (xs ++ ys) ≡ true
all_then f [] ys h k = k
all_then f (x ∷ xs) ys h k = let both = both_true (f x) (list_all f xs) h in and_true (f x) (list_all f (xs ++ ys)) both.0 (all_then f xs ys both.1 k)

-- ---- calls that see the whole history

module _ (opens : List Record → Type 0) (entries sessions : LedgerName) where
  -- one call of the journal
  pub gains_of : (es : List Entry) (a b : Known) → Enters opens entries sessions a es b → Gains opens entries sessions es a b
  gains_of es a b e = record {
    gained = e.found.begins.0 ++ es;
    is = e.is ∙ ap (λ (h : List Entry). h ++ es) (sym e.found.begins.1) ∙ append_assoc a.log e.found.begins.0 es;
    among = skipped es e.found.begins.0 es (among_self es);
    consistent = e.now.consistent;
    durable = e.durable;
    keeps = e.keeps;
    counted = e.counted;
    totals = e.totals;
  }

  pub gains_then : (own more : List Entry) (a b c : Known) → Gains opens entries sessions own a b → Gains opens entries sessions more b c → Gains opens entries sessions (own ++ more) a c
  gains_then own more a b c x y =
      let m = x.counted in
      let n = y.counted in
      let l : length (own ++ more) ≡ length own + length more = length-append own more in
      let d = x.durable in
      let d' = y.durable in
      record {
        gained = x.gained ++ y.gained;
        is = y.is ∙ ap (λ (h : List Entry). h ++ y.gained) x.is ∙ append_assoc a.log x.gained y.gained;
        among = among_then own x.gained more y.gained x.among y.among;
        consistent = y.consistent;
        durable = omega (arith, d, d');
        keeps = keeps_then a.account b.account c.account x.keeps y.keeps;
        counted = omega (arith, m, n, l);
        totals = y.totals;
      }

  -- whose right isn't handed in is of no account
  pub looked : (a a' : Account) (s s' : PassSeen Entry) (x x' : Claims) → Enters opens entries sessions (known a s x) [] (known a' s' x') → Looks opens entries sessions a s a' s'
  looked a a' s s' x x' e =
      let none : (h : List Entry) → Agree opens h no_claims = λ h. record { a = tt; b = tt; c = tt; s = tt; m = tt } in
      record {
        moment = e.moment;
        found = record { begins = e.found.begins; consistent = e.found.consistent; rights = none e.moment };
        is = e.is;
        now = record { begins = e.now.begins; consistent = e.now.consistent; rights = none s'.log };
        durable = e.durable;
        keeps = e.keeps;
        counted = e.counted;
        sessions_counted = e.sessions_counted;
        totals = e.totals;
      }

  -- a call that looks enters nothing of its own
  pub upheld : (kind : Entry → Bool) (a a' : Account) (s s' : PassSeen Entry) → Looks opens entries sessions a s a' s' → Upholds opens entries sessions kind (known a s no_claims) (known a' s' no_claims)
  upheld kind a a' s s' e =
      let same : of_sessions s'.log ≡ of_sessions e.moment = ap of_sessions (e.is ∙ append-nil e.moment) in
      record {
        gained = e.now.begins.0;
        is = sym e.now.begins.1;
        own = [];
        among = tt;
        kinds = refl;
        consistent = e.now.consistent;
        durable = e.durable;
        keeps = e.keeps;
        counted = e.counted;
        sessions_counted = omega (arith, same, e.sessions_counted);
        totals = e.totals;
      }

-- ---- calls between which the history need not be seen

module _ (kind : Entry → Bool) where
  pub goes_self : (a : Account) (s : PassSeen Entry) (x : Claims) → Goes kind (known a s x) (known a s x)
  goes_self a s x = record {
    gained = [];
    is = sym (append-nil s.log);
    own = [];
    among = tt;
    kinds = refl;
    durable = omega arith;
    keeps = keeps_self a;
    counted = omega arith;
    sessions_counted = refl;
  }

  -- a pass met another
  pub goes_met : (a : Account) (s s' : PassSeen Entry) (x : Claims) → IsPrefix s.log s'.log → s.durable ≤ s'.durable → Goes kind (known a s x) (known a s' x)
  goes_met a s s' x begins later = record {
    gained = begins.0;
    is = sym begins.1;
    own = [];
    among = tt;
    kinds = refl;
    durable = later;
    keeps = keeps_self a;
    counted = omega arith;
    sessions_counted = refl;
  }

  pub goes_then : (a b c : Known) → Goes kind a b → Goes kind b c → Goes kind a c
  goes_then a b c x y =
      let m = x.counted in
      let n = y.counted in
      let l : length (x.own ++ y.own) ≡ length x.own + length y.own = length-append x.own y.own in
      let d = x.durable in
      let d' = y.durable in
      record {
        gained = x.gained ++ y.gained;
        is = y.is ∙ ap (λ (h : List Entry). h ++ y.gained) x.is ∙ append_assoc a.log x.gained y.gained;
        own = x.own ++ y.own;
        among = among_then x.own x.gained y.own y.gained x.among y.among;
        kinds = all_then kind x.own y.own x.kinds y.kinds;
        durable = omega (arith, d, d');
        keeps = keeps_then a.account b.account c.account x.keeps y.keeps;
        counted = omega (arith, m, n, l);
        sessions_counted = y.sessions_counted ∙ x.sessions_counted;
      }

  module _ (opens : List Record → Type 0) (entries sessions : LedgerName) where
    pub goes_of : (a b : Known) → Upholds opens entries sessions kind a b → Goes kind a b
    goes_of a b u = record {
      gained = u.gained;
      is = u.is;
      own = u.own;
      among = u.among;
      kinds = u.kinds;
      durable = u.durable;
      keeps = u.keeps;
      counted = u.counted;
      sessions_counted = u.sessions_counted;
    }

    pub settled_of : (a b : Known) → Upholds opens entries sessions kind a b → IsSettled opens entries sessions b.account b.log
    settled_of a b u = record { consistent = u.consistent; totals = u.totals }

    pub upheld_by : (a b : Known) → Goes kind a b → IsSettled opens entries sessions b.account b.log → Upholds opens entries sessions kind a b
    upheld_by a b g s = record {
      gained = g.gained;
      is = g.is;
      own = g.own;
      among = g.among;
      kinds = g.kinds;
      consistent = s.consistent;
      durable = g.durable;
      keeps = g.keeps;
      counted = g.counted;
      sessions_counted = g.sessions_counted;
      totals = s.totals;
    }

    pub upheld_then : (a b c : Known) → Goes kind a b → Upholds opens entries sessions kind b c → Upholds opens entries sessions kind a c
    upheld_then a b c g u = upheld_by a c (goes_then a b c g (goes_of b c u)) (settled_of b c u)

    -- what upkeep enters is gained, too
    pub gains_of_upheld : (a b : Known) (u : Upholds opens entries sessions kind a b) → Gains opens entries sessions u.own a b
    gains_of_upheld a b u = record {
      gained = u.gained;
      is = u.is;
      among = u.among;
      consistent = u.consistent;
      durable = u.durable;
      keeps = u.keeps;
      counted = u.counted;
      totals = u.totals;
    }
