-- Calls one after the other, where the history need not have been seen whole in between.
use Rattle.std.proofs.Common.{◌≡◌, ◌+◌, ◌≤◌, List, [], ◌∷◌, ◌++◌, length, sym, ap, ◌∙◌, arith, append_assoc, append-nil, length-append, inl, inr}
use Rattle.wal_record.specs.declared.record.Record.{Record}
use Rattle.wal_record.specs.declared.entry.Entry.{Entry}
use Rattle.page_ops.specs.Gains.{Gains}
use Rattle.page_ops.specs.Names.{LedgerName}
use Rattle.page_ops.specs.Seeing.{IsAmong, Keeps, Known}
use Rattle.page_ops.proofs.Gaining.{keeps_self, keeps_then}

-- ---- entries

skipped : (es xs ys : List Entry) → IsAmong es ys → IsAmong es (xs ++ ys)
skipped es [] ys h = h
skipped [] (x ∷ xs) ys h = tt
skipped (e ∷ es) (x ∷ xs) ys h = inr (skipped (e ∷ es) xs ys h)

among_then : (es xs fs ys : List Entry) → IsAmong es xs → IsAmong fs ys → IsAmong (es ++ fs) (xs ++ ys)
among_then [] xs fs ys h k = skipped fs xs ys k
among_then (e ∷ es) [] fs ys h k = absurd h
among_then (e ∷ es) (x ∷ xs) fs ys h k = elim h [
  | inl g ↦ inl (g.0, among_then es xs fs ys g.1 k)
  | inr g ↦ inr (among_then (e ∷ es) xs fs ys g k)
]

-- ---- calls

-- calls entered these entries of their own, perhaps with others between
pub record Went (own : List Entry) (old new : Known) : Type 0 where
  pub gained : List Entry
  pub is : new.log ≡ old.log ++ gained
  pub among : IsAmong own gained
  pub durable : old.durable ≤ new.durable
  pub keeps : Keeps old.account new.account
  pub counted : new.account.entries.amount ≡ old.account.entries.amount + length own

pub went_none : (a : Known) → Went [] a a
went_none a = record { gained = []; is = sym (append-nil a.log); among = tt; durable = omega arith; keeps = keeps_self a.account; counted = omega arith }

module _ (opens : List Record → Type 0) (ledger sessions : LedgerName) where
  pub went_of : (own : List Entry) (a b : Known) → Gains opens ledger sessions own a b → Went own a b
  went_of own a b g = record { gained = g.gained; is = g.is; among = g.among; durable = g.durable; keeps = g.keeps; counted = g.counted }

  -- and the last of them saw it whole
  pub gains_behind : (own more : List Entry) (a b c : Known) → Went own a b → Gains opens ledger sessions more b c → Gains opens ledger sessions (own ++ more) a c
  gains_behind own more a b c x y =
      let m = x.counted in
      let n = y.counted in
      let l : length (own ++ more) ≡ length own + length more = length-append own more in
      let d = x.durable in
      let d' = y.durable in
      record {
        gained = x.gained ++ y.gained;
        is = y.is ∙ ap (λ (h : List Entry). h ++ y.gained) x.is ∙ append_assoc a.log x.gained y.gained;
        among = among_then own x.gained more y.gained x.among y.among;
        consistent = y.consistent;
        durable = omega (arith, d, d');
        keeps = keeps_then a.account b.account c.account x.keeps y.keeps;
        counted = omega (arith, m, n, l);
        totals = y.totals;
      }
