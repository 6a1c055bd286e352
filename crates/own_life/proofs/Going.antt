-- What holds of a life between its calls holds behind each of them: a call of the layers below, and then a look at the whole
-- history.
use Rattle.std.proofs.Common.{◌≡◌, ◌≤◌, ℕ, List, Option, Some, None, true, sym, ap, subst, ◌∙◌, arith}
use Rattle.std.specs.Prelude.{is_some}
use Rattle.wal_record.specs.declared.entry.Entry.{Entry}
use Rattle.wal_record.specs.declared.record.Record.{Record}
use Rattle.page_ops.specs.Names.{LedgerName}
use Rattle.page_ops.specs.Seeing.{Account, Counted, Keeps}
use Rattle.journal.specs.State.{JournalState}
use Rattle.command_laws.specs.Names.{Active, AreNamed, active_of, is_active}
use Rattle.own_journal.specs.Told.{told}
use Rattle.store_life.specs.SoFar.{HasNames, actives}
use Rattle.store_life.specs.declared.life.Named.{Named}
use Rattle.store_life.specs.declared.life.StoreLife.{StoreLife}
use Rattle.own_life.specs.Kept.{IsKept, Sees}
use Rattle.own_life.specs.State.{LifeState}
use Rattle.own_life.proofs.Called.{Called, GoesOrFails, none_counted}

-- a life as contracts see it
abbrev pub state_of : {N : Type 0} → Account → JournalState → StoreLife N → LifeState
state_of counts journal life = record { history = life.pass.log; durable = life.pass.durable; active = actives life.named.items; ended = counts.ended; calls = journal.calls }

abbrev pub with_made : Account → Counted → Account
with_made counts made = record counts { made = made }

module _ {N : Type 0} {opens : List Record → Type 0} {entries log_faults : LedgerName} (a : Account) (j : JournalState) (life : StoreLife N) (old : LifeState)
    (kept : IsKept opens entries log_faults (told a j.calls) j.history life) (is : state_of a j life ≡ old) where
  module _ {a1 a2 : Account} {j1 j2 : JournalState} {called seen : StoreLife N} (sees : Sees opens entries log_faults a1 a2 j1 j2 called seen) where
    -- where a session may have been made
    pub called_making : (made : Counted) → old.ended ≡ None → Keeps (told (with_made a made) j.calls) (told a1 j1.calls) → life.pass.durable ≤ called.pass.durable → Called opens log_faults old (state_of a2 j2 seen) (with_made a made) a1 j.calls j1.calls
    called_making made none keeps more =
        let seen_more = sees.later in
        let was = ap (λ (s : LifeState). s.durable) is in
        let no_end : a.ended ≡ None = ap (λ (s : LifeState). s.ended) is ∙ none in
        record {
          before = (no_end, kept.faults no_end);
          parts = kept.parts;
          keeps = keeps;
          why = sees.cause;
          calls = sym (ap (λ (s : LifeState). s.calls) is);
          later = omega (arith, more, seen_more, was);
          ended_now = ap (λ (x : Account). x.ended) sees.counts;
          calls_now = ap (λ (x : JournalState). x.calls) sees.journal;
          durable = sees.durable;
        }

    pub called_by : old.ended ≡ None → Keeps (told a j.calls) (told a1 j1.calls) → life.pass.durable ≤ called.pass.durable → Called opens log_faults old (state_of a2 j2 seen) a a1 j.calls j1.calls
    called_by none keeps more = called_making a.made none keeps more

    pub kept_making : (made : Counted) → Keeps (told (with_made a made) j.calls) (told a1 j1.calls) → (HasNames life → HasNames called) → GoesOrFails (with_made a made) a1 → IsKept opens entries log_faults (told a2 j2.calls) j2.history seen
    kept_making made keeps named how = record {
      runs = sees.runs;
      named = subst (λ (l : List Entry). AreNamed l (actives seen.named.items)) (sym sees.history) (subst (λ (items : List (Named N)). AreNamed called.pass.log (actives items)) (sym sees.names) (named kept.named));
      whole = sees.whole;
      parts = ap (λ (x : Account). x.log_faults.parts) sees.counts ∙ keeps.log_parts ∙ kept.parts;
      faults = λ none. ap (λ (x : Account). x.log_faults.amount) sees.counts ∙ none_counted (with_made a made) a1 how (ap (λ (x : Account). x.ended) (sym sees.counts) ∙ none);
    }

    pub kept_by : Keeps (told a j.calls) (told a1 j1.calls) → (HasNames life → HasNames called) → GoesOrFails a a1 → IsKept opens entries log_faults (told a2 j2.calls) j2.history seen
    kept_by keeps named how = kept_making a.made keeps named how

    -- the names that the call left
    pub names_left : (active : List Active) → actives called.named.items ≡ active → actives seen.named.items ≡ active
    names_left active names = ap (λ (items : List (Named N)). actives items) sees.names ∙ names

  -- the transaction that an active name stands for
  pub stands_for : (name : List ℕ) → is_active old.active name ≡ true → (x : Active) × (active_of (actives life.named.items) name ≡ Some x)
  stands_for name active = there (active_of (actives life.named.items) name) (ap (λ (s : LifeState). is_active s.active name) is ∙ active)
    where
      there : (o : Option Active) → is_some o ≡ true → (x : Active) × (o ≡ Some x)
      there None some = absurd cc
      there (Some x) some = (x, λ i. Some x)
