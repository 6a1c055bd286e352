-- The entries of a transaction that is undone.
use Rattle.std.proofs.Common.{◌≡◌, ℕ, false, List, [], ◌∷◌, ◌++◌, refl, sym, ap, subst, ◌∙◌, append_assoc, inl, inr}
use Rattle.std.specs.Prelude.{◌⊎◌}
use Rattle.std.specs.List.{All, list_any}
use Rattle.std.proofs.lemmas.List.Elements.{All-cons, All-head, All-nil, All-tail}
use Rattle.std.proofs.lemmas.List.Folds.{list_any-append}
use Rattle.wal_record.specs.Chains.{finishes}
use Rattle.wal_record.specs.History.{life_log, log_of}
use Rattle.wal_record.specs.Sound.{AreLawful}
use Rattle.wal_record.specs.declared.record.Record.{Record}
use Rattle.wal_record.specs.declared.entry.Entry.{Entry}
use Rattle.wal_record.specs.declared.entry.Entry.TheVariants.{Rec}
use Rattle.wal_record.proofs.Pushes.{lawful_front}
use Rattle.life_laws.proofs.Leaving.{either_false, log_of_append}
use Rattle.command_laws.specs.Commands.{Among, IsUpkeep, TakesBack, end_record}
use Rattle.command_laws.proofs.Listed.{among_behind, among_own}

-- a transaction has one End
pub one_end : (opening : List Record) (h before : List Entry) (lsn tx prev : ℕ) → AreLawful (life_log opening (h ++ (before ++ Rec lsn (end_record tx prev) ∷ []))) → list_any (finishes tx) (log_of before) ≡ false
one_end opening h before lsn tx prev lawful =
    let end = end_record tx prev in
    let is : life_log opening (h ++ (before ++ Rec lsn end ∷ [])) ≡ (opening ++ (log_of h ++ log_of before)) ++ end ∷ []
    = ap (λ (rs : List Record). opening ++ rs) (log_of_append h (before ++ Rec lsn end ∷ []) ∙ ap (λ (rs : List Record). log_of h ++ rs) (log_of_append before (Rec lsn end ∷ [])) ∙ sym (append_assoc (log_of h) (log_of before) (end ∷ [])))
    ∙ sym (append_assoc opening (log_of h ++ log_of before) (end ∷ [])) in
    let none = (lawful_front (opening ++ (log_of h ++ log_of before)) end (subst AreLawful is lawful)).1.chain.1 in
    let own = (either_false (list_any (finishes tx) opening) (list_any (finishes tx) (log_of h ++ log_of before)) (sym (list_any-append (finishes tx) opening (log_of h ++ log_of before)) ∙ none)).1 in
    (either_false (list_any (finishes tx) (log_of h)) (list_any (finishes tx) (log_of before)) (sym (list_any-append (finishes tx) (log_of h) (log_of before)) ∙ own)).1

-- undos among upkeep, before the last entry
pub record AreUndone (untold : Type 0) (tx : ℕ) (before : List Entry) (last : Entry) : Type 0 where
  pub undos : List Entry
  pub each : All (TakesBack untold tx) undos
  pub among : Among IsUpkeep (undos ++ last ∷ []) (before ++ last ∷ [])

behind_upkeep : (e : Entry) → IsUpkeep e → (undos es : List Entry) (last : Entry) → Among IsUpkeep (undos ++ last ∷ []) es → Among IsUpkeep (undos ++ last ∷ []) (e ∷ es)
behind_upkeep e is [] es last a = among_behind IsUpkeep (e ∷ []) (All-cons IsUpkeep e [] is (All-nil IsUpkeep)) last [] es a
behind_upkeep e is (u ∷ undos) es last a = among_behind IsUpkeep (e ∷ []) (All-cons IsUpkeep e [] is (All-nil IsUpkeep)) u (undos ++ last ∷ []) es a

pub undone : (untold : Type 0) (tx : ℕ) (before : List Entry) (last : Entry) → All (λ (e : Entry). TakesBack untold tx e ⊎ IsUpkeep e) before → AreUndone untold tx before last
undone untold tx [] last all = record { undos = []; each = All-nil (TakesBack untold tx); among = among_own IsUpkeep (last ∷ []) }
undone untold tx (e ∷ before) last all =
    let rest = undone untold tx before last (All-tail (λ (x : Entry). TakesBack untold tx x ⊎ IsUpkeep x) e before all) in
    elim (All-head (λ (x : Entry). TakesBack untold tx x ⊎ IsUpkeep x) e before all) [
      | inl u ↦ record { undos = e ∷ rest.undos; each = All-cons (TakesBack untold tx) e rest.undos u rest.each; among = ([], All-nil IsUpkeep, before ++ last ∷ [], refl, rest.among) }
      | inr b ↦ record { undos = rest.undos; each = rest.each; among = behind_upkeep e b rest.undos (before ++ last ∷ []) last rest.among }
    ]
