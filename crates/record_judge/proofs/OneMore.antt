-- A log that is read record by record.
use Rattle.std.proofs.Common.{◌≡◌, ℕ, ◌+◌, ◌<◌, ◌≤◌, List, [], ◌∷◌, ◌++◌, length, take, drop, get_or, refl, sym, ap, subst, ◌∙◌, take-append-drop}
use Rattle.std.proofs.lemmas.List.{take_all, take_more}
use Rattle.wal_record.specs.Sound.{AreLawful, IsLawful}
use Rattle.wal_record.specs.declared.record.Record.{Record}
use Rattle.wal_record.proofs.Along.{AllAlong_less}
use Rattle.wal_record.proofs.Pushes.{lawful_front}
use Rattle.record_judge.specs.Judging.{IsRecordJudgeOf}
use Rattle.record_judge.specs.declared.judge.RecordJudge.{RecordJudge}

module _ (log : List Record) (i : ℕ) (r : Record) (low : i < length log) (is : r ≡ get_or log i r) where
  pub one_more : take (i + 1) log ≡ take i log ++ r ∷ []
  one_more = take_more log i r low ∙ ap (λ (x : Record). take i log ++ x ∷ []) (sym is)

  pub read_more : (j : RecordJudge) → IsRecordJudgeOf (take i log ++ r ∷ []) j → IsRecordJudgeOf (take (i + 1) log) j
  read_more j k = subst (λ (l : List Record). IsRecordJudgeOf l j) (sym one_more) k

  -- no log goes on lawfully by a record that isn't lawful
  pub ends_here : (IsLawful (take i log) r → ⊥) → AreLawful log → ⊥
  ends_here fails lawful =
      let begun = AllAlong_less IsLawful (take (i + 1) log) (drop (i + 1) log) (subst AreLawful (sym (take-append-drop (i + 1) log)) lawful) in
      fails (lawful_front (take i log) r (subst AreLawful one_more begun)).1

take_nothing : (log : List Record) → take 0 log ≡ []
take_nothing [] = refl
take_nothing (x ∷ log) = refl

pub read_none : (log : List Record) (j : RecordJudge) → IsRecordJudgeOf [] j → IsRecordJudgeOf (take 0 log) j
read_none log j k = subst (λ (l : List Record). IsRecordJudgeOf l j) (sym (take_nothing log)) k

pub read_all : (log : List Record) (n : ℕ) (j : RecordJudge) → length log ≤ n → IsRecordJudgeOf (take n log) j → IsRecordJudgeOf log j
read_all log n j le k = subst (λ (l : List Record). IsRecordJudgeOf l j) (take_all n log le) k
