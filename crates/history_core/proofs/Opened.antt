-- A judge that begins.
use Rattle.std.proofs.Common.{◌≡◌, ℕ, List, [], ◌∷◌, None, map, refl, sym, ap, subst, ◌∙◌, append-nil}
use Rattle.store_model.specs.Along.{along, AllAlong}
use Rattle.wal_record.specs.Checkpoints.{analysis_of, loser}
use Rattle.wal_record.specs.Legal.{split_leaf, untold}
use Rattle.wal_record.specs.OpenWrites.{losers}
use Rattle.wal_record.specs.declared.record.Record.{Record}
use Rattle.phase_judge.specs.Phases.{ArePhasesOf}
use Rattle.lock_judge.specs.Taken.{AreTaken}
use Rattle.record_judge.specs.Judging.{IsRecordJudgeOf}
use Rattle.history_core.specs.Judging.{IsJudgeOf, txs_of}
use Rattle.history_core.specs.declared.judge.Judge.{Judge}

same_txs : (log : List Record) (ts : List ℕ) → txs_of (map (loser log) ts) ≡ ts
same_txs log [] = refl
same_txs log (t ∷ ts) = ap (λ (xs : List ℕ). t ∷ xs) (same_txs log ts)

pub begins : (opening : List Record) (j : Judge) → ArePhasesOf opening [] j.phases → AreTaken [] j.locks → IsRecordJudgeOf opening j.log → j.losers ≡ (analysis_of opening).losers
    → j.untold ≡ None → j.split ≡ None → IsJudgeOf opening [] j
unfolding analysis_of untold split_leaf along AllAlong
begins opening j phases locks log who told split = record {
  sound = log.lawful;
  legal = tt;
  phases = phases;
  locks = locks;
  log = subst (λ (l : List Record). IsRecordJudgeOf l j.log) (sym (append-nil opening)) log;
  losers = ap txs_of who ∙ same_txs opening (losers opening);
  told = told;
  split = split;
}
