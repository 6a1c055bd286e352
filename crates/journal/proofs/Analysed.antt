-- The losers that an analysis names.
use Rattle.std.proofs.Common.{◌≡◌, ℕ, List, [], ◌∷◌, map, refl, ap}
use Rattle.std.specs.Prelude.{Result, Ok, Err, IfOk}
use Rattle.wal_record.specs.Checkpoints.{analysis_of, loser}
use Rattle.wal_record.specs.OpenWrites.{losers}
use Rattle.wal_record.specs.declared.analysis.Loser.{Loser}
use Rattle.wal_record.specs.declared.record.Record.{Record}

loser_txs : (log : List Record) (ts : List ℕ) → map (λ (x : Loser). x.tx) (map (loser log) ts) ≡ ts
loser_txs log [] = refl
loser_txs log (t ∷ ts) = ap (λ (us : List ℕ). t ∷ us) (loser_txs log ts)

pub analysis_losers : (log : List Record) → map (λ (x : Loser). x.tx) (analysis_of log).losers ≡ losers log
unfolding analysis_of
analysis_losers log = loser_txs log (losers log)

pub ok_map : {A E : Type 0} (r : Result A E) (P Q : A → Type 0) → ((x : A) → P x → Q x) → IfOk r P → IfOk r Q
ok_map (Ok x) P Q f p = f x p
ok_map (Err e) P Q f p = tt
