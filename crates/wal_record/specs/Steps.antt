-- The committed transactions of a history, each with its steps.
use Rattle.std.specs.Prelude.{ℕ, List, [], ◌∷◌, ◌++◌, ◌==◌, if◌then◌else◌}
use Rattle.store_model.specs.Along.{along}
use Rattle.store_model.specs.declared.request.Request.{Request}
use Rattle.store_model.specs.declared.reply.Reply.{Reply}
use Rattle.wal_record.specs.declared.record.Record.TheVariants as kinds
use Rattle.wal_record.specs.declared.entry.Entry.{Entry}
use Rattle.wal_record.specs.declared.entry.Entry.TheVariants.{Rec, Said}

-- a request with its reply, or a step back: a change taken back
pub data Step : Type 0 where
  Asked : Request → Reply → Step
  Back : Step

abbrev pub step_of : ℕ → Entry → List Step
step_of t (Said session tx request reply) = if tx == t then Asked request reply ∷ [] else []
step_of t (Rec lsn (kinds.Undo u)) = if u.tx == t then Back ∷ [] else []
step_of t _ = []

-- the steps of a transaction
unfoldable pub steps : List Entry → ℕ → List Step
steps h t = along (λ before ss e. ss ++ step_of t e) [] h

pub record Finished : Type 0 where
  pub tx : ℕ
  pub steps : List Step

abbrev pub finished_step : List Entry → List Finished → Entry → List Finished
finished_step before ts (Rec lsn (kinds.Commit c)) = ts ++ record { tx = c.tx; steps = steps before c.tx } ∷ []
finished_step before ts _ = ts

-- the committed transactions, in the order of their commits
unfoldable pub committed_transactions : List Entry → List Finished
committed_transactions h = along finished_step [] h
