-- How the reading of a Write begins.
use Rattle.std.specs.Prelude.{◌≡◌, ℕ, List, Result, Ok, Err}
use Rattle.std.specs.Int.{w32, w64}
use Rattle.std.specs.Borrow.{Bor}
use Rattle.wal_record.specs.Rules.{is_number, is_lsn_or_none, is_page}
use Rattle.wal_record.specs.Reading.{Read, ◌>>=◌, number_at}
use Rattle.wal_record.specs.declared.record.Write.{Write}
use Rattle.state_codec.specs.Gives.{Fails}
use Rattle.state_codec.specs.declared.fault.FieldFault.{FieldFault}
use Rattle.record_codec.specs.declared.reading.Head.{Head}

-- four numbers, and what is read behind them
abbrev pub head_at : (ℕ → ℕ → ℕ → ℕ → List ℕ → Read Write) → List ℕ → Read Write
head_at go bytes =
    number_at w64 is_number bytes >>= λ tx. (number_at w64 is_lsn_or_none tx.1 >>= λ prev. (number_at w32 is_page prev.1 >>= λ page. (number_at w64 is_lsn_or_none page.1 >>= λ page_prev. go tx.0 prev.0 page.0 page_prev.0 page_prev.1)))

-- the four numbers are read, or their first fault, whatever is read behind them
abbrev pub Begins : Result (Head × Bor (List ℕ)) FieldFault → List ℕ → Type 0
Begins (Ok x) bytes = (go : ℕ → ℕ → ℕ → ℕ → List ℕ → Read Write) → head_at go bytes ≡ go x.0.tx x.0.prev x.0.page x.0.page_prev x.1.now
Begins (Err e) bytes = (go : ℕ → ℕ → ℕ → ℕ → List ℕ → Read Write) → Fails e (head_at go bytes)
