-- What was noted last of a transaction.
use Rattle.std.proofs.Common.{◌≡◌, ℕ, ◌+◌, Bool, false, cond, eqb, List, length, refl, sym, ap, ◌∙◌}
use Rattle.wal_record.specs.Chains.{finishes, link_of, is_link_of}
use Rattle.wal_record.specs.declared.record.Record.{Record}
use Rattle.wal_record.specs.declared.record.Record.TheVariants as kinds
use Rattle.wal_record.proofs.Pushes.{last_push}
use Rattle.log_index.specs.Table.{noted_step}
use Rattle.log_index.specs.Noted.{NotedLaw}

-- a commit or an end of another one
over : (a n m : ℕ) (b : Bool) → b ≡ false → cond b 0 n ≡ cond b m n
over a n m b e = ap (λ (c : Bool). cond c 0 n) e ∙ sym (ap (λ (c : Bool). cond c m n) e)

pub noted_by_link : (log : List Record) (t : ℕ) (r : Record) → finishes t r ≡ false → (n : ℕ) → noted_step (length log + 1) t n r ≡ cond (is_link_of t (link_of r)) (length log + 1) n
noted_by_link log t (kinds.Write w) e n = refl
noted_by_link log t (kinds.Apply w) e n = refl
noted_by_link log t (kinds.Undo w) e n = refl
noted_by_link log t (kinds.Commit c) e n = over 0 n (length log + 1) (eqb c.tx t) e
noted_by_link log t (kinds.End c) e n = over 0 n (length log + 1) (eqb c.tx t) e
noted_by_link log t _ e n = refl

pub noted_kept : (log : List Record) (r : Record) (t : ℕ) → NotedLaw log r t
noted_kept log r t = record { kept = λ e n h. noted_by_link log t r e n ∙ ap (λ (m : ℕ). cond (is_link_of t (link_of r)) (length log + 1) m) h ∙ sym (last_push log r t) }
