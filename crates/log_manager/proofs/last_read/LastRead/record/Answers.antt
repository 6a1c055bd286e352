use Rattle.std.proofs.Common.{◌≡◌, ◌-◌, ◌++◌, ◌∷◌, ℕ, List, ap, subst, sym, ◌∙◌}
use Rattle.std.specs.Prelude.{Result, IfOk, IfErr}
use Rattle.store_model.specs.declared.fault.Fault.{Fault}
use Rattle.store_model.specs.declared.fault.Fault.TheVariants as faults
use Rattle.wal_record.specs.declared.record.Record.{Record}
use Rattle.log_manager.specs.LastRead.{IsStart, ReadBlock}
use Rattle.log_manager.specs.Managed.{IsAt}
use Rattle.log_manager.specs.Payload.{bytes_of}
use Rattle.log_manager.proofs.Taking.{next_at}
use Rattle.log_manager.proofs.last_read.LastRead.record.Goals as goal
use Rattle.log_manager.proofs.last_read.LastRead.record.Goals.{in-Ok, in-Err}

pub returns-clause-found : goal.returns-clause-found
returns-clause-found c rs spelled is lt =
    let payload = c.deref-2.result.now in
    let place = c.args.lsn - c.args.self.now.first in
    let first = ap (λ (r : ReadBlock). r.first) c.self.view_is in
    let whole : payload ≡ c.args.self.now.payload = c.deref-2.ensures.value ∙ ap (λ (r : ReadBlock). r.payload) c.self.view_is in
    let s : IsStart payload place c.in_ok-at.at =
    subst (λ (n : ℕ). IsStart payload (c.args.lsn - n) c.in_ok-at.at) first
    (subst (λ (l : List ℕ). IsStart l (c.args.lsn - c.self.inside.first) c.in_ok-at.at) (c.deref.ensures.value ∙ sym c.deref-2.ensures.value) c.in_ok-at.ensures.start) in
    let n = next_at payload place c.in_ok-at.at s rs spelled (whole ∙ is) lt in
    let P : Result Record Fault → Type 0 = λ x. IfOk x (IsAt rs place) × IfErr x (λ fault. fault ≡ faults.Memory) in
    elim c.match-record_from.branch [
      | in-Ok w ↦
          let same : w.in-Ok.found ≡ n.0 = (w.in-Ok.ensures.only n.0 (bytes_of n.1) n.3 n.4).0 in
          subst P (sym w.result-is) (record { front = s.front; back = n.1; is = n.2 ∙ ap (λ (r : Record). s.front ++ r ∷ n.1) (sym same); place = s.count }, tt)
      | in-Err w ↦ subst P (sym w.result-is) (tt, (w.in-Err.ensures.only n.0 (bytes_of n.1) n.3 n.4).1)
    ]
