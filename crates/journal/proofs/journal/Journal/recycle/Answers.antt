use Rattle.std.proofs.Common.{List, refl, sym, ap, subst, inl, inr, arith, ◌∙◌, ◌≤◌, ◌^◌, ◌-◌, length}
use Rattle.std.specs.Prelude.{Result, Ok, Err}
use Rattle.page_ops.specs.Causes.{Ends, IsOpen}
use Rattle.page_ops.specs.Names.{LedgerName}
use Rattle.page_ops.specs.Seeing.{Account, Counted, Keeps}
use Rattle.store_model.specs.declared.fault.Fault.{Fault}
use Rattle.store_model.specs.declared.fault.Fault.TheVariants as faults
use Rattle.wal_record.specs.History.{life_log}
use Rattle.wal_record.specs.declared.entry.Entry.{Entry}
use Rattle.wal_record.specs.declared.record.Record.{Record}
use Rattle.journal.proofs.Lookup.{all_durable}
use Rattle.journal.proofs.KeptBlocks.{kept_refused, recycled}
use Rattle.journal.proofs.Calls.{calls_then, history_is, keeps_then, learnt}
use Rattle.journal.proofs.journal.Journal.recycle.Goals as goal

-- a call behind one that met no end
ends_then : {A : Type 0} (opens : List Record → Type 0) (log_faults made : LedgerName) (a0 a1 a2 : Account) (h : List Entry) (r : Result A Fault) → Keeps a0 a1 → IsOpen a0 → IsOpen a1 → Ends opens log_faults made a1 a2 h r → Ends opens log_faults made a0 a2 h r
ends_then opens log_faults made a0 a1 a2 h (Ok x) keeps was now e = (was, e.1)
ends_then opens log_faults made a0 a1 a2 h (Err faults.Memory) keeps was now e = record { ended = e.ended ∙ now.0 ∙ sym was.0; amount = e.amount ∙ now.1 ∙ sym was.1 }
ends_then opens log_faults made a0 a1 a2 h (Err faults.LogFault) keeps was now e = let more = e.2 in (was, e.1, omega (arith, more, now.1, was.1))
ends_then opens log_faults made a0 a1 a2 h (Err (faults.Ended at)) keeps was now e = record {
  now = e.now;
  before = inl was.0;
  amount = e.amount ∙ now.1 ∙ sym was.1;
  cause = λ none whole opening stands. elim (e.cause now.1 (keeps.log_parts ∙ whole) opening stands) [
    | inl limit ↦ inl limit
    | inr many ↦ inr (λ all. subst (λ (x : Counted). 2 ^ 32 - 1 ≤ x.amount) keeps.made (many (ap (λ (x : Counted). x.parts) keeps.made ∙ all)))
  ];
}
ends_then opens log_faults made a0 a1 a2 h (Err _) keeps was now e = (was, e.1)

pub returns-in-Ok-clause-ends : goal.returns-in-Ok-clause-ends
returns-in-Ok-clause-ends g c =
    let first = c.in-Ok.ensures in
    ends_then g.N.Life.opens g.N.Life.log_faults g.N.Life.made c.args.counts.now c.flush.new.counts c.forget.new.counts c.forget.new.pass.log c.forget.result first.seen.keeps first.ends.0 first.ends.1 c.forget.ensures.ends

pub returns-in-Ok-clause-durable : goal.returns-in-Ok-clause-durable
returns-in-Ok-clause-durable g c =
    let flush = c.flush.ensures in
    all_durable g.N.Life.opens c.args.self.now.history c.flush.new.pass.log c.forget.new.pass.log flush.pass (c.forget.ensures.pass ∙ flush.same) c.last-last.result c.flush.new.pass.durable c.forget.new.pass.durable c.forget.ensures.seen.durable
    (λ opening stands. c.last-last.ensures.length _ (life_log opening c.self.inside.history) (c.self.invariant.1.life.records opening stands) ∙ ap (λ (h : List Entry). length (life_log opening h)) (history_is _ _ c.self.view_is)) c.in-Ok.ensures.durable c.forget.result

pub returns-in-Ok-clause-end : goal.returns-in-Ok-clause-end
returns-in-Ok-clause-end g c = keeps_then _ _ _ c.in-Ok.ensures.end c.forget.ensures.end

pub returns-in-Ok-clause-learns : goal.returns-in-Ok-clause-learns
returns-in-Ok-clause-learns g c = let runs = c.in-Ok.ensures.ends in learnt c.args.counts.now c.flush.new.counts c.forget.new.counts c.forget.new.counts _ (runs.1.0 ∙ sym runs.0.0) c.forget.ensures.learns refl

pub returns-in-Ok-clause-calls : goal.returns-in-Ok-clause-calls
returns-in-Ok-clause-calls g c = calls_then _ _ _ _ _ c.in-Ok.ensures.calls (λ never. never) c.forget.ensures.calls

pub returns-in-Ok-clause-forgets : goal.returns-in-Ok-clause-forgets
returns-in-Ok-clause-forgets g c =
    let flush = c.flush.ensures in
    let forget = c.forget.ensures in
    recycled g.N.Life.opens c.forget.result c.args.self.now.blocks c.flush.new.self.blocks c.forget.new.self.blocks flush.blocks c.args.self.now.history c.flush.new.pass.log c.forget.new.pass.log flush.pass (forget.pass ∙ flush.same) c.last-last.result
    (λ opening stands. c.last-last.ensures.length _ (life_log opening c.self.inside.history) (c.self.invariant.1.life.records opening stands) ∙ ap (λ (h : List Entry). length (life_log opening h)) (history_is _ _ c.self.view_is)) c.in-Ok.ensures.stable forget.forgets forget.rises

pub returns-in-Ok-clause-blocks : goal.returns-in-Ok-clause-blocks
returns-in-Ok-clause-blocks g c = kept_refused g.N.Life.opens c.forget.result c.args.self.now.blocks c.flush.new.self.blocks c.forget.new.self.blocks c.flush.ensures.blocks c.forget.ensures.none
