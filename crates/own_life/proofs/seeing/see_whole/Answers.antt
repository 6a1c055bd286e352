use Rattle.std.proofs.Common.{◌≡◌, ℕ, Option, Some, None, ap, subst, sym, ◌∙◌}
use Rattle.std.specs.Prelude.{IfSome}
use Rattle.journal.specs.State.{JournalState}
use Rattle.journal.specs.Stops.{IsDurableUpto}
use Rattle.own_journal.specs.Told.{told}
use Rattle.store_life.proofs.Looked.{looked_alone, looked_same}
use Rattle.own_life.proofs.seeing.see_whole.Goals as goal

-- of the end that the counts know holds what holds of the end that is told
of_known : (e told_now : Option ℕ) (P : ℕ → Type 0) → IfSome e (λ at. told_now ≡ Some at) → IfSome told_now P → IfSome e P
of_known None told_now P known p = tt
of_known (Some at) told_now P known p = subst (λ (o : Option ℕ). IfSome o P) known p

pub returns : goal.returns
returns g c =
    let old = told c.args.journal.now.counts c.args.journal.now.journal.calls in
    let new = told c.end_seen.new.self.counts c.end_seen.new.self.journal.calls in
    let seen = c.end_seen.ensures.seen in
    record {
      runs = record { alone = looked_alone g.N.Life.opens g.N.Life.entries g.N.Life.session_entries old new c.args.life.now.pass c.end_seen.new.pass c.requires.alone seen; begun = c.requires.begun; few = c.requires.few };
      counts = c.end_seen.ensures.same.1;
      journal = c.end_seen.ensures.same.0;
      names = λ i. c.args.life.now.named.items;
      history = looked_same g.N.Life.opens g.N.Life.entries g.N.Life.session_entries old new c.args.life.now.pass c.end_seen.new.pass c.requires.alone seen;
      whole = c.end_seen.ensures.whole ∙ ap (λ (j : JournalState). j.history) (sym c.end_seen.ensures.same.0);
      later = c.end_seen.ensures.seen.durable;
      durable = λ opening stands. of_known c.args.journal.now.counts.ended c.end_seen.result (IsDurableUpto opening c.end_seen.new.pass.log) c.end_seen.ensures.known (c.end_seen.ensures.durable opening stands);
      cause = c.end_seen.ensures.some;
    }
