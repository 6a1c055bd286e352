use Rattle.std.proofs.Common.{ℕ, List, Option, arith, refl, sym, subst, ◌∙◌}
use Rattle.std.proofs.lemmas.Result.{err_from_is_err_and}
use Rattle.wal_record.specs.declared.entry.Entry.{Entry}
use Rattle.store_pages.specs.Pages.{IsNextWritten, Lacks, WritesPages}
use Rattle.own_life.proofs.Sequences.{all_clean, done_then, fails_then, flush_then, goes_self, goes_then, more_clean, no_more, on_ok}
use Rattle.store_pages.proofs.Written.{upto_pages, writes_none, writes_then}
use Rattle.own_life.proofs.life.OwnLife.close.Goals as goal

pub loop-page-init : goal.loop-page-init
loop-page-init g c = record {
  goes = goes_self c.args.self.now c.requires.open;
  writes = writes_none c.args.self.now.history;
  names = refl;
  clean = λ page some low. absurd (omega (arith, some, low));
  idle = c.requires.idle;
}

pub write_next-requires-clause-open : goal.write_next-requires-clause-open
write_next-requires-clause-open g c = c.loop-page.invariant.goes.ended

pub write_next-requires-clause-idle : goal.write_next-requires-clause-idle
write_next-requires-clause-idle g c = c.loop-page.invariant.idle

pub returns-in_err-page-clause-written : goal.returns-in_err-page-clause-written
returns-in_err-page-clause-written g c = writes_then c.args.self.now.history c.loop-page.self.history c.write_next.new.self.history c.loop-page.invariant.writes (upto_pages 1 c.loop-page.self.history c.write_next.new.self.history c.write_next.ensures.written)

pub returns-in_err-page-clause-names : goal.returns-in_err-page-clause-names
returns-in_err-page-clause-names g c = c.write_next.ensures.names ∙ c.loop-page.invariant.names

pub returns-in_err-page-clause-refused : goal.returns-in_err-page-clause-refused
returns-in_err-page-clause-refused g c =
    let p = err_from_is_err_and c.from_residual.result c.from_residual.ensures.1 in
    rw (p.1, p.2) (fails_then g.N.Life.opens c.args.self.now c.loop-page.self c.write_next.new.self c.loop-page.invariant.goes c.in_err-page.field-0.0 c.in_err-page.ensures.refused)

pub loop-page-smaller : goal.loop-page-smaller
loop-page-smaller g c =
    let next = subst (λ (o : Option ℕ). IsNextWritten (Lacks c.write_next.new.pages.pool.frames) c.loop-page.after o) c.in-Some.is c.in_ok-page.ensures.next in
    let more = next.0 in
    omega (arith, more)

pub loop-page-preserved : goal.loop-page-preserved
loop-page-preserved g c =
    let next = subst (λ (o : Option ℕ). IsNextWritten (Lacks c.write_next.new.pages.pool.frames) c.loop-page.after o) c.in-Some.is c.in_ok-page.ensures.next in
    record {
      goes = goes_then c.args.self.now c.loop-page.self c.write_next.new.self c.loop-page.invariant.goes c.in_ok-page.ensures.goes;
      writes = writes_then c.args.self.now.history c.loop-page.self.history c.write_next.new.self.history c.loop-page.invariant.writes (upto_pages 1 c.loop-page.self.history c.write_next.new.self.history c.write_next.ensures.written);
      names = c.write_next.ensures.names ∙ c.loop-page.invariant.names;
      clean = more_clean (Lacks c.loop-page.pages.pool.frames) (Lacks c.write_next.new.pages.pool.frames) c.loop-page.after c.in-Some.page c.loop-page.invariant.clean c.write_next.ensures.fewer next;
      idle = c.write_next.ensures.idle;
    }

pub returns-clause-written : goal.returns-clause-written
returns-clause-written g c =
    subst (λ (l : List Entry). WritesPages c.args.self.now.history l) (sym c.flush.ensures.same) (writes_then c.args.self.now.history c.loop-page.self.history c.write_next.new.self.history c.loop-page.invariant.writes (upto_pages 1 c.loop-page.self.history c.write_next.new.self.history c.write_next.ensures.written))

pub returns-clause-clean : goal.returns-clause-clean
returns-clause-clean g c =
    let next = subst (λ (o : Option ℕ). IsNextWritten (Lacks c.write_next.new.pages.pool.frames) c.loop-page.after o) (no_more c.in_ok-page.field-0 c.in_default.not-Some) c.in_ok-page.ensures.next in
    on_ok c.flush.result (all_clean (Lacks c.loop-page.pages.pool.frames) (Lacks c.write_next.new.pages.pool.frames) c.loop-page.after c.loop-page.invariant.clean c.write_next.ensures.fewer next)

pub returns-clause-names : goal.returns-clause-names
returns-clause-names g c = c.flush.ensures.names ∙ c.write_next.ensures.names ∙ c.loop-page.invariant.names

pub returns-clause-goes : goal.returns-clause-goes
returns-clause-goes g c = done_then g.N.Life.opens c.args.self.now c.write_next.new.self c.flush.new.self (goes_then c.args.self.now c.loop-page.self c.write_next.new.self c.loop-page.invariant.goes c.in_ok-page.ensures.goes) c.flush.result c.flush.ensures.goes

pub returns-clause-refused : goal.returns-clause-refused
returns-clause-refused g c = flush_then g.N.Life.opens c.args.self.now c.write_next.new.self c.flush.new.self (goes_then c.args.self.now c.loop-page.self c.write_next.new.self c.loop-page.invariant.goes c.in_ok-page.ensures.goes) c.flush.result c.flush.ensures.refused
