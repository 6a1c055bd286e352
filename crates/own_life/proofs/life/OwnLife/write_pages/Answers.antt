use Rattle.std.proofs.Common.{◌+◌, ap, refl, ◌∙◌, arith}
use Rattle.std.specs.Prelude.{not}
use Rattle.own_life.proofs.Helped.{written_none, written_same, written_then, written_within}
use Rattle.store_pages.proofs.Restored.{when_none}
use Rattle.own_life.proofs.Sequences.{all_but_none, goes_self, goes_then, written_all, written_more}
use Rattle.own_life.proofs.life.OwnLife.write_pages.Goals as goal
use Rattle.store_pages.specs.Pages.{Lacks}

pub loop-taken-init : goal.loop-taken-init
loop-taken-init g c = record {
  goes = goes_self c.args.self.now c.requires.open;
  written = written_none c.args.self.now.history;
  stored = all_but_none (Lacks c.args.pages.now.pool.frames);
  awaits = λ page is. is;
  counted = refl;
  names = refl;
  idle = c.requires.idle;
}

pub write_next-requires-clause-open : goal.write_next-requires-clause-open
write_next-requires-clause-open g c = c.loop-taken.invariant.goes.ended

pub write_next-requires-clause-idle : goal.write_next-requires-clause-idle
write_next-requires-clause-idle g c = c.loop-taken.invariant.idle

pub returns-in_err-write_next-clause-written : goal.returns-in_err-write_next-clause-written
returns-in_err-write_next-clause-written g c =
    let less = c.loop-taken-test.true in
    written_within (c.loop-taken.taken + 1) c.args.steps c.args.self.now.history c.write_next.new.self.history (omega (arith, less)) (written_then c.loop-taken.taken 1 c.args.self.now.history c.loop-taken.self.history c.write_next.new.self.history c.loop-taken.invariant.written c.write_next.ensures.written)

pub returns-then-is_none-clause-stored : goal.returns-then-is_none-clause-stored
returns-then-is_none-clause-stored g c =
    let less = c.loop-taken-test.true in
    written_all c.loop-taken.taken c.args.steps (Lacks c.args.pages.now.pool.frames) (Lacks c.loop-taken.pages.pool.frames) (Lacks c.write_next.new.pages.pool.frames) c.in_ok-write_next.field-0 (c.is_none.ensures ∙ ap not c.if-is_none.true) (omega (arith, less)) c.loop-taken.invariant.stored c.in_ok-write_next.ensures.one

pub returns-then-is_none-clause-written : goal.returns-then-is_none-clause-written
returns-then-is_none-clause-written g c =
    let less = c.loop-taken-test.true in
    written_within (c.loop-taken.taken + 1) c.args.steps c.args.self.now.history c.write_next.new.self.history (omega (arith, less)) (written_then c.loop-taken.taken 1 c.args.self.now.history c.loop-taken.self.history c.write_next.new.self.history c.loop-taken.invariant.written c.write_next.ensures.written)

pub returns-then-is_none-clause-taken : goal.returns-then-is_none-clause-taken
returns-then-is_none-clause-taken g c = written_same c.loop-taken.taken c.args.self.now.history c.loop-taken.self.history c.write_next.new.self.history c.loop-taken.invariant.written (when_none _ c.in_ok-write_next.field-0 (c.is_none.ensures ∙ ap not c.if-is_none.true) c.in_ok-write_next.ensures.none)

pub loop-taken-preserved : goal.loop-taken-preserved
loop-taken-preserved g c = record {
  goes = goes_then c.args.self.now c.loop-taken.self c.write_next.new.self c.loop-taken.invariant.goes c.in_ok-write_next.ensures.goes;
  written = written_then c.loop-taken.taken 1 c.args.self.now.history c.loop-taken.self.history c.write_next.new.self.history c.loop-taken.invariant.written c.write_next.ensures.written;
  stored = written_more c.loop-taken.taken (Lacks c.args.pages.now.pool.frames) (Lacks c.loop-taken.pages.pool.frames) (Lacks c.write_next.new.pages.pool.frames) c.in_ok-write_next.field-0 (c.is_none.ensures ∙ ap not c.if-is_none.false) c.loop-taken.invariant.stored c.in_ok-write_next.ensures.one;
  awaits = λ page is. c.loop-taken.invariant.awaits page (c.write_next.ensures.awaits page is);
  counted = c.write_next.ensures.counted ∙ c.loop-taken.invariant.counted;
  names = c.write_next.ensures.names ∙ c.loop-taken.invariant.names;
  idle = c.write_next.ensures.idle;
}
