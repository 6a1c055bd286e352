use Rattle.std.proofs.Common.{refl, arith, append-nil, ◌+◌, ◌++◌, ◌∙◌, ap, sym, subst, length, ℕ}
use Rattle.log_blocks.specs.Log.{Behind, IsSequence, blocks}
use Rattle.std.proofs.lemmas.Result.{on_ok_weaker}
use Rattle.log_blocks.proofs.BlockLists.{stands}
use Rattle.log_blocks.proofs.Moments.{weaker, joined}
use Rattle.log_blocks.proofs.FirstGate.{more_none, some_none}
use Rattle.log_blocks.proofs.flush.flush_all.Goals as goal

pub returns-in_err-make_gate-clause-any_moment : goal.returns-in_err-make_gate-clause-any_moment
returns-in_err-make_gate-clause-any_moment g c tells only bs place s seq =
    weaker g.D.Disk.moment g.D.Disk.left_since _ _ _ _ (c.make_gate.ensures.any_moment tells only bs s) (λ k h. some_none bs c.args.pending.now k h)

pub returns-clause-any_moment : goal.returns-clause-any_moment
returns-clause-any_moment g c tells only bs place s seq =
    let e = c.make_gate.ensures.start in
    let behind = c.in_ok-make_gate.ensures.stands tells bs s place in
    joined g.D.Disk.moment g.D.Disk.left_since _ _ _ _ _ _
    (c.make_gate.ensures.any_moment tells only bs s)
    (c.write_waiting.ensures.any_moment tells (c.in_ok-make_gate.ensures.durable tells only) bs (place ∙ ap (λ (n : ℕ). n + length (blocks bs)) (sym e))
    (subst (λ n. Behind n (blocks bs) (g.D.Disk.told c.make_gate.new.device)) (sym e) behind) (subst (λ n. IsSequence n (bs ++ c.args.pending.now)) (sym e) seq))
    (λ k h. some_none bs c.args.pending.now k h)
    (λ k h. h)

pub returns-clause-written : goal.returns-clause-written
returns-clause-written g c tells bs place s seq =
    let e = c.make_gate.ensures.start in
    let behind = c.in_ok-make_gate.ensures.stands tells bs s place in
    on_ok_weaker c.write_waiting.result
    (λ stood. stands (g.D.Disk.start c.args.device.now) (bs ++ c.args.pending.now) (g.D.Disk.told c.write_waiting.new.device)
    (subst (λ n. Behind n (blocks (bs ++ c.args.pending.now)) (g.D.Disk.told c.write_waiting.new.device)) e stood) seq)
    (c.write_waiting.ensures.written tells bs (place ∙ ap (λ (n : ℕ). n + length (blocks bs)) (sym e))
    (subst (λ n. Behind n (blocks bs) (g.D.Disk.told c.make_gate.new.device)) (sym e) behind))

pub returns-in_err-make_gate-clause-progress : goal.returns-in_err-make_gate-clause-progress
returns-in_err-make_gate-clause-progress g c = record {
  count = 0;
  within = omega arith;
  left = refl;
  places_are = sym (append-nil c.args.done.now);
  gate_is = omega arith;
}

pub returns-in_err-make_gate-clause-left : goal.returns-in_err-make_gate-clause-left
returns-in_err-make_gate-clause-left g c tells only bs place s seq =
    let run = c.make_gate.ensures.any_moment tells only bs s in
    record {
      done = 0;
      within = omega arith;
      rest_is = refl;
      read = more_none bs c.args.pending.now _ (c.make_gate.ensures.left tells bs s);
      crash = λ k may. more_none bs c.args.pending.now k (run.each k (g.met.D.Disk.counts_now c.make_gate.new.device (g.D.Disk.moment c.args.device.now) k run.later may));
    }

pub returns-clause-left : goal.returns-clause-left
returns-clause-left g c tells only bs place s seq =
    let e = c.make_gate.ensures.start in
    let behind = c.in_ok-make_gate.ensures.stands tells bs s place in
    c.write_waiting.ensures.left tells (c.in_ok-make_gate.ensures.durable tells only) bs (place ∙ ap (λ (n : ℕ). n + length (blocks bs)) (sym e))
    (subst (λ n. Behind n (blocks bs) (g.D.Disk.told c.make_gate.new.device)) (sym e) behind) (subst (λ n. IsSequence n (bs ++ c.args.pending.now)) (sym e) seq)
