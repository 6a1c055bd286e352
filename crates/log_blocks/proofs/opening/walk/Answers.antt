use Rattle.std.proofs.Common.{rules, ◌≡◌, ◌+◌, length, ℕ, List, arith, ap, refl, sym, ◌∙◌, subst}
use Rattle.media.proofs.Blaming.{then_more}
use Rattle.log_blocks.specs.declared.header.Place.{Place}
use Rattle.log_blocks.specs.Opening.{IsChain, lsn_after}
use Rattle.log_blocks.proofs.Moments.{joined}
use Rattle.log_blocks.proofs.Walking.{is_read, closed_end, bad_end, next_one, chain_push, lsn_after-push}
use Rattle.log_blocks.proofs.opening.walk.Goals as goal

pub returns-then-head-clause-opened : goal.returns-then-head-clause-opened
returns-then-head-clause-opened g c tells =
    let inv = c.loop-found.invariant in
    let e = g.met.D.Disk.extent c.args.device.now tells in
    let r = is_read _ _ _ _ _ _ c.start-start.result c.len-len.result (inv.walked tells) (inv.same tells) (c.in-Ok.ensures.bytes tells) (e.0 ∙ sym c.start-start.ensures) (e.1 ∙ sym c.len-len.ensures.value) in
    closed_end _ _ _ _ _ _ _ r c.if-head.true

pub returns-in-Err-judge-clause-opened : goal.returns-in-Err-judge-clause-opened
returns-in-Err-judge-clause-opened g c tells =
    let inv = c.loop-found.invariant in
    let e = g.met.D.Disk.extent c.args.device.now tells in
    let r = is_read _ _ _ _ _ _ c.start-start.result c.len-len.result (inv.walked tells) (inv.same tells) (c.in-Ok.ensures.bytes tells) (e.0 ∙ sym c.start-start.ensures) (e.1 ∙ sym c.len-len.ensures.value) in
    let number : c.len.result ≡ length c.loop-found.found.places.items = search rules in
    bad_end _ _ _ _ _ _ _ r c.if-head.false _ _ number c.in-Err-judge.ensures.exact.0 c.in-Err-judge.ensures.exact.1

pub loop-found-preserved : goal.loop-found-preserved
loop-found-preserved g c =
    let inv = c.loop-found.invariant in
    let range = c.in-Ok-judge.ensures.in_range in
    let added = c.in_ok-add-in-Ok-judge.ensures in
    record {
      walked = λ tells.
          let e = g.met.D.Disk.extent c.args.device.now tells in
          let r = is_read _ _ _ _ _ _ c.start-start.result c.len-len.result (inv.walked tells) (inv.same tells) (c.in-Ok.ensures.bytes tells) (e.0 ∙ sym c.start-start.ensures) (e.1 ∙ sym c.len-len.ensures.value) in
          next_one _ _ _ _ _ _ _ r c.if-head.false c.in-Ok-judge.header c.in-Ok-judge.ensures.exact.1 range.0 c.in-Ok-judge.ensures.bytes c.in-Ok-judge.ensures.exact.0 _ _ _ added.gate added.next added.places;
      start = c.look.ensures.start ∙ inv.start;
      len = c.look.ensures.len ∙ inv.len;
      same = λ tells. c.look.ensures.same tells ∙ inv.same tells;
      crash = λ k left. inv.crash k (c.look.ensures.crash k left);
      any_moment = joined g.D.Disk.moment g.D.Disk.left_since _ _ _ _ _ _ inv.any_moment c.look.ensures.any_moment (λ k left. left) (λ k left. inv.crash k left);
      later = omega (arith, inv.later, c.look.ensures.cause.later);
      fuse = then_more g.D.Disk.passes g.D.Disk.refused g.D.Disk.own _ _ _ ⊥ ⊥ inv.fuse (λ never. never) c.in-Ok.ensures.fuse;
      from = omega (arith, inv.from, added.gate);
      within = omega (arith, range.3, inv.within, added.gate);
      chain = subst (λ (n : ℕ). IsChain c.start-start.result c.add.new.self.places.items n) (sym added.gate)
          (subst (λ (l : List Place). IsChain c.start-start.result l (c.loop-found.found.gate + (23 + c.in-Ok-judge.header.length))) (sym added.places)
          (chain_push c.start-start.result c.loop-found.found.places.items c.loop-found.found.gate _ inv.chain refl));
      next_is = added.next ∙ sym (ap lsn_after added.places ∙ lsn_after-push c.loop-found.found.places.items _);
      bound = omega (arith, range.1, added.next);
    }
