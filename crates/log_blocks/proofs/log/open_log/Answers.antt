use Rattle.std.proofs.Common.{◌≡◌, ◌++◌, List, ap, sym, subst, ◌∙◌, ◌<◌, arith, append-nil}
use Rattle.log_blocks.specs.declared.header.Place.{Place}
use Rattle.log_blocks.specs.Log.{Block}
use Rattle.log_blocks.specs.LogState.{IsWhole, IsLive, lsn_behind}
use Rattle.log_blocks.specs.Opening.{IsChain}
use Rattle.log_blocks.proofs.log.open_log.Goals as goal

pub invariant_of-result : goal.invariant_of-result
invariant_of-result g c =
    let p = c.in-Ok.ensures.placed in
    let gate = c.in-Ok.found.gate in
    let all : c.in-Ok.found.places.items ++ c.new.result ≡ c.in-Ok.found.places.items = ap (λ (l : List Place). c.in-Ok.found.places.items ++ l) c.new.ensures ∙ append-nil c.in-Ok.found.places.items in
    let next : c.max.result ≡ lsn_behind c.in-Ok.found.places.items = omega (arith, c.max.ensures, p.next_is) in
    record {
      whole = subst (λ (l : List Place). IsWhole l c.new-in-Ok.result gate c.max.result gate) (sym all)
          (subst (λ (b : List Block). IsWhole c.in-Ok.found.places.items b gate c.max.result gate) (sym c.new-in-Ok.ensures) (record {
            from = g.L.Disk.start c.sync.new.self;
            chain = p.chain;
            run = tt;
            next_is = next;
            end_is = omega arith;
            fits = p.fits;
            room = λ some. absurd (omega (arith, some));
            bound = omega (arith, c.max.ensures, p.bound);
          }));
      live = λ _. subst (λ (l : List Place). IsLive (g.L.Disk.start c.walk.new.device) (g.L.Disk.len c.walk.new.device) l gate) (sym all) (record {
        chain = subst (λ n. IsChain n c.in-Ok.found.places.items gate) (sym c.in-Ok.ensures.start) p.chain;
        short = λ short. p.short (omega (arith, short, c.in-Ok.ensures.start, c.in-Ok.ensures.len)) ∙ sym c.in-Ok.ensures.start;
        within = λ long. subst (λ n. gate < n) (sym c.in-Ok.ensures.len) (p.within (omega (arith, long, c.in-Ok.ensures.start, c.in-Ok.ensures.len)));
      });
    }
