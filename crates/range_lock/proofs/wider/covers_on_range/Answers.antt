use Rattle.std.proofs.Common.{◌≡◌, List, refl, sym, subst, true}
use Rattle.std.specs.Prelude.{◌↔◌, IsTrue}
use Rattle.range_lock.specs.Lock.{Lock, covers}
use Rattle.range_lock.specs.Tables.{lock_on_range, IsCoveredByOne}
use Rattle.range_lock.specs.declared.entry.RangeLock.{RangeLock}
use Rattle.range_lock.proofs.Members.{among_entry, entry_among, not_of}
use Rattle.range_lock.proofs.wider.covers_on_range.Goals as goal

pub returns-in-None : goal.returns-in-None
returns-in-None c = (λ e. absurd cc, λ g. absurd (not_of c.args.tx g.0 c.args.ranges.now.entries (sym c.in-None.ensures.value) g.1 g.2))

pub returns-in-Some : goal.returns-in-Some
returns-in-Some c =
    let found = sym c.in-Some.ensures.value in
    let one = subst (λ (rs : List RangeLock). IsTrue c.is_covered.result ↔ IsCoveredByOne rs c.args.range.now c.args.mode) c.as_slice.ensures c.is_covered.ensures in (
      λ e. let r = one.0 e in (lock_on_range c.args.tx r.0, among_entry c.args.tx r.0 c.in-Some.held.now c.args.ranges.now.entries found r.1, refl, r.2),
      λ g. let r = entry_among c.args.tx c.in-Some.held.now g.0 c.args.ranges.now.entries c.len.ensures.ordered found g.2 g.1 in
          one.1 (r.0, r.1, subst (λ (l : Lock). covers l c.args.range.now c.args.mode ≡ true) r.2 g.3),
    )
