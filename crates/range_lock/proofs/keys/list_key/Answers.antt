use Rattle.std.proofs.Common.{refl, subst}
use Rattle.std.specs.Option.{IsSome}
use Rattle.range_lock.proofs.Changes.{listed_last}
use Rattle.range_lock.proofs.keys.list_key.Goals as goal

pub returns-in-Some-clause-added : goal.returns-in-Some-clause-added
returns-in-Some-clause-added c =
    let written = (c.get_mut.follows.holds c.push.new.self).3 (subst IsSome c.in-Some.ensures.value refl) in
    listed_last (c.get_mut.follows.lender c.push.new.self) c.args.tx c.args.key.now c.args.key.now c.in-Some.listed.now c.push.new.self written.1 c.in_ok-push.ensures.ok refl

pub returns-clause-added : goal.returns-clause-added
returns-clause-added c = listed_last c.insert.new.self c.args.tx c.args.key.now c.args.key.now c.new-listed.result c.push-2.new.self c.in_ok-insert.ensures.updates.1 c.in_ok-push-2.ensures.ok refl
