use Rattle.std.proofs.Common.{Ok, ◌∙◌}
use Rattle.named_objects.proofs.Keeping.{suits_now}
use Rattle.named_objects.proofs.MadeObjects.{names_fail, names_then}
use Rattle.named_objects.proofs.making.name_object.Goals as goal

pub name_durably-requires-clause-suits : goal.name_durably-requires-clause-suits
name_durably-requires-clause-suits g c =
    let seen = c.put_synced.ensures.seen.now in
    suits_now g.N.Life.opens c.args.pass.now.log c.put_synced.new.pass.log c.args.since c.args.naming seen.begins seen.consistent c.requires.since (c.put_synced.ensures.taken (c.in-Ok-Taken.is ∙ (λ i. Ok (c.in-Ok-Taken.field-0-is i)))) c.requires.suits

pub returns-in-Ok-Taken-clause-entered : goal.returns-in-Ok-Taken-clause-entered
returns-in-Ok-Taken-clause-entered g c = names_then _ _ _ c.args.naming _ _ _ _ _ _ c.put_synced.ensures.seen c.name_durably.result c.name_durably.ensures.entered

pub returns-in-Ok-Taken-clause-refused : goal.returns-in-Ok-Taken-clause-refused
returns-in-Ok-Taken-clause-refused g c = names_fail _ _ _ _ _ _ _ _ _ _ c.name_durably.result c.put_synced.ensures.calm.end c.put_synced.ensures.seen.keeps c.put_synced.ensures.cause.later c.name_durably.ensures.refused
