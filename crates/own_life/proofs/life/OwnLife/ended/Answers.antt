use Rattle.std.proofs.Common.{◌≡◌, ℕ, List, Option, Some, None, ap, refl, subst, sym, ◌∙◌}
use Rattle.std.specs.Prelude.{IfSome}
use Rattle.journal.specs.Stops.{IsDurableUpto}
use Rattle.wal_record.specs.declared.entry.Entry.{Entry}
use Rattle.own_life.specs.State.{LifeState}
use Rattle.own_life.proofs.life.OwnLife.ended.Goals as goal

-- of the end that the counts know holds what holds of the journal's
of_known : (e j : Option ℕ) (P : ℕ → Type 0) → ((at : ℕ) → e ≡ Some at → j ≡ Some at) → IfSome j P → IfSome e P
of_known None j P knows p = tt
of_known (Some at) j P knows p = subst (λ (o : Option ℕ). IfSome o P) (knows at refl) p

pub returns-clause-durable : goal.returns-clause-durable
returns-clause-durable g c = λ opening stands.
    subst (λ (h : List Entry). IfSome c.ended.result (IsDurableUpto opening h)) (sym c.self.invariant.whole ∙ ap (λ (s : LifeState). s.history) c.self.view_is)
    (subst (λ (o : Option ℕ). IfSome o (IsDurableUpto opening c.self.inside.journal.journal.history)) (sym c.ended.ensures.known)
    (of_known c.self.inside.journal.counts.ended c.self.inside.journal.journal.ended (IsDurableUpto opening c.self.inside.journal.journal.history) c.self.inside.journal.knows (c.end.ensures.durable opening stands)))
