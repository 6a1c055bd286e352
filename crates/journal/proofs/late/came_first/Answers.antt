use Rattle.std.proofs.Common.{sym, subst}
use Rattle.page_ops.specs.Asking.{IsForestalled, IsTimely, WasTimely}
use Rattle.journal.proofs.Restoring.{none_map, some_map}
use Rattle.journal.proofs.late.came_first.Goals as goal

pub returns-in-Undo-clause-none : goal.returns-in-Undo-clause-none
returns-in-Undo-clause-none c =
    none_map c.undone_first.result _ _ (λ all opening h k was. subst (IsTimely opening h) (sym c.in-Undo.is) (all opening h c.args.places.now k (subst (WasTimely opening h) c.in-Undo.is was))) c.undone_first.ensures.none

pub returns-in-Undo-clause-late : goal.returns-in-Undo-clause-late
returns-in-Undo-clause-late c =
    some_map c.undone_first.result _ _ (λ place all opening h k. subst (IsForestalled opening h place) (sym c.in-Undo.is) (all opening h c.args.places.now k)) c.undone_first.ensures.late

pub returns-in-End-clause-none : goal.returns-in-End-clause-none
returns-in-End-clause-none c =
    none_map c.ended_first.result _ _ (λ all opening h k was. subst (IsTimely opening h) (sym c.in-End.is) (all opening h c.args.listing.now c.args.places.now k)) c.ended_first.ensures.none

pub returns-in-End-clause-late : goal.returns-in-End-clause-late
returns-in-End-clause-late c =
    some_map c.ended_first.result _ _ (λ place all opening h k. subst (IsForestalled opening h place) (sym c.in-End.is) (all opening h c.args.listing.now c.args.places.now k)) c.ended_first.ensures.late
