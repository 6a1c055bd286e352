-- Worked examples of serial runs.
use Rattle.std.proofs.Common.{ℕ, List, [], ◌∷◌, Option, Some, None, refl, ap}
use Rattle.std.specs.FinMap.{empty, insert, get-empty, get-insert}
use Rattle.std.specs.Cmp.Lexicographic.{nat_list_cmp_total}
use Rattle.store_model.specs.Contents.{Contents, set_to}
use Rattle.store_model.specs.declared.request.Request.TheVariants as requests
use Rattle.store_model.specs.declared.reply.Reply.TheVariants as replies
use Rattle.wal_record.specs.Steps.{Step, Asked, Back}
use Rattle.wal_record.specs.Serial.{Change, Runs}
use Rattle.wal_record.proofs.ExampleLogs.{x, one, two}

abbrev put_one : Step
put_one = Asked (requests.Put (120 ∷ []) (49 ∷ [])) (replies.Was None)

abbrev put_two : Step
put_two = Asked (requests.Put (120 ∷ []) (50 ∷ [])) (replies.Was (Some (49 ∷ [])))

abbrev first_change : Option (List ℕ) → List Change
first_change v = record { key = x; value = v } ∷ []

-- two puts of x, and a step back: x has its first value again, and one change is left to take back
two_and_back : Runs empty [] (put_one ∷ put_two ∷ Back ∷ []) (insert (insert (insert empty x one) x two) x one) (record { key = x; value = None } ∷ [])
two_and_back = (
  _,
  refl,
  ap replies.Was (get-empty _ x),
  (
    _,
    refl,
    ap replies.Was (get-insert nat_list_cmp_total empty x one x),
    (
      ap (set_to (insert (insert empty x one) x two) x) (get-insert nat_list_cmp_total empty x one x),
      ap first_change (get-empty _ x),
    ),
  ),
)

-- nothing to take back
no_step_back : (n : Contents) (left : List Change) → Runs empty [] (Back ∷ []) n left → ⊥
no_step_back n left h = h
