use Rattle.std.proofs.Common.{◌≡◌, ℕ, ◌≤◌, List, [], length, take, Ok, refl, sym, ap, subst, ◌∙◌, arith}
use Rattle.std.proofs.lemmas.List.{drop_all, length-take, take_min}
use Rattle.wal_record.specs.Reading.{Read}
use Rattle.backup_set.specs.Answers.{FailsToFind, IsBadHead}
use Rattle.backup_set.specs.Reading.{head_at}
use Rattle.backup_set.proofs.Heads.{count_most, head_ok, head_within}
use Rattle.backup_set.proofs.search.head_of.Goals as goal

pub overflow_sub-front : goal.overflow_sub-front
overflow_sub-front c = head_within c.args.part.backup c.args.part.segment c.split_at.result.0.now c.in-Err-Bad.left (rw c.in-Err-Bad.field-0-is at c.in-Err-Bad.ensures)

pub returns-in-Ok-clause-count : goal.returns-in-Ok-clause-count
returns-in-Ok-clause-count c =
    let front : List ℕ = c.split_at.result.0.now in
    let h = head_ok c.args.part.backup c.args.part.segment front (c.in-Ok.count, c.in-Ok.field-0-1.now) c.in-Ok.ensures in
    let is : c.split_at.result.0.now ≡ take 20 c.args.bytes.now = c.split_at.ensures.front ∙ ap (λ (n : ℕ). take n c.args.bytes.now) c.min.ensures ∙ take_min 20 c.args.bytes.now in
    let size = length-take 20 c.args.bytes.now in
    let none = drop_all 20 front (omega (arith, ap length is, size)) in
    (count_most _ h.count, omega (arith, h.long, ap length is, size), ap (head_at c.args.part.backup c.args.part.segment) (sym is) ∙ c.in-Ok.ensures ∙ ap (λ (r : List ℕ). let x : Read ℕ = Ok (c.in-Ok.count, r) in x) (h.rest ∙ none))

pub returns-in-Err-Bad-clause-refused : goal.returns-in-Err-Bad-clause-refused
returns-in-Err-Bad-clause-refused c =
    let is : c.split_at.result.0.now ≡ take 20 c.args.bytes.now = c.split_at.ensures.front ∙ ap (λ (n : ℕ). take n c.args.bytes.now) c.min.ensures ∙ take_min 20 c.args.bytes.now in
    let le : c.in-Err-Bad.left ≤ length c.split_at.result.0.now = head_within c.args.part.backup c.args.part.segment c.split_at.result.0.now c.in-Err-Bad.left (rw c.in-Err-Bad.field-0-is at c.in-Err-Bad.ensures) in
    subst (FailsToFind (IsBadHead c.args.part.backup c.args.part.segment c.args.bytes.now)) (sym c.bad_at.ensures) (record {
      named = refl;
      cause = (c.in-Err-Bad.left, ap (head_at c.args.part.backup c.args.part.segment) (sym is) ∙ (rw c.in-Err-Bad.field-0-is at c.in-Err-Bad.ensures), omega (arith, ap length is));
    })
