use Rattle.std.proofs.Common.{◌≡◌, ◌++◌, ℕ, List, sym, ap, ◌∙◌}
use Rattle.std.specs.List.{list_any}
use Rattle.range_lock.specs.Lock.{Lock}
use Rattle.journal.proofs.Barring.{barred_by, free_by, other}
use Rattle.journal.proofs.in_way.is_barred.Goals as goal

pub returns-clause-some : goal.returns-clause-some
returns-clause-some c some =
    let a : Lock = record { tx = c.args.tx; range = c.args.range.now; mode = c.args.mode } in
    let found = c.in_ok-holders.ensures.ok in
    let is : c.has_other.result ≡ list_any (other c.args.locks.now a found.0 found.1) found.0 = c.has_other.ensures ∙ ap (list_any (other c.args.locks.now a found.0 found.1)) (c.deref.ensures.value ∙ found.2 ∙ ap (λ (l : List ℕ). l ++ found.0) c.new-holders.ensures.items) in
    barred_by c.args.locks.now a found.0 found.1 (sym is ∙ some)

pub returns-clause-none : goal.returns-clause-none
returns-clause-none c none =
    let a : Lock = record { tx = c.args.tx; range = c.args.range.now; mode = c.args.mode } in
    let found = c.in_ok-holders.ensures.ok in
    let is : c.has_other.result ≡ list_any (other c.args.locks.now a found.0 found.1) found.0 = c.has_other.ensures ∙ ap (list_any (other c.args.locks.now a found.0 found.1)) (c.deref.ensures.value ∙ found.2 ∙ ap (λ (l : List ℕ). l ++ found.0) c.new-holders.ensures.items) in
    free_by c.args.locks.now a found.0 found.1 (sym is ∙ none)
