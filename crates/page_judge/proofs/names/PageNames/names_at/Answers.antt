use Rattle.std.proofs.Common.{Option, false, length, take, ap, sym, ◌∙◌, arith}
use Rattle.std.specs.Option.{option_map_or}
use Rattle.page_judge.specs.Names.{AreNamesOf, has_page}
use Rattle.page_judge.specs.declared.names.NamedPages.{NamedPages}
use Rattle.page_judge.proofs.Naming.{named_here, none_named}
use Rattle.page_judge.proofs.names.PageNames.names_at.Goals as goal

pub returns-then-lsn-last : goal.returns-then-lsn-last
returns-then-lsn-last c = λ log k last. sym (none_named log c.args.lsn c.args.page (let over = c.if-lsn-last.true in omega (arith, last, over)))

pub returns-in-Some : goal.returns-in-Some
unfolding AreNamesOf
returns-in-Some c = λ log k last.
    c.has_page.ensures
    ∙ ap (λ (o : Option NamedPages). option_map_or (has_page c.args.page) o false) c.in-Some.ensures
    ∙ named_here log c.deref.result.now (ap (take (length log)) c.deref.ensures.value ∙ k) c.args.lsn c.args.page (let low = c.if-lsn-last.false in omega (arith, last, low))

pub returns-in-None : goal.returns-in-None
unfolding AreNamesOf
returns-in-None c = λ log k last.
    ap (λ (o : Option NamedPages). option_map_or (has_page c.args.page) o false) c.in-None.ensures
    ∙ named_here log c.deref.result.now (ap (take (length log)) c.deref.ensures.value ∙ k) c.args.lsn c.args.page (let low = c.if-lsn-last.false in omega (arith, last, low))
