use Rattle.page_ops.proofs.Gaining.{goes_of, upheld_then}
use Rattle.foster_tree.proofs.Causing.{refused_all}
use Rattle.foster_tree.proofs.Desks.{desk_out}
use Rattle.foster_tree.proofs.Ways.{child_made}
use Rattle.foster_tree.proofs.leaf.fetch.Goals as goal

pub bring-requires-clause-made : goal.bring-requires-clause-made
bring-requires-clause-made g c =
    child_made _ _ c.args.held _ c.args.way _ c.see_image.ensures.consistent c.see_image.ensures.now c.requires.within c.requires.way c.requires.child

pub returns-clause-entered : goal.returns-clause-entered
returns-clause-entered g c = upheld_then _ _ _ _ _ _ _ (goes_of _ _ _ _ _ _ c.see_image.ensures.entered) c.bring.ensures.entered

pub returns-clause-refused : goal.returns-clause-refused
returns-clause-refused g c =
    refused_all _ _ _ _ _ _ _ _ (g.P.Pages.desk c.args.pages.now) (g.P.Pages.desk c.put_back.new.self) _ _ (goes_of _ _ _ _ _ _ c.see_image.ensures.entered) c.see_image.ensures.calm.end (desk_out _ _ _ c.put_back.ensures.out) c.bring.ensures.refused
