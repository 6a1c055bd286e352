use Rattle.listing_laws.proofs.Sizes.{spelling_law}
use Rattle.checkpoint_form.proofs.Sizes.{lawful_modest}
use Rattle.checkpoint_form.proofs.law.lawful_law.Goals as goal

pub returns-clause-keeps : goal.returns-clause-keeps
returns-clause-keeps c log lawful fits = (spelling_law log).spelled lawful fits

pub returns-clause-modest : goal.returns-clause-modest
returns-clause-modest c log lawful = lawful_modest log lawful
