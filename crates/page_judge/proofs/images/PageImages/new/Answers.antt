use Rattle.std.proofs.Common.{ℕ, List, Option, ap, sym, ◌∙◌}
use Rattle.std.specs.Map.{lookup}
use Rattle.std.specs.Ordering.{nat_cmp}
use Rattle.std.specs.BTreeMap.{is_at}
use Rattle.wal_record.specs.declared.page.PageState.{PageState}
use Rattle.page_judge.specs.Images.{AreImagesOf, state_at}
use Rattle.page_judge.proofs.Making.{no_image}
use Rattle.page_judge.proofs.images.PageImages.new.Goals as goal

pub returns : goal.returns
unfolding AreImagesOf
returns c = λ p. no_image p ∙ sym (ap (λ (es : List (ℕ × Option PageState)). state_at (lookup (is_at (nat_cmp p)) es)) c.new.ensures.empty)
