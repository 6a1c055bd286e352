-- The tree law: the pages of a sound log are a well-formed tree of its current contents.
use Rattle.std.specs.Prelude.{◌≢◌, List, []}
use Rattle.std.specs.FinMap as finite
use Rattle.wal_record.specs.Chains.{pages}
use Rattle.wal_record.specs.Contents.{current}
use Rattle.wal_record.specs.Images.{image}
use Rattle.wal_record.specs.Tree.{Tree}
use Rattle.wal_record.specs.Sound.{AreLawful}
use Rattle.wal_record.specs.declared.record.Record.{Record}

abbrev pub TreeLaw : List Record → Type 0
TreeLaw log = AreLawful log → log ≢ [] → Tree (image log) (pages log) (λ key. finite.get (current log) key)
