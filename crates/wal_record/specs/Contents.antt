-- What a log stands for: the current contents, which all its writes and undos made, and the committed
-- contents, which its committed transactions alone made.
use Rattle.std.specs.Prelude.{ℕ, List, fold, Option}
use Rattle.std.specs.Option.{option_map_or, option_or}
use Rattle.std.specs.FinMap as finite
use Rattle.store_model.specs.Along.{along}
use Rattle.store_model.specs.Contents.{Contents, set_to}
use Rattle.store_model.specs.Operator.{meaning}
use Rattle.wal_record.specs.OpenWrites.{open_writes}
use Rattle.wal_record.specs.declared.record.Record.{Record}
use Rattle.wal_record.specs.declared.record.Record.TheVariants as kinds

-- what a record makes of the contents
abbrev pub after : Contents → Record → Contents
after m (kinds.Write w) = set_to m w.key w.new
after m (kinds.Apply a) = option_map_or (λ v. finite.insert m a.key v) (meaning a.operator (finite.get m a.key) a.argument) m
after m (kinds.Undo u) = set_to m u.key u.restores
after m _ = m

-- the value that a record gives its key, by the value before
abbrev pub given : Option (List ℕ) → Record → Option (List ℕ)
given v (kinds.Write w) = w.new
given v (kinds.Apply a) = option_or (meaning a.operator v a.argument) v
given v (kinds.Undo u) = u.restores
given v _ = v

-- the current contents: all writes and undos in log order
unfoldable pub current : List Record → Contents
current log = along (λ before m r. after m r) finite.empty log

abbrev pub committed_step : List Record → Contents → Record → Contents
committed_step before m (kinds.Commit c) = fold after m (open_writes before c.tx)
committed_step before m _ = m

-- the committed contents, or offline fold: for each commit, in log order, the open writes that the
-- transaction had
unfoldable pub committed_contents : List Record → Contents
committed_contents log = along committed_step finite.empty log
