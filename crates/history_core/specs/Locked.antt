-- Which lock a reply rests on.
use Rattle.std.specs.Prelude.{List, IsTrue}
use Rattle.std.specs.List.{list_any}
use Rattle.store_model.specs.Range.{point}
use Rattle.store_model.specs.declared.request.Request.{Request}
use Rattle.store_model.specs.declared.request.Request.TheVariants as requests
use Rattle.wal_record.specs.Locks.{Held, covers, covers_write}

-- one that includes the range of a Get or a Scan, and one under which the key of a Del may be written
abbrev pub IsReadLocked : List Held → Request → Type 0
IsReadLocked ls (requests.Get key) = IsTrue (list_any (covers (point key)) ls)
IsReadLocked ls (requests.Scan range) = IsTrue (list_any (covers range) ls)
IsReadLocked ls (requests.Del key) = IsTrue (list_any (covers_write key) ls)
IsReadLocked ls _ = ⊥
