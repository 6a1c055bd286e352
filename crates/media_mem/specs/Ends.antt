-- How a time ends.
use Rattle.std.specs.Prelude.{[], ◌∷◌, ◌++◌, map}
use Rattle.media_mem.specs.History.{piece_of}
use Rattle.media_mem.specs.Past.{PastSeen}
use Rattle.media_mem.specs.declared.history.Content.{Content}

-- what a read gives is kept
abbrev pub after_time : PastSeen → Content → PastSeen
after_time past c = record { spans = past.spans ++ (record { start = c.start; base = past.base; writes = map piece_of c.writes.items }) ∷ []; base = c.bytes.items }
