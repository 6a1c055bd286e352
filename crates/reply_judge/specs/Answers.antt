-- What contents answer to a request that enters no write.
use Rattle.std.specs.Prelude.{◌≡◌, None}
use Rattle.std.specs.FinMap as finite
use Rattle.store_model.specs.Contents.{Contents, pairs_in}
use Rattle.store_model.specs.declared.request.Request.{Request}
use Rattle.store_model.specs.declared.request.Request.TheVariants as requests
use Rattle.store_model.specs.declared.reply.Reply.{Reply}
use Rattle.store_model.specs.declared.reply.Reply.TheVariants as replies

-- the value of a Get, the pairs of a Scan, and that a Del found no value
abbrev pub IsAnswer : Contents → Request → Reply → Type 0
IsAnswer m (requests.Get key) reply = reply ≡ replies.Found (finite.get m key)
IsAnswer m (requests.Scan range) reply = reply ≡ replies.Pairs (pairs_in range m)
IsAnswer m (requests.Del key) reply = (finite.get m key ≡ None) × (reply ≡ replies.Was None)
IsAnswer m _ reply = ⊥
