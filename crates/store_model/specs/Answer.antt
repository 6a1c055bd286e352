-- What a request does to the contents of a store, and what it is told.
use Rattle.std.specs.Prelude.{Option, Some}
use Rattle.std.specs.Option.{option_map}
use Rattle.std.specs.FinMap as finite
use Rattle.store_model.specs.Contents.{Contents, pairs_in}
use Rattle.store_model.specs.Operator.{meaning}
use Rattle.store_model.specs.declared.request.Request.{Request}
use Rattle.store_model.specs.declared.request.Request.TheVariants.{Get, Put, Del, Scan, Apply}
use Rattle.store_model.specs.declared.reply.Reply.{Reply}
use Rattle.store_model.specs.declared.reply.Reply.TheVariants.{Was, Found, Pairs}

pub record Answer : Type 0 where
  -- what the store contains then
  pub after : Contents
  pub reply : Reply

-- an operator that gives no value here has no answer
abbrev pub answer : Contents → Request → Option Answer
answer m (Get key) = Some (record { after = m; reply = Found (finite.get m key) })
answer m (Put key value) = Some (record { after = finite.insert m key value; reply = Was (finite.get m key) })
answer m (Del key) = Some (record { after = finite.remove m key; reply = Was (finite.get m key) })
answer m (Scan r) = Some (record { after = m; reply = Pairs (pairs_in r m) })
answer m (Apply operator key argument) =
    option_map (λ w. record { after = finite.insert m key w; reply = Was (finite.get m key) }) (meaning operator (finite.get m key) argument)
