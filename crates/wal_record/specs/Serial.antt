-- The serial run: transactions on a one-thread ordered map, one after the other.
use Rattle.std.specs.Prelude.{◌≡◌, ℕ, List, [], ◌∷◌, ◌++◌, Option, Some, None, is_some, option_and_then, if◌then◌else◌}
use Rattle.std.specs.Option.{option_map}
use Rattle.std.specs.FinMap as finite
use Rattle.store_model.specs.Contents.{Contents, set_to}
use Rattle.store_model.specs.Answer.{Answer, answer}
use Rattle.store_model.specs.declared.request.Request.{Request}
use Rattle.store_model.specs.declared.request.Request.TheVariants as requests
use Rattle.store_model.specs.declared.reply.Reply.{Reply}
use Rattle.wal_record.specs.Steps.{Step, Asked, Back, Finished}

-- a key that was changed, and its value from before
pub record Change : Type 0 where
  pub key : List ℕ
  pub value : Option (List ℕ)

abbrev pub change_at : Contents → List ℕ → Change
change_at m key = record { key = key; value = finite.get m key }

-- the changes that weren't taken back, the last one first: Put, Apply, and Del of a key with a value
-- are changes
abbrev pub changed : Contents → Request → List Change → List Change
changed m (requests.Put key value) cs = change_at m key ∷ cs
changed m (requests.Del key) cs = if is_some (finite.get m key) then change_at m key ∷ cs else cs
changed m (requests.Apply operator key argument) cs = change_at m key ∷ cs
changed m _ cs = cs

-- from these contents and changes the steps have their replies, and leave those contents and changes;
-- a step back gives the key of the last change its value from before
abbrev pub Runs : Contents → List Change → List Step → Contents → List Change → Type 0
Runs m cs [] n ds = (m ≡ n) × (cs ≡ ds)
Runs m cs (Asked request reply ∷ ss) n ds = (a : Answer) × (answer m request ≡ Some a) × (a.reply ≡ reply) × Runs a.after (changed m request cs) ss n ds
Runs m [] (Back ∷ ss) n ds = ⊥
Runs m (c ∷ cs) (Back ∷ ss) n ds = Runs (set_to m c.key c.value) cs ss n ds

-- from these contents the transactions, one after the other, have their replies, and leave those
abbrev pub Serial : Contents → List Finished → Contents → Type 0
Serial m [] n = m ≡ n
Serial m (t ∷ ts) n = (k : Contents) × (left : List Change) × Runs m [] t.steps k left × Serial k ts n

-- ---- the same as a function of the requests

-- the replies in order, and the contents and the changes then
pub record Played : Type 0 where
  pub replies : List Reply
  pub contents : Contents
  pub changes : List Change

abbrev pub told : Reply → Played → Played
told reply p = record { replies = reply ∷ p.replies; contents = p.contents; changes = p.changes }

-- the steps of one transaction; none where a request has no answer, or nothing is left to take back
abbrev pub play : Contents → List Change → List Step → Option Played
play m cs [] = Some (record { replies = []; contents = m; changes = cs })
play m cs (Asked request reply ∷ ss) = option_and_then (λ (a : Answer). option_map (told a.reply) (play a.after (changed m request cs) ss)) (answer m request)
play m [] (Back ∷ ss) = None
play m (c ∷ cs) (Back ∷ ss) = play (set_to m c.key c.value) cs ss

pub record Result : Type 0 where
  pub replies : List Reply
  pub contents : Contents

abbrev pub with_replies : List Reply → Result → Result
with_replies replies r = record { replies = replies ++ r.replies; contents = r.contents }

-- the serial run
abbrev pub serial : Contents → List Finished → Option Result
serial m [] = Some (record { replies = []; contents = m })
serial m (t ∷ ts) = option_and_then (λ (p : Played). option_map (with_replies p.replies) (serial p.contents ts)) (play m [] t.steps)

-- the replies that stand in the steps
abbrev pub said : List Step → List Reply
said [] = []
said (Asked request reply ∷ ss) = reply ∷ said ss
said (Back ∷ ss) = said ss

abbrev pub all_said : List Finished → List Reply
all_said [] = []
all_said (t ∷ ts) = said t.steps ++ all_said ts
