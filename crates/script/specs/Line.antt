-- How a line, without its end, spells a command: a word, and as many words behind it as its kind asks for.
use Rattle.std.specs.Prelude.{ℕ, List, [], ◌∷◌, length, Option, Some, None, Bool, true, false, nat_le, ◌==◌, ◌&&◌, if◌then◌else◌, codes, option_and_then}
use Rattle.std.specs.Option.{option_map}
use Rattle.store_model.specs.Operator.{number_of}
use Rattle.store_model.specs.Range.{Interval, is_below}
use Rattle.store_model.specs.declared.request.Request.{Request}
use Rattle.store_model.specs.declared.request.Request.TheVariants as requests
use Rattle.script.specs.Name.{name_of}
use Rattle.script.specs.Token.{decoded}
use Rattle.script.specs.Word.{word, behind, same_text}
use Rattle.script.specs.declared.command.Command.{Command}
use Rattle.script.specs.declared.command.Command.TheVariants as commands
use Rattle.script.specs.declared.command.Device.{Device}
use Rattle.script.specs.declared.command.Device.TheVariants as devices

-- ---- fields

abbrev pub at_most : ℕ → List ℕ → Option (List ℕ)
at_most n text = if nat_le (length text) n then Some text else None

abbrev pub key_text : List ℕ → Option (List ℕ)
key_text text = if nat_le 1 (length text) then at_most 64 text else None

-- a key has 1 to 64 bytes, a value up to 256, an argument up to 64
unfoldable pub key_of : List ℕ → Option (List ℕ)
key_of token = option_and_then key_text (decoded token)

unfoldable pub value_of : List ℕ → Option (List ℕ)
value_of token = option_and_then (at_most 256) (decoded token)

unfoldable pub argument_of : List ℕ → Option (List ℕ)
argument_of token = option_and_then (at_most 64) (decoded token)

-- a bound of at most 64 bytes; the empty text as the high one is the top
abbrev pub bound_text : List ℕ → Option (Option (List ℕ))
bound_text text = if nat_le (length text) 64 then Some (Some text) else None

abbrev pub high_text : List ℕ → Option (Option (List ℕ))
high_text [] = Some None
high_text (b ∷ bs) = bound_text (b ∷ bs)

unfoldable pub low_of : List ℕ → Option (Option (List ℕ))
low_of token = option_and_then bound_text (decoded token)

unfoldable pub high_of : List ℕ → Option (Option (List ℕ))
high_of token = option_and_then high_text (decoded token)

abbrev pub interval_of : Option (List ℕ) → Option (List ℕ) → Option Interval
interval_of low high = if is_below low high then Some (record { low = low; high = high }) else None

abbrev pub range_of : List ℕ → List ℕ → Option Interval
range_of low high = option_and_then (λ l. option_and_then (λ h. interval_of l h) (high_of high)) (low_of low)

-- a number from one to another
abbrev pub number_from : ℕ → ℕ → List ℕ → Option ℕ
number_from least most text = option_and_then (λ n. if nat_le least n && nat_le n most then Some n else None) (number_of text)

abbrev pub operator_of : List ℕ → Option ℕ
operator_of w =
    if same_text w (codes "add") then Some 1
    else (if same_text w (codes "max") then Some 2
    else (if same_text w (codes "join") then Some 3
    else None))

abbrev pub device_of : List ℕ → Option Device
device_of w =
    if same_text w (codes "log") then Some devices.Log
    else (if same_text w (codes "data") then Some devices.Data
    else (if same_text w (codes "vault") then Some devices.Vault
    else None))

-- ---- requests, by the number of their words

abbrev pub request_of_one : List ℕ → List ℕ → Option Request
request_of_one w a =
    if same_text w (codes "get") then option_map (λ k. requests.Get k) (key_of a)
    else (if same_text w (codes "del") then option_map (λ k. requests.Del k) (key_of a)
    else None)

abbrev pub request_of_two : List ℕ → List ℕ → List ℕ → Option Request
request_of_two w a b =
    if same_text w (codes "put") then option_and_then (λ k. option_map (λ v. requests.Put k v) (value_of b)) (key_of a)
    else (if same_text w (codes "scan") then option_map (λ r. requests.Scan r) (range_of a b)
    else None)

abbrev pub apply_of : Option ℕ → List ℕ → List ℕ → Option Request
apply_of None b c = None
apply_of (Some operator) b c = option_and_then (λ k. option_map (λ x. requests.Apply operator k x) (argument_of c)) (key_of b)

abbrev pub request_of_three : List ℕ → List ℕ → List ℕ → List ℕ → Option Request
request_of_three w a b c = if same_text w (codes "op") then apply_of (operator_of a) b c else None

-- a request of a named transaction
abbrev pub asks : List ℕ → Option Request → Option Command
asks name None = None
asks name (Some request) = option_map (λ n. commands.Ask n request) (name_of name)

-- a worker's request where there is one, else one of a named transaction
abbrev pub steps : Option Request → List ℕ → Option Request → Option Command
steps (Some request) name named = Some (commands.Step request)
steps None name named = asks name named

-- ---- commands, by the number of words behind the first

unfoldable pub upkeep : List ℕ → Option Command
upkeep w =
    if same_text w (codes "checkpoint") then Some commands.Checkpoint
    else (if same_text w (codes "backup") then Some commands.Backup
    else (if same_text w (codes "archive") then Some commands.Archive
    else (if same_text w (codes "merge") then Some commands.Merge
    else (if same_text w (codes "recycle") then Some commands.Recycle
    else (if same_text w (codes "lose") then Some commands.Lose
    else None)))))

unfoldable pub alone : List ℕ → Option Command
alone w =
    if same_text w (codes "format") then Some (commands.Format None)
    else (if same_text w (codes "open") then Some commands.Open
    else (if same_text w (codes "stat") then Some commands.Stat
    else (if same_text w (codes "close") then Some commands.Close
    else (if same_text w (codes "stop") then Some (commands.Stop None)
    else (if same_text w (codes "end") then Some commands.End
    else upkeep w)))))

unfoldable pub with_number : List ℕ → List ℕ → Option Command
with_number w a =
    if same_text w (codes "format") then option_map (λ n. commands.Format (Some n)) (number_from 8 16384 a)
    else (if same_text w (codes "help") then option_map (λ n. commands.Help n) (number_from 1 1000000 a)
    else (if same_text w (codes "stop") then option_map (λ n. commands.Stop (Some n)) (number_of a)
    else (if same_text w (codes "damage") then option_map (λ n. commands.Damage n) (number_from 1 16384 a)
    else (if same_text w (codes "worker") then option_map (λ n. commands.Worker n) (number_from 1 1000 a)
    else None))))

abbrev pub or_step : Option Command → Option Request → Option Command
or_step (Some command) request = Some command
or_step None request = option_map (λ r. commands.Step r) request

unfoldable pub with_one : List ℕ → List ℕ → Option Command
with_one w a =
    if same_text w (codes "begin") then option_map (λ n. commands.Begin n) (name_of a)
    else (if same_text w (codes "commit") then option_map (λ n. commands.Commit n) (name_of a)
    else (if same_text w (codes "abort") then option_map (λ n. commands.Abort n) (name_of a)
    else (if same_text w (codes "renew") then option_map (λ d. commands.Renew d) (device_of a)
    else or_step (with_number w a) (request_of_one w a))))

abbrev pub parallel_of : Option ℕ → Option ℕ → Bool → Option Command
parallel_of None retries show = None
parallel_of (Some workers) retries show = option_map (λ r. commands.Parallel workers r show) retries

abbrev pub fuse_of : Option Device → Option ℕ → Option Command
fuse_of None calls = None
fuse_of (Some device) calls = option_map (λ n. commands.Fuse device n) calls

unfoldable pub with_two : List ℕ → List ℕ → List ℕ → Option Command
with_two w a b =
    if same_text w (codes "fuse") then fuse_of (device_of a) (number_of b)
    else (if same_text w (codes "parallel") then parallel_of (number_from 1 16 a) (number_from 0 1000000 b) false
    else steps (request_of_two w a b) a (request_of_one w b))

unfoldable pub with_three : List ℕ → List ℕ → List ℕ → List ℕ → Option Command
with_three w a b c =
    if same_text w (codes "parallel") then (if same_text c (codes "show") then parallel_of (number_from 1 16 a) (number_from 0 1000000 b) true else None)
    else steps (request_of_three w a b c) a (request_of_two w b c)

unfoldable pub with_four : List ℕ → List ℕ → List ℕ → List ℕ → List ℕ → Option Command
with_four w a b c d = asks a (request_of_three w b c d)

-- ---- lines

abbrev pub behind_three : List ℕ → List ℕ → List ℕ → List ℕ → Option (List ℕ) → Option Command
behind_three w a b c None = with_three w a b c
behind_three w a b c (Some rest) = with_four w a b c rest

abbrev pub behind_two : List ℕ → List ℕ → List ℕ → Option (List ℕ) → Option Command
behind_two w a b None = with_two w a b
behind_two w a b (Some rest) = behind_three w a b (word rest) (behind rest)

abbrev pub behind_one : List ℕ → List ℕ → Option (List ℕ) → Option Command
behind_one w a None = with_one w a
behind_one w a (Some rest) = behind_two w a (word rest) (behind rest)

abbrev pub by_words : List ℕ → Option (List ℕ) → Option Command
by_words w None = alone w
by_words w (Some rest) = behind_one w (word rest) (behind rest)

-- the command of a line; an empty line and a comment do nothing
unfoldable pub reads : List ℕ → Option Command
reads [] = Some commands.Nothing
reads (b ∷ bs) = if b == 35 then Some commands.Nothing else by_words (word (b ∷ bs)) (behind (b ∷ bs))
