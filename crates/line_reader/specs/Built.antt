-- Which lines ask for what is built.
use Rattle.std.specs.Prelude.{ℕ, List, [], ◌∷◌, Bool, true, ◌==◌, ◌||◌, if◌then◌else◌, codes}
use Rattle.script.specs.Word.{word, same_text}

-- a word about the store, one about a fault of a device, one by which the store is kept up or loses a part, and one about a
-- transaction
abbrev pub is_store_word : List ℕ → Bool
is_store_word text =
    same_text text (codes "format") || same_text text (codes "open") || same_text text (codes "stat") || same_text text (codes "close")
    || same_text text (codes "stop")

abbrev pub is_device_word : List ℕ → Bool
is_device_word text = same_text text (codes "damage") || same_text text (codes "fuse") || same_text text (codes "renew")

abbrev pub is_upkeep_word : List ℕ → Bool
is_upkeep_word text =
    same_text text (codes "checkpoint") || same_text text (codes "backup") || same_text text (codes "archive") || same_text text (codes "lose") || same_text text (codes "help")

abbrev pub is_transaction_word : List ℕ → Bool
is_transaction_word text =
    same_text text (codes "begin") || same_text text (codes "get") || same_text text (codes "put") || same_text text (codes "del")
    || same_text text (codes "scan") || same_text text (codes "op") || same_text text (codes "commit") || same_text text (codes "abort")

abbrev pub is_built_word : List ℕ → Bool
is_built_word text = is_store_word text || is_device_word text || is_upkeep_word text || is_transaction_word text

-- an empty line, a comment, or one that begins with a word that is built
unfoldable pub is_built : List ℕ → Bool
is_built [] = true
is_built (b ∷ bs) = if b == 35 then true else is_built_word (word (b ∷ bs))
