-- What is printed can be read again.
use Rattle.std.specs.Prelude.{◌≡◌, ℕ, ◌<◌, ◌^◌, List, Some}
use Rattle.std.specs.List.{All}
use Rattle.script.specs.Token.{decoded}
use Rattle.transcript.specs.Printing.{escaped}

-- a text of bytes that is printed as a token is what a script reads in that token
abbrev pub TokenLaw : List ℕ → Type 0
TokenLaw bytes = All (λ b. b < 2 ^ 8) bytes → decoded (escaped bytes) ≡ Some bytes
