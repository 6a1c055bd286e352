use Rattle.std.proofs.Common.{◌≡◌, take}
use Rattle.std.specs.Prelude.{fold}
use Rattle.script.specs.Token.{decode_step, start, Decoding}
use Rattle.script.proofs.token.decode.Given as goal

abbrev pub invariant-loop-byte : goal.invariant-loop-byte
invariant-loop-byte l = ◌≡◌ {A = Decoding} (record { out = l.out.items; expects = l.expects }) (fold decode_step start (take l.byte-index l.token))
