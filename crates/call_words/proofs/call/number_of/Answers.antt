use Rattle.std.specs.Str.Parse.{ParsesUnsigned, ExplainsUnsignedError, HasUnsignedDigitsIfOk}
use Rattle.clap.specs.Words.{found_of}
use Rattle.call_words.proofs.Numbers.{get_one-number_of}
use Rattle.call_words.proofs.call.number_of.Goals as goal

pub returns : goal.returns
returns c = get_one-number_of _ (λ bs r. ParsesUnsigned 64 10 bs r × ExplainsUnsignedError 10 bs r × HasUnsignedDigitsIfOk bs r)
    c.args.name.now (found_of c.args.matches.now) c.get_one.result (λ u x gives. gives.0) c.get_one.ensures.none c.get_one.ensures.value
