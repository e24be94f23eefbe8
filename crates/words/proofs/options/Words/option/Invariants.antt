-- What is still to be read gives, with what was found before, what all the words give.
use Rattle.std.proofs.Common.{◌≡◌, None}
use Rattle.std.specs.Slice.Iter.{iter_rest}
use Rattle.words.specs.Options.{option_value, texts, option_now}
use Rattle.words.proofs.options.Words.option.Given as goal

abbrev pub invariant-loop-piece : goal.invariant-loop-piece
invariant-loop-piece l = (l.piece-iterator.takes ≡ l.self.takes) × (option_value l.self.takes.options.now l.name (option_now l.found) None (texts (iter_rest l.piece-iterator.rest)) ≡ option_value l.self.takes.options.now l.name None None (texts l.self.words.now))
