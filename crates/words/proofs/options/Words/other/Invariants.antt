-- What is still to be read has the word with the number that is left.
use Rattle.std.proofs.Common.{◌≡◌, None}
use Rattle.std.specs.Slice.Iter.{iter_rest}
use Rattle.words.specs.Options.{other_word, texts}
use Rattle.words.proofs.options.Words.other.Given as goal

abbrev pub invariant-loop-piece : goal.invariant-loop-piece
invariant-loop-piece l = (l.piece-iterator.takes ≡ l.self.takes) × (other_word l.self.takes.options.now l.left None (texts (iter_rest l.piece-iterator.rest)) ≡ other_word l.self.takes.options.now l.at None (texts l.self.words.now))
