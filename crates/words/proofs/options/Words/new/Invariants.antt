-- What is still to be read has the first fault of all the words.
use Rattle.std.proofs.Common.{◌≡◌, None}
use Rattle.std.specs.Slice.Iter.{iter_rest}
use Rattle.words.specs.Options.{first_fault, texts}
use Rattle.words.proofs.options.Words.new.Given as goal

abbrev pub invariant-loop-piece : goal.invariant-loop-piece
invariant-loop-piece l = (l.piece-iterator.takes ≡ l.takes) × (first_fault l.takes.options.now l.left None (texts (iter_rest l.piece-iterator.rest)) ≡ first_fault l.takes.options.now l.initial.left None (texts l.words))
