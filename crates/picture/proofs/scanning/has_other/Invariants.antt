use Rattle.std.proofs.Common.{◌≡◌}
use Rattle.std.specs.Slice.Iter.{chunks_rest}
use Rattle.picture.specs.Scanning.{any_other}
use Rattle.picture.proofs.scanning.has_other.Given as goal

-- no part that is behind has such a byte
abbrev pub invariant-loop-part : goal.invariant-loop-part
invariant-loop-part l = any_other (chunks_rest l.part-iterator) ≡ any_other l.fn.picture
