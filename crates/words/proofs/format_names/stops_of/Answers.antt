-- The letter is the digit of the count.
use Rattle.std.proofs.Common.{◌≡◌, ◌+◌, rules}
use Rattle.line.specs.Frames.{stop_count}
use Rattle.words.specs.Names.{stops_letter}
use Rattle.words.proofs.Letters.{by_digit, stops_digit}
use Rattle.words.proofs.format_names.stops_of.Goals as goal

pub returns : goal.returns
returns c =
    let digit : c.args.letter ≡ 0x30 + c.in_ok-checked_sub.field-0 = search rules in
    by_digit stops_letter stop_count c.args.letter c.in_ok-checked_sub.field-0 c.try_from.result c.ok.result stops_digit digit c.ok.ensures.value c.try_from.ensures
