-- A frame on the line stays there.
use Rattle.std.specs.Option.{option_to_list}
use Rattle.ends.specs.BareSender.{meant}
use Rattle.ends.proofs.Shifting.{goes_on}
use Rattle.ends.proofs.bare_sender.BareSender.make_ready.Goals as goal

pub returns-else-is_none : goal.returns-else-is_none
returns-else-is_none c =
    let s = c.args.self.now in
    goes_on (meant s) s.timing.format s.timing.lengths s.shift (option_to_list s.waiting) c.if-is_none.ensures s.on_line
