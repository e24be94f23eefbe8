-- A frame on the line has levels left.
use Rattle.std.proofs.Common.{Bool, ◌&&◌, sym, ap, ◌∙◌}
use Rattle.std.specs.Option.{option_to_list}
use Rattle.ends.specs.Sender.{empty}
use Rattle.ends.proofs.Shifting.{something_left}
use Rattle.ends.proofs.bare_sender.BareSender.is_done.Goals as goal

pub returns-else-is_none : goal.returns-else-is_none
returns-else-is_none c =
    let s = c.args.self.now in
    let left = something_left s.timing.format s.timing.lengths s.shift c.if-is_none.ensures s.on_line in
    c.if-is_none.false ∙ sym (ap (λ (b : Bool). b && empty (option_to_list s.waiting)) left)
