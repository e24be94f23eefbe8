-- A shift register begins with all levels of the frame.
use Rattle.std.proofs.Common.{ℕ, get_or, refl, ap, ◌∙◌}
use Rattle.ends.specs.Shifts.{shift_levels}
use Rattle.ends.proofs.Shifting.{whole_frame}
use Rattle.ends.proofs.shift.Shift.begin.Goals as goal

pub returns-clause-levels : goal.returns-clause-levels
returns-clause-levels c =
    let t = c.args.timing.now in
    ap (λ (d : ℕ). shift_levels t.format t.lengths (record { digits = d; bit = 0; clocks = get_or t.lengths 0 0 })) c.frame.ensures.value
    ∙ whole_frame t.format t.lengths c.args.character (get_or t.lengths 0 0) t.thirteen refl
