-- The times are those of the settings that were made, and the worked cases hold.
use Rattle.std.proofs.Common.{Ok, Result, ◌∙◌, ap₂}
use Rattle.line.specs.declared.refusal.Refusal.{Refusal}
use Rattle.ends.specs.Times.{Times}
use Rattle.usart.specs.Usart.{usart_times}
use Rattle.lock.specs.Worked.{eight_n_one}
use Rattle.lock.proofs.Cases.{worked}
use Rattle.lock.proofs.lock_timing.Goals as goal

pub returns : goal.returns
returns c =
    let made = c.in_ok-new.ensures in
    record {
      times = c.timing.ensures.times ∙ ap₂ {C = Result Times Refusal} (λ u m. Ok (usart_times eight_n_one u m)) made.1 made.2;
      worked = worked;
    }
