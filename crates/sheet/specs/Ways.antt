-- What a way between two ends comes to.
use Rattle.std.specs.Prelude.{ℕ, Bool}
use Rattle.ends.specs.Sender.{SenderState}
use Rattle.ends.specs.Receiver.{ReceiverState}
use Rattle.ends.specs.BareSender.{at_rest as sender_at_rest}
use Rattle.ends.specs.BareReceiver.{at_rest as receiver_at_rest}
use Rattle.link.specs.declared.rates.Rates.{Rates}
use Rattle.sheet.specs.declared.tolerance.Off.{Off}
use Rattle.sheet.specs.declared.ways.Way.{Way}
use Rattle.sheet.specs.Tolerance.{own_rate, passes_at}

-- its two ends, with nothing sent yet
abbrev pub sender_of : Way → SenderState
sender_of w = sender_at_rest w.from.timing

abbrev pub receiver_of : Way → ReceiverState
receiver_of w = receiver_at_rest w.to.timing

abbrev pub rates_of : Way → Rates
rates_of w = record { send = w.from.hertz; receive = w.to.hertz }

-- the rate that the clock of this end should have
abbrev pub rate_of : Way → Off → ℕ
rate_of w o = own_rate (rates_of w) o

-- whether Fit passes when the clock of this end has rate n
abbrev pub passes_over : Way → Off → ℕ → Bool
passes_over w o n = passes_at (sender_of w) (receiver_of w) (rates_of w) o n
