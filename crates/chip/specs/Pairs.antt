-- The two ends of a chip, each of whose entries is read as it arrives.
use Rattle.std.specs.Prelude.{ℕ, Bool, if◌then◌else◌, List}
use Rattle.line.specs.declared.level.Level.{Level}
use Rattle.ends.specs.Times.{Times}
use Rattle.ends.specs.Sender.{SenderState, sent, after_send, after_load}
use Rattle.ends.specs.Receiver.{ReceiverState, Entry, hears, after_clock, after_read}
use Rattle.ends.specs.BareSender.{meant as sender_meant, resting as sender_resting}
use Rattle.ends.specs.BareReceiver.{meant as receiver_meant, resting as receiver_resting}
use Rattle.chip.specs.declared.pair.Ends.{Ends}

pub record EndsState : Type 0 where
  pub sender : SenderState
  pub receiver : ReceiverState

abbrev pub ends_of : Ends → EndsState
ends_of e = record { sender = sender_meant e.sender; receiver = receiver_meant e.receiver }

-- both at rest, with these times
abbrev pub resting : Times → EndsState
resting t = record { sender = sender_resting t; receiver = receiver_resting t }

-- the level that the receiver sees: with Listen that on UTXD
abbrev pub seen : EndsState → Bool → Level → Level
seen e listen l = if listen then sent e.sender else l

-- what arrives at a clock
abbrev pub arrivals : EndsState → Bool → Level → List Entry
arrivals e listen l = (hears e.receiver (seen e listen l)).arrived

abbrev pub ends_clocked : EndsState → Bool → Level → EndsState
ends_clocked e listen l = record {
  sender = after_send e.sender;
  receiver = after_read (after_clock e.receiver (seen e listen l));
}

abbrev pub ends_loaded : EndsState → ℕ → EndsState
ends_loaded e c = record { sender = after_load e.sender c; receiver = e.receiver }
