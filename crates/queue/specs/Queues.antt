-- What an end with a queue means.
use Rattle.std.specs.Prelude.{ℕ, ◌+◌, ◌%◌, ◌^◌, List, ◌++◌, map}
use Rattle.line.specs.declared.format.Format.{Format}
use Rattle.line.specs.Frames.{width}
use Rattle.ends.specs.Sender.{SenderState}
use Rattle.ends.specs.Receiver.{ReceiverState, Entry}

-- a character cut to the format
abbrev pub cut : Format → ℕ → ℕ
cut f c = c % 2 ^ width f

-- a sender with these characters held in front of it
abbrev pub queued_to : SenderState → List ℕ → SenderState
queued_to s held = record {
  format = s.format;
  lengths = s.lengths;
  capacity = s.capacity + 16;
  left = s.left;
  waiting = s.waiting ++ map (cut s.format) held;
}

-- a receiver with these entries held behind it
abbrev pub queued_from : ReceiverState → List Entry → ReceiverState
queued_from r held = record {
  format = r.format;
  samples = r.samples;
  break_length = r.break_length;
  capacity = r.capacity + 16;
  unread = held ++ r.unread;
  previous = r.previous;
  doing = r.doing;
}
