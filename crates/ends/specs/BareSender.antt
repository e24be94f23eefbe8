-- What a bare sender means.
use Rattle.std.specs.Prelude.{[]}
use Rattle.std.specs.Option.{option_to_list}
use Rattle.ends.specs.declared.timing.Timing.{Timing}
use Rattle.ends.specs.declared.bare_sender.BareSender.{BareSender}
use Rattle.ends.specs.Times.{Times}
use Rattle.ends.specs.Timed.{times_of}
use Rattle.ends.specs.Shifts.{left_of}
use Rattle.ends.specs.Sender.{SenderState}

abbrev pub meant : BareSender → SenderState
meant s = record {
  format = s.timing.format;
  lengths = s.timing.lengths;
  capacity = 1;
  left = left_of s.timing.format s.timing.lengths s.shift;
  waiting = option_to_list s.waiting;
}

-- a bare sender with these times that has nothing to send
abbrev pub resting : Times → SenderState
resting t = record { format = t.format; lengths = t.lengths; capacity = 1; left = []; waiting = [] }

abbrev pub at_rest : Timing → SenderState
at_rest t = resting (times_of t)
