-- What a bare receiver means.
use Rattle.std.specs.Prelude.{ℕ, List, [], ◌∷◌}
use Rattle.std.specs.Option.{option_to_list}
use Rattle.line.specs.declared.level.Level.{Level}
use Rattle.line.specs.declared.level.Level.TheVariants.{Mark}
use Rattle.ends.specs.declared.timing.Timing.{Timing}
use Rattle.ends.specs.declared.doing.Doing.{Doing}
use Rattle.ends.specs.declared.doing.Doing.TheVariants.{Idle, Framing, Counting}
use Rattle.ends.specs.declared.doing.Progress.{Progress}
use Rattle.ends.specs.declared.doing.Progress.TheVariants.{GoesOn, FalseStart, Over}
use Rattle.ends.specs.declared.bare_receiver.BareReceiver.{BareReceiver}
use Rattle.ends.specs.Receiver.{ReceiverState, Doing as Meant, idle, framing, counting, Heard, nothing, after_frame}
use Rattle.ends.specs.Times.{Times}
use Rattle.ends.specs.Timed.{sample_clocks, times_of}
use Rattle.ends.specs.Samples.{taken}

abbrev pub doing_of : Doing → Meant
doing_of Idle = idle
doing_of (Framing clock samples) = framing clock (taken samples)
doing_of (Counting spaces) = counting spaces

abbrev pub meant : BareReceiver → ReceiverState
meant r = record {
  format = r.timing.format;
  samples = sample_clocks r.timing;
  break_length = r.timing.break_length;
  capacity = 1;
  unread = option_to_list r.unread;
  previous = r.previous;
  doing = doing_of r.doing;
}

-- a bare receiver with these times that has heard nothing
abbrev pub resting : Times → ReceiverState
resting t = record {
  format = t.format;
  samples = t.samples;
  break_length = t.break_length;
  capacity = 1;
  unread = [];
  previous = Mark;
  doing = idle;
}

abbrev pub at_rest : Timing → ReceiverState
at_rest t = resting (times_of t)

-- what the progress of a frame comes to, at this clock of it and with these samples
abbrev pub heard_of : Progress → ℕ → List Level → Heard
heard_of GoesOn n ls = nothing (framing n ls)
heard_of FalseStart n ls = nothing idle
heard_of (Over e) n ls = record { doing = after_frame e; arrived = e ∷ [] }
