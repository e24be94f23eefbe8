-- A sender and a receiver joined by a line, and what each act does to them.
use Rattle.std.specs.Prelude.{◌≡◌, ℕ, if◌then◌else◌, List, [], fold, Err, Result}
use Rattle.line.specs.declared.level.Level.{Level}
use Rattle.line.specs.declared.level.Level.TheVariants.{Mark}
use Rattle.line.specs.declared.refusal.Refusal.{Refusal}
use Rattle.line.specs.declared.refusal.Refusal.TheVariants.{FormatsDiffer}
use Rattle.line.specs.Formats.{agree}
use Rattle.ends.specs.Sender.{SenderState, load_answer, after_load, sent, after_send}
use Rattle.ends.specs.Receiver.{ReceiverState, after_clock, after_read, idle}
use Rattle.link.specs.declared.act.Act.{Act}
use Rattle.link.specs.declared.act.Act.TheVariants.{Load, Send, Receive, Noise, Read}

pub record LinkState : Type 0 where
  pub sender : SenderState
  pub receiver : ReceiverState
  -- the level that the last send clock left on the line
  pub line : Level

-- nothing to send, nothing to read, no frame on the way, and the line at mark
pub record AtRest (m : LinkState) : Type 0 where
  pub no_level : m.sender.left ≡ []
  pub no_waiting : m.sender.waiting ≡ []
  pub no_unread : m.receiver.unread ≡ []
  pub no_frame : m.receiver.doing ≡ idle
  pub marked : m.receiver.previous ≡ Mark
  pub line : m.line ≡ Mark

-- what a load answers: it is refused where the formats of the ends do not agree
abbrev pub loading : LinkState → ℕ → Result Unit Refusal
loading m c = if agree m.sender.format m.receiver.format then load_answer m.sender c else Err FormatsDiffer

abbrev pub linked : SenderState → ReceiverState → Level → LinkState
linked s r l = record { sender = s; receiver = r; line = l }

abbrev pub after_act : LinkState → Act → LinkState
after_act m (Load c) = linked (if agree m.sender.format m.receiver.format then after_load m.sender c else m.sender) m.receiver m.line
after_act m Send = linked (after_send m.sender) m.receiver (sent m.sender)
after_act m Receive = linked m.sender (after_clock m.receiver m.line) m.line
after_act m (Noise l) = linked m.sender (after_clock m.receiver l) m.line
after_act m Read = linked m.sender (after_read m.receiver) m.line

abbrev pub after : LinkState → List Act → LinkState
after m xs = fold after_act m xs
