-- The chip: what it holds, and what a write, a read and a clock do.
use Rattle.std.specs.Prelude.{ℕ, ◌+◌, ◌*◌, ◌%◌, Bool, true, false, if◌then◌else◌, not, ◌&&◌, ◌||◌, List, [], is_some, Some, None, Ok, Err, Option, Result, option_map, ◌==◌, nat_le, nat_lt}
use Rattle.line.specs.declared.level.Level.{Level}
use Rattle.line.specs.declared.level.Level.TheVariants.{Mark}
use Rattle.line.specs.declared.refusal.Refusal.{Refusal}
use Rattle.line.specs.declared.refusal.Refusal.TheVariants.{OutOfRange, Full, NoSuchRegister, Closed, SyncSet}
use Rattle.ends.specs.Sender.{SenderState, sent, after_send, empty, accepted}
use Rattle.usart.specs.Usart.{usart_times}
use Rattle.chip.specs.declared.mode.Mode.{Mode}
use Rattle.chip.specs.declared.transmit.Transmit.{Transmit}
use Rattle.chip.specs.declared.receive.Receive.{Receive}
use Rattle.chip.specs.declared.rate.Rate.{Rate}
use Rattle.chip.specs.declared.chip.Chip.{Chip}
use Rattle.chip.specs.Bytes.{has}
use Rattle.chip.specs.Modes.{mode_of, mode_byte, format_of, values, character_of}
use Rattle.chip.specs.Transmitting.{transmit_byte, utctl_written, buffer_written, unwoken}
use Rattle.chip.specs.Receiving.{receive_byte, urctl_written, cleared, all_taken}
use Rattle.chip.specs.Pairs.{EndsState, ends_of, resting, arrivals, ends_clocked, ends_loaded}

pub record ChipState : Type 0 where
  pub mode : Mode
  pub transmit : Transmit
  pub receive : Receive
  pub rate : Rate
  -- a byte may be written to UTXBUF
  pub utxifg : Bool
  -- nothing is being sent
  pub txept : Bool
  -- none while SWRST is 1
  pub ends : Option EndsState

abbrev pub released : ChipState → Bool
released c = is_some c.ends

-- the characters that wait to be sent, and the levels left of the frame on the line; in reset, none
abbrev pub waiting : Option EndsState → List ℕ
waiting None = []
waiting (Some e) = e.sender.waiting

abbrev pub left : Option EndsState → List Level
left None = []
left (Some e) = e.sender.left

-- a chip with these registers whose ends hold this
abbrev pub holding : Mode → Transmit → Receive → Rate → Option EndsState → ChipState
holding m t r q e = record {
  mode = m;
  transmit = t;
  receive = r;
  rate = q;
  utxifg = empty (waiting e);
  txept = empty (left e) && empty (waiting e);
  ends = e;
}

abbrev pub chip_of : Chip → ChipState
chip_of c = holding c.mode c.transmit c.receive c.rate (option_map ends_of c.ends)

-- UTCTL with nothing stored, and an empty UTXBUF
abbrev pub no_bits : Transmit
no_bits = record { unused7 = false; ckpl = false; ssel1 = false; ssel0 = false; urxse = false; txwake = false; unused1 = false; utxbuf = 0 }

abbrev pub no_flags : Receive
no_flags = record { fe = false; pe = false; oe = false; brk = false; urxeie = false; urxwie = false; rxwake = false; urxifg = false; urxbuf = 0 }

-- UCTL is 01h, UTCTL 01h, the rest 0
abbrev pub power_up : ChipState
power_up = record {
  mode = mode_of 0;
  transmit = no_bits;
  receive = no_flags;
  rate = record { modulator = 0; low = 0; high = 0 };
  utxifg = true;
  txept = true;
  ends = None;
}

abbrev pub divider : Rate → ℕ
divider r = 256 * r.high + r.low

-- the ends as they begin at release
abbrev pub begun : Mode → Rate → EndsState
begun m q = resting (usart_times (format_of m) (divider q) q.modulator)

-- a write of UCTL with SWRST set
abbrev pub resets : ℕ → ℕ → Bool
resets a v = a == 0x70 && has v 0x01

-- a write of UCTL with SWRST 0 while it is 1
abbrev pub releases : ChipState → ℕ → ℕ → Bool
releases c a v = a == 0x70 && (not (has v 0x01) && not (released c))

-- UCTL's other bits and the rate after release, URXBUF always, UTXBUF in reset
abbrev pub closed : ChipState → ℕ → ℕ → Bool
closed c a v =
    (released c && ((a == 0x70 && not (has v 0x01)) || (nat_le 0x73 a && nat_le a 0x75)))
    || (a == 0x76 || (a == 0x77 && not (released c)))

abbrev pub is_register : ℕ → Bool
is_register a = nat_le 0x70 a && nat_le a 0x77

abbrev pub write_answer : ChipState → ℕ → ℕ → Result Unit Refusal
write_answer c a v =
    if not (is_register a) then Err NoSuchRegister
    else if releases c a v && has v 0x04 then Err SyncSet
    else if releases c a v && nat_lt (divider c.rate) 3 then Err OutOfRange
    else if closed c a v then Err Closed
    else if a == 0x77 && not c.utxifg then Err Full else Ok tt

abbrev pub rate_written : Rate → ℕ → ℕ → Rate
rate_written r a v = record {
  modulator = if a == 0x73 then v else r.modulator;
  low = if a == 0x74 then v else r.low;
  high = if a == 0x75 then v else r.high;
}

abbrev pub transmit_written : ChipState → ℕ → ℕ → Transmit
transmit_written c a v =
    if resets a v then unwoken c.transmit
    else if a == 0x71 then utctl_written c.transmit (not (released c)) v
    else if a == 0x77 then buffer_written c.transmit (v % values c.mode) else c.transmit

abbrev pub receive_written : ChipState → ℕ → ℕ → Receive
receive_written c a v = if resets a v then cleared c.receive else if a == 0x72 then urctl_written c.receive v else c.receive

abbrev pub loaded : Option EndsState → ℕ → Option EndsState
loaded None c = None
loaded (Some e) c = Some (ends_loaded e c)

abbrev pub ends_written : ChipState → ℕ → ℕ → Option EndsState
ends_written c a v =
    if resets a v then None
    else if a == 0x70 then Some (begun (mode_of v) c.rate)
    else if a == 0x77 then loaded c.ends (character_of c.mode c.transmit.txwake v) else c.ends

-- after a write that is not refused
abbrev pub written : ChipState → ℕ → ℕ → ChipState
written c a v = record {
  mode = if a == 0x70 then mode_of v else c.mode;
  transmit = transmit_written c a v;
  receive = receive_written c a v;
  rate = rate_written c.rate a v;
  utxifg = resets a v || (c.utxifg && not (a == 0x77));
  txept = resets a v || (c.txept && not (a == 0x77));
  ends = ends_written c a v;
}

abbrev pub after_write : ChipState → ℕ → ℕ → ChipState
after_write c a v = if accepted (write_answer c a v) then written c a v else c

abbrev pub read_answer : ChipState → ℕ → Result ℕ Refusal
read_answer c a =
    if a == 0x70 then Ok (mode_byte c.mode (not (released c)))
    else if a == 0x71 then Ok (transmit_byte c.transmit c.txept)
    else if a == 0x72 then Ok (receive_byte c.receive)
    else if a == 0x73 then Ok c.rate.modulator
    else if a == 0x74 then Ok c.rate.low
    else if a == 0x75 then Ok c.rate.high
    else if a == 0x76 then Ok c.receive.urxbuf
    else if a == 0x77 then Ok c.transmit.utxbuf else Err NoSuchRegister

-- only a read of URXBUF changes anything
abbrev pub after_read : ChipState → ℕ → ChipState
after_read c a = record {
  mode = c.mode;
  transmit = c.transmit;
  receive = if a == 0x76 then cleared c.receive else c.receive;
  rate = c.rate;
  utxifg = c.utxifg;
  txept = c.txept;
  ends = c.ends;
}

-- the level that a clock puts on UTXD: in reset, mark
abbrev pub on_line : Option EndsState → Level
on_line None = Mark
on_line (Some e) = sent e.sender

abbrev pub utxd : ChipState → Level
utxd c = on_line c.ends

-- at a clock a byte leaves for the line where one waits and nothing is left of the frame before it
abbrev pub leaves : SenderState → Bool
leaves s = empty s.left && not (empty s.waiting)

abbrev pub done : SenderState → Bool
done s = empty s.left && empty s.waiting

abbrev pub clocked : ChipState → Option EndsState → Level → ChipState
clocked c None l = c
clocked c (Some e) l = record {
  mode = c.mode;
  transmit = c.transmit;
  receive = all_taken c.mode c.receive (arrivals e c.mode.listen l);
  rate = c.rate;
  utxifg = c.utxifg || leaves e.sender;
  txept = c.txept || done (after_send e.sender);
  ends = Some (ends_clocked e c.mode.listen l);
}

abbrev pub after_clock : ChipState → Level → ChipState
after_clock c l = clocked c c.ends l
