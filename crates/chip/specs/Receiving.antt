-- The receive side: URCTL, URXBUF and URXIFG. URCTL has FE PE OE BRK URXEIE URXWIE RXWake RXERR, from bit 7 to bit 0.
use Rattle.std.specs.Prelude.{ℕ, ◌%◌, Bool, false, if◌then◌else◌, not, ◌&&◌, ◌||◌, List, [], ◌∷◌, ◌==◌, nat_le}
use Rattle.ends.specs.Receiver.{Entry}
use Rattle.chip.specs.declared.mode.Mode.{Mode}
use Rattle.chip.specs.declared.receive.Receive.{Receive}
use Rattle.chip.specs.Bytes.{has, byte}
use Rattle.chip.specs.Modes.{values}

abbrev pub any_error : Receive → Bool
any_error r = r.fe || (r.pe || (r.oe || r.brk))

-- URCTL as it is read: RXERR shows whether any error stands
abbrev pub receive_byte : Receive → ℕ
receive_byte r = byte r.fe r.pe r.oe r.brk r.urxeie r.urxwie r.rxwake (any_error r)

-- after a write of URCTL: the enables are stored, and a 0 clears a flag
abbrev pub urctl_written : Receive → ℕ → Receive
urctl_written r v = record {
  fe = r.fe && has v 0x80;
  pe = r.pe && has v 0x40;
  oe = r.oe && has v 0x20;
  brk = r.brk && has v 0x10;
  urxeie = has v 0x08;
  urxwie = has v 0x04;
  rxwake = r.rxwake && has v 0x02;
  urxifg = r.urxifg;
  urxbuf = r.urxbuf;
}

-- after URXBUF has been read, and in reset
abbrev pub cleared : Receive → Receive
cleared r = record {
  fe = false;
  pe = false;
  oe = false;
  brk = false;
  urxeie = r.urxeie;
  urxwie = r.urxwie;
  rxwake = false;
  urxifg = false;
  urxbuf = r.urxbuf;
}

abbrev pub address_bit : Mode → Entry → Bool
address_bit m e = nat_le (values m) e.0

-- an entry has an effect, unless only addresses are wanted and it is none
abbrev pub noticed : Mode → Receive → Entry → Bool
noticed m r e = not (m.mm && (r.urxwie && not (address_bit m e)))

-- its byte is loaded where it has no flag, or URXEIE lets erroneous ones through
abbrev pub let_through : Mode → Receive → Entry → Bool
let_through m r e = noticed m r e && (e.1 == 0 || r.urxeie)

-- the byte of an entry: its data bits
abbrev pub byte_in : Mode → Entry → ℕ
byte_in m e = e.0 % values m

-- after an entry has arrived
abbrev pub taken : Mode → Receive → Entry → Receive
taken m r e =
    let seen : Bool = noticed m r e in
    let loaded : Bool = let_through m r e in
    record {
      fe = r.fe || (seen && has e.1 4);
      pe = r.pe || (seen && has e.1 2);
      oe = r.oe || (loaded && r.urxifg);
      brk = r.brk || (seen && has e.1 8);
      urxeie = r.urxeie;
      urxwie = r.urxwie;
      rxwake = if loaded && m.mm then address_bit m e else r.rxwake;
      urxifg = r.urxifg || loaded;
      urxbuf = if loaded then byte_in m e else r.urxbuf;
    }

abbrev pub all_taken : Mode → Receive → List Entry → Receive
all_taken m r [] = r
all_taken m r (e ∷ es) = all_taken m (taken m r e) es
