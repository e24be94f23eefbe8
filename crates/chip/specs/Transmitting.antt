-- The transmit side: UTCTL and UTXBUF. UTCTL has CKPL SSEL1 SSEL0 URXSE TXWake in bits 6 to 2 and TXEPT in bit 0; bits 7 and 1 are unused.
use Rattle.std.specs.Prelude.{ℕ, Bool, false, not, ◌&&◌}
use Rattle.chip.specs.declared.transmit.Transmit.{Transmit}
use Rattle.chip.specs.Bytes.{has, byte}

-- UTCTL as it is read
abbrev pub transmit_byte : Transmit → Bool → ℕ
transmit_byte t txept = byte t.unused7 t.ckpl t.ssel1 t.ssel0 t.urxse t.txwake t.unused1 txept

-- with TXWake and UTXBUF like this, and the other bits as they are
abbrev pub waking : Transmit → Bool → ℕ → Transmit
waking t wake buffer = record {
  unused7 = t.unused7;
  ckpl = t.ckpl;
  ssel1 = t.ssel1;
  ssel0 = t.ssel0;
  urxse = t.urxse;
  txwake = wake;
  unused1 = t.unused1;
  utxbuf = buffer;
}

-- after a write of UTCTL: all but bit 0 is stored; in reset TXWake stays 0
abbrev pub utctl_written : Transmit → Bool → ℕ → Transmit
utctl_written t in_reset v = record {
  unused7 = has v 0x80;
  ckpl = has v 0x40;
  ssel1 = has v 0x20;
  ssel0 = has v 0x10;
  urxse = has v 0x08;
  txwake = not in_reset && has v 0x04;
  unused1 = has v 0x02;
  utxbuf = t.utxbuf;
}

-- after a byte has been taken to be sent
abbrev pub buffer_written : Transmit → ℕ → Transmit
buffer_written t buffer = waking t false buffer

abbrev pub unwoken : Transmit → Transmit
unwoken t = waking t false t.utxbuf
