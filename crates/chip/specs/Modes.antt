-- UCTL: PENA PEV SP CHAR Listen SYNC MM SWRST, from bit 7 to bit 0. All but SWRST make the mode.
use Rattle.std.specs.Prelude.{ℕ, ◌+◌, ◌%◌, Bool, true, false, if◌then◌else◌, ◌&&◌}
use Rattle.line.specs.declared.format.DataBits.TheVariants.{Seven, Eight}
use Rattle.line.specs.declared.format.Parity.{Parity}
use Rattle.line.specs.declared.format.Parity.TheVariants.{Absent, Odd, Even}
use Rattle.line.specs.declared.format.StopBits.TheVariants.{One, Two}
use Rattle.line.specs.declared.format.Format.{Format}
use Rattle.chip.specs.declared.mode.Mode.{Mode}
use Rattle.chip.specs.Bytes.{has, byte}

abbrev pub mode_of : ℕ → Mode
mode_of v = record {
  pena = has v 0x80;
  pev = has v 0x40;
  sp = has v 0x20;
  chars = has v 0x10;
  listen = has v 0x08;
  sync = has v 0x04;
  mm = has v 0x02;
}

-- UCTL as it is read, with SWRST as it stands
abbrev pub mode_byte : Mode → Bool → ℕ
mode_byte m swrst = byte m.pena m.pev m.sp m.chars m.listen m.sync m.mm swrst

abbrev pub parity_of : Bool → Bool → Parity
parity_of false even = Absent
parity_of true false = Odd
parity_of true true = Even

-- the format that counts from release on: 8 data bits where CHAR is set, an address bit where MM is
abbrev pub format_of : Mode → Format
format_of m = record {
  size = if m.chars then Eight else Seven;
  address = m.mm;
  parity = parity_of m.pena m.pev;
  stops = if m.sp then Two else One;
}

-- how many values the data bits of a character have
abbrev pub values : Mode → ℕ
values m = if m.chars then 256 else 128

-- the character that a byte becomes: cut to the data bits, with TXWake as the address bit where MM is set
abbrev pub character_of : Mode → Bool → ℕ → ℕ
character_of m wake v = v % values m + (if m.mm && wake then values m else 0)
