-- Laws of the chip, over whole runs of acts and clocks.
use Rattle.std.specs.Prelude.{◌≡◌, ℕ, ◌≤◌, ◌%◌, Bool, true, false, if◌then◌else◌, not, ◌&&◌, ◌||◌, List, [], ◌∷◌, length, map, filter, Some, Ok, MatchBool, MatchResult, bit_and, bit_or}
use Rattle.std.specs.List.{list_any}
use Rattle.line.specs.declared.level.Level.{Level}
use Rattle.line.specs.declared.level.Level.TheVariants.{Mark}
use Rattle.ends.specs.Sender.{empty}
use Rattle.ends.specs.Receiver.{Entry}
use Rattle.ends.specs.Runs.{spoken, taken_down}
use Rattle.chip.specs.declared.mode.Mode.{Mode}
use Rattle.chip.specs.declared.receive.Receive.{Receive}
use Rattle.chip.specs.Bytes.{has, bit}
use Rattle.chip.specs.Modes.{values}
use Rattle.chip.specs.Receiving.{noticed, let_through, byte_in, address_bit}
use Rattle.chip.specs.Pairs.{EndsState}
use Rattle.chip.specs.Chips.{ChipState, released, waiting, left, write_answer, after_write, read_answer, after_read, utxd, after_clock}
use Rattle.chip.specs.Acts.{Act, NoReset, on_utxd, said, AllTaken, steps}

-- no byte waits to be sent
abbrev pub NoneWaits : ChipState → Type 0
NoneWaits c = waiting c.ends ≡ []

-- no byte waits, and nothing is left of a frame on the line
abbrev pub NothingLeft : ChipState → Type 0
NothingLeft c = (left c.ends ≡ []) × NoneWaits c

-- UTXIFG is 1 exactly when no byte waits; of the bytes that a read answers, TXEPT in UTCTL is 1 exactly when nothing is left or waiting, and RXERR in
-- URCTL exactly when one of FE, PE, OE and BRK is.
pub record Tells (c : ChipState) : Type 0 where
  pub utxifg : MatchBool c.utxifg (NoneWaits c) (NoneWaits c → ⊥)
  pub txept : MatchResult (read_answer c 0x71) (λ b. MatchBool (has b 0x01) (NothingLeft c) (NothingLeft c → ⊥)) (λ e. ⊥)
  pub rxerr : MatchResult (read_answer c 0x72) (λ b. has b 0x01 ≡ has b 0x80 || (has b 0x40 || (has b 0x20 || has b 0x10))) (λ e. ⊥)

-- In reset no flag and no wake bit stands, whatever has been written; nothing is being sent, and a clock answers mark and changes nothing.
pub record Rests (c : ChipState) : Type 0 where
  pub utxifg : c.utxifg ≡ true
  pub txept : c.txept ≡ true
  pub urxifg : c.receive.urxifg ≡ false
  pub fe : c.receive.fe ≡ false
  pub pe : c.receive.pe ≡ false
  pub oe : c.receive.oe ≡ false
  pub brk : c.receive.brk ≡ false
  pub rxwake : c.receive.rxwake ≡ false
  pub txwake : c.transmit.txwake ≡ false
  pub level : utxd c ≡ Mark
  pub clock : (l : Level) → after_clock c l ≡ c

-- At power-up UCTL and UTCTL are read as 01h, and every other register as 0.
pub record ReadAtPowerUp (c : ChipState) : Type 0 where
  pub uctl : read_answer c 0x70 ≡ Ok 0x01
  pub utctl : read_answer c 0x71 ≡ Ok 0x01
  pub urctl : read_answer c 0x72 ≡ Ok 0
  pub umctl : read_answer c 0x73 ≡ Ok 0
  pub ubr0 : read_answer c 0x74 ≡ Ok 0
  pub ubr1 : read_answer c 0x75 ≡ Ok 0
  pub urxbuf : read_answer c 0x76 ≡ Ok 0
  pub utxbuf : read_answer c 0x77 ≡ Ok 0

-- URCTL before and after a write: bits 3 and 2 are stored; a 0 in bits 7 to 4 or 1 clears that bit, and a 1 leaves it.
pub record FlagsWritten (before v after : ℕ) : Type 0 where
  pub fe : has after 0x80 ≡ has before 0x80 && has v 0x80
  pub pe : has after 0x40 ≡ has before 0x40 && has v 0x40
  pub oe : has after 0x20 ≡ has before 0x20 && has v 0x20
  pub brk : has after 0x10 ≡ has before 0x10 && has v 0x10
  pub urxeie : has after 0x08 ≡ has v 0x08
  pub urxwie : has after 0x04 ≡ has v 0x04
  pub rxwake : has after 0x02 ≡ has before 0x02 && has v 0x02

-- A byte that is written and not refused is read back, in UTCTL but for TXEPT and, in reset, TXWake, in UTXBUF cut to the data bits.
pub record ReadBack (c : ChipState) (v : ℕ) : Type 0 where
  pub uctl : write_answer c 0x70 v ≡ Ok tt → read_answer (after_write c 0x70 v) 0x70 ≡ Ok v
  pub utctl : read_answer (after_write c 0x71 v) 0x71 ≡ Ok (bit_or (bit_and v (if released c then 0xfe else 0xfa)) (bit c.txept 0x01))
  pub rate : (a : ℕ) → 0x73 ≤ a → a ≤ 0x75 → write_answer c a v ≡ Ok tt → read_answer (after_write c a v) a ≡ Ok v
  pub urctl : MatchResult (read_answer c 0x72) (λ before. MatchResult (read_answer (after_write c 0x72 v) 0x72) (λ after. FlagsWritten before v after) (λ e. ⊥)) (λ e. ⊥)
  pub utxbuf : write_answer c 0x77 v ≡ Ok tt → read_answer (after_write c 0x77 v) 0x77 ≡ Ok (v % values c.mode)

-- From a release to the next reset, whatever else is done, the levels on UTXD are those that a bare sender answers for the same characters and
-- clocks; and it refuses none of the characters.
abbrev pub Speaks : ChipState → Type 0
Speaks c = (e : EndsState) → c.ends ≡ Some e → (acts : List Act) → NoReset acts
    → (on_utxd c acts ≡ said e.sender (steps c acts)) × AllTaken e.sender (steps c acts)

-- the levels that the receiver sees: with Listen those on UTXD
abbrev pub seen_levels : EndsState → Bool → List Level → List Level
seen_levels e listen ls = if listen then spoken e.sender (length ls) else ls

-- the bytes of the entries that the enables let through
abbrev pub admitted : Mode → Receive → List Entry → List ℕ
admitted m r es = map (byte_in m) (filter (let_through m r) es)

-- what firmware reads that looks at URXIFG after each clock, and reads URXBUF where it is 1
abbrev pub polled : ChipState → List Level → List ℕ
polled c [] = []
polled c (l ∷ ls) =
    let d : ChipState = after_clock c l in
    if d.receive.urxifg then d.receive.urxbuf ∷ polled (after_read d 0x76) ls else polled d ls

abbrev pub after_clocks : ChipState → List Level → ChipState
after_clocks c [] = c
after_clocks c (l ∷ ls) = after_clocks (after_clock c l) ls

abbrev pub last_of : ℕ → List ℕ → ℕ
last_of n [] = n
last_of n (b ∷ bs) = last_of b bs

-- one of the bytes finds the one before it unread
abbrev pub overruns : Bool → List ℕ → Bool
overruns unread [] = false
overruns unread (b ∷ bs) = unread || overruns true bs

-- what becomes of URXBUF, URXIFG and OE when these bytes are loaded and none is read
pub record Loaded (before after : Receive) (bytes : List ℕ) : Type 0 where
  pub buffer : after.urxbuf ≡ last_of before.urxbuf bytes
  pub flag : after.urxifg ≡ before.urxifg || not (empty bytes)
  pub overrun : after.oe ≡ before.oe || overruns before.urxifg bytes

-- one of the entries that have an effect has this flag
abbrev pub flagged : Mode → Receive → ℕ → List Entry → Bool
flagged m r flag es = list_any (λ x. has x.1 flag) (filter (noticed m r) es)

-- RXWake after these entries have been loaded: where characters have an address bit, that of the last one
abbrev pub wake_after : Mode → Bool → List Entry → Bool
wake_after m wake [] = wake
wake_after m wake (x ∷ es) = wake_after m (if m.mm then address_bit m x else wake) es

-- what becomes of FE, PE, BRK and RXWake when these entries arrive and nothing is read or written
pub record Flagged (m : Mode) (before after : Receive) (es : List Entry) : Type 0 where
  pub fe : after.fe ≡ before.fe || flagged m before 4 es
  pub pe : after.pe ≡ before.pe || flagged m before 2 es
  pub brk : after.brk ≡ before.brk || flagged m before 8 es
  pub rxwake : after.rxwake ≡ wake_after m before.rxwake (filter (let_through m before) es)

-- Over any levels, from a release to the next reset, what is loaded into URXBUF is exactly the entries that a bare receiver takes down and the enables let through, in order, each
-- once: firmware that reads as they come reads these, and where it does not, the last one stands. FE, PE and BRK tell of every entry that has
-- an effect, RXWake of the last one loaded.
pub record Receives (c : ChipState) (e : EndsState) (ls : List Level) : Type 0 where
  pub read : c.receive.urxifg ≡ false → polled c ls ≡ admitted c.mode c.receive (taken_down e.receiver (seen_levels e c.mode.listen ls))
  pub unread : Loaded c.receive (after_clocks c ls).receive (admitted c.mode c.receive (taken_down e.receiver (seen_levels e c.mode.listen ls)))
  pub flags : Flagged c.mode c.receive (after_clocks c ls).receive (taken_down e.receiver (seen_levels e c.mode.listen ls))

abbrev pub Listens : ChipState → Type 0
Listens c = (e : EndsState) → c.ends ≡ Some e → (ls : List Level) → Receives c e ls
