-- What firmware and the line do to a chip, one act after the other.
use Rattle.std.specs.Prelude.{◌≡◌, ℕ, false, if◌then◌else◌, ◌&&◌, List, [], ◌∷◌, ◌++◌, Ok, ◌==◌}
use Rattle.line.specs.declared.level.Level.{Level}
use Rattle.ends.specs.Sender.{SenderState, accepted, load_answer, after_load, sent, after_send}
use Rattle.chip.specs.Modes.{character_of}
use Rattle.chip.specs.Chips.{ChipState, resets, write_answer, after_write, after_read, utxd, after_clock}

-- a write of a byte to an address, a read of one, and a clock with the level that is received
pub data Act : Type 0 where
  writes : ℕ → ℕ → Act
  reads : ℕ → Act
  clocks : Level → Act

abbrev pub after_act : ChipState → Act → ChipState
after_act c (writes a v) = after_write c a v
after_act c (reads a) = after_read c a
after_act c (clocks l) = after_clock c l

-- none of the acts puts the chip in reset
abbrev pub NoReset : List Act → Type 0
NoReset [] = Unit {0}
NoReset (writes a v ∷ xs) = (resets a v ≡ false) × NoReset xs
NoReset (reads a ∷ xs) = NoReset xs
NoReset (clocks l ∷ xs) = NoReset xs

-- the levels on UTXD, clock by clock
abbrev pub on_utxd : ChipState → List Act → List Level
on_utxd c [] = []
on_utxd c (writes a v ∷ xs) = on_utxd (after_write c a v) xs
on_utxd c (reads a ∷ xs) = on_utxd (after_read c a) xs
on_utxd c (clocks l ∷ xs) = utxd c ∷ on_utxd (after_clock c l) xs

-- what is done to a sender: a character is loaded, or it is clocked
pub data Step : Type 0 where
  loads : ℕ → Step
  ticks : Step

-- the levels that a sender answers
abbrev pub said : SenderState → List Step → List Level
said s [] = []
said s (loads c ∷ xs) = said (after_load s c) xs
said s (ticks ∷ xs) = sent s ∷ said (after_send s) xs

-- the sender refuses none of the characters
abbrev pub AllTaken : SenderState → List Step → Type 0
AllTaken s [] = Unit {0}
AllTaken s (loads c ∷ xs) = (load_answer s c ≡ Ok tt) × AllTaken (after_load s c) xs
AllTaken s (ticks ∷ xs) = AllTaken (after_send s) xs

-- the acts as a bare sender would have them: the characters that UTXBUF takes, and the clocks
abbrev pub loading : ChipState → ℕ → ℕ → List Step
loading c a v = if a == 0x77 && accepted (write_answer c a v) then loads (character_of c.mode c.transmit.txwake v) ∷ [] else []

abbrev pub steps : ChipState → List Act → List Step
steps c [] = []
steps c (writes a v ∷ xs) = loading c a v ++ steps (after_write c a v) xs
steps c (reads a ∷ xs) = steps (after_read c a) xs
steps c (clocks l ∷ xs) = ticks ∷ steps (after_clock c l) xs
