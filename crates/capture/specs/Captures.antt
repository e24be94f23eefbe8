-- What is read of a capture, and what a scan of it gives piece by piece.
use Rattle.std.specs.Prelude.{◌≡◌, ℕ, ◌+◌, ◌-◌, ◌^◌, ◌<◌, ◌≤◌, min, List, ◌++◌, length, take, nat_lt, position, Option, Some, None, ⊤}
use Rattle.std.specs.Io.KnownBytes.{Consumes, IsAtEnd}
use Rattle.ends.specs.Receiver.{ReceiverState, Entry}
use Rattle.ends.specs.Runs.{taken_down}
use Rattle.picture.specs.Scanning.{levels}
use Rattle.capture.specs.declared.pieces.Fault.{Fault}
use Rattle.capture.specs.declared.pieces.Fault.TheVariants.{Unread, NotALevel, TooShort}

-- n bytes were read, each of them a level, and none only at the end of the capture or where there was no room
pub record GivesLevels (old new : Option (List ℕ)) (room n : ℕ) (piece : List ℕ) : Type 0 where
  pub within : n ≤ room
  pub levels_only : position (nat_lt 1) piece ≡ None
  pub read : Consumes old new piece
  pub ends : n ≡ 0 → 0 < room → IsAtEnd new

-- of the bytes that were read the one with this number is the first that is no level, where so many came before
pub record IsOtherAt (old new : Option (List ℕ)) (before place : ℕ) (buffer : List ℕ) : Type 0 where
  pub count : ℕ
  pub at : ℕ
  pub within : count ≤ length buffer
  pub read : Consumes old new (take count buffer)
  pub first : position (nat_lt 1) (take count buffer) ≡ Some at
  pub named : place ≡ min (before + at) (2 ^ 64 - 1)

-- what a fault says, where so many bytes came before: of a read that failed nothing, which is the reader's affair; that the list is too short
-- only where `short` holds
abbrev pub IsFaultIn : Option (List ℕ) → Option (List ℕ) → ℕ → List ℕ → Type 0 → Fault → Type 0
IsFaultIn old new before buffer short (Unread e) = ⊤
IsFaultIn old new before buffer short (NotALevel place) = IsOtherAt old new before place buffer
IsFaultIn old new before buffer short TooShort = short

-- a piece was read, and more entries arrive with it than the list has places
pub record HasTooMany (old new : Option (List ℕ)) (r : ReceiverState) (places : ℕ) (buffer : List ℕ) : Type 0 where
  pub count : ℕ
  pub read : GivesLevels old new (length buffer) count (take count buffer)
  pub more : places < length (taken_down r (levels (take count buffer)))

-- so many bytes were read, one after the other, each of them a level
pub record HasRead (old new : Option (List ℕ)) (n : ℕ) : Type 0 where
  pub bytes : List ℕ
  pub read : Consumes old new bytes
  pub levels_only : position (nat_lt 1) bytes ≡ None
  pub counted : n ≡ min (length bytes) (2 ^ 64 - 1)

-- after so many bytes, each of them a level, a fault in what was read next
pub record IsFaultAfter (old new : Option (List ℕ)) (buffer : List ℕ) (f : Fault) : Type 0 where
  pub mid : Option (List ℕ)
  pub before : ℕ
  pub read : HasRead old mid before
  pub fault : IsFaultIn mid new before buffer ⊥ f

-- what the bytes that were to come give is what was listed, and then what the bytes that are still to come give
abbrev pub Continues : Option (List ℕ) → Option (List ℕ) → ReceiverState → ReceiverState → List Entry → Type 0
Continues None new r s es = ⊤
Continues (Some xs) None r s es = ⊥
Continues (Some xs) (Some ys) r s es = taken_down r (levels xs) ≡ es ++ taken_down s (levels ys)
