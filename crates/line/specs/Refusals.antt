-- The number of each refusal.
use Rattle.std.specs.Prelude.{ℕ}
use Rattle.line.specs.declared.refusal.Refusal.{Refusal}
use Rattle.line.specs.declared.refusal.Refusal.TheVariants.{OutOfRange, TooWide, Full, NothingUnread, FormatsDiffer, TooShort, NotALevel, NoSuchRegister, Closed, SyncSet}

abbrev pub number_of : Refusal → ℕ
number_of OutOfRange = 1
number_of TooWide = 2
number_of Full = 3
number_of NothingUnread = 4
number_of FormatsDiffer = 5
number_of TooShort = 6
number_of NotALevel = 7
number_of NoSuchRegister = 8
number_of Closed = 9
number_of SyncSet = 10
