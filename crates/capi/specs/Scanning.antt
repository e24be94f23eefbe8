-- What a scan of a picture lists, and when it declines, by an end's plain numbers.
use Rattle.std.specs.Prelude.{ℕ, List, [], map, Ok, Err, Result}
use Rattle.line.specs.declared.refusal.Refusal.{Refusal}
use Rattle.ends.specs.Times.{Times}
use Rattle.ends.specs.Receiver.{Entry}
use Rattle.picture.specs.Scanning.{listed_at, scan_at}
use Rattle.capi.specs.declared.numbers.EndNumbers.{EndNumbers}
use Rattle.capi.specs.declared.numbers.EntryNumbers.{EntryNumbers}
use Rattle.capi.specs.Settings.{and_then, end_times}

abbrev pub told_entry : Entry → EntryNumbers
told_entry e = record { character = e.0; flags = e.1 }

abbrev pub listed_if : Result Times Refusal → List ℕ → List EntryNumbers
listed_if (Ok t) bs = map told_entry (listed_at t bs)
listed_if (Err e) bs = []

abbrev pub listing : EndNumbers → List ℕ → List EntryNumbers
listing e bs = listed_if (end_times e) bs

-- how many entries there are, or why none is listed: room is the length of the list
abbrev pub scan_result : EndNumbers → List ℕ → ℕ → Result ℕ Refusal
scan_result e bs room = and_then (end_times e) (scan_at bs room)
