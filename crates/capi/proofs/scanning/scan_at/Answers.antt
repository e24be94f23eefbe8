-- Each entry stands as its numbers.
use Rattle.std.proofs.Common.{◌≡◌, ℕ, List, ◌++◌, map, drop, Ok, Err, Result, MatchResult, rules}
use Rattle.line.specs.declared.refusal.Refusal.{Refusal}
use Rattle.ends.specs.Receiver.{Entry}
use Rattle.picture.specs.Scanning.{Written, written_by}
use Rattle.capi.specs.declared.numbers.EntryNumbers.{EntryNumbers}
use Rattle.capi.specs.Scanning.{told_entry}
use Rattle.capi.proofs.scanning.scan_at.Goals as goal

told : (r : Result ℕ Refusal) (es : List Entry) (new old : List EntryNumbers)
    → MatchResult r (λ n. Written (λ e x. x ≡ told_entry e) es n new old) (λ _. new ≡ old)
    → MatchResult r (λ n. new ≡ map told_entry es ++ drop n old) (λ _. new ≡ old)
told (Ok n) es new old w = written_by told_entry es n new old w
told (Err e) es new old same = same

pub returns-clause-entries : goal.returns-clause-entries
returns-clause-entries c =
    let h = told _ _ _ _ c.scan.ensures.entries in
    search rules
