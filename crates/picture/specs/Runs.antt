-- What a run of a picture is, and what comes of the runs one after the other.
use Rattle.std.specs.Prelude.{◌≡◌, ◌≢◌, ℕ, ◌+◌, ◌<◌, ◌≤◌, List, length, Option, MatchOption, slice_index}
use Rattle.picture.specs.declared.runs.Run.{Run}
use Rattle.picture.specs.declared.runs.Runs.{Runs}

-- some equal bytes, before the end of the picture or another byte
pub record IsRun (picture : List ℕ) (run : Run) : Type 0 where
  pub some : 0 < run.clocks
  pub within : run.from + run.clocks ≤ length picture
  pub equal : (k : ℕ) → k < run.clocks → slice_index picture (run.from + k) ≡ run.byte
  pub ends : run.from + run.clocks < length picture → slice_index picture (run.from + run.clocks) ≢ run.byte

-- none at the end of the picture, and else the run that begins here, after which the next one begins
abbrev pub GivesRun : Runs → Option Run → Runs → Type 0
GivesRun s r t = (t.picture ≡ s.picture) × MatchOption r ((s.at ≡ length s.picture.now) × (t.at ≡ s.at))
    (λ run. IsRun s.picture.now run × (run.from ≡ s.at) × (t.at ≡ s.at + run.clocks))
