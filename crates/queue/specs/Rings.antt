-- The items of a ring, the oldest first.
use Rattle.std.specs.Prelude.{◌≡◌, ◌<◌, ◌≤◌, List, ◌++◌, length, take, drop}
use Rattle.queue.specs.declared.ring.Ring.TheInside.{Inside}

-- the places count round
abbrev pub items : {T : Type 0} → Inside T → List T
items r = take r.count (drop r.first (r.places ++ r.places))

pub record InRange {T : Type 0} (r : Inside T) : Type 0 where
  pub sixteen : length r.places ≡ 16
  pub inside : r.first < 16
  pub few : r.count ≤ 16
