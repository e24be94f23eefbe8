-- What has happened on a link since a moment.
use Rattle.std.specs.Prelude.{ℕ, pred, ◌+◌, Bool, true, false, if◌then◌else◌, List, [], ◌∷◌, ◌++◌, map, length, take, nat_le}
use Rattle.line.specs.declared.level.Level.{Level}
use Rattle.ends.specs.Sender.{SenderState, accepted}
use Rattle.ends.specs.Receiver.{ReceiverState, Entry, hears}
use Rattle.link.specs.declared.act.Act.{Act}
use Rattle.link.specs.declared.act.Act.TheVariants.{Load, Send, Receive, Noise, Read}
use Rattle.link.specs.Link.{LinkState, loading, after_act}

pub record History : Type 0 where
  -- the characters whose loads were not refused
  pub accepted : List ℕ
  -- how many send clocks were given
  pub sends : ℕ
  -- the number of the send clock at which each frame began
  pub begun : List ℕ
  -- for each receive clock, how many send clocks were given before it
  pub given : List ℕ
  -- the characters of the entries that arrived
  pub received : List ℕ
  -- which of these are unread
  pub unread : List ℕ
  -- which of these were read, each with the entry that the read answered
  pub reads : List (ℕ × Entry)

abbrev pub blank : History
blank = record { accepted = []; sends = 0; begun = []; given = []; received = []; unread = []; reads = [] }

-- whether the next send clock begins a frame
abbrev pub begins : SenderState → Bool
begins s = begins_at s.left s.waiting
  where
    begins_at : List Level → List ℕ → Bool
    begins_at [] (c ∷ cs) = true
    begins_at [] [] = false
    begins_at (l ∷ ls) w = false

abbrev pub characters : List Entry → List ℕ
characters es = map (λ e. e.0) es

-- the arrival with number n joins the unread ones, or takes the newest one's place
abbrev pub numbered : ℕ → List ℕ → List Entry → ℕ → List ℕ
numbered room us [] n = us
numbered room us (e ∷ es) n = (if nat_le room (length us) then take (pred (length us)) us else us) ++ (n ∷ [])

abbrev pub noted_load : Bool → ℕ → History → History
noted_load ok c h = record h { accepted = if ok then h.accepted ++ (c ∷ []) else h.accepted }

abbrev pub noted_send : Bool → History → History
noted_send starts h = record h { sends = h.sends + 1; begun = if starts then h.begun ++ (h.sends ∷ []) else h.begun }

abbrev pub noted_clock : ReceiverState → Level → History → History
noted_clock r l h = record h {
  given = h.given ++ (h.sends ∷ []);
  received = h.received ++ characters (hears r l).arrived;
  unread = numbered r.capacity h.unread (hears r l).arrived (length h.received);
}

abbrev pub noted_read : List ℕ → List Entry → History → History
noted_read [] es h = h
noted_read (n ∷ ns) [] h = h
noted_read (n ∷ ns) (e ∷ es) h = record h { unread = ns; reads = h.reads ++ ((n, e) ∷ []) }

abbrev pub noted : LinkState → Act → History → History
noted m (Load c) h = noted_load (accepted (loading m c)) c h
noted m Send h = noted_send (begins m.sender) h
noted m Receive h = noted_clock m.receiver m.line h
noted m (Noise l) h = noted_clock m.receiver l h
noted m Read h = noted_read h.unread m.receiver.unread h

abbrev pub history_from : LinkState → History → List Act → History
history_from m h [] = h
history_from m h (a ∷ xs) = history_from (after_act m a) (noted m a h) xs

abbrev pub history : LinkState → List Act → History
history m xs = history_from m blank xs

-- the levels that the receiver was given, by receive and noise clocks
abbrev pub given_levels : LinkState → List Act → List Level
given_levels m [] = []
given_levels m (Load c ∷ xs) = given_levels (after_act m (Load c)) xs
given_levels m (Send ∷ xs) = given_levels (after_act m Send) xs
given_levels m (Receive ∷ xs) = m.line ∷ given_levels (after_act m Receive) xs
given_levels m (Noise l ∷ xs) = l ∷ given_levels (after_act m (Noise l)) xs
given_levels m (Read ∷ xs) = given_levels (after_act m Read) xs

-- the entry that an act answers: a read answers the oldest unread one, if there is one
abbrev pub answered : LinkState → Act → List Entry
answered m (Load c) = []
answered m Send = []
answered m Receive = []
answered m (Noise l) = []
answered m Read = take 1 m.receiver.unread

-- the entries that the reads among some acts answer, in order
abbrev pub read_answers : LinkState → List Act → List Entry
read_answers m [] = []
read_answers m (a ∷ xs) = answered m a ++ read_answers (after_act m a) xs

abbrev pub entries_of : List (ℕ × Entry) → List Entry
entries_of xs = map (λ x. x.1) xs

-- the entries that a history says were read
abbrev pub noted_entries : History → List Entry
noted_entries h = entries_of h.reads
