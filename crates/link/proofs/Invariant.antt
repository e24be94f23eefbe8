-- What holds between a link and its history while the sampling condition is met.
use Rattle.std.proofs.Common.{◌≡◌, ℕ, suc, ◌+◌, ◌^◌, ◌<◌, ◌≤◌, ◌⊎◌, List, [], ◌∷◌, ◌++◌, length, get_or, take, drop}
use Rattle.line.specs.declared.level.Level.{Level}
use Rattle.line.specs.declared.level.Level.TheVariants.{Mark}
use Rattle.line.specs.Frames.{first_stop, width}
use Rattle.line.specs.Formats.{Agree}
use Rattle.ends.specs.Times.{start_of}
use Rattle.ends.specs.Sender.{frame_levels}
use Rattle.ends.specs.Receiver.{Entry, Doing, idle, framing, last_sample, falling_before}
use Rattle.link.specs.Link.{LinkState}
use Rattle.link.specs.History.{History}
use Rattle.link.specs.Sampling.{Edge}
use Rattle.line.proofs.Bits.{through}
use Rattle.ends.proofs.Sampling.{Taken}
use Rattle.link.proofs.Kept.{Kept}

-- at all times
pub record Always (m : LinkState) (w : List ℕ) (us : List Entry) (h : History) : Type 0 where
  pub waits : w ≡ drop (length h.begun) h.accepted
  pub order : length h.begun ≤ length h.accepted
  pub narrow : (i : ℕ) → i < length h.accepted → get_or h.accepted i 0 < 2 ^ width m.sender.format
  pub agrees : 0 < length h.accepted → Agree m.sender.format m.receiver.format
  pub timely : (i : ℕ) → i < length h.given → get_or h.given i 0 ≤ h.sends
  pub in_order : h.received ≡ take (length h.received) h.accepted
  pub kept : Kept h.received h.unread h.reads us

-- before the first frame
pub record Fresh (lf : List Level) (p : Level) (d : Doing) (l : Level) (begun received : List ℕ) : Type 0 where
  pub begun_is : begun ≡ []
  pub left_is : lf ≡ []
  pub line_is : l ≡ Mark
  pub doing_is : d ≡ idle
  pub previous_is : p ≡ Mark
  pub received_none : length received ≡ 0

-- the last frame begun, of character c at send clock q, of which send clock j was the last one; `past` are the frames before it
pub record Amid (m : LinkState) (lf : List Level) (l : Level) (begun : List ℕ) (sends c : ℕ) (past : List ℕ) (q j : ℕ) : Type 0 where
  pub begun_is : begun ≡ past ++ (q ∷ [])
  pub at : sends ≡ q + suc j
  pub left_is : lf ≡ drop (suc j) (frame_levels m.sender c)
  pub line_is : l ≡ get_or (frame_levels m.sender c) j Mark

-- it has been received
pub record Over (m : LinkState) (p : Level) (d : Doing) (received : List ℕ) (sends : ℕ) (past : List ℕ) (q : ℕ) : Type 0 where
  pub doing_is : d ≡ idle
  pub previous_is : p ≡ Mark
  pub received_all : length received ≡ suc (length past)
  pub stopped : q + start_of m.sender.lengths (first_stop m.sender.format) < sends

-- no receive clock has been given since it began
pub record Due (p : Level) (d : Doing) (received given past : List ℕ) (q : ℕ) : Type 0 where
  pub doing_is : d ≡ idle
  pub previous_is : p ≡ Mark
  pub received_past : length received ≡ length past
  pub before : (i : ℕ) → i < length given → get_or given i 0 ≤ q

-- the receiver is in it
pub record Inside (m : LinkState) (d : Doing) (received given : List ℕ) (c : ℕ) (past : List ℕ) (q : ℕ) : Type 0 where
  pub n : ℕ
  pub ls : List Level
  pub e : ℕ
  pub doing_is : d ≡ framing n ls
  pub received_past : length received ≡ length past
  pub edge : Edge m.sender (λ i. get_or given i 0) (length given) q e
  pub clocks : length given ≡ e + suc n
  pub unended : n < last_sample m.receiver
  pub amount : length ls ≡ falling_before (suc n) m.receiver.samples
  pub taken : Taken ls (through m.receiver.format c)

abbrev pub Ear : LinkState → Level → Doing → History → ℕ → List ℕ → ℕ → Type 0
Ear m p d h c past q = Over m p d h.received h.sends past q ⊎ (Due p d h.received h.given past q ⊎ Inside m d h.received h.given c past q)

-- the character of the frame that begins after so many
abbrev pub character : History → List ℕ → ℕ
character h past = get_or h.accepted (length past) 0

-- that frame, and what the receiver has to do with it
abbrev pub Framed : LinkState → List Level → Level → Doing → Level → History → ℕ → List ℕ → ℕ → ℕ → Type 0
Framed m lf p d l h c past q j = Amid m lf l h.begun h.sends c past q j × Ear m p d h c past q

abbrev pub Phase : LinkState → List Level → Level → Doing → Level → History → Type 0
Phase m lf p d l h = Fresh lf p d l h.begun h.received ⊎ ((past : List ℕ) × (q : ℕ) × (j : ℕ) × Framed m lf p d l h (character h past) past q j)

abbrev pub Inv : LinkState → List Level → List ℕ → List Entry → Level → Doing → Level → History → Type 0
Inv m lf w us p d l h = Always m w us h × Phase m lf p d l h
