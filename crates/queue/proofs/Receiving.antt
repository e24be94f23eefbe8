-- A receiver with a queue behind it, by what the receiver below does.
use Rattle.std.proofs.Common.{◌≡◌, ℕ, pred, ◌+◌, ◌-◌, ◌<◌, ◌≤◌, if◌then◌else◌, List, [], ◌∷◌, ◌++◌, length, sym, refl, ap, ◌∙◌, subst, ⊎_elim, arith}
use lib.Bits.{bit_or}
use Rattle.std.proofs.lemmas.Bool.{cases_lt, lt-leb}
use Rattle.line.specs.declared.level.Level.{Level}
use Rattle.line.specs.declared.level.Level.TheVariants.{Space, Mark}
use Rattle.ends.specs.Receiver.{ReceiverState, Entry, Doing, idle, framing, counting, Heard, heard, hears, joined, arrive, with, after_clock}
use Rattle.queue.specs.Queues.{queued_from}

-- an entry passes those held, where there is room after them
past_held : (held us : List Entry) (room : ℕ) (e : Entry) → 0 < room → joined (room + length held) (held ++ us) e ≡ held ++ joined room us e
past_held [] us room e some = let z : room + 0 ≡ room = omega arith in ap {B = List Entry} (λ n. joined n us e) z
past_held (h ∷ []) [] room e some =
    ap {B = List Entry} (λ b. if b then (e.0, bit_or (bit_or e.1 h.1) 1) ∷ [] else h ∷ (e ∷ [])) (lt-leb (room + 1) 1 (omega arith))
past_held (h ∷ []) (u ∷ us) room e some =
    let z : pred (room + 1) ≡ room = omega arith in ap {B = List Entry} (λ n. h ∷ joined n (u ∷ us) e) z
past_held (h ∷ (k ∷ held)) us room e some =
    let z : pred (room + length (h ∷ (k ∷ held))) ≡ room + length (k ∷ held) = omega arith in
    ap {B = List Entry} (λ n. h ∷ joined n (k ∷ (held ++ us)) e) z ∙ ap {B = List Entry} (λ l. h ∷ l) (past_held (k ∷ held) us room e some)

arrive_queued : (held us es : List Entry) (room : ℕ) → 0 < room → length held ≤ 16 → (length held < 16 → us ≡ [])
    → arrive (room + 16) (held ++ us) es ≡ held ++ arrive room us es
arrive_queued held us [] room some few none = refl
arrive_queued held us (e ∷ es) room some few none = ⊎_elim
    (λ (h : length held < 16).
    subst (λ (us : List Entry). joined (room + 16) (held ++ us) e ≡ held ++ joined room us e) (sym (none h))
    (ap {B = List Entry} (λ n. joined n (held ++ []) e) (spare (length held) few) ∙ past_held held [] (room + 16 - length held) e (omega (arith, some, few))))
    (λ (h : 16 ≤ length held).
    ap {B = List Entry} (λ n. joined (room + n) (held ++ us) e) (all (length held) few h) ∙ past_held held us room e some)
    (cases_lt (length held) 16)
  where
    spare : (n : ℕ) → n ≤ 16 → room + 16 ≡ room + 16 - n + n
    spare n h = omega arith

    all : (n : ℕ) → n ≤ 16 → 16 ≤ n → 16 ≡ n
    all n a b = omega arith

-- what a clock comes to does not depend on what is unread
heard_queued : (r : ReceiverState) (held : List Entry) (p : Level) (d : Doing) (l : Level) → heard (queued_from r held) p d l ≡ heard r p d l
heard_queued r held Mark idle Space = refl
heard_queued r held Mark idle Mark = refl
heard_queued r held Space idle l = refl
heard_queued r held p (framing n ls) l = refl
heard_queued r held p (counting n) Mark = refl
heard_queued r held Mark (counting n) Space = refl
heard_queued r held Space (counting n) Space = refl

-- a clock below is a clock of both
pub clocked : (r : ReceiverState) (held : List Entry) (l : Level) → 0 < r.capacity → length held ≤ 16 → (length held < 16 → r.unread ≡ [])
    → queued_from (after_clock r l) held ≡ after_clock (queued_from r held) l
clocked r held l some few none = sym
    (ap {B = ReceiverState} (λ (h : Heard). with (queued_from r held) (arrive (r.capacity + 16) (held ++ r.unread) h.arrived) l h.doing) (heard_queued r held r.previous r.doing l)
    ∙ ap {B = ReceiverState} (λ us. with (queued_from r held) us l (hears r l).doing) (arrive_queued held r.unread (hears r l).arrived r.capacity some few none))
