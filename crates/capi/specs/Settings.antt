-- The times of an end that is given as plain numbers, and the number of an answer.
use Rattle.std.specs.Prelude.{◌≡◌, ℕ, Bool, true, false, if◌then◌else◌, List, ◌++◌, drop, Ok, Err, Result, MatchResult, ◌==◌, nat_le}
use Rattle.line.specs.declared.refusal.Refusal.{Refusal}
use Rattle.line.specs.declared.refusal.Refusal.TheVariants.{OutOfRange}
use Rattle.line.specs.Refusals.{number_of}
use Rattle.line.specs.declared.format.DataBits.{DataBits}
use Rattle.line.specs.declared.format.DataBits.TheVariants.{Seven, Eight}
use Rattle.line.specs.declared.format.Parity.{Parity}
use Rattle.line.specs.declared.format.Parity.TheVariants.{Absent, Odd, Even}
use Rattle.line.specs.declared.format.StopBits.{StopBits}
use Rattle.line.specs.declared.format.StopBits.TheVariants.{One, Two}
use Rattle.line.specs.declared.format.Format.{Format}
use Rattle.ends.specs.declared.bare_sender.BareSender.{BareSender}
use Rattle.ends.specs.declared.bare_receiver.BareReceiver.{BareReceiver}
use Rattle.ends.specs.Times.{Times}
use Rattle.ends.specs.Sender.{SenderState}
use Rattle.ends.specs.Receiver.{ReceiverState}
use Rattle.ends.specs.BareSender.{meant as sending, resting as sender_at}
use Rattle.ends.specs.BareReceiver.{meant as receiving, resting as receiver_at}
use Rattle.usart.specs.Usart.{usart_times}
use Rattle.capi.specs.declared.numbers.EndNumbers.{EndNumbers}

-- what is answered, and then what follows from it
abbrev pub and_then : {A B : Type 0} → Result A Refusal → (A → Result B Refusal) → Result B Refusal
and_then (Ok x) next = next x
and_then (Err e) next = Err e

-- 0 for an answer, else the refusal's number
abbrev pub answer_number : {A : Type 0} → Result A Refusal → ℕ
answer_number (Ok x) = 0
answer_number (Err e) = number_of e

-- the list stands first, as long as the answer says, and the rest is kept; a refusal writes nothing
abbrev pub Filled : {A : Type 0} → Result ℕ Refusal → List A → List A → List A → Type 0
Filled r list new old = MatchResult r (λ n. new ≡ list ++ drop n old) (λ _. new ≡ old)

-- what is answered stands in the place, and a refusal writes nothing
abbrev pub Told : {A : Type 0} → Result A Refusal → A → A → Type 0
Told r new old = MatchResult r (λ x. new ≡ x) (λ _. new ≡ old)

abbrev pub size_of : ℕ → Result DataBits Refusal
size_of n = if n == 7 then Ok Seven else (if n == 8 then Ok Eight else Err OutOfRange)

abbrev pub address_of : ℕ → Result Bool Refusal
address_of n = if n == 0 then Ok false else (if n == 1 then Ok true else Err OutOfRange)

abbrev pub parity_of : ℕ → Result Parity Refusal
parity_of n = if n == 0 then Ok Absent else (if n == 1 then Ok Odd else (if n == 2 then Ok Even else Err OutOfRange))

abbrev pub stops_of : ℕ → Result StopBits Refusal
stops_of n = if n == 1 then Ok One else (if n == 2 then Ok Two else Err OutOfRange)

abbrev pub format_of : ℕ → ℕ → ℕ → ℕ → Result Format Refusal
format_of d a p s =
    and_then (size_of d) (λ size. and_then (address_of a) (λ address. and_then (parity_of p) (λ parity. and_then (stops_of s) (λ stops.
    Ok (record { size = size; address = address; parity = parity; stops = stops })))))

-- what two bare ends mean
abbrev pub bare_states : Result (BareSender × BareReceiver) Refusal → Result (SenderState × ReceiverState) Refusal
bare_states (Ok p) = Ok (sending p.0, receiving p.1)
bare_states (Err e) = Err e

-- the times of a USART with these numbers, or that one of them is out of range
unfoldable pub end_times : EndNumbers → Result Times Refusal
end_times e =
    and_then (format_of e.data_bits e.address_bits e.parity e.stop_bits) (λ f.
    if nat_le 3 e.divider then Ok (usart_times f e.divider e.modulator) else Err OutOfRange)

-- a bare sender and a bare receiver at rest with these numbers
abbrev pub ends_at : EndNumbers → EndNumbers → Result (SenderState × ReceiverState) Refusal
ends_at s r = and_then (end_times s) (λ t. and_then (end_times r) (λ u. Ok (sender_at t, receiver_at u)))
