-- The format that has these plain numbers, and the times of an end that has them.
use Rattle.std.proofs.Common.{◌≡◌, ℕ, ◌<◌, ◌≤◌, Bool, true, false, if◌then◌else◌, ◌==◌, nat_le, Ok, Err, Result, sym, refl, ap, ◌∙◌, ap₂, MatchResult}
use Rattle.std.proofs.lemmas.Bool.{eqb-true, le-leb, lt-leb}
use Rattle.line.specs.declared.refusal.Refusal.{Refusal}
use Rattle.line.specs.declared.refusal.Refusal.TheVariants.{OutOfRange}
use Rattle.line.specs.declared.format.DataBits.{DataBits}
use Rattle.line.specs.declared.format.DataBits.TheVariants.{Seven, Eight}
use Rattle.line.specs.declared.format.Parity.{Parity}
use Rattle.line.specs.declared.format.Parity.TheVariants.{Absent, Odd, Even}
use Rattle.line.specs.declared.format.StopBits.{StopBits}
use Rattle.line.specs.declared.format.StopBits.TheVariants.{One, Two}
use Rattle.line.specs.declared.format.Format.{Format}
use Rattle.line.specs.Frames.{data_count, stop_count}
use Rattle.line.specs.Formats.{Numbers, parity_number}
use Rattle.ends.specs.Times.{Times}
use Rattle.usart.specs.Usart.{usart_times}
use Rattle.capi.specs.declared.numbers.EndNumbers.{EndNumbers}
use Rattle.capi.specs.Settings.{and_then, size_of, address_of, parity_of, stops_of, format_of, end_times}

size_named : (x : DataBits) (n : ℕ) → data_count x ≡ n → size_of n ≡ Ok x
size_named Seven n e = sym (ap size_of e)
size_named Eight n e = sym (ap size_of e)

address_named : (x : Bool) (n : ℕ) → (if x then 1 else 0) ≡ n → address_of n ≡ Ok x
address_named true n e = sym (ap address_of e)
address_named false n e = sym (ap address_of e)

parity_named : (x : Parity) (n : ℕ) → parity_number x ≡ n → parity_of n ≡ Ok x
parity_named Absent n e = sym (ap parity_of e)
parity_named Odd n e = sym (ap parity_of e)
parity_named Even n e = sym (ap parity_of e)

stops_named : (x : StopBits) (n : ℕ) → stop_count x ≡ n → stops_of n ≡ Ok x
stops_named One n e = sym (ap stops_of e)
stops_named Two n e = sym (ap stops_of e)

-- the format of four parts
abbrev made : Result DataBits Refusal → Result Bool Refusal → Result Parity Refusal → Result StopBits Refusal → Result Format Refusal
made d a p s =
    and_then d (λ size. and_then a (λ address. and_then p (λ parity. and_then s (λ stops.
    Ok (record { size = size; address = address; parity = parity; stops = stops })))))

pub named : (f : Format) (d a p s : ℕ) → Numbers f d a p s → format_of d a p s ≡ Ok f
named f d a p s h =
    ap₂ {C = Result Format Refusal} (λ x y. made x y (parity_of p) (stops_of s)) (size_named f.size d h.of_size) (address_named f.address a h.of_address)
    ∙ ap₂ {C = Result Format Refusal} (λ x y. made (Ok f.size) (Ok f.address) x y) (parity_named f.parity p h.of_parity) (stops_named f.stops s h.of_stops)

-- a part that is not out of range has the number
abbrev Known : {A : Type 0} → (A → ℕ) → ℕ → Result A Refusal → Type 0
Known number n r = MatchResult r (λ x. number x ≡ n) (λ e. e ≡ OutOfRange)

tried : {A : Type 0} (number : A → ℕ) (n k : ℕ) (x : A) (rest : Result A Refusal) → number x ≡ k → Known number n rest
    → Known number n (if n == k then Ok x else rest)
tried number n k x rest is other =
    at (n == k) refl
  where
    at : (b : Bool) → (n == k) ≡ b → Known number n (if b then Ok x else rest)
    at true e = is ∙ sym (eqb-true n k e)
    at false e = other

abbrev address_number : Bool → ℕ
address_number b = if b then 1 else 0

size_known : (n : ℕ) → Known data_count n (size_of n)
size_known n = tried data_count n 7 Seven _ refl (tried data_count n 8 Eight _ refl refl)

address_known : (n : ℕ) → Known address_number n (address_of n)
address_known n = tried address_number n 0 false _ refl (tried address_number n 1 true _ refl refl)

parity_known : (n : ℕ) → Known parity_number n (parity_of n)
parity_known n = tried parity_number n 0 Absent _ refl (tried parity_number n 1 Odd _ refl (tried parity_number n 2 Even _ refl refl))

stops_known : (n : ℕ) → Known stop_count n (stops_of n)
stops_known n = tried stop_count n 1 One _ refl (tried stop_count n 2 Two _ refl refl)

pub unnamed : (d a p s : ℕ) → ((f : Format) → Numbers f d a p s → ⊥) → format_of d a p s ≡ Err OutOfRange
unnamed d a p s none =
    at (size_of d) (address_of a) (parity_of p) (stops_of s) (size_known d) (address_known a) (parity_known p) (stops_known s)
  where
    at : (x : Result DataBits Refusal) (y : Result Bool Refusal) (z : Result Parity Refusal) (w : Result StopBits Refusal)
        → Known data_count d x → Known address_number a y → Known parity_number p z → Known stop_count s w
        → made x y z w ≡ Err OutOfRange
    at (Err e) y z w i j k l = ap {B = Result Format Refusal} (λ r. Err r) i
    at (Ok x) (Err e) z w i j k l = ap {B = Result Format Refusal} (λ r. Err r) j
    at (Ok x) (Ok y) (Err e) w i j k l = ap {B = Result Format Refusal} (λ r. Err r) k
    at (Ok x) (Ok y) (Ok z) (Err e) i j k l = ap {B = Result Format Refusal} (λ r. Err r) l
    at (Ok x) (Ok y) (Ok z) (Ok w) i j k l =
        absurd (none (record { size = x; address = y; parity = z; stops = w }) (record { of_size = i; of_address = j; of_parity = k; of_stops = l }))

-- the times of an end with a format, where its divider is large enough
abbrev timed : EndNumbers → Bool → Format → Result Times Refusal
timed e enough f = if enough then Ok (usart_times f e.divider e.modulator) else Err OutOfRange

pub no_format : (e : EndNumbers) → ((f : Format) → Numbers f e.data_bits e.address_bits e.parity e.stop_bits → ⊥) → end_times e ≡ Err OutOfRange
unfolding end_times
no_format e none =
    ap (λ r. and_then r (timed e (nat_le 3 e.divider)))
    (unnamed e.data_bits e.address_bits e.parity e.stop_bits none)

at_format : (e : EndNumbers) (f : Format) → Numbers f e.data_bits e.address_bits e.parity e.stop_bits
    → end_times e ≡ timed e (nat_le 3 e.divider) f
unfolding end_times
at_format e f h =
    ap (λ r. and_then r (timed e (nat_le 3 e.divider)))
    (named f e.data_bits e.address_bits e.parity e.stop_bits h)

pub too_small : (e : EndNumbers) (f : Format) → Numbers f e.data_bits e.address_bits e.parity e.stop_bits → e.divider < 3 → end_times e ≡ Err OutOfRange
too_small e f h small =
    at_format e f h ∙ ap (λ b. timed e b f) (lt-leb 3 e.divider small)

pub in_range : (e : EndNumbers) (f : Format) → Numbers f e.data_bits e.address_bits e.parity e.stop_bits → 3 ≤ e.divider
    → end_times e ≡ Ok (usart_times f e.divider e.modulator)
in_range e f h enough =
    at_format e f h ∙ ap (λ b. timed e b f) (le-leb 3 e.divider enough)
