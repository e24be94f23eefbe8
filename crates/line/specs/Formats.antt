-- A format by plain numbers, and when two formats agree.
use Rattle.std.specs.Prelude.{◌≡◌, ℕ, Bool, true, false, if◌then◌else◌, not, ◌&&◌, Result, MatchResult}
use Rattle.line.specs.declared.refusal.Refusal.{Refusal}
use Rattle.line.specs.declared.refusal.Refusal.TheVariants.{OutOfRange}
use Rattle.line.specs.Frames.{data_count, stop_count}
use Rattle.line.specs.declared.format.DataBits.{DataBits}
use Rattle.line.specs.declared.format.DataBits.TheVariants.{Seven, Eight}
use Rattle.line.specs.declared.format.Parity.{Parity}
use Rattle.line.specs.declared.format.Parity.TheVariants.{Absent, Odd, Even}
use Rattle.line.specs.declared.format.Format.{Format}

abbrev pub parity_number : Parity → ℕ
parity_number Absent = 0
parity_number Odd = 1
parity_number Even = 2

-- how many address bits there are
abbrev pub address_count : Bool → ℕ
address_count a = if a then 1 else 0

-- the one that has this number, or a refusal where none has it
abbrev pub NumberedBy : {A : Type 0} → (A → ℕ) → ℕ → Result A Refusal → Type 0
NumberedBy {A} number n r = MatchResult r (λ x. number x ≡ n) (λ e. (e ≡ OutOfRange) × ((x : A) → number x ≡ n → ⊥))

-- these are the format's numbers: its data bits, address bits, parity and stop bits
pub record Numbers (f : Format) (data_bits address_bits parity stop_bits : ℕ) : Type 0 where
  pub of_size : data_count f.size ≡ data_bits
  pub of_address : address_count f.address ≡ address_bits
  pub of_parity : parity_number f.parity ≡ parity
  pub of_stops : stop_count f.stops ≡ stop_bits

-- formats agree where they differ in nothing but the stop bits
pub record Agree (f g : Format) : Type 0 where
  pub size : f.size ≡ g.size
  pub address : f.address ≡ g.address
  pub parity : f.parity ≡ g.parity

abbrev pub same_size : DataBits → DataBits → Bool
same_size Seven Seven = true
same_size Seven Eight = false
same_size Eight Seven = false
same_size Eight Eight = true

abbrev pub same_address : Bool → Bool → Bool
same_address true b = b
same_address false b = not b

abbrev pub same_parity : Parity → Parity → Bool
same_parity Absent Absent = true
same_parity Absent Odd = false
same_parity Absent Even = false
same_parity Odd Absent = false
same_parity Odd Odd = true
same_parity Odd Even = false
same_parity Even Absent = false
same_parity Even Odd = false
same_parity Even Even = true

-- whether they agree
abbrev pub agree : Format → Format → Bool
agree f g = same_size f.size g.size && (same_address f.address g.address && same_parity f.parity g.parity)
