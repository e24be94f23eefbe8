-- The names of formats.
use Rattle.std.specs.Prelude.{◌≡◌, ◌≢◌, ℕ, Bool, List, [], ◌∷◌, ◌++◌, Option, MatchOption, if◌then◌else◌}
use Rattle.line.specs.declared.format.DataBits.{DataBits}
use Rattle.line.specs.declared.format.DataBits.TheVariants.{Seven, Eight}
use Rattle.line.specs.declared.format.Parity.{Parity}
use Rattle.line.specs.declared.format.Parity.TheVariants.{Absent, Odd, Even}
use Rattle.line.specs.declared.format.StopBits.{StopBits}
use Rattle.line.specs.declared.format.StopBits.TheVariants.{One, Two}
use Rattle.line.specs.declared.format.Format.{Format}

-- the letters, in ASCII: 7, 8, N, O, E, 1 and 2
abbrev pub size_letter : DataBits → ℕ
size_letter Seven = 0x37
size_letter Eight = 0x38

abbrev pub parity_letter : Parity → ℕ
parity_letter Absent = 0x4e
parity_letter Odd = 0x4f
parity_letter Even = 0x45

abbrev pub stops_letter : StopBits → ℕ
stops_letter One = 0x31
stops_letter Two = 0x32

-- 8N1 is 8 data bits, no parity, one stop bit; 8AN1 has an address bit too
abbrev pub name_of : Format → List ℕ
name_of f = size_letter f.size ∷ ((if f.address then 0x41 ∷ [] else []) ++ (parity_letter f.parity ∷ (stops_letter f.stops ∷ [])))

-- the answer is what has this name, or none where nothing has it
abbrev pub NamedBy : {A B : Type 0} → (A → B) → B → Option A → Type 0
NamedBy {A} name n r = MatchOption r ((x : A) → name x ≢ n) (λ x. name x ≡ n)

-- these are the format's letters
pub record Form (f : Format) (size : ℕ) (address : Bool) (parity stops : ℕ) : Type 0 where
  pub of_size : size_letter f.size ≡ size
  pub of_address : f.address ≡ address
  pub of_parity : parity_letter f.parity ≡ parity
  pub of_stops : stops_letter f.stops ≡ stops
