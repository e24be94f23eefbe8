-- Formats that are found to agree do agree.
use Rattle.std.proofs.Common.{◌≡◌, Bool, true, false, ◌&&◌, refl}
use Rattle.std.proofs.lemmas.Bool.{and_parts}
use Rattle.line.specs.declared.format.DataBits.{DataBits}
use Rattle.line.specs.declared.format.DataBits.TheVariants.{Seven, Eight}
use Rattle.line.specs.declared.format.Parity.{Parity}
use Rattle.line.specs.declared.format.Parity.TheVariants.{Absent, Odd, Even}
use Rattle.line.specs.declared.format.Format.{Format}
use Rattle.line.specs.Formats.{Agree, agree, same_size, same_address, same_parity}

size_is : (a b : DataBits) → same_size a b ≡ true → a ≡ b
size_is Seven Seven e = refl
size_is Seven Eight e = cc
size_is Eight Seven e = cc
size_is Eight Eight e = refl

address_is : (a b : Bool) → same_address a b ≡ true → a ≡ b
address_is true true e = refl
address_is true false e = cc
address_is false true e = cc
address_is false false e = refl

parity_is : (a b : Parity) → same_parity a b ≡ true → a ≡ b
parity_is Absent Absent e = refl
parity_is Absent Odd e = cc
parity_is Absent Even e = cc
parity_is Odd Absent e = cc
parity_is Odd Odd e = refl
parity_is Odd Even e = cc
parity_is Even Absent e = cc
parity_is Even Odd e = cc
parity_is Even Even e = refl

pub agreeing : (f g : Format) → agree f g ≡ true → Agree f g
agreeing f g e =
    let x = and_parts (same_size f.size g.size) (same_address f.address g.address && same_parity f.parity g.parity) e in
    let y = and_parts (same_address f.address g.address) (same_parity f.parity g.parity) x.1 in
    record {
      size = size_is f.size g.size x.0;
      address = address_is f.address g.address y.0;
      parity = parity_is f.parity g.parity y.1;
    }
