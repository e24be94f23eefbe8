-- What holds of a chip in reset.
use Rattle.std.proofs.Common.{◌≡◌, false, is_some, Some, None, Option, option_map, refl, ap}
use Rattle.chip.specs.declared.receive.Receive.{Receive}
use Rattle.chip.specs.declared.pair.Ends.{Ends}
use Rattle.chip.specs.declared.chip.Chip.{Chip}
use Rattle.chip.specs.Receiving.{cleared}
use Rattle.chip.specs.Pairs.{ends_of}
use Rattle.chip.specs.Chips.{chip_of, holding, released}
use Rattle.chip.specs.Laws.{Rests}

pub rests : (k : Chip) → released (chip_of k) ≡ false → Rests (chip_of k)
rests k = go k.ends k.clear
  where
    go : (o : Option Ends) → (o ≡ None → (k.receive ≡ cleared k.receive) × (k.transmit.txwake ≡ false)) → is_some (option_map ends_of o) ≡ false
        → Rests (holding k.mode k.transmit k.receive k.rate (option_map ends_of o))
    go None clear held =
        let same = (clear refl).0 in
        record {
          utxifg = refl;
          txept = refl;
          urxifg = ap (λ (r : Receive). r.urxifg) same;
          fe = ap (λ (r : Receive). r.fe) same;
          pe = ap (λ (r : Receive). r.pe) same;
          oe = ap (λ (r : Receive). r.oe) same;
          brk = ap (λ (r : Receive). r.brk) same;
          rxwake = ap (λ (r : Receive). r.rxwake) same;
          txwake = (clear refl).1;
          level = refl;
          clock = λ l. refl;
        }
    go (Some e) clear held = cc
