-- The worked cases, computed.
use Rattle.std.proofs.Common.{refl}
use Rattle.port.specs.Port.{samples}
use Rattle.usart.specs.Usart.{lengths, power_within}
use Rattle.lock.specs.Worked.{Worked}

pub worked : Worked
unfolding lengths power_within samples
worked = record {
  lengths_at_6 = refl;
  lengths_at_54 = refl;
  frame_of_41 = refl;
  clocks_of_41 = refl;
  samples_of_bit_4 = refl;
  samples_of_bit_9 = refl;
  distance_at_63 = refl;
  distance_at_64 = refl;
  distance_at_65536 = refl;
  addressed_41 = refl;
  parity_of_141 = refl;
  break_after_60 = refl;
  no_break_after_59 = refl;
  false_start = refl;
  fit_at_54_to_53 = refl;
  fit_at_53_to_52 = refl;
  fit_at_61_to_63 = refl;
  fit_at_60_to_63 = refl;
  fit_to_the_laptop = refl;
}
