-- Cases worked out by hand, as statements about the rules.
use Rattle.std.specs.Prelude.{◌≡◌, ℕ, ◌*◌, false, List, [], ◌∷◌, ◌++◌, length, take, drop, replicate, Ok, Result}
use Rattle.line.specs.declared.level.Level.{Level}
use Rattle.line.specs.declared.level.Level.TheVariants.{Space, Mark}
use Rattle.line.specs.declared.format.DataBits.TheVariants.{Eight}
use Rattle.line.specs.declared.format.Parity.TheVariants.{Absent, Even}
use Rattle.line.specs.declared.format.StopBits.TheVariants.{One}
use Rattle.line.specs.declared.format.Format.{Format}
use Rattle.line.specs.Levels.{low_bits}
use Rattle.line.specs.Frames.{frame, parity_bits}
use Rattle.ends.specs.Times.{Times, held}
use Rattle.ends.specs.Receiver.{Entry}
use Rattle.ends.specs.BareSender.{resting as sender_at}
use Rattle.ends.specs.BareReceiver.{resting}
use Rattle.ends.specs.Runs.{taken_down}
use Rattle.line.specs.declared.refusal.Refusal.{Refusal}
use Rattle.link.specs.declared.rates.Verdict.{Verdict}
use Rattle.link.specs.declared.rates.Verdict.TheVariants.{Passes, Early, Late}
use Rattle.link.specs.Judging.{fit_answer}
use Rattle.port.specs.Port.{port_times}
use Rattle.usart.specs.Usart.{lengths, distance, usart_times}

-- 8 data bits, no address bit, no parity, one stop bit
abbrev pub eight_n_one : Format
eight_n_one = record { size = Eight; address = false; parity = Absent; stops = One }

-- the levels of a character's frame, at these times
abbrev pub sent_at : Times → ℕ → List Level
sent_at t c = held t.lengths (frame t.format c)

-- the three samples of a bit
abbrev pub samples_of : Times → ℕ → List ℕ
samples_of t k = take 3 (drop (3 * k) t.samples)

-- what a new receiver takes down at divider 3 with no modulation
abbrev pub heard_at_3 : List Level → List Entry
heard_at_3 ls = taken_down (resting (usart_times eight_n_one 3 0)) ls

-- what Fit says of the lock's port, sending to its like
abbrev pub fit_with_itself : ℕ → ℕ → Result Verdict Refusal
fit_with_itself a b = fit_answer (sender_at (usart_times eight_n_one 6 0x6f)) (resting (usart_times eight_n_one 6 0x6f)) a b

pub record Worked : Type 0 where
  pub lengths_at_6 : lengths 6 0x6f 8 ≡ 7 ∷ (7 ∷ (7 ∷ (7 ∷ (6 ∷ (7 ∷ (7 ∷ (6 ∷ [])))))))
  pub lengths_at_54 : lengths 54 0xd5 8 ≡ 55 ∷ (54 ∷ (55 ∷ (54 ∷ (55 ∷ (54 ∷ (55 ∷ (55 ∷ [])))))))
  pub frame_of_41 : sent_at (usart_times eight_n_one 6 0x6f) 0x41
      ≡ replicate 7 Space ++ (replicate 7 Mark ++ (replicate 34 Space ++ (replicate 6 Mark ++ (replicate 7 Space ++ replicate 7 Mark))))
  pub clocks_of_41 : length (sent_at (usart_times eight_n_one 6 0x6f) 0x41) ≡ 68
  pub samples_of_bit_4 : samples_of (usart_times eight_n_one 6 0x6f) 4 ≡ 30 ∷ (31 ∷ (32 ∷ []))
  pub samples_of_bit_9 : samples_of (usart_times eight_n_one 6 0x6f) 9 ≡ 63 ∷ (64 ∷ (65 ∷ []))
  pub distance_at_63 : distance 63 ≡ 1
  pub distance_at_64 : distance 64 ≡ 2
  pub distance_at_65536 : distance 65536 ≡ 2048
  -- 41h with its address bit set is 141h
  pub addressed_41 : low_bits 9 0x141 ≡ low_bits 8 0x41 ++ (Mark ∷ [])
  pub parity_of_141 : parity_bits Even (low_bits 9 0x141) ≡ Mark ∷ []
  pub break_after_60 : heard_at_3 (replicate 60 Space) ≡ (0, 4) ∷ ((0, 8) ∷ [])
  pub no_break_after_59 : heard_at_3 (replicate 59 Space) ≡ (0, 4) ∷ []
  pub false_start : heard_at_3 (Space ∷ (Mark ∷ (Mark ∷ []))) ≡ []
  pub fit_at_54_to_53 : fit_with_itself 54 53 ≡ Ok Passes
  pub fit_at_53_to_52 : fit_with_itself 53 52 ≡ Ok (Late 7)
  pub fit_at_61_to_63 : fit_with_itself 61 63 ≡ Ok Passes
  pub fit_at_60_to_63 : fit_with_itself 60 63 ≡ Ok (Early 6)
  -- to a laptop's port with divider 24
  pub fit_to_the_laptop : fit_answer (sender_at (usart_times eight_n_one 6 0x6f)) (resting (port_times eight_n_one 24)) 32768 1843200 ≡ Ok Passes
