-- What Fit answers.
use Rattle.std.specs.Prelude.{ℕ, zero, suc, ◌+◌, ◌*◌, Bool, if◌then◌else◌, ◌&&◌, Ok, Err, Result, nat_le, nat_lt}
use Rattle.line.specs.declared.refusal.Refusal.{Refusal}
use Rattle.line.specs.declared.refusal.Refusal.TheVariants.{OutOfRange, FormatsDiffer}
use Rattle.line.specs.Formats.{agree}
use Rattle.line.specs.Frames.{first_stop}
use Rattle.ends.specs.Times.{start_of}
use Rattle.ends.specs.Sender.{SenderState}
use Rattle.ends.specs.Receiver.{ReceiverState, first_sample, third_sample}
use Rattle.link.specs.declared.rates.Verdict.{Verdict}
use Rattle.link.specs.declared.rates.Verdict.TheVariants.{Passes, Early, Late}

-- the lowest of n bits, from bit k on, that is early or late, early first
abbrev pub judged : SenderState → ReceiverState → ℕ → ℕ → ℕ → ℕ → Verdict
judged s r a b k zero = Passes
judged s r a b k (suc n) =
    if nat_lt (first_sample r k * a) (start_of s.lengths k * b) then Early k
    else if nat_lt (start_of s.lengths (k + 1) * b) ((third_sample r k + 1) * a) then Late k
    else judged s r a b (k + 1) n

-- where bit k ends, if it is neither early nor late
abbrev pub bit_judged : SenderState → ReceiverState → ℕ → ℕ → ℕ → Result ℕ Verdict
bit_judged s r a b k =
    if nat_lt (first_sample r k * a) (start_of s.lengths k * b) then Err (Early k)
    else if nat_lt (start_of s.lengths (k + 1) * b) ((third_sample r k + 1) * a) then Err (Late k)
    else Ok (start_of s.lengths (k + 1))

abbrev pub rate_in_range : ℕ → Bool
rate_in_range n = nat_le 1 n && nat_le n 16777216

abbrev pub fit_answer : SenderState → ReceiverState → ℕ → ℕ → Result Verdict Refusal
fit_answer s r a b =
    if rate_in_range a && rate_in_range b then
    (if agree s.format r.format then Ok (judged s r a b 0 (1 + first_stop r.format)) else Err FormatsDiffer)
    else Err OutOfRange
