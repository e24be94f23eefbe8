-- The clock of the next sample, or bytes that end before it.
use Rattle.std.proofs.Common.{◌≡◌, ℕ, ◌+◌, ◌-◌, ◌<◌, ◌≤◌, List, length, map, take, get_or, sym, refl, ap, ◌∙◌, subst, arith, rules}
use Rattle.std.specs.Option.{option_to_list}
use Rattle.std.proofs.lemmas.List.{length-map, length-take-le, take_all}
use Rattle.line.specs.declared.level.Level.{Level}
use Rattle.line.specs.Levels.{level_of}
use Rattle.ends.specs.declared.doing.Doing.{Doing}
use Rattle.ends.specs.declared.doing.Doing.TheVariants.{Framing}
use Rattle.ends.specs.declared.samples.Samples.{Samples}
use Rattle.ends.specs.declared.bare_receiver.BareReceiver.{BareReceiver}
use Rattle.ends.specs.Receiver.{framing, nothing, heard_in_frame, falling_before, after_clock, with}
use Rattle.ends.specs.BareReceiver.{meant, doing_of}
use Rattle.ends.specs.Samples.{taken, taken_by, due_by, unsampled_by, going_by}
use Rattle.ends.specs.Times.{samples_per_frame}
use Rattle.ends.specs.Timed.{sample_clocks}
use Rattle.ends.specs.Soundness.{clocks_length, clock_at}
use Rattle.ends.proofs.Sampling.{clocks_rising, over_clock}
use Rattle.ends.proofs.Quiet.{Between, Passed, last_of, last_level, next_heard, left_at, same_before, frame_passes}
use Rattle.ends.proofs.bare_receiver.BareReceiver.hear_some.Goals as goal

-- a receiver in a frame
record Frame (r : BareReceiver) (n : ℕ) (s : Samples) : Type 0 where
  pub is : r.doing ≡ Framing n s
  pub in_step : s.count ≡ falling_before (n + 1) (sample_clocks r.timing)
  pub unended : s.count < samples_per_frame r.timing.format
  pub going : heard_in_frame r.timing.format n (taken s) ≡ nothing (framing n (taken s))
  -- the next sample's clock is ahead
  pub ahead : n < get_or r.timing.samples s.count 0

in_frame : (r : BareReceiver) (n : ℕ) (s : Samples) → r.doing ≡ Framing n s → Frame r n s
in_frame r n s is =
    let t = r.timing in
    let step : s.count ≡ falling_before (n + 1) (sample_clocks t) = subst (λ (d : Doing). taken_by d ≡ due_by (sample_clocks t) d) is r.in_step in
    let more : s.count < samples_per_frame t.format = subst (λ (d : Doing). taken_by d < samples_per_frame t.format) is r.unended in
    record {
      is = is;
      in_step = step;
      unended = more;
      going = subst (λ (d : Doing). unsampled_by t.format d ≡ going_by d) is r.going;
      ahead = omega (arith, over_clock (n + 1) (sample_clocks t) (clocks_rising t) s.count (omega (arith, more, clocks_length t)) (omega (arith, step)), clock_at t s.count more);
    }

between : (r : BareReceiver) (n k : ℕ) (s : Samples) → Frame r n s → n + k < get_or r.timing.samples s.count 0 → Between (sample_clocks r.timing) n k
between r n k s f h =
    let t = r.timing in
    record {
      rising = clocks_rising t;
      unended = omega (arith, f.in_step, f.unended, clocks_length t);
      ahead = omega (arith, h, clock_at t s.count f.unended, ap (λ (i : ℕ). get_or (sample_clocks t) i 0) f.in_step);
    }

-- the first k bytes pass it by
passes : (r : BareReceiver) (n k : ℕ) (s : Samples) (bs : List ℕ) → Frame r n s → k ≤ length bs → n + k < get_or r.timing.samples s.count 0
    → Passed (meant r) (with (meant r) (option_to_list r.unread) (last_of r.previous (map level_of (take k bs))) (framing (n + k) (taken s))) (map level_of (take k bs))
passes r n k s bs f within h =
    let us = option_to_list r.unread in
    let ls : List Level = map level_of (take k bs) in
    let long : length ls ≡ k = length-map (take k bs) level_of ∙ length-take-le k bs within in
    subst (λ (d : Doing). Passed (with (meant r) us r.previous (doing_of d)) (with (meant r) us (last_of r.previous ls) (framing (n + k) (taken s))) ls) (sym f.is)
    (subst (λ (m : ℕ). Passed (with (meant r) us r.previous (framing n (taken s))) (with (meant r) us (last_of r.previous ls) (framing (n + m) (taken s))) ls) long
    (frame_passes (meant r) us r.previous n (taken s) ls f.going (subst (λ (m : ℕ). Between (sample_clocks r.timing) n m) (sym long) (between r n k s f h))))

-- where that is the clock before the next sample's
up_to_sample : (r : BareReceiver) (n k : ℕ) (s : Samples) (bs : List ℕ) → r.doing ≡ Framing n s → k ≡ get_or r.timing.samples s.count 0 - n - 1 → k < length bs
    → Passed (meant r) (with (meant r) (option_to_list r.unread) (last_of r.previous (map level_of (take k bs))) (framing (n + k) (taken s))) (map level_of (take k bs))
up_to_sample r n k s bs is before within = let f = in_frame r n s is in passes r n k s bs f (omega (arith, within)) (omega (arith, f.ahead, before))

-- the frame k clocks later is in step, and goes on
step_later : (r : BareReceiver) (n k : ℕ) (s : Samples) → Frame r n s → n + k < get_or r.timing.samples s.count 0 → s.count ≡ falling_before (n + k + 1) (sample_clocks r.timing)
step_later r n k s f h = f.in_step ∙ sym (same_before (sample_clocks r.timing) n k (between r n k s f h))

pub overflow_sub-before : goal.overflow_sub-before
overflow_sub-before c = let f = in_frame c.args.self.now c.in-Framing.clock c.in-Framing.samples c.in-Framing.is in omega (arith, f.ahead)

pub overflow_sub-before-in-Framing : goal.overflow_sub-before-in-Framing
overflow_sub-before-in-Framing c = let f = in_frame c.args.self.now c.in-Framing.clock c.in-Framing.samples c.in-Framing.is in omega (arith, f.ahead)

pub invariant_of-self : goal.invariant_of-self
invariant_of-self c =
    let r = c.args.self.now in
    let n : ℕ = c.in-Framing.clock in
    let s = c.in-Framing.samples in
    let f = in_frame r n s c.in-Framing.is in
    record {
      in_step = step_later r n (get_or r.timing.samples s.count 0 - n - 1) s f (omega (arith, f.ahead));
      unended = f.unended;
      going = left_at r.timing.format n (n + (get_or r.timing.samples s.count 0 - n - 1)) (taken s) f.going;
      unbroken = r.timing.breaks;
    }

pub invariant_of-self-in-Some-last : goal.invariant_of-self-in-Some-last
invariant_of-self-in-Some-last c =
    let r = c.args.self.now in
    let n : ℕ = c.in-Framing.clock in
    let s = c.in-Framing.samples in
    let k : ℕ = length c.args.bytes.now in
    let f = in_frame r n s c.in-Framing.is in
    let past : k ≤ get_or r.timing.samples s.count 0 - n - 1 = search rules in
    record {
      in_step = step_later r n k s f (omega (arith, f.ahead, past));
      unended = f.unended;
      going = left_at r.timing.format n (n + k) (taken s) f.going;
      unbroken = r.timing.breaks;
    }

pub returns-in-Some-clause-state : goal.returns-in-Some-clause-state
returns-in-Some-clause-state c =
    let r = c.args.self.now in
    let n : ℕ = c.in-Framing.clock in
    let s = c.in-Framing.samples in
    let bs = c.args.bytes.now in
    let k : ℕ = get_or r.timing.samples s.count 0 - n - 1 in
    let within : k < length bs = search rules in
    let byte : c.in-Some.byte.now ≡ get_or bs k 0 = search rules in
    c.clock.ensures
    ∙ ap (λ l. after_clock (with (meant r) (option_to_list r.unread) r.previous (framing (n + k) (taken s))) l) (c.level_of.ensures ∙ ap level_of byte)
    ∙ sym (next_heard (meant r) _ bs k within (up_to_sample r n k s bs c.in-Framing.is refl within).state)

pub returns-in-Some-clause-quiet : goal.returns-in-Some-clause-quiet
returns-in-Some-clause-quiet c =
    let t = c.args.self.now.timing in
    let k : ℕ = get_or t.samples c.in-Framing.samples.count 0 - c.in-Framing.clock - 1 in
    let within : k < length c.args.bytes.now = search rules in
    (up_to_sample c.args.self.now c.in-Framing.clock (k + 1 - 1) c.in-Framing.samples c.args.bytes.now c.in-Framing.is (omega arith) (omega (arith, within))).quiet

pub returns-in-Some-last-clause-state : goal.returns-in-Some-last-clause-state
returns-in-Some-last-clause-state c =
    let r = c.args.self.now in
    let n : ℕ = c.in-Framing.clock in
    let s = c.in-Framing.samples in
    let bs = c.args.bytes.now in
    let k : ℕ = length bs in
    let f = in_frame r n s c.in-Framing.is in
    let past : k ≤ get_or r.timing.samples s.count 0 - n - 1 = search rules in
    let some : 0 < k = search rules in
    let byte : c.in-Some-last.byte.now ≡ get_or bs (k - 1) 0 = search rules in
    let p = passes r n k s bs f (omega arith) (omega (arith, f.ahead, past)) in
    let level : c.level_of-self.result ≡ last_of r.previous (map level_of (take k bs)) =
    c.level_of-self.ensures
    ∙ ap level_of byte
    ∙ sym (last_level r.previous bs some)
    ∙ sym (ap (λ (xs : List ℕ). last_of r.previous (map level_of xs)) (take_all k bs (omega arith))) in
    ap (λ l. with (meant r) (option_to_list r.unread) l (framing (n + k) (taken s))) level ∙ sym p.state

pub returns-in-Some-last-clause-quiet : goal.returns-in-Some-last-clause-quiet
returns-in-Some-last-clause-quiet c =
    let r = c.args.self.now in
    let n : ℕ = c.in-Framing.clock in
    let s = c.in-Framing.samples in
    let bs = c.args.bytes.now in
    let f = in_frame r n s c.in-Framing.is in
    let past : length bs ≤ get_or r.timing.samples s.count 0 - n - 1 = search rules in
    (passes r n (length bs - 1) s bs f (omega arith) (omega (arith, f.ahead, past))).quiet
