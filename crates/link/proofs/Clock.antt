-- A receive clock in a frame that meets the sampling condition: the sender holds the bit that is sampled.
use Rattle.std.proofs.Common.{◌≡◌, ℕ, suc, ◌+◌, ◌*◌, ◌^◌, ◌<◌, ◌≤◌, List, [], ◌∷◌, ◌++◌, length, get_or, take, replicate, sym, refl, ap, ◌∙◌, subst, ap₂, ⊎_elim, add-one, arith, length-append}
use lib.ListN.{length-replicate}
use Rattle.std.proofs.lemmas.List.{get_or_append_left, get_or_push, length_push}
use Rattle.std.proofs.lemmas.Bool.{cases_lt}
use Rattle.line.specs.declared.level.Level.{Level}
use Rattle.line.specs.declared.level.Level.TheVariants.{Mark}
use Rattle.line.specs.Frames.{first_stop, frame, width, stop_count}
use Rattle.line.specs.Formats.{Agree}
use Rattle.ends.specs.Times.{sum, start_of}
use Rattle.ends.specs.Sender.{SenderState, SoundSender, frame_levels}
use Rattle.ends.specs.Receiver.{ReceiverState, SoundReceiver, Entry, idle, framing, Heard, nothing, heard_in_frame, after_frame, first_sample, third_sample, last_sample, falling_on, falling_before, taken_now}
use Rattle.link.specs.Sampling.{Holds, Edge, SampledFrame}
use Rattle.line.proofs.Bits.{through, through_length, frame_length, frame_fits, frame_through, frame_stops, front, front_length, through_front, stop_some, agree_first_stop, agree_width, agree_through}
use Rattle.ends.proofs.Held.{level_at, marks_from, held_length, sum_mono}
use Rattle.ends.proofs.Sampling.{before_more, Taken, Taking, taken_more, all_by_last, not_all_before, sound_rising}
use Rattle.ends.proofs.Entries.{entry_is}
use Rattle.link.proofs.InFrame.{ends, goes_on}

module _ (s : SenderState) (oks : SoundSender s) where
  -- the line while bit k is held
  pub level_held : (c k j : ℕ) → k ≤ first_stop s.format → start_of s.lengths k ≤ j → j < start_of s.lengths (k + 1)
      → get_or (frame_levels s c) j Mark ≡ get_or (through s.format c) k Mark
  level_held c k j bit from to =
      let f = s.format in
      let one : sum (take (k + 1) s.lengths) ≡ sum (take (suc k) s.lengths) = ap (λ (x : ℕ). sum (take x s.lengths)) (add-one k) in
      level_at k s.lengths (frame f c) j Mark
      (omega (arith, bit, frame_length f c, stop_some f.stops))
      (omega (arith, frame_fits f c, oks.thirteen)) from (omega (arith, to, one))
      ∙ frame_through f c k Mark bit

  -- the line from the first stop bit on
  pub level_stopped : (c j : ℕ) → start_of s.lengths (first_stop s.format) ≤ j → get_or (frame_levels s c) j Mark ≡ Mark
  level_stopped c j from = marks_from (first_stop s.format) s.lengths (frame s.format c) (stop_count s.format.stops) j (frame_stops s.format c) from

  -- a frame lasts through its first stop bit
  pub lasts : (c : ℕ) → start_of s.lengths (first_stop s.format + 1) ≤ length (frame_levels s c)
  lasts c =
      let f = s.format in
      let n : length (frame_levels s c) ≡ sum (take (length (frame f c)) s.lengths) = held_length s.lengths (frame f c) in
      let k : sum (take (first_stop f + 1) s.lengths) ≤ sum (take (length (frame f c)) s.lengths) =
      sum_mono (first_stop f + 1) (length (frame f c)) s.lengths (omega (arith, frame_length f c, stop_some f.stops)) in
      omega (arith, n, k)

module _ (s : SenderState) (r : ReceiverState) (given : List ℕ) (sends q e n : ℕ)
    (timely : (i : ℕ) → i < length given → get_or given i 0 ≤ sends)
    (sampled : SampledFrame s r (λ i. get_or (given ++ (sends ∷ [])) i 0) sends (length (given ++ (sends ∷ []))) q)
    (edge : Edge s (λ i. get_or (given ++ (sends ∷ [])) i 0) (length (given ++ (sends ∷ []))) q e)
    (clocks : length given ≡ e + n) where
  timely_more : (i : ℕ) → i < length (given ++ (sends ∷ [])) → get_or (given ++ (sends ∷ [])) i 0 ≤ sends
  timely_more i h = ⊎_elim
      (λ (z : i < length given). omega (arith, timely i z, get_or_append_left given (sends ∷ []) 0 i z))
      (λ (z : length given ≤ i). omega (arith, get_or_push given sends 0 i (omega (arith, z, h, length_push given sends))))
      (cases_lt i (length given))

  -- the bit of which a sample is taken at this clock is held
  pub holds_taken : (k : ℕ) → Taking r n k → Holds s q k sends
  holds_taken k t = record {
    entered =
        let in_time : e + first_sample r k < length (given ++ (sends ∷ [])) = omega (arith, t.begun, clocks, length_push given sends) in
        omega (arith, sampled.not_early e k edge t.bit in_time, timely_more (e + first_sample r k) in_time);
    not_left = ⊎_elim
        (λ (z : q + start_of s.lengths (k + 1) < sends). absurd
        (let late = sampled.not_late e k edge t.bit z in
        let now : e + third_sample r k ≡ length given = omega (arith, late.0, t.unended, clocks, length_push given sends) in
        omega (arith, z, late.1, get_or_push given sends 0 (e + third_sample r k) (sym now))))
        (λ (z : sends ≤ q + start_of s.lengths (k + 1)). z)
        (cases_lt (q + start_of s.lengths (k + 1)) sends);
  }

through_stop : (s : SenderState) (c : ℕ) → get_or (through s.format c) (first_stop s.format) Mark ≡ Mark
through_stop s c =
    ap (λ (l : List Level). get_or l (first_stop s.format) Mark) (through_front s.format c)
    ∙ get_or_push (front s.format c) Mark Mark (first_stop s.format) (front_length s.format c)

module _ (s : SenderState) (oks : SoundSender s) (r : ReceiverState) (okr : SoundReceiver r) (agree : Agree s.format r.format)
    (given : List ℕ) (sends q e n : ℕ)
    (timely : (i : ℕ) → i < length given → get_or given i 0 ≤ sends)
    (sampled : SampledFrame s r (λ i. get_or (given ++ (sends ∷ [])) i 0) sends (length (given ++ (sends ∷ []))) q)
    (edge : Edge s (λ i. get_or (given ++ (sends ∷ [])) i 0) (length (given ++ (sends ∷ []))) q e)
    (clocks : length given ≡ e + n)
    (j c : ℕ) (l : Level) (at : sends ≡ q + suc j) (line : l ≡ get_or (frame_levels s c) j Mark)
    (ls : List Level) (taken : Taken ls (through r.format c)) (amount : length ls ≡ falling_before n r.samples) where
  -- what a sample taken at this clock reads
  reads_bit : (k : ℕ) → Taking r n k → l ≡ get_or (through r.format c) k Mark
  reads_bit k t =
      let h : Holds s q k sends = holds_taken s r given sends q e n timely sampled edge clocks k t in
      line
      ∙ level_held s oks c k j (omega (arith, t.bit, agree_first_stop s.format r.format agree)) (omega (arith, h.entered, at)) (omega (arith, h.not_left, at))
      ∙ ap (λ (bs : List Level). get_or bs k Mark) (agree_through s.format r.format c agree)

  now_taken : Taken (taken_now r.samples n ls l) (through r.format c)
  now_taken = taken_more r okr n ls (through r.format c) l taken amount reads_bit

  now_amount : length (taken_now r.samples n ls l) ≡ falling_before (suc n) r.samples
  now_amount = omega (arith, amount, length-append ls (replicate (falling_on n r.samples) l), length-replicate (falling_on n r.samples) l, before_more n r.samples)

  pub clock_goes_on : n < last_sample r
      → (heard_in_frame r.format n (taken_now r.samples n ls l) ≡ nothing (framing n (taken_now r.samples n ls l))) × Taken (taken_now r.samples n ls l) (through r.format c) × (length (taken_now r.samples n ls l) ≡ falling_before (suc n) r.samples)
  clock_goes_on h =
      (goes_on r.format n (taken_now r.samples n ls l) (through r.format c) now_taken (omega (arith, now_amount, not_all_before r okr (suc n) (omega (arith, h)))) refl, now_taken, now_amount)

  pub clock_ends : n ≡ last_sample r → c < 2 ^ width s.format
      → (heard_in_frame r.format n (taken_now r.samples n ls l) ≡ record { doing = idle; arrived = (c, 0) ∷ [] }) × (l ≡ Mark) × (q + start_of s.lengths (first_stop s.format) < sends)
  clock_ends h narrow =
      let f = r.format in
      let t : Taking r n (first_stop f) = record {
        bit = omega arith;
        begun = omega (arith, h, sound_rising r okr (3 * first_stop f) (3 * first_stop f + 2) (omega arith) (omega (arith, okr.all_samples)));
        unended = omega (arith, h);
      } in
      let narrow_here : c < 2 ^ width f = subst (λ (w : ℕ). c < 2 ^ w) (agree_width s.format f agree) narrow in
      let made = ends f n (taken_now r.samples n ls l) (through f c) now_taken (omega (arith, now_amount, all_by_last r okr (suc n) (omega (arith, h)), through_length f c)) (through_length f c) in
      let held : Holds s q (first_stop f) sends = holds_taken s r given sends q e n timely sampled edge clocks (first_stop f) t in
      let same : first_stop s.format ≡ first_stop f = agree_first_stop s.format f agree in (
        made ∙ ap (λ (x : Entry). ended_with x) (entry_is f c narrow_here),
        reads_bit (first_stop f) t ∙ ap₂ (λ (bs : List Level) (k : ℕ). get_or bs k Mark) (sym (agree_through s.format f c agree)) (sym same) ∙ through_stop s c,
        subst (λ (k : ℕ). q + start_of s.lengths k < sends) (sym same) held.entered,
      )
    where
      ended_with : Entry → Heard
      ended_with x = record { doing = after_frame x; arrived = x ∷ [] }
