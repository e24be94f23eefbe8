-- A link at rest delivers, and so does a quiet one.
use Rattle.std.proofs.Common.{◌≡◌, ℕ, suc, ◌+◌, ◌^◌, ◌<◌, ◌≤◌, Bool, true, false, if◌then◌else◌, nat_le, List, [], ◌∷◌, ◌++◌, length, get_or, Ok, Err, Result, sym, refl, ap, ◌∙◌, subst, inl, inr, ⊎_elim, not-suc-le-zero, arith, get_or-take}
use Rattle.std.proofs.lemmas.List.{get_or_push, length_push}
use Rattle.std.proofs.lemmas.Bool.{cases_lt, leb-false}
use Rattle.line.specs.declared.level.Level.{Level}
use Rattle.line.specs.declared.level.Level.TheVariants.{Mark}
use Rattle.line.specs.declared.refusal.Refusal.{Refusal}
use Rattle.line.specs.declared.refusal.Refusal.TheVariants.{FormatsDiffer}
use Rattle.link.specs.declared.act.Act.{Act}
use Rattle.link.specs.declared.act.Act.TheVariants.{Load, Send, Receive, Noise, Read}
use Rattle.line.specs.Frames.{first_stop, width}
use Rattle.line.specs.Formats.{agree}
use Rattle.ends.specs.Times.{start_of}
use Rattle.ends.specs.Sender.{SenderState, SoundSender, frame_levels, first_of, rest_of, holding, load_answer, accepted}
use Rattle.ends.specs.Receiver.{SoundReceiver, Entry, Doing, idle, heard, arrive, without_oldest, with}
use Rattle.link.specs.Link.{LinkState, linked}
use Rattle.link.specs.History.{noted_entries, read_answers, History, blank, noted_load, noted_send, noted_clock, noted_read, history_from, history}
use Rattle.link.specs.Sampling.{SampledFrame}
use Rattle.link.specs.Delivery.{Noiseless, Sampled, Delivered, Delivery, Delivers}
use Rattle.link.proofs.Agreeing.{agreeing}
use Rattle.link.proofs.Answered.{all_noted}
use Rattle.link.proofs.Grows.{grows, sampled_back}
use Rattle.link.proofs.Reach.{link, quiet_rests}
use Rattle.link.proofs.Kept.{none, pairs, Numbered, numbered_init, numbered_at, flag_missing, missing_flag, reads_rise}
use Rattle.link.proofs.Invariant.{Always, Ear, character, Inv}
use Rattle.link.proofs.Steps.{sampled_last, not_due, not_inside, send_on, send_begins, load_keeps, read_keeps}
use Rattle.link.proofs.Receives.{receive_keeps}

load_narrow : (s : SenderState) (c : ℕ) (x : Unit {0}) → load_answer s c ≡ Ok x → c < 2 ^ width s.format
load_narrow s c x e = go (nat_le (2 ^ width s.format) c) refl
  where
    go : (b : Bool) → nat_le (2 ^ width s.format) c ≡ b → c < 2 ^ width s.format
    go true t = cc
    go false t = leb-false (2 ^ width s.format) c t

module _ (m : LinkState) (oks : SoundSender m.sender) (okr : SoundReceiver m.receiver) where
  complete : (lf : List Level) (w : List ℕ) (us : List Entry) (p : Level) (d : Doing) (l : Level) (h : History) → Inv m lf w us p d l h → Sampled m h
      → (i : ℕ) → i < length h.begun → get_or h.begun i 0 + start_of m.sender.lengths (first_stop m.sender.format + 1) < h.sends → i < length h.received
  complete lf w us p d l h (a, inl f) ok i z y = absurd (omega (arith, z, ap length f.begun_is))
  complete lf w us p d l h (a, inr (past, q, j, (am, ear))) ok i z y = go ear
    where
      size : length h.begun ≡ suc (length past)
      size = omega (arith, ap length am.begun_is, length_push past q)

      good : SampledFrame m.sender m.receiver (λ k. get_or h.given k 0) h.sends (length h.given) q
      good = sampled_last m oks okr h past q am.begun_is ok

      at_last : i ≡ length past → q + start_of m.sender.lengths (first_stop m.sender.format + 1) < h.sends
      at_last e = subst (λ (x : ℕ). x + start_of m.sender.lengths (first_stop m.sender.format + 1) < h.sends)
          (ap (λ (b : List ℕ). get_or b i 0) am.begun_is ∙ get_or_push past q 0 i (sym e)) y

      by : length h.received ≡ length past → (i ≡ length past → ⊥) → i < length h.received
      by e no_last = ⊎_elim (λ (x : i < length past). omega (arith, x, e)) (λ (x : length past ≤ i). absurd (no_last (omega (arith, x, z, size)))) (cases_lt i (length past))

      go : Ear m p d h (character h past) past q → i < length h.received
      go (inl x) = omega (arith, z, size, x.received_all)
      go (inr (inl x)) = by x.received_past (λ e. not_due m oks okr p d h past q h.sends good (at_last e) x)
      go (inr (inr x)) = by x.received_past (λ e. not_inside m oks okr d h (character h past) past q h.sends (a.agrees (omega (arith, size, a.order))) good (at_last e) x)

  delivered : (lf : List Level) (w : List ℕ) (us : List Entry) (p : Level) (d : Doing) (l : Level) (h : History) → Inv m lf w us p d l h → Sampled m h → Delivered m h
  delivered lf w us p d l h i ok =
      let a : Always m w us h = i.0 in
      let reads : Numbered h.received 0 h.reads = numbered_init h.received 0 h.reads (pairs h.unread us) a.kept.chain in
      record {
        in_order = a.in_order;
        complete = complete lf w us p d l h i ok;
        clean = λ j z. let x = numbered_at h.received 0 h.reads j reads z in
            let n : ℕ = (get_or h.reads j none).0 in
            (x.1, x.2 ∙ ap (λ (y : List ℕ). get_or y n 0) a.in_order ∙ get_or-take (length h.received) h.accepted n 0 x.1, x.3);
        each_once = λ i j before z. reads_rise h.received 0 h.reads i j reads before z;
        overrun = λ j z. (flag_missing h.received 0 h.reads j reads z, λ lost. missing_flag h.received 0 h.reads j reads z lost.0 lost.1);
      }

  -- what a run from here comes to
  abbrev Comes : List Act → LinkState → History → Type 0
  Comes xs x h = Sampled m (history_from x h xs) → Delivered m (history_from x h xs)

  run_load : (xs : List Act) (c : ℕ) (lf : List Level) (w : List ℕ) (us : List Entry) (p : Level) (d : Doing) (l : Level) (h : History) → Inv m lf w us p d l h
      → ((v : List ℕ) (g : History) → Inv m lf v us p d l g → Comes xs (link m lf v us p d l) g)
      → Comes (Load c ∷ xs) (link m lf w us p d l) h
  run_load xs c lf w us p d l h i on = go (agree m.sender.format m.receiver.format) refl (load_answer (holding m.sender lf w) c) refl
    where
      go : (a : Bool) → agree m.sender.format m.receiver.format ≡ a → (A : Result Unit Refusal) → load_answer (holding m.sender lf w) c ≡ A
          → Comes xs (linked (if a then (if accepted A then holding m.sender lf (w ++ (c ∷ [])) else holding m.sender lf w) else holding m.sender lf w) (with m.receiver us p d) l)
          (noted_load (accepted (if a then A else Err FormatsDiffer)) c h)
      go true e (Ok x) f = on (w ++ (c ∷ [])) (noted_load true c h) (load_keeps m oks okr lf w us p d l h c (load_narrow (holding m.sender lf w) c x f) (agreeing m.sender.format m.receiver.format e) i)
      go true e (Err x) f = on w h i
      go false e A f = on w h i

  run : (xs : List Act) → Noiseless xs → (lf : List Level) (w : List ℕ) (us : List Entry) (p : Level) (d : Doing) (l : Level) (h : History)
      → Inv m lf w us p d l h → Comes xs (link m lf w us p d l) h
  run [] nl lf w us p d l h i ok = delivered lf w us p d l h i ok
  run (Load c ∷ xs) nl lf w us p d l h i ok = run_load xs c lf w us p d l h i (λ v g. run xs nl lf v us p d l g) ok
  run (Send ∷ xs) nl (x ∷ lf) w us p d l h i ok = run xs nl lf w us p d x (noted_send false h) (send_on m oks okr (x ∷ lf) w us p d l h i) ok
  run (Send ∷ xs) nl [] [] us p d l h i ok = run xs nl [] [] us p d Mark (noted_send false h) (send_on m oks okr [] [] us p d l h i) ok
  run (Send ∷ xs) nl [] (c ∷ w) us p d l h i ok =
      let fl : List Level = frame_levels m.sender c in
      run xs nl (rest_of fl) w us p d (first_of fl) (noted_send true h)
      (send_begins m oks okr w c us p d l h i (sampled_back m (noted_send true h) (history_from (link m (rest_of fl) w us p d (first_of fl)) (noted_send true h) xs)
      (grows xs (link m (rest_of fl) w us p d (first_of fl)) (noted_send true h)) ok)) ok
  run (Receive ∷ xs) nl lf w us p d l h i ok =
      let es : List Entry = arrive m.receiver.capacity us (heard (with m.receiver us p d) p d l).arrived in
      let d' : Doing = (heard (with m.receiver us p d) p d l).doing in
      let g : History = noted_clock (with m.receiver us p d) l h in
      run xs nl lf w es l d' l g
      (receive_keeps m oks okr lf w us p d l h i (sampled_back m g (history_from (link m lf w es l d' l) g xs) (grows xs (link m lf w es l d' l) g) ok)) ok
  run (Noise k ∷ xs) nl lf w us p d l h i ok = absurd nl
  run (Read ∷ xs) nl lf w us p d l h i ok = run xs nl lf w (without_oldest us) p d l (noted_read h.unread us h) (read_keeps m oks okr lf w us p d l h i) ok

  start_always : Always m [] [] blank
  start_always = record {
    waits = refl;
    order = omega arith;
    narrow = λ i z. absurd (not-suc-le-zero z);
    agrees = λ z. absurd (not-suc-le-zero z);
    timely = λ i z. absurd (not-suc-le-zero z);
    in_order = refl;
    kept = record { same = refl; chain = tt; newest = refl };
  }

  pub from_rest : (xs : List Act) → Noiseless xs → Comes xs (link m [] [] [] Mark idle Mark) blank
  from_rest xs nl = run xs nl [] [] [] Mark idle Mark blank
      (start_always, inl (record { begun_is = refl; left_is = refl; line_is = refl; doing_is = refl; previous_is = refl; received_none = refl }))

-- what is promised of the acts since a moment
abbrev pub Promised : List Act → LinkState → Type 0
Promised since y = Delivered y (history y since) × (noted_entries (history y since) ≡ read_answers y since)

-- the same link at rest
abbrev pub resting : LinkState → LinkState
resting m = link m [] [] [] Mark idle Mark

-- a link at rest keeps it, and a quiet one is as at rest
module _ (m : LinkState) (oks : SoundSender m.sender) (okr : SoundReceiver m.receiver) where
  pub rest_delivers : (since : List Act) → Noiseless since → Sampled (resting m) (history (resting m) since) → Promised since (resting m)
  rest_delivers since nl ok =
      let oks_here : SoundSender (resting m).sender = record {
        thirteen = oks.thirteen;
        lasting = oks.lasting;
        short = oks.short;
        room = oks.room;
        few = omega arith;
        narrow = λ i z. absurd (not-suc-le-zero z);
      } in
      let okr_here : SoundReceiver (resting m).receiver = record {
        all_samples = okr.all_samples;
        rising = okr.rising;
        apart = okr.apart;
        early = okr.early;
        breaks = okr.breaks;
        room = okr.room;
      } in
      (from_rest (resting m) oks_here okr_here since nl ok, all_noted (resting m) refl since)

pub delivery : Delivery
delivery m oks okr rest before since quiet nl =
    subst (λ (y : LinkState). Sampled y (history y since) → Promised since y) (sym (quiet_rests m oks okr rest before quiet))
    (rest_delivers m oks okr since nl)

-- so does a link in use, whatever it was given before
pub delivers : (m : LinkState) (acts : List Act) → Delivers m acts
delivers m acts start oks okr rest past before since is split quiet noiseless sampled = delivery start oks okr rest before since quiet noiseless sampled
