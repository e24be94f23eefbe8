-- Each act keeps the invariant.
use Rattle.std.proofs.Common.{◌≡◌, ℕ, suc, ◌+◌, ◌^◌, ◌<◌, ◌≤◌, Bool, true, false, List, [], ◌∷◌, ◌++◌, length, get_or, take, drop, sym, refl, ap, ◌∙◌, subst, inl, inr, ⊎_elim, add-zero, arith, length-drop, length-take, get_or-drop}
use lib.Seq.{drop-append-le, take-append-le}
use Rattle.std.proofs.lemmas.List.{get_or_append_left, get_or_push, length_push, drop-drop}
use Rattle.std.proofs.lemmas.Bool.{cases_lt}
use Rattle.line.specs.declared.level.Level.{Level}
use Rattle.line.specs.declared.level.Level.TheVariants.{Mark}
use Rattle.line.specs.Frames.{first_stop, width}
use Rattle.line.specs.Formats.{Agree}
use Rattle.ends.specs.Times.{sum, start_of}
use Rattle.ends.specs.Sender.{SoundSender, frame_levels, first_of, rest_of}
use Rattle.ends.specs.Receiver.{SoundReceiver, Entry, Doing, idle, without_oldest}
use Rattle.link.specs.Link.{LinkState}
use Rattle.link.specs.History.{History, noted_load, noted_send, noted_read}
use Rattle.link.specs.Sampling.{SampledFrame}
use Rattle.link.specs.Delivery.{Sampled}
use Rattle.line.proofs.Bits.{agree_first_stop}
use Rattle.ends.proofs.Held.{sum_mono}
use Rattle.link.proofs.Left.{first_drop, rest_drop, nothing_left}
use Rattle.link.proofs.Kept.{Kept, kept_read}
use Rattle.link.proofs.Clock.{lasts}
use Rattle.link.proofs.Invariant.{Always, Amid, Due, Inside, Ear, character, Framed, Phase, Inv}

module _ (m : LinkState) (oks : SoundSender m.sender) (okr : SoundReceiver m.receiver) where
  pub sampled_last : (h : History) (past : List ℕ) (q : ℕ) → h.begun ≡ past ++ (q ∷ []) → Sampled m h
      → SampledFrame m.sender m.receiver (λ i. get_or h.given i 0) h.sends (length h.given) q
  sampled_last h past q e ok =
      subst (λ (x : ℕ). SampledFrame m.sender m.receiver (λ i. get_or h.given i 0) h.sends (length h.given) x)
      (ap (λ (b : List ℕ). get_or b (length past) 0) e ∙ get_or_push past q 0 (length past) refl)
      (ok (length past) (omega (arith, ap length e, length_push past q)))

  -- a frame whose first stop bit has ended has been received
  pub not_due : (p : Level) (d : Doing) (h : History) (past : List ℕ) (q sends : ℕ)
      → SampledFrame m.sender m.receiver (λ i. get_or h.given i 0) sends (length h.given) q
      → q + start_of m.sender.lengths (first_stop m.sender.format + 1) < sends → Due p d h.received h.given past q → ⊥
  not_due p d h past q sends ok over due =
      let k : sum (take 1 m.sender.lengths) ≤ sum (take (first_stop m.sender.format + 1) m.sender.lengths) =
      sum_mono 1 (first_stop m.sender.format + 1) m.sender.lengths (omega arith) in
      let f = ok.has_edge (omega (arith, over, k)) in
      omega (arith, due.before f.0 f.1.within, f.1.holds.entered)

  pub not_inside : (d : Doing) (h : History) (c : ℕ) (past : List ℕ) (q sends : ℕ) → Agree m.sender.format m.receiver.format
      → SampledFrame m.sender m.receiver (λ i. get_or h.given i 0) sends (length h.given) q
      → q + start_of m.sender.lengths (first_stop m.sender.format + 1) < sends → Inside m d h.received h.given c past q → ⊥
  not_inside d h c past q sends agree ok over x =
      let f = ok.not_late x.e (first_stop m.receiver.format) x.edge (omega arith)
      (subst (λ (k : ℕ). q + start_of m.sender.lengths (k + 1) < sends) (agree_first_stop m.sender.format m.receiver.format agree) over) in
      omega (arith, f.0, x.clocks, x.unended)

  -- send clocks
  send_always : (b : Bool) (w : List ℕ) (us : List Entry) (h : History) → Always m w us h
      → (v : List ℕ) → v ≡ drop (length (noted_send b h).begun) h.accepted → length (noted_send b h).begun ≤ length h.accepted
      → Always m v us (noted_send b h)
  send_always b w us h a v e k = record {
    waits = e;
    order = k;
    narrow = a.narrow;
    agrees = a.agrees;
    timely = λ i z. omega (arith, a.timely i z);
    in_order = a.in_order;
    kept = a.kept;
  }

  -- one more send clock of the same frame
  send_amid : (lf : List Level) (l : Level) (begun : List ℕ) (sends c : ℕ) (past : List ℕ) (q j : ℕ) → Amid m lf l begun sends c past q j
      → Amid m (rest_of lf) (first_of lf) begun (sends + 1) c past q (suc j)
  send_amid lf l begun sends c past q j a =
      let fl : List Level = frame_levels m.sender c in
      record {
        begun_is = a.begun_is;
        at = omega (arith, a.at);
        left_is = ap (λ (x : List Level). rest_of x) a.left_is ∙ rest_drop (suc j) fl;
        line_is = ap (λ (x : List Level). first_of x) a.left_is ∙ first_drop (suc j) fl;
      }

  send_ear : (p : Level) (d : Doing) (h : History) (c : ℕ) (past : List ℕ) (q : ℕ) → Ear m p d h c past q → Ear m p d (noted_send false h) c past q
  send_ear p d h c past q (inl x) = inl (record { doing_is = x.doing_is; previous_is = x.previous_is; received_all = x.received_all; stopped = omega (arith, x.stopped) })
  send_ear p d h c past q (inr x) = inr x

  pub send_on : (lf : List Level) (w : List ℕ) (us : List Entry) (p : Level) (d : Doing) (l : Level) (h : History) → Inv m lf w us p d l h
      → Inv m (rest_of lf) w us p d (first_of lf) (noted_send false h)
  send_on lf w us p d l h (a, inl f) = (
    send_always false w us h a w a.waits a.order,
    inl (record {
      begun_is = f.begun_is;
      left_is = ap (λ (x : List Level). rest_of x) f.left_is;
      line_is = ap (λ (x : List Level). first_of x) f.left_is;
      doing_is = f.doing_is;
      previous_is = f.previous_is;
      received_none = f.received_none;
    }),
  )
  send_on lf w us p d l h (a, inr (past, q, j, (am, ear))) =
      let c : ℕ = character h past in
      (send_always false w us h a w a.waits a.order, inr (past, q, suc j, (send_amid lf l h.begun h.sends c past q j am, send_ear p d h c past q ear)))

  -- nothing is left of the last frame, and one more send clock comes: all was received
  all_received : (w : List ℕ) (us : List Entry) (p : Level) (d : Doing) (l : Level) (h : History) → Inv m [] w us p d l h → Sampled m (noted_send true h)
      → (d ≡ idle) × (p ≡ Mark) × (length h.received ≡ length h.begun)
  all_received w us p d l h (a, inl f) ok = (f.doing_is, f.previous_is, f.received_none ∙ sym (ap length f.begun_is))
  all_received w us p d l h (a, inr (past, q, j, (am, ear))) ok = go ear
    where
      fl : List Level
      fl = frame_levels m.sender (character h past)

      size : length h.begun ≡ suc (length past)
      size = omega (arith, ap length am.begun_is, length_push past q)

      frame_ok : SampledFrame m.sender m.receiver (λ i. get_or h.given i 0) (h.sends + 1) (length h.given) q
      frame_ok =
          subst (λ (x : ℕ). SampledFrame m.sender m.receiver (λ i. get_or h.given i 0) (h.sends + 1) (length h.given) x)
          (get_or_append_left h.begun (h.sends ∷ []) 0 (length past) (omega (arith, size))
          ∙ ap (λ (b : List ℕ). get_or b (length past) 0) am.begun_is ∙ get_or_push past q 0 (length past) refl)
          (ok (length past) (omega (arith, size, length_push h.begun h.sends)))

      over : q + start_of m.sender.lengths (first_stop m.sender.format + 1) < h.sends + 1
      over = omega (arith, am.at, nothing_left (suc j) fl (sym am.left_is), lasts m.sender oks (character h past))

      go : Ear m p d h (character h past) past q → (d ≡ idle) × (p ≡ Mark) × (length h.received ≡ length h.begun)
      go (inl x) = (x.doing_is, x.previous_is, x.received_all ∙ sym size)
      go (inr (inl x)) = absurd (not_due p d h past q (h.sends + 1) frame_ok over x)
      go (inr (inr x)) = absurd (not_inside d h (character h past) past q (h.sends + 1) (a.agrees (omega (arith, size, a.order))) frame_ok over x)

  pub send_begins : (w : List ℕ) (c : ℕ) (us : List Entry) (p : Level) (d : Doing) (l : Level) (h : History) → Inv m [] (c ∷ w) us p d l h
      → Sampled m (noted_send true h)
      → Inv m (rest_of (frame_levels m.sender c)) w us p d (first_of (frame_levels m.sender c)) (noted_send true h)
  send_begins w c us p d l h i ok =
      let a : Always m (c ∷ w) us h = i.0 in
      let n : ℕ = length h.begun in
      let all = all_received (c ∷ w) us p d l h i ok in
      let c_is : c ≡ get_or h.accepted n 0 =
      ap (λ (x : List ℕ). get_or x 0 0) a.waits ∙ get_or-drop n h.accepted 0 0 ∙ ap (λ (x : ℕ). get_or h.accepted x 0) (add-zero n) in
      let longer : length (h.begun ++ (h.sends ∷ [])) ≡ n + 1 = length_push h.begun h.sends in
      let w_is : w ≡ drop (length (h.begun ++ (h.sends ∷ []))) h.accepted =
      ap (λ (x : List ℕ). drop 1 x) a.waits ∙ drop-drop 1 n h.accepted ∙ ap (λ (x : ℕ). drop x h.accepted) (sym longer) in
      let more : length (h.begun ++ (h.sends ∷ [])) ≤ length h.accepted = omega (arith, longer, ap length a.waits, length-drop n h.accepted) in
      let fl_is : frame_levels m.sender c ≡ frame_levels m.sender (get_or h.accepted n 0) = ap (λ (x : ℕ). frame_levels m.sender x) c_is in (
        send_always true (c ∷ w) us h a w w_is more,
        inr (
          h.begun,
          h.sends,
          0,
          (
            record {
              begun_is = refl;
              at = omega arith;
              left_is = ap (λ (x : List Level). rest_of x) fl_is ∙ rest_drop 0 (frame_levels m.sender (get_or h.accepted n 0));
              line_is = ap (λ (x : List Level). first_of x) fl_is ∙ first_drop 0 (frame_levels m.sender (get_or h.accepted n 0));
            },
            inr (inl (record { doing_is = all.0; previous_is = all.1; received_past = all.2; before = a.timely })),
          ),
        ),
      )

  -- loads
  still_accepted : (w : List ℕ) (us : List Entry) (h : History) (past : List ℕ) (q c : ℕ) → Always m w us h → h.begun ≡ past ++ (q ∷ [])
      → character h past ≡ character (noted_load true c h) past
  still_accepted w us h past q c a e =
      sym (get_or_append_left h.accepted (c ∷ []) 0 (length past) (omega (arith, a.order, ap length e, length_push past q)))

  pub received_few : (w : List ℕ) (us : List Entry) (h : History) → Always m w us h → length h.received ≤ length h.accepted
  received_few w us h a = omega (arith, ap length a.in_order, length-take (length h.received) h.accepted)

  load_always : (w : List ℕ) (us : List Entry) (h : History) (c : ℕ) → c < 2 ^ width m.sender.format → Agree m.sender.format m.receiver.format
      → Always m w us h → Always m (w ++ (c ∷ [])) us (noted_load true c h)
  load_always w us h c fits agree a = record {
    waits = ap (λ (x : List ℕ). x ++ (c ∷ [])) a.waits ∙ sym (drop-append-le (length h.begun) h.accepted (c ∷ []) a.order);
    order = omega (arith, a.order, length_push h.accepted c);
    narrow = λ i z. ⊎_elim
        (λ (old : i < length h.accepted). subst (λ (x : ℕ). x < 2 ^ width m.sender.format) (sym (get_or_append_left h.accepted (c ∷ []) 0 i old)) (a.narrow i old))
        (λ (new : length h.accepted ≤ i). subst (λ (x : ℕ). x < 2 ^ width m.sender.format)
        (sym (get_or_push h.accepted c 0 i (omega (arith, new, z, length_push h.accepted c)))) fits)
        (cases_lt i (length h.accepted));
    agrees = λ z. agree;
    timely = a.timely;
    in_order = a.in_order ∙ sym (take-append-le (length h.received) h.accepted (c ∷ []) (received_few w us h a));
    kept = a.kept;
  }

  pub load_keeps : (lf : List Level) (w : List ℕ) (us : List Entry) (p : Level) (d : Doing) (l : Level) (h : History) (c : ℕ)
      → c < 2 ^ width m.sender.format → Agree m.sender.format m.receiver.format
      → Inv m lf w us p d l h → Inv m lf (w ++ (c ∷ [])) us p d l (noted_load true c h)
  load_keeps lf w us p d l h c fits agree (a, inl f) = (load_always w us h c fits agree a, inl f)
  load_keeps lf w us p d l h c fits agree (a, inr (past, q, j, f)) =
      let e : character h past ≡ character (noted_load true c h) past = still_accepted w us h past q c a f.0.begun_is in
      (load_always w us h c fits agree a, inr (past, q, j, subst (λ (x : ℕ). Framed m lf p d l h x past q j) e f))

  -- reads
  read_some : (w : List ℕ) (es : List Entry) (e : Entry) (h : History) (x : List ℕ) → h.unread ≡ x → Always m w (e ∷ es) h → Always m w es (noted_read x (e ∷ es) h)
  read_some w es e h [] is a = absurd (omega (arith, ap length is, a.kept.same))
  read_some w es e h (u ∷ x) is a = record {
    waits = a.waits;
    order = a.order;
    narrow = a.narrow;
    agrees = a.agrees;
    timely = a.timely;
    in_order = a.in_order;
    kept = kept_read h.received x u h.reads es e (subst (λ (v : List ℕ). Kept h.received v h.reads (e ∷ es)) is a.kept);
  }

  read_phase : (lf : List Level) (p : Level) (d : Doing) (l : Level) (h : History) (x : List ℕ) (es : List Entry) → Phase m lf p d l h → Phase m lf p d l (noted_read x es h)
  read_phase lf p d l h [] es ph = ph
  read_phase lf p d l h (u ∷ x) [] ph = ph
  read_phase lf p d l h (u ∷ x) (e ∷ es) ph = ph

  pub read_keeps : (lf : List Level) (w : List ℕ) (us : List Entry) (p : Level) (d : Doing) (l : Level) (h : History)
      → Inv m lf w us p d l h → Inv m lf w (without_oldest us) p d l (noted_read h.unread us h)
  read_keeps lf w [] p d l h (a, ph) = (unread_none h.unread, read_phase lf p d l h h.unread [] ph)
    where
      unread_none : (x : List ℕ) → Always m w [] (noted_read x [] h)
      unread_none [] = a
      unread_none (u ∷ x) = a
  read_keeps lf w (e ∷ es) p d l h (a, ph) = (read_some w es e h h.unread refl a, read_phase lf p d l h h.unread (e ∷ es) ph)
