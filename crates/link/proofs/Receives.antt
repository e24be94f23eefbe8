-- A receive clock keeps the invariant, where the sampling condition is met.
use Rattle.std.proofs.Common.{◌≡◌, ℕ, suc, ◌+◌, ◌*◌, ◌<◌, ◌≤◌, List, [], ◌∷◌, ◌++◌, length, get_or, take, sym, refl, ap, ◌∙◌, subst, ap₂, inl, inr, ⊎_elim, append-nil, not-suc-le-zero, arith}
use Rattle.std.proofs.lemmas.List.{get_or_append_left, get_or_push, length_push, take_more}
use Rattle.std.proofs.lemmas.Bool.{cases_lt}
use Rattle.line.specs.declared.level.Level.{Level}
use Rattle.line.specs.declared.level.Level.TheVariants.{Space, Mark}
use Rattle.line.specs.Frames.{first_stop}
use Rattle.line.specs.Formats.{Agree}
use Rattle.ends.specs.Times.{start_of}
use Rattle.ends.specs.Sender.{SenderState, SoundSender}
use Rattle.ends.specs.Receiver.{ReceiverState, SoundReceiver, Entry, Doing, idle, framing, Heard, nothing, heard, heard_in_frame, last_sample, arrive, with, falling_before, taken_now}
use Rattle.link.specs.Link.{LinkState}
use Rattle.link.specs.History.{History, noted_clock, characters, numbered}
use Rattle.link.specs.Sampling.{Holds, Edge, SampledFrame}
use Rattle.link.specs.Delivery.{Sampled}
use Rattle.line.proofs.Bits.{through, width_least}
use Rattle.ends.proofs.Sampling.{before_zero, Taken, sound_rising}
use Rattle.link.proofs.Reach.{heard_fixed}
use Rattle.link.proofs.Kept.{kept_arrival}
use Rattle.link.proofs.Clock.{level_held, level_stopped, clock_goes_on, clock_ends}
use Rattle.link.proofs.Invariant.{Always, Fresh, Amid, Over, Due, Inside, Ear, character, Phase, Inv}

-- a history with one more receive clock, of which this was heard
abbrev pub clocked : ReceiverState → Heard → History → History
clocked r H h = record h {
  given = h.given ++ (h.sends ∷ []);
  received = h.received ++ characters H.arrived;
  unread = numbered r.capacity h.unread H.arrived (length h.received);
}

-- and no character
abbrev pub ticked : History → History
ticked h = record h { given = h.given ++ (h.sends ∷ []) }

ticked_is : (r : ReceiverState) (d : Doing) (h : History) → clocked r (nothing d) h ≡ ticked h
ticked_is r d h = ap (λ (x : List ℕ). record h { given = h.given ++ (h.sends ∷ []); received = x }) (append-nil h.received)

timely_push : (given : List ℕ) (sends : ℕ) → ((i : ℕ) → i < length given → get_or given i 0 ≤ sends)
    → (i : ℕ) → i < length (given ++ (sends ∷ [])) → get_or (given ++ (sends ∷ [])) i 0 ≤ sends
timely_push given sends t i h = ⊎_elim
    (λ (z : i < length given). omega (arith, t i z, get_or_append_left given (sends ∷ []) 0 i z))
    (λ (z : length given ≤ i). omega (arith, get_or_push given sends 0 i (omega (arith, z, h, length_push given sends))))
    (cases_lt i (length given))

edge_more : (s : SenderState) (given : List ℕ) (x q e : ℕ) → Edge s (λ i. get_or given i 0) (length given) q e
    → Edge s (λ i. get_or (given ++ (x ∷ [])) i 0) (length (given ++ (x ∷ []))) q e
edge_more s given x q e k = record {
  within = omega (arith, k.within, length_push given x);
  holds = subst (λ (n : ℕ). Holds s q 0 n) (sym (get_or_append_left given (x ∷ []) 0 e k.within)) k.holds;
  first = λ i before z. k.first i before (subst (λ (n : ℕ). Holds s q 0 n) (get_or_append_left given (x ∷ []) 0 i (omega (arith, before, k.within))) z);
}

last_positive : (r : ReceiverState) → SoundReceiver r → 0 < last_sample r
last_positive r ok =
    let f : ℕ = first_stop r.format in
    omega (arith, ok.apart 0 (omega (arith, width_least r.format)), sound_rising r ok 3 (3 * f + 2) (omega (arith, width_least r.format)) (omega (arith, ok.all_samples)))

module _ (m : LinkState) (oks : SoundSender m.sender) (okr : SoundReceiver m.receiver) where
  tick_always : (w : List ℕ) (us : List Entry) (h : History) → Always m w us h → Always m w us (ticked h)
  tick_always w us h a = record {
    waits = a.waits;
    order = a.order;
    narrow = a.narrow;
    agrees = a.agrees;
    timely = timely_push h.given h.sends a.timely;
    in_order = a.in_order;
    kept = a.kept;
  }

  -- what a receive clock comes to
  abbrev pub After : List Level → List ℕ → List Entry → Level → Heard → History → Type 0
  After lf w us l H h = Inv m lf w (arrive m.receiver.capacity us H.arrived) l H.doing l (clocked m.receiver H h)

  -- no character arrives
  quietly : (lf : List Level) (w : List ℕ) (us : List Entry) (p : Level) (d : Doing) (l : Level) (h : History) (d' : Doing)
      → heard m.receiver p d l ≡ nothing d' → Inv m lf w us l d' l (ticked h) → After lf w us l (heard m.receiver p d l) h
  quietly lf w us p d l h d' e i =
      subst (λ (H : Heard). After lf w us l H h) (sym e) (subst (λ (g : History). Inv m lf w us l d' l g) (sym (ticked_is m.receiver d' h)) i)

  heard_waiting : (p : Level) (d : Doing) (l : Level) → p ≡ Mark → d ≡ idle → l ≡ Mark → heard m.receiver p d l ≡ nothing idle
  heard_waiting p d l a b c = ap₂ (λ (x : Level) (y : Doing). heard m.receiver x y l) a b ∙ ap (λ (z : Level). heard m.receiver Mark idle z) c

  heard_edge : (p : Level) (d : Doing) (l : Level) → p ≡ Mark → d ≡ idle → l ≡ Space → heard m.receiver p d l ≡ heard_in_frame m.receiver.format 0 (taken_now m.receiver.samples 0 [] l)
  heard_edge p d l a b c = ap₂ (λ (x : Level) (y : Doing). heard m.receiver x y l) a b ∙ ap (λ (z : Level). heard m.receiver Mark idle z) c
      ∙ ap (λ (z : Level). heard_in_frame m.receiver.format 0 (taken_now m.receiver.samples 0 [] z)) (sym c)

  heard_inside : (p : Level) (d : Doing) (l : Level) (n : ℕ) (ls : List Level) → d ≡ framing n ls → heard m.receiver p d l ≡ heard_in_frame m.receiver.format (n + 1) (taken_now m.receiver.samples (n + 1) ls l)
  heard_inside p d l n ls e = ap (λ (y : Doing). heard m.receiver p y l) e

  module _ (lf : List Level) (w : List ℕ) (us : List Entry) (p : Level) (d : Doing) (l : Level) (h : History) (a : Always m w us h) where
    on_fresh : Fresh lf p d l h.begun h.received → After lf w us l (heard m.receiver p d l) h
    on_fresh f = quietly lf w us p d l h idle (heard_waiting p d l f.previous_is f.doing_is f.line_is)
        (tick_always w us h a, inl (record { begun_is = f.begun_is; left_is = f.left_is; line_is = f.line_is; doing_is = refl; previous_is = f.line_is; received_none = f.received_none }))

    module _ (past : List ℕ) (q j : ℕ) (am : Amid m lf l h.begun h.sends (character h past) past q j)
        (ok : SampledFrame m.sender m.receiver (λ i. get_or (h.given ++ (h.sends ∷ [])) i 0) h.sends (length (h.given ++ (h.sends ∷ []))) q) where
      size : length h.begun ≡ suc (length past)
      size = omega (arith, ap length am.begun_is, length_push past q)

      agree : Agree m.sender.format m.receiver.format
      agree = a.agrees (omega (arith, size, a.order))

      on_over : Over m p d h.received h.sends past q → After lf w us l (heard m.receiver p d l) h
      on_over x =
          let mark : l ≡ Mark = am.line_is ∙ level_stopped m.sender oks (character h past) j (omega (arith, x.stopped, am.at)) in
          quietly lf w us p d l h idle (heard_waiting p d l x.previous_is x.doing_is mark)
          (tick_always w us h a, inr (past, q, j, (am, inl (record { doing_is = refl; previous_is = mark; received_all = x.received_all; stopped = x.stopped }))))

      -- the clock is clock n of the frame, whose edge was clock e
      module _ (n e : ℕ) (ls : List Level) (is : heard m.receiver p d l ≡ heard_in_frame m.receiver.format n (taken_now m.receiver.samples n ls l))
          (edge : Edge m.sender (λ i. get_or (h.given ++ (h.sends ∷ [])) i 0) (length (h.given ++ (h.sends ∷ []))) q e)
          (clocks : length h.given ≡ e + n)
          (taken : Taken ls (through m.receiver.format (character h past))) (amount : length ls ≡ falling_before n m.receiver.samples)
          (received_past : length h.received ≡ length past) where
        on_goes : n < last_sample m.receiver → After lf w us l (heard m.receiver p d l) h
        on_goes more =
            let x = clock_goes_on m.sender oks m.receiver okr agree h.given h.sends q e n a.timely ok edge clocks j (character h past) l
            am.at am.line_is ls taken amount more in
            quietly lf w us p d l h (framing n (taken_now m.receiver.samples n ls l)) (is ∙ x.0) (
              tick_always w us h a,
              inr (
                past,
                q,
                j,
                (
                  am,
                  inr (inr (record {
                    n = n;
                    ls = taken_now m.receiver.samples n ls l;
                    e = e;
                    doing_is = refl;
                    received_past = received_past;
                    edge = edge;
                    clocks = omega (arith, clocks, length_push h.given h.sends);
                    unended = more;
                    amount = x.2;
                    taken = x.1;
                  })),
                ),
              ),
            )

        on_ends : n ≡ last_sample m.receiver → After lf w us l (heard m.receiver p d l) h
        on_ends last =
            let c : ℕ = character h past in
            let there : length past < length h.accepted = omega (arith, size, a.order) in
            let x = clock_ends m.sender oks m.receiver okr agree h.given h.sends q e n a.timely ok edge clocks j c l
            am.at am.line_is ls taken amount last (a.narrow (length past) there) in
            let k : ℕ = length h.received in
            let more : length (h.received ++ (c ∷ [])) ≡ k + 1 = length_push h.received c in
            let order : h.received ++ (c ∷ []) ≡ take (length (h.received ++ (c ∷ []))) h.accepted =
            ap (λ (y : List ℕ). y ++ (c ∷ [])) a.in_order
            ∙ ap (λ (i : ℕ). take k h.accepted ++ (get_or h.accepted i 0 ∷ [])) (sym received_past)
            ∙ sym (take_more h.accepted k 0 (omega (arith, there, received_past)))
            ∙ ap (λ (i : ℕ). take i h.accepted) (sym more) in
            subst (λ (H : Heard). After lf w us l H h) (sym (is ∙ x.0)) (
              record {
                waits = a.waits;
                order = a.order;
                narrow = a.narrow;
                agrees = a.agrees;
                timely = timely_push h.given h.sends a.timely;
                in_order = order;
                kept = kept_arrival m.receiver.capacity h.received h.unread h.reads us c okr.room a.kept;
              },
              inr (
                past,
                q,
                j,
                (am, inl (record { doing_is = refl; previous_is = x.1; received_all = omega (arith, more, received_past); stopped = x.2 })),
              ),
            )

        on_clock : n ≤ last_sample m.receiver → After lf w us l (heard m.receiver p d l) h
        on_clock most = ⊎_elim (λ (z : n < last_sample m.receiver). on_goes z) (λ (z : last_sample m.receiver ≤ n). on_ends (omega (arith, z, most)))
            (cases_lt n (last_sample m.receiver))

      on_inside : Inside m d h.received h.given (character h past) past q → After lf w us l (heard m.receiver p d l) h
      on_inside x = on_clock (x.n + 1) x.e x.ls (heard_inside p d l x.n x.ls x.doing_is)
          (edge_more m.sender h.given h.sends q x.e x.edge) (omega (arith, x.clocks)) x.taken
          (x.amount ∙ ap (λ (k : ℕ). falling_before k m.receiver.samples) (omega arith)) x.received_past (omega (arith, x.unended))

      -- the first receive clock of a frame comes while its start bit is held
      on_due : Due p d h.received h.given past q → After lf w us l (heard m.receiver p d l) h
      on_due x =
          let e : ℕ = length h.given in
          let newest : get_or (h.given ++ (h.sends ∷ [])) e 0 ≡ h.sends = get_or_push h.given h.sends 0 e refl in
          let longer : length (h.given ++ (h.sends ∷ [])) ≡ e + 1 = length_push h.given h.sends in
          let old : (i : ℕ) → i < e → get_or (h.given ++ (h.sends ∷ [])) i 0 ≤ q =
          λ i z. subst (λ (k : ℕ). k ≤ q) (sym (get_or_append_left h.given (h.sends ∷ []) 0 i z)) (x.before i z) in
          let held : Holds m.sender q 0 h.sends = record {
            entered = omega (arith, am.at);
            not_left = ⊎_elim
                (λ (z : q + start_of m.sender.lengths 1 < h.sends). absurd
                (let f = ok.has_edge z in
                ⊎_elim (λ (y : f.0 < e). omega (arith, old f.0 y, f.1.holds.entered))
                (λ (y : e ≤ f.0). let at_e : f.0 ≡ e = omega (arith, y, f.1.within, longer) in
                omega (arith, z, f.1.holds.not_left, ap (λ (i : ℕ). get_or (h.given ++ (h.sends ∷ [])) i 0) at_e, newest))
                (cases_lt f.0 e)))
                (λ (z : h.sends ≤ q + start_of m.sender.lengths 1). z)
                (cases_lt (q + start_of m.sender.lengths 1) h.sends);
          } in
          let space : l ≡ Space = am.line_is
          ∙ level_held m.sender oks (character h past) 0 j (omega arith) (omega (arith, held.entered, am.at)) (omega (arith, held.not_left, am.at)) in
          let edge : Edge m.sender (λ i. get_or (h.given ++ (h.sends ∷ [])) i 0) (length (h.given ++ (h.sends ∷ []))) q e = record {
            within = omega (arith, longer);
            holds = subst (λ (k : ℕ). Holds m.sender q 0 k) (sym newest) held;
            first = λ i z y. omega (arith, old i z, y.entered);
          } in
          on_clock 0 e [] (heard_edge p d l x.previous_is x.doing_is space) edge (omega arith) (λ k i three z. absurd (not-suc-le-zero z)) (sym (before_zero m.receiver.samples)) x.received_past
          (omega (arith, last_positive m.receiver okr))

      on_ear : Ear m p d h (character h past) past q → After lf w us l (heard m.receiver p d l) h
      on_ear (inl x) = on_over x
      on_ear (inr (inl x)) = on_due x
      on_ear (inr (inr x)) = on_inside x

    sampled_clock : Sampled m (noted_clock (with m.receiver us p d) l h) → (past : List ℕ) (q j : ℕ) → Amid m lf l h.begun h.sends (character h past) past q j
        → SampledFrame m.sender m.receiver (λ i. get_or (h.given ++ (h.sends ∷ [])) i 0) h.sends (length (h.given ++ (h.sends ∷ []))) q
    sampled_clock ok past q j am =
        subst (λ (x : ℕ). SampledFrame m.sender m.receiver (λ i. get_or (h.given ++ (h.sends ∷ [])) i 0) h.sends (length (h.given ++ (h.sends ∷ []))) x)
        (ap (λ (b : List ℕ). get_or b (length past) 0) am.begun_is ∙ get_or_push past q 0 (length past) refl)
        (ok (length past) (omega (arith, ap length am.begun_is, length_push past q)))

    on_phase : Sampled m (noted_clock (with m.receiver us p d) l h) → Phase m lf p d l h → After lf w us l (heard m.receiver p d l) h
    on_phase ok (inl f) = on_fresh f
    on_phase ok (inr (past, q, j, (am, ear))) = on_ear past q j am (sampled_clock ok past q j am) ear

  pub receive_keeps : (lf : List Level) (w : List ℕ) (us : List Entry) (p : Level) (d : Doing) (l : Level) (h : History)
      → Inv m lf w us p d l h → Sampled m (noted_clock (with m.receiver us p d) l h)
      → After lf w us l (heard (with m.receiver us p d) p d l) h
  receive_keeps lf w us p d l h (a, ph) ok =
      subst (λ (H : Heard). After lf w us l H h) (sym (heard_fixed m.receiver us p d p d l)) (on_phase lf w us p d l h a ok ph)
