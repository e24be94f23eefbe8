-- A history only grows, and the sampling condition of a history holds of each earlier one.
use Rattle.std.proofs.Common.{◌≡◌, ℕ, ◌+◌, ◌<◌, ◌≤◌, Bool, true, false, List, [], ◌∷◌, length, get_or, sym, refl, ◌∙◌, subst, ⊎_elim, arith}
use Rattle.std.proofs.lemmas.List.{get_or_append_left, get_or_push, length_push}
use Rattle.std.proofs.lemmas.Bool.{cases_lt}
use Rattle.line.specs.declared.level.Level.{Level}
use Rattle.link.specs.declared.act.Act.{Act}
use Rattle.link.specs.declared.act.Act.TheVariants.{Load, Send, Receive, Noise, Read}
use Rattle.ends.specs.Times.{start_of}
use Rattle.ends.specs.Sender.{SenderState}
use Rattle.ends.specs.Receiver.{ReceiverState, Entry, first_sample, third_sample}
use Rattle.link.specs.Link.{LinkState, after_act}
use Rattle.link.specs.History.{begins, History, noted, noted_send, noted_clock, noted_read, history_from}
use Rattle.link.specs.Sampling.{Holds, Edge, SampledFrame}
use Rattle.link.specs.Delivery.{Sampled}

-- from n send clocks, of which these began frames and these came before the receive clocks, more of each
pub record Clocks (n : ℕ) (begun given : List ℕ) (n' : ℕ) (begun' given' : List ℕ) : Type 0 where
  pub sends : n ≤ n'
  pub begun_length : length begun ≤ length begun'
  pub begun_same : (i : ℕ) → i < length begun → get_or begun' i 0 ≡ get_or begun i 0
  pub given_length : length given ≤ length given'
  pub given_same : (i : ℕ) → i < length given → get_or given' i 0 ≡ get_or given i 0
  pub given_later : (i : ℕ) → length given ≤ i → i < length given' → n ≤ get_or given' i 0

abbrev pub Grows : History → History → Type 0
Grows h g = Clocks h.sends h.begun h.given g.sends g.begun g.given

pub grows_same : (h : History) → Grows h h
grows_same h = record { sends = omega arith; begun_length = omega arith; begun_same = λ i k. refl; given_length = omega arith; given_same = λ i k. refl; given_later = λ i k l. omega arith }

pub grows_trans : (h k g : History) → Grows h k → Grows k g → Grows h g
grows_trans h k g a b = record {
  sends = omega (arith, a.sends, b.sends);
  begun_length = omega (arith, a.begun_length, b.begun_length);
  begun_same = λ i x. b.begun_same i (omega (arith, x, a.begun_length)) ∙ a.begun_same i x;
  given_length = omega (arith, a.given_length, b.given_length);
  given_same = λ i x. b.given_same i (omega (arith, x, a.given_length)) ∙ a.given_same i x;
  given_later = λ i x y. ⊎_elim
      (λ (z : i < length k.given). omega (arith, b.given_same i z, a.given_later i x z))
      (λ (z : length k.given ≤ i). omega (arith, b.given_later i z y, a.sends))
      (cases_lt i (length k.given));
}

grows_send : (s : Bool) (h : History) → Grows h (noted_send s h)
grows_send true h = record { sends = omega arith; begun_length = omega (arith, length_push h.begun h.sends); begun_same = λ i x. get_or_append_left h.begun (h.sends ∷ []) 0 i x; given_length = omega arith; given_same = λ i k. refl; given_later = λ i k l. omega arith }
grows_send false h = record { sends = omega arith; begun_length = omega arith; begun_same = λ i x. refl; given_length = omega arith; given_same = λ i k. refl; given_later = λ i k l. omega arith }

grows_clock : (r : ReceiverState) (l : Level) (h : History) → Grows h (noted_clock r l h)
grows_clock r l h = record {
  sends = omega arith;
  begun_length = omega arith;
  begun_same = λ i x. refl;
  given_length = omega (arith, length_push h.given h.sends);
  given_same = λ i x. get_or_append_left h.given (h.sends ∷ []) 0 i x;
  given_later = λ i x y. omega (arith, get_or_push h.given h.sends 0 i (omega (arith, x, y, length_push h.given h.sends)));
}

grows_read : (us : List ℕ) (es : List Entry) (h : History) → Grows h (noted_read us es h)
grows_read [] es h = grows_same h
grows_read (u ∷ us) [] h = grows_same h
grows_read (u ∷ us) (e ∷ es) h = grows_same h

pub grows_act : (m : LinkState) (a : Act) (h : History) → Grows h (noted m a h)
grows_act m (Load c) h = grows_same h
grows_act m Send h = grows_send (begins m.sender) h
grows_act m Receive h = grows_clock m.receiver m.line h
grows_act m (Noise l) h = grows_clock m.receiver l h
grows_act m Read h = grows_read h.unread m.receiver.unread h

pub grows : (xs : List Act) (m : LinkState) (h : History) → Grows h (history_from m h xs)
grows [] m h = grows_same h
grows (a ∷ xs) m h = grows_trans h (noted m a h) (history_from (after_act m a) (noted m a h) xs) (grows_act m a h) (grows xs (after_act m a) (noted m a h))

module _ (s : SenderState) (r : ReceiverState) (h g : History) (up : Grows h g) (q : ℕ) where
  edge_on : (e : ℕ) → Edge s (λ i. get_or h.given i 0) (length h.given) q e → Edge s (λ i. get_or g.given i 0) (length g.given) q e
  edge_on e x = record {
    within = omega (arith, x.within, up.given_length);
    holds = subst (λ (n : ℕ). Holds s q 0 n) (sym (up.given_same e x.within)) x.holds;
    first = λ i before z. x.first i before (subst (λ (n : ℕ). Holds s q 0 n) (up.given_same i (omega (arith, before, x.within))) z);
  }

  edge_back : (e : ℕ) → e < length h.given → Edge s (λ i. get_or g.given i 0) (length g.given) q e → Edge s (λ i. get_or h.given i 0) (length h.given) q e
  edge_back e k x = record {
    within = k;
    holds = subst (λ (n : ℕ). Holds s q 0 n) (up.given_same e k) x.holds;
    first = λ i before z. x.first i before (subst (λ (n : ℕ). Holds s q 0 n) (sym (up.given_same i (omega (arith, before, k)))) z);
  }

  -- a receive clock that came before the last send clock is one of the earlier history
  given_by : (i b : ℕ) → i < length g.given → get_or g.given i 0 ≤ b → b < h.sends → i < length h.given
  given_by i b k z y = ⊎_elim (λ (w : i < length h.given). w)
      (λ (w : length h.given ≤ i). absurd (let l : h.sends ≤ get_or g.given i 0 = up.given_later i w k in omega arith))
      (cases_lt i (length h.given))

  sampled_frame_back : SampledFrame s r (λ i. get_or g.given i 0) g.sends (length g.given) q
      → SampledFrame s r (λ i. get_or h.given i 0) h.sends (length h.given) q
  sampled_frame_back ok = record {
    has_edge = λ z. let f = ok.has_edge (omega (arith, z, up.sends)) in
        (f.0, edge_back f.0 (given_by f.0 (q + start_of s.lengths 1) f.1.within f.1.holds.not_left z) f.1);
    not_early = λ e k x bit z.
        subst (λ (n : ℕ). q + start_of s.lengths k < n) (up.given_same (e + first_sample r k) z)
        (ok.not_early e k (edge_on e x) bit (omega (arith, z, up.given_length)));
    not_late = λ e k x bit z.
        let f = ok.not_late e k (edge_on e x) bit (omega (arith, z, up.sends)) in
        let w : e + third_sample r k < length h.given = given_by (e + third_sample r k) (q + start_of s.lengths (k + 1)) f.0 f.1 z in
        (w, subst (λ (n : ℕ). n ≤ q + start_of s.lengths (k + 1)) (up.given_same (e + third_sample r k) w) f.1);
  }

pub sampled_back : (m : LinkState) (h g : History) → Grows h g → Sampled m g → Sampled m h
sampled_back m h g up ok i k =
    let q : ℕ = get_or h.begun i 0 in
    sampled_frame_back m.sender m.receiver h g up q
    (subst (λ (x : ℕ). SampledFrame m.sender m.receiver (λ j. get_or g.given j 0) g.sends (length g.given) x) (up.begun_same i k) (ok i (omega (arith, k, up.begun_length))))
