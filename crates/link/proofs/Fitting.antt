-- Steady clocks meet the sampling condition exactly where no bit is early or late, and then they deliver.
use Rattle.std.proofs.Common.{◌≡◌, ℕ, zero, suc, ◌+◌, ◌-◌, ◌*◌, ◌<◌, ◌≤◌, List, [], ◌∷◌, length, get_or, take, sym, refl, ap, subst, ⊎_elim, not-suc-le-zero, mul-le-mul_right, div-mul-le_self, arith}
use Rattle.std.proofs.lemmas.Nat.{div_below, le-div}
use Rattle.std.proofs.lemmas.Bool.{cases_lt}
use Rattle.line.specs.declared.format.Format.{Format}
use Rattle.line.specs.Frames.{first_stop}
use Rattle.ends.specs.Times.{sum, start_of}
use Rattle.ends.specs.Sender.{SenderState, SoundSender}
use Rattle.ends.specs.Receiver.{ReceiverState, first_sample, third_sample}
use Rattle.link.specs.Link.{LinkState}
use Rattle.link.specs.History.{History, history}
use Rattle.link.specs.Sampling.{Holds, Edge, SampledFrame}
use Rattle.link.specs.Delivery.{Sampled}
use Rattle.link.specs.Fit.{Early, Late, steady, Fits, Meets, Fitting, Steady, Like, SteadyDelivers}
use Rattle.link.proofs.Reach.{quiet_rests}
use Rattle.link.proofs.Run.{Promised, resting, rest_delivers}
use Rattle.ends.proofs.Held.{sum_mono}

module _ (a b p : ℕ) (some : 0 < b) where
  -- x send clocks come before receive clock r, or at most x
  at_least : (x r : ℕ) → x * b ≤ r * a + p → x ≤ steady a b p r
  at_least x r h = le-div x (r * a + p) b some h

  at_most : (x r : ℕ) → r * a + p < (x + 1) * b → steady a b p r ≤ x
  at_most x r h = let k : steady a b p r < x + 1 = div_below (r * a + p) b (x + 1) some h in omega arith

  from_least : (x r : ℕ) → x ≤ steady a b p r → x * b ≤ r * a + p
  from_least x r h = let k : x * b ≤ steady a b p r * b = mul-le-mul_right b h in omega (arith, k, div-mul-le_self (r * a + p) b)

  from_most : (x r : ℕ) → steady a b p r ≤ x → r * a + p < (x + 1) * b
  from_most x r h = ⊎_elim (λ (z : r * a + p < (x + 1) * b). z)
      (λ (z : (x + 1) * b ≤ r * a + p). absurd (let k : x + 1 ≤ steady a b p r = at_least (x + 1) r z in omega arith))
      (cases_lt (r * a + p) ((x + 1) * b))

  steady_mono : (r t : ℕ) → r ≤ t → steady a b p r ≤ steady a b p t
  steady_mono r t h =
      at_least (steady a b p r) t (let k : r * a ≤ t * a = mul-le-mul_right a h in omega (arith, k, div-mul-le_self (r * a + p) b))

  -- the first receive clock with more than q send clocks before it
  first_over : (q n : ℕ) → q < steady a b p n → (e : ℕ) × (e ≤ n) × (q < steady a b p e) × ((i : ℕ) → i < e → steady a b p i ≤ q)
  first_over q zero h = (0, omega arith, h, λ i z. absurd (not-suc-le-zero z))
  first_over q (suc n) h = ⊎_elim
      (λ (z : q < steady a b p n). let x = first_over q n z in (x.0, omega (arith, x.1), x.2, x.3))
      (λ (z : steady a b p n ≤ q). (suc n, omega arith, h, λ i y. omega (arith, z, steady_mono i n (omega arith))))
      (cases_lt q (steady a b p n))

module _ (s : SenderState) (r : ReceiverState) (a b : ℕ) (some : 0 < b) (fits : Fits s r a b) (p q receives : ℕ) (phase : p < a + b) where
  -- the receive clock before the edge, if there was one, came before the frame began
  edge_by : (e : ℕ) → ((i : ℕ) → e ≡ suc i → steady a b p i ≤ q) → e * a + p < (q + 1) * b + a
  edge_by zero h = omega arith
  edge_by (suc i) h = let k : i * a + p < (q + 1) * b = from_most a b p some q i (h i refl) in omega arith

  -- so a sample comes at most so late
  in_bit : (e k : ℕ) → k ≤ first_stop r.format → e * a + p < (q + 1) * b + a → steady a b p (e + third_sample r k) ≤ q + start_of s.lengths (k + 1)
  in_bit e k bit h =
      let A : ℕ = start_of s.lengths (k + 1) in
      let t : ℕ = third_sample r k in
      let late : (t + 1) * a ≤ A * b = ⊎_elim (λ (z : A * b < (t + 1) * a). absurd ((fits k bit).1 z)) (λ (z : (t + 1) * a ≤ A * b). z) (cases_lt (A * b) ((t + 1) * a)) in
      at_most a b p some (q + A) (e + t) (sum_late e t A late h)
    where
      sum_late : (e t A : ℕ) → (t + 1) * a ≤ A * b → e * a + p < (q + 1) * b + a → (e + t) * a + p < (q + A + 1) * b
      sum_late e t A x y = omega arith

  earlier : (i x : ℕ) → steady a b p i ≤ x → x < steady a b p receives → i < receives
  earlier i x h k = ⊎_elim (λ (z : i < receives). z) (λ (z : receives ≤ i). absurd (omega (arith, h, k, steady_mono a b p some receives i z))) (cases_lt i receives)

  meets_edge : q + start_of s.lengths 1 < steady a b p receives → (e : ℕ) × Edge s (steady a b p) receives q e
  meets_edge z =
      let x = first_over a b p some q receives (omega (arith, z)) in
      let late : steady a b p (x.0 + third_sample r 0) ≤ q + start_of s.lengths 1 =
      in_bit x.0 0 (omega arith) (edge_by x.0 (λ i is. x.3 i (omega (arith, is)))) in
      let here : steady a b p x.0 ≤ q + start_of s.lengths 1 = omega (arith, late, steady_mono a b p some x.0 (x.0 + third_sample r 0) (omega arith)) in (
        x.0,
        record {
          within = earlier x.0 (q + start_of s.lengths 1) here z;
          holds = record { entered = omega (arith, x.2); not_left = here };
          first = λ i k held. omega (arith, x.3 i k, held.entered);
        },
      )

  meets_early : (e k : ℕ) → Edge s (steady a b p) receives q e → k ≤ first_stop r.format → q + start_of s.lengths k < steady a b p (e + first_sample r k)
  meets_early e k x bit =
      let A : ℕ = start_of s.lengths k in
      let f : ℕ = first_sample r k in
      let soon : A * b ≤ f * a = ⊎_elim (λ (z : f * a < A * b). absurd ((fits k bit).0 z)) (λ (z : A * b ≤ f * a). z) (cases_lt (f * a) (A * b)) in
      let m : q + A + 1 ≤ steady a b p (e + f) = at_least a b p some (q + A + 1) (e + f)
      (sum_soon e f A soon (from_least a b p some (q + 1) e (omega (arith, x.holds.entered)))) in
      omega (arith, m)
    where
      sum_soon : (e f A : ℕ) → A * b ≤ f * a → (q + 1) * b ≤ e * a + p → (q + A + 1) * b ≤ (e + f) * a + p
      sum_soon e f A x y = omega arith

  meets_late : (e k : ℕ) → Edge s (steady a b p) receives q e → k ≤ first_stop r.format → q + start_of s.lengths (k + 1) < steady a b p receives
      → (e + third_sample r k < receives) × (steady a b p (e + third_sample r k) ≤ q + start_of s.lengths (k + 1))
  meets_late e k x bit z =
      let before : (i : ℕ) → e ≡ suc i → steady a b p i ≤ q = λ i is. ⊎_elim
      (λ (w : q < steady a b p i). absurd (x.first i (omega (arith, is)) (record {
        entered = omega (arith, w);
        not_left = omega (arith, x.holds.not_left, steady_mono a b p some i e (omega (arith, is)));
      })))
      (λ (w : steady a b p i ≤ q). w)
      (cases_lt q (steady a b p i)) in
      let late : steady a b p (e + third_sample r k) ≤ q + start_of s.lengths (k + 1) = in_bit e k bit (edge_by e before) in
      (earlier (e + third_sample r k) (q + start_of s.lengths (k + 1)) late z, late)

  meets : SampledFrame s r (steady a b p) (steady a b p receives) receives q
  meets = record { has_edge = meets_edge; not_early = λ e k x bit z. meets_early e k x bit; not_late = meets_late }

module _ (s : SenderState) (ok : SoundSender s) (r : ReceiverState) (a b : ℕ) (rate : 0 < a) (some : 0 < b) (meets_all : Meets s r a b) where
  long : 0 < start_of s.lengths 1
  long = go s.lengths ok.thirteen (ok.lasting 0 (omega arith))
    where
      go : (ns : List ℕ) → length ns ≡ 13 → 0 < get_or ns 0 0 → 0 < sum (take 1 ns)
      go [] e h = absurd (omega arith)
      go (n ∷ ns) e h = omega arith

  -- the edge at which the frame begins just before a receive clock
  not_early : (k : ℕ) → k ≤ first_stop r.format → Early s r a b k → ⊥
  not_early k bit early =
      let A : ℕ = start_of s.lengths k in
      let f : ℕ = first_sample r k in
      let q : ℕ = a - 1 in
      let q_is : q + 1 ≡ a = omega arith in
      let here : a ≤ steady a b 0 b = at_least a b 0 some a b (omega arith) in
      let here_most : steady a b 0 b ≤ a = at_most a b 0 some a b (omega arith) in
      let edge : Edge s (steady a b 0) (b + f + 1) q b = record {
        within = omega arith;
        holds = record { entered = omega arith; not_left = omega (arith, long) };
        first = λ i z held. omega (arith, held.entered, at_most a b 0 some q i (before i q q_is z));
      } in
      let x = (meets_all 0 q (b + f + 1) some).not_early b k edge bit (omega arith) in
      omega (arith, x, at_most a b 0 some (q + A) (b + f) (sum_early f A q q_is early))
    where
      before : (i q : ℕ) → q + 1 ≡ a → i < b → i * a + 0 < (q + 1) * b
      before i q e h = let k : (i + 1) * a ≤ b * a = mul-le-mul_right a (omega arith) in subst (λ (x : ℕ). i * a + 0 < x * b) (sym e) (omega arith)

      sum_early : (f A q : ℕ) → q + 1 ≡ a → f * a < A * b → (b + f) * a + 0 < (q + A + 1) * b
      sum_early f A q e h = let k : (q + 1) * b ≡ a * b = ap (λ (x : ℕ). x * b) e in omega arith

  not_late : (k : ℕ) → k ≤ first_stop r.format → Late s r a b k → ⊥
  not_late k bit late = ⊎_elim no_edge edge_then (cases_lt (start_of s.lengths 1 * b) a)
    where
      -- the frame begins just after receive clock 0
      p : ℕ
      p = b - 1

      zeroth : steady a b p 0 ≤ 0
      zeroth = at_most a b p some 0 0 (omega arith)

      next_least : (x : ℕ) → x * b < a → x + 1 ≤ steady a b p 1
      next_least x h = at_least a b p some (x + 1) 1 (omega arith)

      no_edge : start_of s.lengths 1 * b < a → ⊥
      no_edge h =
          let x = (meets_all p 0 1 (omega arith)).has_edge (omega (arith, next_least (start_of s.lengths 1) h)) in
          let e_is : x.0 ≡ 0 = omega (arith, x.1.within) in
          omega (arith, x.1.holds.entered, zeroth, ap (λ (i : ℕ). steady a b p i) e_is)

      edge_then : a ≤ start_of s.lengths 1 * b → ⊥
      edge_then h =
          let A : ℕ = start_of s.lengths (k + 1) in
          let t : ℕ = third_sample r k in
          let more : start_of s.lengths 1 * b ≤ A * b = mul-le-mul_right b (sum_mono 1 (k + 1) s.lengths (omega arith)) in
          let t_some : 0 < t = sample_some t A (omega (arith, more, h)) late in
          let edge : Edge s (steady a b p) (1 + t) 0 1 = record {
            within = omega arith;
            holds = record { entered = omega (arith, next_least 0 (omega arith)); not_left = omega (arith, at_most a b p some (start_of s.lengths 1) 1 (omega arith)) };
            first = λ i z held. omega (arith, held.entered, zeroth, ap (λ (j : ℕ). steady a b p j) (zero_is i z));
          } in
          let over : A + 1 ≤ steady a b p (1 + t) = at_least a b p some (A + 1) (1 + t) (sum_late t A late) in
          omega (arith, ((meets_all p 0 (1 + t) (omega arith)).not_late 1 k edge bit (omega (arith, over))).0)
        where
          zero_is : (i : ℕ) → i < 1 → i ≡ 0
          zero_is i z = omega arith

          sample_some : (t A : ℕ) → a ≤ A * b → A * b < (t + 1) * a → 0 < t
          sample_some zero A x y = absurd (omega arith)
          sample_some (suc t) A x y = omega arith

          sum_late : (t A : ℕ) → A * b < (t + 1) * a → (A + 1) * b ≤ (1 + t) * a + p
          sum_late t A x = omega arith

pub fitting : Fitting
fitting s r a b ok rate some = (λ fits p q receives phase. meets s r a b some fits p q receives (omega (arith, phase)), λ m k bit. (not_early s ok r a b rate some m k bit, not_late s ok r a b rate some m k bit))

-- only the clocks given so far count, and fewer send clocks ask for less
module _ (s : SenderState) (r : ReceiverState) (f g : ℕ → ℕ) (sends fewer receives q : ℕ) (same : (i : ℕ) → i < receives → f i ≡ g i) (less : fewer ≤ sends) where
  edge_same : (e : ℕ) → Edge s g receives q e → Edge s f receives q e
  edge_same e x = record {
    within = x.within;
    holds = subst (λ (n : ℕ). Holds s q 0 n) (sym (same e x.within)) x.holds;
    first = λ i z y. x.first i z (subst (λ (n : ℕ). Holds s q 0 n) (same i (omega (arith, z, x.within))) y);
  }

  edge_same_back : (e : ℕ) → Edge s f receives q e → Edge s g receives q e
  edge_same_back e x = record {
    within = x.within;
    holds = subst (λ (n : ℕ). Holds s q 0 n) (same e x.within) x.holds;
    first = λ i z y. x.first i z (subst (λ (n : ℕ). Holds s q 0 n) (sym (same i (omega (arith, z, x.within)))) y);
  }

  pub sampled_same : SampledFrame s r f sends receives q → SampledFrame s r g fewer receives q
  sampled_same ok = record {
    has_edge = λ z. let x = ok.has_edge (omega (arith, z, less)) in (x.0, edge_same_back x.0 x.1);
    not_early = λ e k x bit z. subst (λ (n : ℕ). q + start_of s.lengths k < n) (same (e + first_sample r k) z) (ok.not_early e k (edge_same e x) bit z);
    not_late = λ e k x bit z. let y = ok.not_late e k (edge_same e x) bit (omega (arith, z, less)) in
        (y.0, subst (λ (n : ℕ). n ≤ q + start_of s.lengths (k + 1)) (same (e + third_sample r k) y.0) y.1);
  }

-- a history of steady clocks at rates that fit meets the sampling condition
steady_sampled : (m : LinkState) (a b p : ℕ) (h : History) → 0 < b → p < a + b → Fits m.sender m.receiver a b → Steady a b p h → Sampled m h
steady_sampled m a b p h some phase fits st i k =
    sampled_same m.sender m.receiver (steady a b p) (λ j. get_or h.given j 0) (steady a b p (length h.given)) h.sends (length h.given) (get_or h.begun i 0)
    (λ j z. sym (st.clocks j z)) st.so_far
    (meets m.sender m.receiver a b some fits p (get_or h.begun i 0) (length h.given) phase)

-- what fits these ends fits ends that are like them
fits_like : (m : LinkState) (s : SenderState) (r : ReceiverState) (a b : ℕ) → Like m s r → Fits s r a b → Fits m.sender m.receiver a b
fits_like m s r a b like fits k h =
    let first : first_sample m.receiver k ≡ first_sample r k = ap (λ (l : List ℕ). get_or l (3 * k) 0) like.samples in
    let third : third_sample m.receiver k ≡ third_sample r k = ap (λ (l : List ℕ). get_or l (3 * k + 2) 0) like.samples in
    let begin : start_of m.sender.lengths k ≡ start_of s.lengths k = ap (λ (l : List ℕ). start_of l k) like.lengths in
    let end : start_of m.sender.lengths (k + 1) ≡ start_of s.lengths (k + 1) = ap (λ (l : List ℕ). start_of l (k + 1)) like.lengths in
    let good = fits k (subst (λ (f : Format). k ≤ first_stop f) like.format h) in (
      (λ early. good.0 (omega (arith, early, ap (λ (x : ℕ). x * a) first, ap (λ (x : ℕ). x * b) begin))),
      (λ late. good.1 (omega (arith, late, ap (λ (x : ℕ). (x + 1) * a) third, ap (λ (x : ℕ). x * b) end))),
    )

pub steady_delivers : (s : SenderState) (r : ReceiverState) (a b : ℕ) → 0 < b → Fits s r a b → SteadyDelivers s r a b
steady_delivers s r a b some fits₀ m like oks okr rest p phase before since quiet nl =
    let fits = fits_like m s r a b like fits₀ in
    let x : LinkState = resting m in
    subst (λ (y : LinkState). Steady a b p (history y since) → Promised since y) (sym (quiet_rests m oks okr rest before quiet))
    (λ st. rest_delivers m oks okr since nl (steady_sampled x a b p (history x since) some phase fits st))
