-- The lengths of bits, and where their samples lie.
use Rattle.std.proofs.Common.{◌≡◌, ℕ, zero, suc, ◌+◌, ◌-◌, ◌*◌, ◌/◌, ◌<◌, ◌≤◌, List, [], ◌∷◌, ◌++◌, length, get_or, set, take, sym, refl, ap, ◌∙◌, ap₂, add-zero, add_assoc, zero-add, arith}
use Rattle.std.specs.List.{AllByRecursion as All}
use Rattle.std.specs.List.{sum as total}
use Rattle.std.proofs.lemmas.List.Sums.{sum_by-cons}
use Rattle.std.proofs.lemmas.List.{length-set, append_assoc, take_all, take_more, get_or_append_left, get_or-append-add}
use Rattle.std.proofs.ByRecursion.{All-get_or}
use Rattle.std.proofs.lemmas.List.FromFn.{get_or-map-range_with_len}
use Rattle.std.proofs.lemmas.Grind.{take-set_at}
use Rattle.ends.specs.Times.{sum, start_of}
use Rattle.ends.proofs.Held.{start_more}
use Rattle.usart.specs.Usart.{bit_length, lengths, distance, bit_samples, samples, Lasting, Even}
use Rattle.usart.proofs.Distance.{close, spaced}

-- a bit is as long as the divider, or one clock longer
pub bit_lasting : (u m n : ℕ) (ns : List ℕ) → ns ≡ lengths u m n → 3 ≤ u → u < 65536 → (k : ℕ) → k < n → Lasting (get_or ns k 0)
unfolding lengths
bit_lasting u m n ns e low high k h = rw (e, get_or-map-range_with_len (bit_length u m) 0 n k k 0 h (zero-add k)) (omega arith, omega arith)

-- the library adds from the front on
pub total_is : (ns : List ℕ) → total ns ≡ sum ns
total_is [] = refl
total_is (n ∷ ns) = omega (arith, sum_by-cons (λ x. x) n ns, total_is ns)

samples_push : (s : ℕ) (ns : List ℕ) (n : ℕ) → samples s (ns ++ n ∷ []) ≡ samples s ns ++ bit_samples (s + sum ns) n
samples_push s [] n = ap (λ t. bit_samples t n) (sym (add-zero s))
samples_push s (x ∷ ns) n =
    ap (λ l. bit_samples s x ++ l)
    (samples_push (s + x) ns n ∙ ap (λ t. samples (s + x) ns ++ bit_samples t n) (add_assoc s x (sum ns)))

pub length_samples : (s : ℕ) (ns : List ℕ) → length (samples s ns) ≡ 3 * length ns
length_samples s [] = refl
length_samples s (n ∷ ns) = omega (arith, length_samples (s + n) ns)

pub take_samples : (s : ℕ) (ns : List ℕ) (m : ℕ) → take (3 * m) (samples s ns) ≡ samples s (take m ns)
take_samples s ns zero = refl
take_samples s [] (suc m) = take_all (3 * suc m) [] (omega arith)
take_samples s (n ∷ ns) (suc m) =
    let e : 3 * suc m ≡ suc (suc (suc (3 * m))) = omega arith in
    ap (λ p. take p (samples s (n ∷ ns))) e ∙ ap (λ l. bit_samples s n ++ l) (take_samples (s + n) ns m)

-- the samples of one more bit, written after those of k bits
pub samples_more : (ns clocks three : List ℕ) (k : ℕ) → k < length ns → 3 * k + 2 < length clocks
    → take (3 * k) clocks ≡ samples 0 (take k ns) → three ≡ bit_samples (start_of ns k) (get_or ns k 0)
    → take (3 * (k + 1)) (set (set (set clocks (3 * k) (get_or three 0 0)) (3 * k + 1) (get_or three 1 0)) (3 * k + 2) (get_or three 2 0)) ≡ samples 0 (take (k + 1) ns)
samples_more ns clocks three k h room before e =
    let a = get_or three 0 0 in
    let b = get_or three 1 0 in
    let c = get_or three 2 0 in
    let one = set clocks (3 * k) a in
    let two = set one (3 * k + 1) b in
    let n = length-set clocks (3 * k) a in
    take-set_at two (3 * k + 2) (3 * (k + 1)) c (omega arith) (omega (arith, length-set one (3 * k + 1) b, n))
    ∙ ap (λ l. l ++ c ∷ []) (take-set_at one (3 * k + 1) (3 * k + 2) b (omega arith) (omega (arith, n)))
    ∙ ap (λ l. (l ++ b ∷ []) ++ c ∷ []) (take-set_at clocks (3 * k) (3 * k + 1) a (omega arith) (omega arith))
    ∙ append_assoc (take (3 * k) clocks ++ a ∷ []) (b ∷ []) (c ∷ []) ∙ append_assoc (take (3 * k) clocks) (a ∷ []) (b ∷ c ∷ [])
    ∙ ap₂ (λ l w. l ++ w) before (ap (λ l. get_or l 0 0 ∷ get_or l 1 0 ∷ get_or l 2 0 ∷ []) e ∙ ap (λ t. bit_samples t (get_or ns k 0)) (sym (zero-add (start_of ns k))))
    ∙ sym (ap (λ l. samples 0 l) (take_more ns k 0 h) ∙ samples_push 0 (take k ns) (get_or ns k 0))

-- sample j of bit k
sample_at : (s : ℕ) (ns : List ℕ) (k j : ℕ) → k < length ns → j < 3
    → get_or (samples s ns) (3 * k + j) 0 ≡ get_or (bit_samples (s + start_of ns k) (get_or ns k 0)) j 0
sample_at s [] k j h i = absurd (omega arith)
sample_at s (n ∷ ns) zero j h i =
    ap (λ p. get_or (samples s (n ∷ ns)) p 0) (zero-add j)
    ∙ get_or_append_left (bit_samples s n) (samples (s + n) ns) 0 j i
    ∙ ap (λ t. get_or (bit_samples t n) j 0) (sym (add-zero s))
sample_at s (n ∷ ns) (suc k) j h i =
    let e : 3 * suc k + j ≡ 3 + (3 * k + j) = omega arith in
    ap (λ p. get_or (samples s (n ∷ ns)) p 0) e
    ∙ get_or-append-add (bit_samples s n) (samples (s + n) ns) (3 * k + j) 0
    ∙ sample_at (s + n) ns k j (omega arith) i
    ∙ ap (λ t. get_or (bit_samples t (get_or ns k 0)) j 0) (add_assoc s n (start_of ns k))

pub rising : (s : ℕ) (ns : List ℕ) → All Lasting ns → (i : ℕ) → suc i < 3 * length ns
    → get_or (samples s ns) i 0 ≤ get_or (samples s ns) (suc i) 0
rising s [] a i h = absurd (omega arith)
rising s (n ∷ ns) a zero h = omega arith
rising s (n ∷ ns) a (suc zero) h = omega arith
rising s (n ∷ []) a (suc (suc zero)) h = absurd (omega arith)
rising s (n ∷ m ∷ ns) a (suc (suc zero)) h = omega (arith, close n a.0, close m a.1.0)
rising s (n ∷ ns) a (suc (suc (suc i))) h = rising (s + n) ns a.1 i (omega arith)

pub within : (s : ℕ) (ns : List ℕ) → All Lasting ns → (i : ℕ) → get_or (samples s ns) i 0 ≤ s + sum ns
within s [] a i = omega arith
within s (n ∷ ns) a zero = omega (arith, close n a.0)
within s (n ∷ ns) a (suc zero) = omega (arith, close n a.0)
within s (n ∷ ns) a (suc (suc zero)) = omega (arith, close n a.0)
within s (n ∷ ns) a (suc (suc (suc i))) = omega (arith, within (s + n) ns a.1 i)

pub sum_most : (ns : List ℕ) → All Lasting ns → sum ns ≤ 65536 * length ns
sum_most [] a = omega arith
sum_most (n ∷ ns) a = omega (arith, sum_most ns a.1)

module _ (ns : List ℕ) (a : All Lasting ns) (k : ℕ) (h : k < length ns) where
  lasting : Lasting (get_or ns k 0)
  lasting = All-get_or Lasting ns k 0 h a

  first : get_or (samples 0 ns) (3 * k) 0 ≡ 0 + start_of ns k + get_or ns k 0 / 2 - distance (get_or ns k 0)
  first = rw add-zero at (sample_at 0 ns k 0 h (omega arith))

  pub centred : Even (start_of ns k) (get_or ns k 0) (get_or (samples 0 ns) (3 * k) 0) (get_or (samples 0 ns) (3 * k + 1) 0) (get_or (samples 0 ns) (3 * k + 2) 0)
  centred =
      let l = lasting in
      let c = close (get_or ns k 0) l in
      let middle = sample_at 0 ns k 1 h (omega arith) in
      let last = sample_at 0 ns k 2 h (omega arith) in
      (distance (get_or ns k 0), spaced (get_or ns k 0) (omega arith) l.1, omega (arith, first), omega arith, omega arith)

  -- the bit is sampled while it lasts
  pub inside : (start_of ns k ≤ get_or (samples 0 ns) (3 * k) 0) × (get_or (samples 0 ns) (3 * k + 2) 0 < start_of ns (k + 1))
  inside =
      let c = close (get_or ns k 0) lasting in
      (omega (arith, first), omega (arith, sample_at 0 ns k 2 h (omega arith), start_more ns k))

-- the last sample of a bit comes before the first of the next
pub apart : (ns : List ℕ) → All Lasting ns → (k : ℕ) → k + 1 < length ns
    → get_or (samples 0 ns) (3 * k + 2) 0 < get_or (samples 0 ns) (3 * k + 3) 0
apart ns a k h =
    let e : 3 * (k + 1) ≡ 3 * k + 3 = omega arith in
    omega (arith, inside ns a k (omega arith), inside ns a (k + 1) h, ap (λ i. get_or (samples 0 ns) i 0) e)
