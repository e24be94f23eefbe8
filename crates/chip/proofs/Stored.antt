-- A byte that is stored is read back.
use Rattle.std.proofs.Common.{◌≡◌, ℕ, ◌<◌, ◌≤◌, Bool, true, false, if◌then◌else◌, not, ◌&&◌, ◌==◌, ◌⊎◌, is_some, List, [], ◌∷◌, MatchResult, sym, Some, None, Ok, Result, refl, ap, ◌∙◌, subst, inl, inr, arith}
use Rattle.std.proofs.Math.Bool.{and-false}
use lib.Bits.{bit_and, bit_or}
use Rattle.std.proofs.lemmas.Bool.{eqb-true, cases_lt, agree_below, agree_below_at}
use Rattle.line.specs.declared.refusal.Refusal.{Refusal}
use Rattle.ends.specs.Sender.{accepted}
use Rattle.chip.specs.declared.transmit.Transmit.{Transmit}
use Rattle.chip.specs.Bytes.{has, bit}
use Rattle.chip.specs.Modes.{mode_of, mode_byte}
use Rattle.chip.specs.Transmitting.{transmit_byte, utctl_written}
use Rattle.chip.specs.declared.receive.Receive.{Receive}
use Rattle.chip.specs.Receiving.{any_error, receive_byte, urctl_written}
use Rattle.chip.specs.Chips.{ChipState, begun, released, write_answer, written, after_write, read_answer}
use Rattle.chip.specs.Laws.{FlagsWritten, ReadBack}
use Rattle.chip.proofs.EachBit.{has_bit}

-- two numbers that go with each byte are the same, computed over all bytes
of_all : (f g : ℕ → ℕ) → agree_below (λ k. f k == g k) (λ k. true) 256 ≡ true → (v : ℕ) → v < 256 → f v ≡ g v
of_all f g all v small = eqb-true _ _ (agree_below_at (λ k. f k == g k) (λ k. true) 256 v all small)

mode_back : (v : ℕ) → v < 256 → mode_byte (mode_of v) (has v 0x01) ≡ v
mode_back v small = of_all (λ k. mode_byte (mode_of k) (has k 0x01)) (λ k. k) refl v small

transmit_back : (t : Transmit) (running txept : Bool) (v : ℕ) → v < 256
    → transmit_byte (utctl_written t (not running) v) (txept && true) ≡ bit_or (bit_and v (if running then 0xfe else 0xfa)) (bit txept 0x01)
transmit_back t true true v small = of_all (λ k. transmit_byte (utctl_written t false k) true) (λ k. bit_or (bit_and k 0xfe) 0x01) refl v small
transmit_back t true false v small = of_all (λ k. transmit_byte (utctl_written t false k) false) (λ k. bit_or (bit_and k 0xfe) 0) refl v small
transmit_back t false true v small = of_all (λ k. transmit_byte (utctl_written t true k) true) (λ k. bit_or (bit_and k 0xfa) 0x01) refl v small
transmit_back t false false v small = of_all (λ k. transmit_byte (utctl_written t true k) false) (λ k. bit_or (bit_and k 0xfa) 0) refl v small

module _ (c : ChipState) (v : ℕ) (small : v < 256) where
  -- what a register answers after a write that is not refused
  after : (a : ℕ) → write_answer c a v ≡ Ok tt → read_answer (after_write c a v) a ≡ read_answer (written c a v) a
  after a answer = ap (λ (x : Result Unit Refusal). read_answer (if accepted x then written c a v else c) a) answer

  uctl_back : write_answer c 0x70 v ≡ Ok tt → read_answer (after_write c 0x70 v) 0x70 ≡ Ok v
  uctl_back answer = after 0x70 answer ∙ ap {B = Result ℕ Refusal} (λ s. Ok (mode_byte (mode_of v) s)) (reset (has v 0x01)) ∙ ap {B = Result ℕ Refusal} (λ n. Ok n) (mode_back v small)
    where
      reset : (b : Bool) → not (is_some (if b then None else Some (begun (mode_of v) c.rate))) ≡ b
      reset true = refl
      reset false = refl

  utctl_open : write_answer c 0x71 v ≡ Ok tt
  utctl_open = simp (and-false (released c))

  utctl_back : read_answer (after_write c 0x71 v) 0x71 ≡ Ok (bit_or (bit_and v (if released c then 0xfe else 0xfa)) (bit c.txept 0x01))
  utctl_back = after 0x71 utctl_open ∙ ap {B = Result ℕ Refusal} (λ n. Ok n) (transmit_back c.transmit (released c) c.txept v small)

  rate_back : (a : ℕ) → 0x73 ≤ a → a ≤ 0x75 → write_answer c a v ≡ Ok tt → read_answer (after_write c a v) a ≡ Ok v
  rate_back a low high answer = after a answer ∙ go (cases_lt a 0x74) (cases_lt a 0x75)
    where
      go : (a < 0x74) ⊎ (0x74 ≤ a) → (a < 0x75) ⊎ (0x75 ≤ a) → read_answer (written c a v) a ≡ Ok v
      go (inl x) y = subst (λ (n : ℕ). read_answer (written c n v) n ≡ Ok v) (let is : 0x73 ≡ a = omega arith in is) refl
      go (inr x) (inl y) = subst (λ (n : ℕ). read_answer (written c n v) n ≡ Ok v) (let is : 0x74 ≡ a = omega arith in is) refl
      go (inr x) (inr y) = subst (λ (n : ℕ). read_answer (written c n v) n ≡ Ok v) (let is : 0x75 ≡ a = omega arith in is) refl

  urctl_open : write_answer c 0x72 v ≡ Ok tt
  urctl_open = simp (and-false (released c))

  urctl_back : MatchResult (read_answer (after_write c 0x72 v) 0x72) (λ after. FlagsWritten (receive_byte c.receive) v after) (λ e. ⊥)
  urctl_back =
      let r : Receive = c.receive in
      let w : Receive = urctl_written r v in
      let old : List Bool = r.fe ∷ r.pe ∷ r.oe ∷ r.brk ∷ r.urxeie ∷ r.urxwie ∷ r.rxwake ∷ any_error r ∷ [] in
      let new : List Bool = w.fe ∷ w.pe ∷ w.oe ∷ w.brk ∷ w.urxeie ∷ w.urxwie ∷ w.rxwake ∷ any_error w ∷ [] in
      subst (λ (x : Result ℕ Refusal). MatchResult x (λ b. FlagsWritten (receive_byte r) v b) (λ e. ⊥)) (sym (after 0x72 urctl_open)) (record {
        fe = has_bit 0 0x80 new refl ∙ ap (λ (b : Bool). b && has v 0x80) (sym (has_bit 0 0x80 old refl));
        pe = has_bit 1 0x40 new refl ∙ ap (λ (b : Bool). b && has v 0x40) (sym (has_bit 1 0x40 old refl));
        oe = has_bit 2 0x20 new refl ∙ ap (λ (b : Bool). b && has v 0x20) (sym (has_bit 2 0x20 old refl));
        brk = has_bit 3 0x10 new refl ∙ ap (λ (b : Bool). b && has v 0x10) (sym (has_bit 3 0x10 old refl));
        urxeie = has_bit 4 0x08 new refl;
        urxwie = has_bit 5 0x04 new refl;
        rxwake = has_bit 6 0x02 new refl ∙ ap (λ (b : Bool). b && has v 0x02) (sym (has_bit 6 0x02 old refl));
      })

  pub read_back : ReadBack c v
  read_back = record { uctl = uctl_back; utctl = utctl_back; rate = rate_back; urctl = urctl_back; utxbuf = after 0x77 }
